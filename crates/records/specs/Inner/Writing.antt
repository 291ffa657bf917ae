-- What the inner parts of the writer leave, token by token. No public contract cites this file: what records mean is said by the
-- layout, and that these answers agree with it is proved.
use Rattle.std.specs.Prelude.{◌≡◌, ℕ, ◌-◌, min, cond, List, [], ◌∷◌, ◌++◌, length, take, replicate, Some, None, Option, unwrap_or, nat_lt, slice_get, slice_index, slice_index_or, slice_set}
use Rattle.tokens.specs.declared.token.Group.{Group}
use Rattle.tokens.specs.declared.token.Group.TheVariants.{Round, Square}
use Rattle.tokens.specs.Kinds.{Kind, number, capital, small, equals, semicolon, plus, minus, star, opens, closes, stray}
use Rattle.systems.specs.Trees.{System}
use Rattle.reader.specs.Grammar.{decimal}
use Rattle.records.specs.declared.record.Node.{Node}
use Rattle.records.specs.declared.record.Node.TheVariants.{Number, Name, Unknown, Input, Sum, Difference, Product, Bracket}
use Rattle.records.specs.declared.record.Record.{Record}
use Rattle.records.specs.declared.writer.Frame.{Frame}
use Rattle.records.specs.declared.writer.Sheet.{Sheet}
use Rattle.records.specs.declared.writer.Sign.{Sign}
use Rattle.records.specs.declared.writer.Sign.TheVariants.{Plus, Minus}
use Rattle.records.specs.declared.writer.Writer.{Writer}
use Rattle.records.specs.Layout.{entry, laid_all, root}

-- the number that digits write, or the largest of 32 bits
abbrev pub worth : List ℕ → ℕ
worth ds = min (decimal ds) 4294967295

-- ---- the sheet

-- a sheet with these records
abbrev pub sheet_of : List Record → Sheet
sheet_of rs = record { records = record { items = rs } }

abbrev pub last_of : Sheet → ℕ
last_of s = length s.records.items - 1

abbrev pub pushed : Sheet → Node → Sheet
pushed s node = cond (nat_lt (length s.records.items) 64) (sheet_of (s.records.items ++ (entry node None ∷ []))) s

abbrev pub multiplied : Sheet → Option ℕ → Sheet
multiplied s None = s
multiplied s (Some left) = pushed s (Product left (last_of s))

-- the operator of a sign
abbrev pub operator : Sign → ℕ → ℕ → Node
operator Plus j k = Sum j k
operator Minus j k = Difference j k

abbrev pub added : Sheet → Option (Sign × ℕ) → Sheet
added s None = s
added s (Some sum) = pushed s (operator sum.0 sum.1 (last_of s))

abbrev pub bracketed : Sheet → Group → Sheet
bracketed s Round = s
bracketed s Square = pushed s (Bracket (last_of s))

-- a record as the right side of an unknown
abbrev pub owned : Record → ℕ → Record
owned r a = entry r.node (Some a)

abbrev pub blank : Record
blank = entry (Number 0) None

abbrev pub finished : Sheet → ℕ → Sheet
finished s a = sheet_of (slice_set s.records.items (last_of s) (owned (slice_index_or s.records.items (last_of s) blank) a))

-- ---- the writer

abbrev pub empty_frame : Frame
empty_frame = record { sum = None; product = None }

abbrev pub nothing_written : Writer
nothing_written = record {
  sheet = sheet_of [];
  left = None;
  frame = empty_frame;
  outer = record { items = [] };
  roots = replicate 256 0;
}

abbrev pub with_leaf : Writer → Node → Writer
with_leaf w node = record w {
  sheet = multiplied (pushed w.sheet node) w.frame.product;
  frame = record { sum = w.frame.sum; product = None };
}

abbrev pub begun : Writer → ℕ → Writer
begun w a = record w { left = Some a }

abbrev pub with_name : Writer → ℕ → Writer
with_name w a = elim w.left [ None ↦ begun w a | Some l ↦ with_leaf w (Name a) ]

abbrev pub starred : Writer → Writer
starred w = record w { frame = record { sum = w.frame.sum; product = Some (last_of w.sheet) } }

abbrev pub signed : Writer → Sign → Writer
signed w sign = record w {
  sheet = added w.sheet w.frame.sum;
  frame = record { sum = Some (sign, last_of (added w.sheet w.frame.sum)); product = w.frame.product };
}

abbrev pub opened : Writer → Writer
opened w = cond (nat_lt (length w.outer.items) 16) (record w { frame = empty_frame; outer = record { items = w.outer.items ++ (w.frame ∷ []) } }) w

-- the frame around the innermost group, if any
abbrev pub around : Writer → Option Frame
around w = slice_get w.outer.items (length w.outer.items - 1)

-- the frame behind the closing sign of the innermost group
abbrev pub outside : Writer → Frame
outside w = unwrap_or (around w) w.frame

abbrev pub closed : Writer → Group → Writer
closed w g = record w {
  sheet = multiplied (bracketed (added w.sheet w.frame.sum) g) (outside w).product;
  frame = record { sum = (outside w).sum; product = None };
  outer = record { items = take (length w.outer.items - 1) w.outer.items };
}

abbrev pub with_root : Sheet → Option ℕ → Sheet
with_root s None = s
with_root s (Some a) = finished s a

abbrev pub roots_with : Sheet → List ℕ → Option ℕ → List ℕ
roots_with s roots None = roots
roots_with s roots (Some a) = slice_set roots a (last_of s)

abbrev pub ended : Writer → Writer
ended w = record w {
  sheet = with_root (added w.sheet w.frame.sum) w.left;
  left = None;
  frame = record { sum = None; product = w.frame.product };
  roots = roots_with (with_root (added w.sheet w.frame.sum) w.left) w.roots w.left;
}

-- what is written with one token more
abbrev pub after : Writer → Kind → Writer
after w = elim [ number ds ↦ with_leaf w (Number (worth ds)) | capital a ↦ with_name w a | small x ↦ with_leaf w (Input x) | equals ↦ w | semicolon ↦ ended w | plus ↦ signed w Plus | minus ↦ signed w Minus | star ↦ starred w | opens g ↦ opened w | closes g ↦ closed w g | stray b ↦ w ]

-- a record whose name is completed
abbrev pub completed : List ℕ → Record → Record
completed roots r = entry (elim r.node [ Name a ↦ Unknown (slice_index roots a) | _ ↦ r.node ]) r.unknown

-- the records of a system with names that are not completed, and where its right sides stand
pub record Written (S : System) (w : Writer) : Type 0 where
  pub records : w.sheet.records.items ≡ laid_all Name 0 S
  pub roots : (a : ℕ) → slice_index w.roots a ≡ root 0 S a

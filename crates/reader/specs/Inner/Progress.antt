-- What the inner parts of the reader answer, token by token. No public contract cites this file: what a text means is said by the
-- grammar and the rules, and that these answers agree with them is proved.
use Rattle.std.specs.Prelude.{ℕ, ◌+◌, ◌-◌, Bool, true, false, cond, not, ◌&&◌, List, [], ◌∷◌, ◌++◌, length, take, replicate, Some, None, Option, ◌==◌, nat_le, nat_lt, slice_get, slice_index_or, slice_set}
use Rattle.std.specs.List.{find, list_any}
use Rattle.std.specs.Option.{option_map}
use Rattle.tokens.specs.declared.token.Group.{Group}
use Rattle.tokens.specs.declared.token.Group.TheVariants.{Round, Square}
use Rattle.reader.specs.declared.fault.Rule.{Rule}
use Rattle.reader.specs.declared.fault.Rule.TheVariants.{NoToken, LongNumber, NotAllowed, TooDeep, Repeated, TooEarly, TooManyNodes}
use Rattle.reader.specs.declared.progress.Phase.{Phase}
use Rattle.reader.specs.declared.progress.Phase.TheVariants.{Start, Between, Left, Operand, Operator}
use Rattle.reader.specs.declared.progress.Progress.{Progress}
use Rattle.reader.specs.Sorts.{is_node, is_square, is_stray, is_opening, digits_of}
use Rattle.tokens.specs.Tokens.{Token}
use Rattle.tokens.specs.Kinds.{Kind, number, capital, small, equals, semicolon, plus, minus, star, opens, closes, stray}

-- ---- what the grammar allows

abbrev pub is_capital : Kind → Bool
is_capital = elim [ capital c ↦ true | _ ↦ false ]

abbrev pub is_equals : Kind → Bool
is_equals = elim [ equals ↦ true | _ ↦ false ]

abbrev pub begins_factor : Kind → Bool
begins_factor = elim [ number ds ↦ true | capital c ↦ true | small c ↦ true | opens g ↦ true | _ ↦ false ]

abbrev pub nothing_open : Option Group → Bool
nothing_open None = true
nothing_open (Some g) = false

abbrev pub same_group : Group → Group → Bool
same_group Round Round = true
same_group Square Square = true
same_group _ _ = false

-- the group g closes what is open
abbrev pub shuts : Option Group → Group → Bool
shuts None g = false
shuts (Some h) g = same_group h g

-- what may stand behind a factor, where `top` is the innermost open group
abbrev pub follows_factor : Option Group → Kind → Bool
follows_factor top = elim [ semicolon ↦ nothing_open top | plus ↦ true | minus ↦ true | star ↦ true | closes g ↦ shuts top g | _ ↦ false ]

-- the token is allowed in this phase
abbrev pub allowed : Phase → Option Group → Kind → Bool
allowed Start top t = is_capital t
allowed Between top t = is_capital t
allowed Left top t = is_equals t
allowed Operand top t = begins_factor t
allowed Operator top t = follows_factor top t

abbrev pub behind_capital : Phase → Phase
behind_capital Start = Left
behind_capital Between = Left
behind_capital _ = Operator

-- the phase behind a token
abbrev pub next_phase : Phase → Kind → Phase
next_phase p = elim [ number ds ↦ Operator | capital c ↦ behind_capital p | small c ↦ Operator | semicolon ↦ Between | closes g ↦ Operator | stray b ↦ p | _ ↦ Operand ]

-- between equations
abbrev pub between : Phase → Bool
between Start = true
between Between = true
between _ = false

-- in a right side
abbrev pub in_right : Phase → Bool
in_right Operand = true
in_right Operator = true
in_right _ = false

-- ---- the parts of what is read, with one token more

-- the left capital of the equation
abbrev pub next_left : Phase → Option ℕ → Kind → Option ℕ
next_left p left = elim [ capital c ↦ cond (between p) (Some c) left | semicolon ↦ None | _ ↦ left ]

-- the open groups, the innermost last
abbrev pub next_open : List Group → Kind → List Group
next_open gs = elim [ opens g ↦ gs ++ (g ∷ []) | closes g ↦ take (length gs - 1) gs | _ ↦ gs ]

-- the letters with an equation, with one more if there is one
abbrev pub with_letter : List Bool → Option ℕ → List Bool
with_letter defined None = defined
with_letter defined (Some c) = slice_set defined c true

abbrev pub next_defined : Option ℕ → List Bool → Kind → List Bool
next_defined left defined = elim [ semicolon ↦ with_letter defined left | _ ↦ defined ]

-- the innermost open group
abbrev pub innermost : Progress → Option Group
innermost s = slice_get s.enclosing.items (length s.enclosing.items - 1)

-- all of it
abbrev pub after : Progress → Kind → Progress
after s t = record {
  phase = next_phase s.phase t;
  left = next_left s.phase s.left t;
  enclosing = record { items = next_open s.enclosing.items t };
  nodes = s.nodes + cond (is_node t && in_right s.phase) 1 0;
  defined = next_defined s.left s.defined t;
}

-- before the first token
abbrev pub nothing_read : Progress
nothing_read = record { phase = Start; left = None; enclosing = record { items = [] }; nodes = 0; defined = replicate 256 false }

-- ---- the rules

-- a capital whose letter passes the test
abbrev pub if_capital : (ℕ → Bool) → Kind → Bool
if_capital f = elim [ capital c ↦ f c | _ ↦ false ]

abbrev pub defined_again : Progress → Kind → Bool
defined_again s t = if_capital (λ c. between s.phase && slice_index_or s.defined c false) t

abbrev pub named_early : Progress → Kind → Bool
named_early s t = if_capital (λ c. in_right s.phase && (not (list_any is_square s.enclosing.items) && not (slice_index_or s.defined c false))) t

-- the rule of lowest number that the token breaks here
abbrev pub breaks : Progress → Kind → Option Rule
breaks s t =
    cond (is_stray t) (Some NoToken)
    (cond (nat_lt 9 (length (digits_of t))) (Some LongNumber)
    (cond (not (allowed s.phase (innermost s) t)) (Some NotAllowed)
    (cond (is_opening t && nat_le 16 (length s.enclosing.items)) (Some TooDeep)
    (cond (defined_again s t) (Some Repeated)
    (cond (named_early s t) (Some TooEarly)
    (cond (is_node t && (in_right s.phase && s.nodes == 64)) (Some TooManyNodes) None))))))

-- a capital that is not defined
abbrev pub lacks : List Bool → Kind → Bool
lacks defined t = if_capital (λ c. not (slice_index_or defined c false)) t

-- the place of the first of them
abbrev pub missing : List Bool → List Token → Option ℕ
missing defined ts = option_map (λ (t : Token). t.place) (find (λ (t : Token). lacks defined t.kind) ts)

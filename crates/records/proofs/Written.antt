-- What the writer has written follows the machine.
use Rattle.std.proofs.Common.{◌≡◌, ℕ, zero, suc, ◌+◌, ◌-◌, ◌<◌, ◌≤◌, false, cond, ◌&&◌, eqb, List, [], ◌∷◌, ◌++◌, length, get_or, set, take, replicate, sym, refl, ap, ◌∙◌, subst, arith, length-append, length-set, get_or-set_other, get_or-set_same, ltb-false, lt-ltb, eq-eqb, ne_eqb, Some, None, Option}
use Rattle.std.specs.Prelude.{slice_get, unwrap_or}
use Rattle.std.proofs.Math.Seq.{take-append_seam}
use Rattle.std.proofs.Math.Decide.{ℕ_discrete}
use Rattle.std.proofs.lemmas.Bool.{or_parts}
use Rattle.systems.specs.Trees as Trees
use Rattle.systems.specs.Trees.{Tree, Equation, System}
use Rattle.tokens.specs.declared.token.Group.{Group}
use Rattle.tokens.specs.declared.token.Group.TheVariants.{Round, Square}
use Rattle.tokens.specs.Kinds.{Kind, number, capital, small, equals, semicolon, plus, minus, star, opens, closes, digit}
use Rattle.tokens.specs.Tokens.{Every}
use Rattle.reader.specs.declared.progress.Progress.{Progress}
use Rattle.reader.specs.Nodes.{nodes_in, nodes}
use Rattle.reader.specs.Inner.Progress.{between}
use Rattle.reader.specs.Sorts.{count, is_node, digits_of}
use Rattle.reader.proofs.Derivations.{Factor, f_number, f_capital, f_small, f_group, Term, Sum, Line, term_tokens, sum_tokens, factor_tree, term_tree, sum_tree, line_equation, system_of, has, nodes_of}
use Rattle.reader.proofs.Machine.{Pre, p_none, p_plus, p_minus, Mul, m_none, m_star, with_factor, with_term, Place, side, within, State, at, after_left, need, have, step}
use Rattle.reader.proofs.Sound.{pre_tokens, mul_tokens}
use Rattle.reader.proofs.Sides.{home, left_of, place_right, count-++}
use Rattle.reader.proofs.Sizes.{term_size, sum_size, same_nodes}
use Rattle.reader.proofs.Follow.{Code, Whole, whole_of, right_of, stack_of, room_to_open}
use Rattle.records.specs.declared.record.Node.{Node}
use Rattle.records.specs.declared.record.Node.TheVariants as node
use Rattle.records.specs.declared.record.Record.{Record}
use Rattle.records.specs.declared.writer.Frame.{Frame}
use Rattle.records.specs.declared.writer.Sign.TheVariants.{Plus, Minus}
use Rattle.records.specs.declared.writer.Writer.{Writer}
use Rattle.records.specs.Layout.{entry, root_at, laid, laid_all, root}
use Rattle.records.specs.Inner.Writing.{worth, last_of, pushed, added, finished, empty_frame, nothing_written, with_leaf, begun, with_name, starred, signed, opened, around, outside, closed, with_root, roots_with, ended, after, Written}
use Rattle.records.proofs.Decimals.{nine_digits}
use Rattle.records.proofs.Lookups.{behind}
use Rattle.records.proofs.Laying.{laid_length, laid_all_length, laid_more, with_tree, with_length, root_other}
use Rattle.records.proofs.Sheets.{MulIs, mul_out, PreIs, pre_out, SheetIs, pushed_is, last_is, multiplied_is, added_is, bracketed_is, finished_is}

-- ---- the records of what the machine has read

abbrev lines_out : List Line → List Record
lines_out es = laid_all node.Name 0 (system_of es)

abbrev place_out : Place → List Record
place_out (side es c) = lines_out es
place_out (within g b p m) = mul_out (pre_out (place_out b) p) m

abbrev pub out : State → List Record
out (at es) = lines_out es
out (after_left es c) = lines_out es
out (need b p m) = mul_out (pre_out (place_out b) p) m
out (have b p t) = with_tree (pre_out (place_out b) p) (term_tree t)

-- there are no more of them than tokens that are nodes

pre_fits : (a : List Record) (p : Pre) → length (pre_out a p) ≤ length a + count is_node (pre_tokens p)
pre_fits a p_none = omega arith
pre_fits a (p_plus s) = omega (arith, with_length a (sum_tree s), sum_size s, count-++ is_node (sum_tokens s) (plus ∷ []))
pre_fits a (p_minus s) = omega (arith, with_length a (sum_tree s), sum_size s, count-++ is_node (sum_tokens s) (minus ∷ []))

mul_fits : (a : List Record) (m : Mul) → length (mul_out a m) ≤ length a + count is_node (mul_tokens m)
mul_fits a m_none = omega arith
mul_fits a (m_star t) = omega (arith, with_length a (term_tree t), term_size t, count-++ is_node (term_tokens t) (star ∷ []))

lines_length : (es : List Line) → length (lines_out es) ≡ nodes_of es
lines_length es = laid_all_length node.Name 0 (system_of es) ∙ sym (same_nodes es)

place_fits : (b : Place) → length (place_out b) ≤ nodes_of (home b) + count is_node (place_right b)
place_fits (side es c) = omega (arith, lines_length es)
place_fits (within g b p m) =
    omega (
      arith,
      place_fits b,
      pre_fits (place_out b) p,
      mul_fits (pre_out (place_out b) p) m,
      count-++ is_node (place_right b) (pre_tokens p ++ (mul_tokens m ++ (opens g ∷ []))),
      count-++ is_node (pre_tokens p) (mul_tokens m ++ (opens g ∷ [])),
      count-++ is_node (mul_tokens m) (opens g ∷ []),
    )

fits : (st : State) → length (out st) ≤ nodes_of (whole_of st) + count is_node (right_of st)
fits (at es) = omega (arith, lines_length es)
fits (after_left es c) = omega (arith, lines_length es)
fits (need b p m) =
    omega (arith, place_fits b, pre_fits (place_out b) p, mul_fits (pre_out (place_out b) p) m, count-++ is_node (place_right b) (pre_tokens p ++ mul_tokens m), count-++ is_node (pre_tokens p) (mul_tokens m))
fits (have b p t) =
    omega (arith, place_fits b, pre_fits (place_out b) p, with_length (pre_out (place_out b) p) (term_tree t), term_size t, count-++ is_node (place_right b) (pre_tokens p ++ term_tokens t), count-++ is_node (pre_tokens p) (term_tokens t))

pub few : (st : State) (s : Progress) → Code st s → length (out st) ≤ 64
few st s c = omega (arith, fits st, c.nodes, c.few)

-- ---- what the writer holds at a state of the machine

abbrev FrameOf : Place → Pre → Mul → Frame → Type 0
FrameOf b p m f = PreIs (place_out b) p f.sum × MulIs (pre_out (place_out b) p) m f.product

abbrev FrameIs : State → Frame → Type 0
FrameIs (at es) f = (f.sum ≡ None) × (f.product ≡ None)
FrameIs (after_left es c) f = (f.sum ≡ None) × (f.product ≡ None)
FrameIs (need b p m) f = FrameOf b p m f
FrameIs (have b p t) f = FrameOf b p m_none f

-- the frames around, the innermost last
abbrev OuterIs : Place → List Frame → Type 0
OuterIs (side es c) fs = fs ≡ []
OuterIs (within g b p m) fs = (gs : List Frame) × (f : Frame) × (fs ≡ gs ++ (f ∷ [])) × FrameOf b p m f × OuterIs b gs

abbrev GroupsAre : State → List Frame → Type 0
GroupsAre (at es) fs = fs ≡ []
GroupsAre (after_left es c) fs = fs ≡ []
GroupsAre (need b p m) fs = OuterIs b fs
GroupsAre (have b p t) fs = OuterIs b fs

-- the left capital, which has no equation before
abbrev LeftIs : State → Option ℕ → Type 0
LeftIs (at es) x = x ≡ None
LeftIs (after_left es c) x = (x ≡ Some c) × (has es c ≡ false)
LeftIs (need b p m) x = (x ≡ Some (left_of b)) × (has (home b) (left_of b) ≡ false)
LeftIs (have b p t) x = (x ≡ Some (left_of b)) × (has (home b) (left_of b) ≡ false)

abbrev RootsAre : List Line → List ℕ → Type 0
RootsAre es roots = (a : ℕ) → get_or roots a 0 ≡ root 0 (system_of es) a

pub record Writes (st : State) (w : Writer) : Type 0 where
  pub sheet : SheetIs (out st) w.sheet
  pub left : LeftIs st w.left
  pub frame : FrameIs st w.frame
  pub outer : GroupsAre st w.outer.items
  pub roots : RootsAre (whole_of st) w.roots
  pub size : length w.roots ≡ 256

-- ---- before the first token

zeros : (n a : ℕ) → ◌≡◌ {A = ℕ} (get_or (replicate n 0) a 0) 0
zeros zero a = refl
zeros (suc n) zero = refl
zeros (suc n) (suc a) = zeros n a

pub writes_none : Writes (at []) nothing_written
writes_none = record {
  sheet = refl;
  left = refl;
  frame = (refl, refl);
  outer = refl;
  roots = zeros 256;
  size = refl;
}

-- ---- lemmas on frames, roots and sizes

-- the end of an equation with this left capital
abbrev ended_by : Writer → Option ℕ → Writer
ended_by w l = record w {
  sheet = with_root (added w.sheet w.frame.sum) l;
  left = None;
  frame = record { sum = None; product = w.frame.product };
  roots = roots_with (with_root (added w.sheet w.frame.sum) l) w.roots l;
}

-- the frames are as many as the groups
same_depth : (b : Place) (fs : List Frame) → OuterIs b fs → length fs ≡ length (stack_of b)
same_depth (side es c) fs h = ap length h
same_depth (within g b p m) fs h = omega (arith, ap length h.2, length-append h.0 (h.1 ∷ []), length-append (stack_of b) (g ∷ []), same_depth b h.0 h.4)

-- a factor is no longer than the term that it completes, and a sum than its group
factor_grows : (a : List Record) (m : Mul) (f : Factor) → length (with_tree (mul_out a m) (factor_tree f)) ≤ length (with_tree a (term_tree (with_factor m f)))
factor_grows a m_none f = omega arith
factor_grows a (m_star t) f = omega (arith, with_length a (Trees.product (term_tree t) (factor_tree f)), with_length (with_tree a (term_tree t)) (factor_tree f), with_length a (term_tree t))

group_grows : (a : List Record) (g : Group) (x : Sum) → length (with_tree a (sum_tree x)) ≤ length (with_tree a (factor_tree (f_group g x)))
group_grows a Round x = omega arith
group_grows a Square x = omega (arith, with_length a (sum_tree x), with_length a (Trees.bracket (sum_tree x)))

system_more : (es : List Line) (q : Line) → system_of (es ++ (q ∷ [])) ≡ system_of es ++ (line_equation q ∷ [])
system_more [] q = refl
system_more (e ∷ es) q = ap (λ S. line_equation e ∷ S) (system_more es q)

lines_more : (es : List Line) (q : Line) → lines_out (es ++ (q ∷ [])) ≡ lines_out es ++ laid node.Name (length (lines_out es)) (Some q.left) (sum_tree q.right)
lines_more es q =
    ap (laid_all node.Name 0) (system_more es q) ∙ laid_more node.Name 0 (system_of es) (line_equation q)
    ∙ ap (λ n. lines_out es ++ laid node.Name n (Some q.left) (sum_tree q.right)) (omega (arith, laid_all_length node.Name 0 (system_of es)))

-- the root of a line that is the first of its unknown
root_new : (n : ℕ) (es : List Line) (q : Line) → has es q.left ≡ false → root n (system_of (es ++ (q ∷ []))) q.left ≡ root_at (n + nodes (system_of es)) (sum_tree q.right)
root_new n [] q h = ap (λ v. cond v (root_at n (sum_tree q.right)) 0) (eq-eqb q.left q.left refl) ∙ ap (λ m. root_at m (sum_tree q.right)) (omega arith)
root_new n (e ∷ es) q h =
    let k = or_parts (eqb e.left q.left) (has es q.left) h in
    ap (λ v. cond v (root_at n (sum_tree e.right)) (root (n + nodes_in (sum_tree e.right)) (system_of (es ++ (q ∷ []))) q.left)) k.0
    ∙ root_new (n + nodes_in (sum_tree e.right)) es q k.1 ∙ ap (λ m. root_at m (sum_tree q.right)) (omega arith)

roots_more : (es : List Line) (q : Line) (roots : List ℕ) (r : ℕ) → has es q.left ≡ false → q.left < length roots → r ≡ root_at (nodes (system_of es)) (sum_tree q.right) → RootsAre es roots → RootsAre (es ++ (q ∷ [])) (set roots q.left r)
roots_more es q roots r new byte e h a = go (ℕ_discrete a q.left)
  where
    go : Dec (a ≡ q.left) → get_or (set roots q.left r) a 0 ≡ root 0 (system_of (es ++ (q ∷ []))) a
    go (yes same) =
        ap (λ j. get_or (set roots q.left r) j 0) same ∙ get_or-set_same roots q.left r 0 byte ∙ e
        ∙ ap (λ m. root_at m (sum_tree q.right)) (omega arith) ∙ sym (root_new 0 es q new) ∙ ap (root 0 (system_of (es ++ (q ∷ [])))) (sym same)
    go (no other) =
        get_or-set_other roots q.left a r 0 other ∙ h a
        ∙ sym (ap (λ S. root 0 S a) (system_more es q) ∙ root_other 0 (system_of es) (line_equation q) a (ne_eqb q.left a (λ k. other (sym k))))

-- ---- token by token

begins : (es : List Line) (c : ℕ) (w : Writer) → has es c ≡ false → Writes (at es) w → Writes (after_left es c) (with_name w c)
begins es c w new h =
    subst (Writes (after_left es c)) (sym (ap (λ (l : Option ℕ). elim l [ None ↦ begun w c | Some l ↦ with_leaf w (node.Name c) ]) h.left))
    (record { sheet = h.sheet; left = (refl, new); frame = h.frame; outer = h.outer; roots = h.roots; size = h.size })

equates : (es : List Line) (c : ℕ) (w : Writer) → Writes (after_left es c) w → Writes (need (side es c) p_none m_none) w
equates es c w h = record { sheet = h.sheet; left = h.left; frame = h.frame; outer = h.outer; roots = h.roots; size = h.size }

-- a factor that is one record
leaves : (b : Place) (p : Pre) (m : Mul) (f : Factor) (x : Node) (w : Writer) → ((n : ℕ) → laid node.Name n None (factor_tree f) ≡ entry x None ∷ []) → nodes_in (factor_tree f) ≡ 1
    → length (out (have b p (with_factor m f))) ≤ 64 → Writes (need b p m) w → Writes (have b p (with_factor m f)) (with_leaf w x)
leaves b p m f x w alone one room h =
    let a = mul_out (pre_out (place_out b) p) m in
    let written = pushed_is a w.sheet x h.sheet (omega (arith, factor_grows (pre_out (place_out b) p) m f, with_length a (factor_tree f))) in
    let leaf : SheetIs (with_tree a (factor_tree f)) (pushed w.sheet x) = subst (λ (l : List Record). SheetIs (a ++ l) (pushed w.sheet x)) (sym (alone (length a))) written in
    record {
      sheet = multiplied_is (pre_out (place_out b) p) m f (pushed w.sheet x) w.frame.product h.frame.1 leaf room;
      left = h.left;
      frame = (h.frame.0, refl);
      outer = h.outer;
      roots = h.roots;
      size = h.size;
    }

stars : (b : Place) (p : Pre) (t : Term) (w : Writer) → Writes (have b p t) w → Writes (need b p (m_star t)) (starred w)
stars b p t w h = record {
  sheet = h.sheet;
  left = h.left;
  frame = (h.frame.0, ap Some (last_is (out (have b p t)) w.sheet h.sheet));
  outer = h.outer;
  roots = h.roots;
  size = h.size;
}

adds : (b : Place) (p : Pre) (t : Term) (w : Writer) → length (with_tree (place_out b) (sum_tree (with_term p t))) ≤ 64 → Writes (have b p t) w → SheetIs (with_tree (place_out b) (sum_tree (with_term p t))) (added w.sheet w.frame.sum)
adds b p t w room h = added_is (place_out b) p t w.sheet w.frame.sum h.frame.0 h.sheet room

pluses : (b : Place) (p : Pre) (t : Term) (w : Writer) → length (out (need b (p_plus (with_term p t)) m_none)) ≤ 64 → Writes (have b p t) w → Writes (need b (p_plus (with_term p t)) m_none) (signed w Plus)
pluses b p t w room h =
    let sheet = adds b p t w room h in
    record { sheet = sheet; left = h.left; frame = (ap (λ n. Some (Plus, n)) (last_is _ _ sheet), h.frame.1); outer = h.outer; roots = h.roots; size = h.size }

minuses : (b : Place) (p : Pre) (t : Term) (w : Writer) → length (out (need b (p_minus (with_term p t)) m_none)) ≤ 64 → Writes (have b p t) w → Writes (need b (p_minus (with_term p t)) m_none) (signed w Minus)
minuses b p t w room h =
    let sheet = adds b p t w room h in
    record { sheet = sheet; left = h.left; frame = (ap (λ n. Some (Minus, n)) (last_is _ _ sheet), h.frame.1); outer = h.outer; roots = h.roots; size = h.size }

opening : (b : Place) (p : Pre) (m : Mul) (g : Group) (w : Writer) → length w.outer.items < 16 → Writes (need b p m) w → Writes (need (within g b p m) p_none m_none) (opened w)
opening b p m g w shallow h =
    subst (Writes (need (within g b p m) p_none m_none)) (sym (ap (λ v. cond v next w) (lt-ltb (length w.outer.items) 16 shallow)))
    (record { sheet = h.sheet; left = h.left; frame = (refl, refl); outer = (w.outer.items, w.frame, refl, h.frame, h.outer); roots = h.roots; size = h.size })
  where
    next : Writer
    next = record w { frame = empty_frame; outer = record { items = w.outer.items ++ (w.frame ∷ []) } }

closing : (g : Group) (b : Place) (p : Pre) (m : Mul) (q : Pre) (t : Term) (w : Writer) → length (out (have b p (with_factor m (f_group g (with_term q t))))) ≤ 64
    → Writes (have (within g b p m) q t) w → Writes (have b p (with_factor m (f_group g (with_term q t)))) (closed w g)
closing g b p m q t w room h =
    let a = pre_out (place_out b) p in
    let x = with_term q t in
    let (gs, f, split, waits, more) = h.outer in
    let deep : length w.outer.items - 1 ≡ length gs = omega (arith, ap length split, length-append gs (f ∷ [])) in
    let last : around w ≡ Some f = (λ i. slice_get (split i) (deep i)) ∙ behind gs [] f _ refl in
    let frame : FrameOf b p m (outside w) = subst (FrameOf b p m) (sym (ap (λ (o : Option Frame). unwrap_or o w.frame) last)) waits in
    let up : take (length w.outer.items - 1) w.outer.items ≡ gs = (λ i. take (deep i) (split i)) ∙ take-append_seam gs (f ∷ []) in
    let group_room : length (with_tree (mul_out a m) (factor_tree (f_group g x))) ≤ 64 = omega (arith, factor_grows a m (f_group g x), room) in
    let sum_room : length (with_tree (mul_out a m) (sum_tree x)) ≤ 64 = omega (arith, group_grows (mul_out a m) g x) in
    let grouped = bracketed_is (mul_out a m) g x _ (adds (within g b p m) q t w sum_room h) group_room in
    record {
      sheet = multiplied_is a m (f_group g x) _ (outside w).product frame.1 grouped room;
      left = h.left;
      frame = (frame.0, refl);
      outer = subst (OuterIs b) (sym up) more;
      roots = h.roots;
      size = h.size;
    }

ending : (es : List Line) (c : ℕ) (p : Pre) (t : Term) (w : Writer) → c < 256 → length (out (at (es ++ (record { left = c; right = with_term p t } ∷ [])))) ≤ 64
    → Writes (have (side es c) p t) w → Writes (at (es ++ (record { left = c; right = with_term p t } ∷ []))) (ended w)
ending es c p t w byte room h =
    let q : Line = record { left = c; right = with_term p t } in
    let long = ap length (lines_more es q) ∙ length-append (lines_out es) _ in
    let size = laid_length node.Name (length (lines_out es)) (Some c) (sum_tree (with_term p t)) in
    let sum_room : length (with_tree (lines_out es) (sum_tree (with_term p t))) ≤ 64 = omega (arith, room, with_length (lines_out es) (sum_tree (with_term p t))) in
    let whole = finished_is (lines_out es) (sum_tree (with_term p t)) c _ (adds (side es c) p t w sum_room h) in
    let last : last_of (finished (added w.sheet w.frame.sum) c) ≡ root_at (nodes (system_of es)) (sum_tree (with_term p t)) =
    last_is _ _ whole ∙ omega (arith, length-append (lines_out es) (laid node.Name (length (lines_out es)) (Some c) (sum_tree (with_term p t))), laid_all_length node.Name 0 (system_of es)) in
    subst (Writes (at (es ++ (q ∷ [])))) (sym (ap (ended_by w) h.left.0))
    (record {
      sheet = subst (λ (l : List Record). SheetIs l (finished (added w.sheet w.frame.sum) c)) (sym (lines_more es q)) whole;
      left = refl;
      frame = (refl, h.frame.1);
      outer = h.outer;
      roots = roots_more es q w.roots _ h.left.1 (omega (arith, h.size)) last h.roots;
      size = length-set w.roots c _ ∙ h.size;
    })

-- where the machine steps, the writer follows
abbrev Moves : State → Kind → Option State → Type 0
Moves st t None = Unit {0}
Moves st t (Some to) = (w : Writer) (s : Progress) → Code st s → Whole s t → Every digit (digits_of t) → length (out to) ≤ 64 → Writes st w → Writes to (after w t)

named : (b : Place) (p : Pre) (m : Mul) (a : ℕ) (w : Writer) → length (out (have b p (with_factor m (f_capital a)))) ≤ 64 → Writes (need b p m) w → Writes (have b p (with_factor m (f_capital a))) (with_name w a)
named b p m a w room h =
    subst (Writes (have b p (with_factor m (f_capital a)))) (sym (ap (λ (l : Option ℕ). elim l [ None ↦ begun w a | Some l ↦ with_leaf w (node.Name a) ]) h.left.0))
    (leaves b p m (f_capital a) (node.Name a) w (λ n. refl) refl room h)

numbered : (b : Place) (p : Pre) (m : Mul) (ds : List ℕ) (s : Progress) (w : Writer) → Whole s (number ds) → Every digit ds → length (out (have b p (with_factor m (f_number ds)))) ≤ 64
    → Writes (need b p m) w → Writes (have b p (with_factor m (f_number ds))) (with_leaf w (node.Number (worth ds)))
numbered b p m ds s w k d room h =
    leaves b p m (f_number ds) (node.Number (worth ds)) w (λ n. ap (λ v. entry (node.Number v) None ∷ []) (sym (nine_digits ds d (ltb-false 9 (length ds) k.brief)))) refl room h

fresh : (q : Line) (qs : List Line) (c : ℕ) (s : Progress) → Code (at (q ∷ qs)) s → Whole s (capital c) → has (q ∷ qs) c ≡ false
fresh q qs c s k u = sym (k.defined c) ∙ sym (ap (λ p. between p && get_or s.defined c false) k.phase) ∙ u.fresh

move : (st : State) (t : Kind) → Moves st t (step st t)
move (at []) (capital a) = λ w s c u d room h. begins [] a w refl h
move (at []) _ = tt
move (at (q ∷ qs)) (capital a) = λ w s c u d room h. begins (q ∷ qs) a w (fresh q qs a s c u) h
move (at (q ∷ qs)) _ = tt
move (after_left es a) equals = λ w s c u d room h. equates es a w h
move (after_left es a) _ = tt
move (need b p m) (number ds) = λ w s c u d room h. numbered b p m ds s w u d room h
move (need b p m) (capital a) = λ w s c u d room h. named b p m a w room h
move (need b p m) (small x) = λ w s c u d room h. leaves b p m (f_small x) (node.Input x) w (λ n. refl) refl room h
move (need b p m) (opens g) = λ w s c u d room h. opening b p m g w (omega (arith, same_depth b w.outer.items h.outer, room_to_open b p m g s c u)) h
move (need b p m) _ = tt
move (have (side es a) p t) semicolon = λ w s c u d room h. ending es a p t w (c.byte a c.left) room h
move (have b p t) plus = λ w s c u d room h. pluses b p t w room h
move (have b p t) minus = λ w s c u d room h. minuses b p t w room h
move (have b p t) star = λ w s c u d room h. stars b p t w h
move (have (within Round b q m) p t) (closes Round) = λ w s c u d room h. closing Round b q m p t w room h
move (have (within Square b q m) p t) (closes Square) = λ w s c u d room h. closing Square b q m p t w room h
move (have b p t) _ = tt

pub moves : (st to : State) (t : Kind) → step st t ≡ Some to → (w : Writer) (s : Progress) → Code st s → Whole s t → Every digit (digits_of t) → length (out to) ≤ 64 → Writes st w → Writes to (after w t)
moves st to t e = subst (Moves st t) e (move st t)

-- at the end of whole lines their records are written
pub all_written : (es : List Line) (w : Writer) → Writes (at es) w → Written (system_of es) w
all_written es w h = record { records = h.sheet; roots = h.roots }

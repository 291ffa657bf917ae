-- The products among the records are the product signs of the text.
use Rattle.std.proofs.Common.{◌≡◌, ℕ, ◌+◌, cond, List, [], ◌∷◌, ◌++◌, Some, None, Option, sym, refl, ap, ◌∙◌, subst, arith}
use Rattle.std.proofs.lemmas.List.Sums.{sum_by-append}
use Rattle.systems.specs.Trees as Trees
use Rattle.systems.specs.Trees.{Tree, System}
use Rattle.tokens.specs.declared.token.Group.TheVariants.{Round, Square}
use Rattle.tokens.specs.Kinds.{semicolon, plus, minus, star, closes}
use Rattle.tokens.proofs.Listing.{only_tokens}
use Rattle.reader.specs.Examining.{Accepts, product_signs}
use Rattle.reader.specs.Nodes.{nodes_in}
use Rattle.reader.specs.Rules.{kinds}
use Rattle.reader.specs.Sorts.{count, is_star}
use Rattle.reader.proofs.Derivations.{Factor, f_number, f_capital, f_small, f_group, Term, t_one, t_times, Sum, s_one, s_plus, s_minus, Line, factor_tokens, term_tokens, sum_tokens, line_tokens, tokens_of, factor_tree, term_tree, sum_tree, system_of}
use Rattle.reader.proofs.Related.{system_from}
use Rattle.reader.proofs.Sides.{count-++}
use Rattle.reader.proofs.Signs.{star_signs}
use Rattle.records.specs.declared.record.Node.{Node}
use Rattle.records.specs.declared.record.Node.TheVariants as node
use Rattle.records.specs.declared.record.Record.{Record}
use Rattle.records.specs.Layout.{entry, node_of, operands, laid, laid_all, root, layout}
use Rattle.records.specs.Reading.{is_product, products}

products-++ : (a b : List Record) → products (a ++ b) ≡ products a + products b
products-++ a b = sum_by-append (λ r. cond (is_product r.node) 1 0) a b

-- ---- the products of a tree

in_tree : Tree → ℕ
in_tree (Trees.number k) = 0
in_tree (Trees.unknown a) = 0
in_tree (Trees.input x) = 0
in_tree (Trees.sum s t) = in_tree s + in_tree t
in_tree (Trees.difference s t) = in_tree s + in_tree t
in_tree (Trees.product s t) = in_tree s + in_tree t + 1
in_tree (Trees.bracket s) = in_tree s

module _ (roots : ℕ → ℕ) where
  abbrev names : ℕ → Node
  names a = node.Unknown (roots a)

  -- those of the operands and its own
  abbrev Counted : ℕ → Tree → Type 0
  Counted n t = products (operands names n t) + cond (is_product (node_of names n t)) 1 0 ≡ in_tree t

  laid_products : (n : ℕ) (of : Option ℕ) (t : Tree) → Counted n t → products (laid names n of t) ≡ in_tree t
  laid_products n of t h = omega (arith, products-++ (operands names n t) (entry (node_of names n t) of ∷ []), h)

  pair_products : (n : ℕ) (s t : Tree) → Counted n s → Counted (n + nodes_in s) t → products (laid names n None s ++ laid names (n + nodes_in s) None t) ≡ in_tree s + in_tree t
  pair_products n s t h k = products-++ (laid names n None s) _ ∙ (λ i. laid_products n None s h i + laid_products (n + nodes_in s) None t k i)

  counted : (n : ℕ) (t : Tree) → Counted n t
  unfolding in_tree
  counted n (Trees.number k) = refl
  counted n (Trees.unknown a) = refl
  counted n (Trees.input x) = refl
  counted n (Trees.sum s t) = omega (arith, pair_products n s t (counted n s) (counted (n + nodes_in s) t))
  counted n (Trees.difference s t) = omega (arith, pair_products n s t (counted n s) (counted (n + nodes_in s) t))
  counted n (Trees.product s t) = omega (arith, pair_products n s t (counted n s) (counted (n + nodes_in s) t))
  counted n (Trees.bracket s) = omega (arith, laid_products n None s (counted n s))

-- ---- and the signs that they are written with

mutual
  unfolding in_tree

  factor_stars : (f : Factor) → in_tree (factor_tree f) ≡ count is_star (factor_tokens f)
  factor_stars (f_number ds) = refl
  factor_stars (f_capital a) = refl
  factor_stars (f_small x) = refl
  factor_stars (f_group Round s) = omega (arith, count-++ is_star (sum_tokens s) (closes Round ∷ []), sum_stars s)
  factor_stars (f_group Square s) = omega (arith, count-++ is_star (sum_tokens s) (closes Square ∷ []), sum_stars s)

  term_stars : (t : Term) → in_tree (term_tree t) ≡ count is_star (term_tokens t)
  term_stars (t_one f) = factor_stars f
  term_stars (t_times t f) = omega (arith, count-++ is_star (term_tokens t) (star ∷ factor_tokens f), term_stars t, factor_stars f)

  sum_stars : (s : Sum) → in_tree (sum_tree s) ≡ count is_star (sum_tokens s)
  sum_stars (s_one t) = term_stars t
  sum_stars (s_plus s t) = omega (arith, count-++ is_star (sum_tokens s) (plus ∷ term_tokens t), sum_stars s, term_stars t)
  sum_stars (s_minus s t) = omega (arith, count-++ is_star (sum_tokens s) (minus ∷ term_tokens t), sum_stars s, term_stars t)

line_stars : (roots : ℕ → ℕ) (n : ℕ) (es : List Line) → products (laid_all (names roots) n (system_of es)) ≡ count is_star (tokens_of es)
line_stars roots n [] = refl
line_stars roots n (q ∷ es) =
    omega (
      arith,
      products-++ (laid (names roots) n (Some q.left) (sum_tree q.right)) (laid_all (names roots) (n + nodes_in (sum_tree q.right)) (system_of es)),
      laid_products roots n (Some q.left) (sum_tree q.right) (counted roots n (sum_tree q.right)),
      line_stars roots (n + nodes_in (sum_tree q.right)) es,
      sum_stars q.right,
      count-++ is_star (line_tokens q) (tokens_of es),
      count-++ is_star (sum_tokens q.right) (semicolon ∷ []),
    )

pub signs : (bs : List ℕ) (S : System) → Accepts bs S → products (layout S) ≡ product_signs bs
signs bs S h =
    let d = system_from h.system in
    subst (λ (R : System). products (layout R) ≡ product_signs bs) d.3
    (line_stars (root 0 (system_of (d.0 ∷ d.1))) 0 (d.0 ∷ d.1) ∙ ap (count is_star) d.2 ∙ ap (λ ts. count is_star (kinds ts)) (sym (only_tokens h.listed)) ∙ star_signs 0 bs)

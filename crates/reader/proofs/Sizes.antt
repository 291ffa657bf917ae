-- The nodes of trees and the tokens that they are written with.
use Rattle.std.proofs.Common.{◌≡◌, List, [], ◌∷◌, refl, arith}
use Rattle.tokens.specs.declared.token.Group.TheVariants.{Round, Square}
use Rattle.tokens.specs.Kinds.{plus, minus, star, closes}
use Rattle.reader.specs.Sorts.{count, is_node}
use Rattle.reader.specs.Nodes.{nodes_in, nodes}
use Rattle.reader.proofs.Derivations.{Factor, f_number, f_capital, f_small, f_group, Term, t_one, t_times, Sum, s_one, s_plus, s_minus, Line, factor_tokens, term_tokens, sum_tokens, factor_tree, term_tree, sum_tree, system_of, nodes_of}
use Rattle.reader.proofs.Sides.{count-++}

mutual
  pub factor_size : (f : Factor) → nodes_in (factor_tree f) ≡ count is_node (factor_tokens f)
  factor_size (f_number ds) = refl
  factor_size (f_capital a) = refl
  factor_size (f_small x) = refl
  factor_size (f_group Round s) = omega (arith, count-++ is_node (sum_tokens s) (closes Round ∷ []), sum_size s)
  factor_size (f_group Square s) = omega (arith, count-++ is_node (sum_tokens s) (closes Square ∷ []), sum_size s)

  pub term_size : (t : Term) → nodes_in (term_tree t) ≡ count is_node (term_tokens t)
  term_size (t_one f) = factor_size f
  term_size (t_times t f) = omega (arith, count-++ is_node (term_tokens t) (star ∷ factor_tokens f), term_size t, factor_size f)

  pub sum_size : (s : Sum) → nodes_in (sum_tree s) ≡ count is_node (sum_tokens s)
  sum_size (s_one t) = term_size t
  sum_size (s_plus s t) = omega (arith, count-++ is_node (sum_tokens s) (plus ∷ term_tokens t), sum_size s, term_size t)
  sum_size (s_minus s t) = omega (arith, count-++ is_node (sum_tokens s) (minus ∷ term_tokens t), sum_size s, term_size t)

pub same_nodes : (es : List Line) → nodes_of es ≡ nodes (system_of es)
same_nodes [] = refl
same_nodes (q ∷ es) = omega (arith, sum_size q.right, same_nodes es)

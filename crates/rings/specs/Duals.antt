-- The dual numbers a + bε over a ring, with ε² = 0. Over a ring of size s the code of a + bε is a + s × b.
use Rattle.std.specs.Prelude.{ℕ, ◌+◌, ◌*◌, ◌/◌, ◌%◌, ◌^◌, cond, Ok, Err, nat_le}
use Rattle.rings.specs.declared.fault.RingRule.TheVariants.{TooLarge}
use Rattle.rings.specs.Faults.{at_depth, raised}
use Rattle.rings.specs.Model.{RingModel, Order, in_order, if_in_order, size_of, one_of, sum, opposite, product}

-- whether a dual ring is in order, by the answer of the ring below and its size: the fault of the ring below comes first,
-- with its depth raised by 1; then fault 3 with depth 0 for a size above 2^31
abbrev pub order_over : Order → ℕ → Order
order_over (Ok _) s = cond (nat_le s (2 ^ 31)) in_order (Err (at_depth TooLarge 0))
order_over (Err fault) s = Err (raised fault)

abbrev pub dual_order : RingModel → Order
dual_order b = order_over b.order (size_of b)

-- the code of a + bε, over a ring of size s
abbrev pub join : ℕ → ℕ → ℕ → ℕ
join s a b = a + s * b

-- (a + bε) + (c + dε) = (a + c) + (b + d)ε, and (a + bε) × (c + dε) = ac + (ad + bc)ε
unfoldable pub dual : RingModel → RingModel
dual b =
    let s = size_of b in
    record {
      order = dual_order b;
      size = s * s;
      one = one_of b;
      add = λ x y. join s (sum b (x % s) (y % s)) (sum b (x / s) (y / s));
      neg = λ x. join s (opposite b (x % s)) (opposite b (x / s));
      mul = λ x y. join s (product b (x % s) (y % s)) (sum b (product b (x % s) (y / s)) (product b (x / s) (y % s)));
    }

-- the size of the ring below where the dual ring is in order, else 0
unfoldable pub side : RingModel → ℕ
side b = if_in_order (dual_order b) (size_of b)

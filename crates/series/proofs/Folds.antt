-- Sums that a fold makes over items, one element for each.
use Rattle.std.proofs.Common.{◌≡◌, ℕ, zero, suc, ◌<◌, ◌≤◌, List, [], ◌∷◌, Option, Some, None, length, get_or, take, sym, refl, ap, ◌∙◌, ap₂, arith, rules}
use Rattle.std.specs.List.{fold}
use Rattle.std.specs.Option.{option_map}
use Rattle.std.proofs.Math.Seq.{take-suc}
use Rattle.std.proofs.lemmas.List.{take_all}
use Rattle.std.proofs.lemmas.List.Sums.{fold-append}
use Rattle.rings.specs.Model.{RingModel, sum, product}
use Rattle.series.proofs.Sums.{sum_of}

-- an item that gives a weight, a term and another gives their product
pub times_three : {A : Type 0} (m : RingModel) (w a b : A → ℕ) (o : Option A) (i j k : ℕ) → option_map w o ≡ Some i → option_map a o ≡ Some j → option_map b o ≡ Some k
    → option_map (λ x. product m (product m (w x) (a x)) (b x)) o ≡ Some (product m (product m i j) k)
times_three m w a b (Some x) i j k p q r = search rules
times_three m w a b None i j k p q r = search rules

module _ {A : Type 0} (m : RingModel) (e : A → ℕ) (g : ℕ → ℕ) (xs : List A) (at : ℕ → Option A) where
  module _ (reads : (k : ℕ) (d : A) → k < length xs → option_map (λ y. y) (at k) ≡ Some (get_or xs k d)) (gives : (k : ℕ) → k < length xs → option_map e (at k) ≡ Some (g k)) where
    item : (k : ℕ) → k < length xs → (x : A) × (get_or xs k x ≡ x) × (e x ≡ g k)
    item k h = taken (at k) (gives k h) (λ d. reads k d h)
      where
        taken : (o : Option A) → option_map e o ≡ Some (g k) → ((d : A) → option_map (λ y. y) o ≡ Some (get_or xs k d)) → (x : A) × (get_or xs k x ≡ x) × (e x ≡ g k)
        taken (Some x) p r = (x, search rules, search rules)
        taken None p r = search rules

    folded_to : (k : ℕ) → k ≤ length xs → fold (λ s x. sum m s (e x)) 0 (take k xs) ≡ sum_of m k g
    unfolding sum_of
    folded_to zero h = refl
    folded_to (suc k) h =
        let y = item k (omega arith) in
        ap (fold (λ s x. sum m s (e x)) 0) (take-suc xs k y.0 (omega arith)) ∙ fold-append (λ s x. sum m s (e x)) 0 (take k xs) (get_or xs k y.0 ∷ []) ∙ ap₂ (sum m) (folded_to k (omega arith)) (ap e y.1 ∙ y.2)

    -- the fold over items that give the elements is their sum
    pub folded : fold (λ s x. sum m s (e x)) 0 xs ≡ sum_of m (length xs) g
    folded = ap (fold (λ s x. sum m s (e x)) 0) (sym (take_all (length xs) xs (omega arith))) ∙ folded_to (length xs) (omega arith)

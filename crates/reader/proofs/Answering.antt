-- What the machine answers of a text, and that it is what examining the text answers.
use Rattle.std.proofs.Common.{◌≡◌, ℕ, ◌≤◌, Bool, true, false, cond, T, ltb, List, [], ◌∷◌, length, Ok, Err, Result, sym, refl, ap, ◌∙◌, subst, ltb-false, ltb-true, Some, None, Option}
use Rattle.tokens.proofs.Listing.{tokens_from, tokens_listed}
use Rattle.reader.specs.declared.fault.Rule.TheVariants.{TooLong, NotAllowed, NoEquation}
use Rattle.reader.specs.declared.fault.TextFault.{TextFault}
use Rattle.reader.specs.Examining.{fault, Faulty, of_bytes, of_token, of_end, of_name, product_signs, Examined}
use Rattle.reader.specs.Grammar.{IsSystem}
use Rattle.reader.specs.Nodes.{nodes}
use Rattle.reader.specs.Rules.{kinds, Clean}
use Rattle.reader.proofs.Derivations.{Line, system_of}
use Rattle.reader.proofs.Related.{system_is}
use Rattle.reader.proofs.Machine.{State, at, after_left, need, have, run}
use Rattle.reader.proofs.Sound.{start, sound}
use Rattle.reader.proofs.Exact.{accepts}
use Rattle.reader.proofs.Faults.{Scan, stop, end, scan, Scanned, scanned, not_none, unknown, Looked, all_looked}

abbrev answer_end : List ℕ → State → Result (ℕ × ℕ) TextFault
answer_end bs (at []) = Err (fault NotAllowed (length bs))
answer_end bs (at (q ∷ qs)) = elim (unknown (q ∷ qs) (tokens_from 0 bs)) [ None ↦ Ok (nodes (system_of (q ∷ qs)), product_signs bs) | Some p ↦ Err (fault NoEquation p) ]
answer_end bs (after_left es a) = Err (fault NotAllowed (length bs))
answer_end bs (need b p m) = Err (fault NotAllowed (length bs))
answer_end bs (have b p t) = Err (fault NotAllowed (length bs))

abbrev pub answer_scan : List ℕ → Scan → Result (ℕ × ℕ) TextFault
answer_scan bs (stop k p) = Err (fault k p)
answer_scan bs (end st) = answer_end bs st

-- what the machine answers
abbrev pub answer : List ℕ → Result (ℕ × ℕ) TextFault
answer bs = cond (ltb 4096 (length bs)) (Err (fault TooLong 4096)) (answer_scan bs (scan (at []) (tokens_from 0 bs)))

-- a state in which whole lines are read
abbrev whole? : Option State → Bool
whole? None = false
whole? (Some (at [])) = false
whole? (Some (at (q ∷ qs))) = true
whole? (Some (after_left es a)) = false
whole? (Some (need b p m)) = false
whole? (Some (have b p t)) = false

module _ (bs : List ℕ) (short : length bs ≤ 4096) where
  unended : (st : State) → Clean (tokens_from 0 bs) → run start (kinds (tokens_from 0 bs)) ≡ Some st → whole? (Some st) ≡ false → Faulty bs (fault NotAllowed (length bs))
  unended st c e n =
      of_end short (tokens_from 0 bs) (tokens_listed 0 bs) c
      (λ S h. let w = (accepts (kinds (tokens_from 0 bs))).0 (S, h) in subst T (ap whole? (sym w.2 ∙ e) ∙ n) tt)

  whole : (q : Line) (qs : List Line) → Clean (tokens_from 0 bs) → run start (kinds (tokens_from 0 bs)) ≡ Some (at (q ∷ qs)) → (o : Option ℕ) → Looked (q ∷ qs) (tokens_from 0 bs) o
      → Examined bs (elim o [ None ↦ Ok (nodes (system_of (q ∷ qs)), product_signs bs) | Some p ↦ Err (fault NoEquation p) ])
  whole q qs c e o h = go o h
    where
      is_system : IsSystem (kinds (tokens_from 0 bs)) (system_of (q ∷ qs))
      is_system = subst (λ ts. IsSystem ts (system_of (q ∷ qs))) (sound (kinds (tokens_from 0 bs)) _ e) (system_is q qs)

      go : (o : Option ℕ) → Looked (q ∷ qs) (tokens_from 0 bs) o → Examined bs (elim o [ None ↦ Ok (nodes (system_of (q ∷ qs)), product_signs bs) | Some p ↦ Err (fault NoEquation p) ])
      go None k = (system_of (q ∷ qs), record { short = short; tokens = tokens_from 0 bs; listed = tokens_listed 0 bs; clean = c; system = is_system; known = k }, refl)
      go (Some p) k = of_name short (tokens_from 0 bs) (tokens_listed 0 bs) c (system_of (q ∷ qs)) is_system p k

  ended : (st : State) → Clean (tokens_from 0 bs) → run start (kinds (tokens_from 0 bs)) ≡ Some st → Examined bs (answer_end bs st)
  ended (at []) c e = unended (at []) c e refl
  ended (at (q ∷ qs)) c e = whole q qs c e (unknown (q ∷ qs) (tokens_from 0 bs)) (all_looked (q ∷ qs) (tokens_from 0 bs))
  ended (after_left es a) c e = unended (after_left es a) c e refl
  ended (need b p m) c e = unended (need b p m) c e refl
  ended (have b p t) c e = unended (have b p t) c e refl

  pub examined_scan : (s : Scan) → scan (at []) (tokens_from 0 bs) ≡ s → Examined bs (answer_scan bs s)
  examined_scan s e = go s (subst (Scanned (tokens_from 0 bs)) e (scanned (tokens_from 0 bs) [] (at []) refl (λ b u a h. absurd (not_none b u a h))))
    where
      go : (s : Scan) → Scanned (tokens_from 0 bs) s → Examined bs (answer_scan bs s)
      go (stop k p) h = of_token short (tokens_from 0 bs) (tokens_listed 0 bs) k p h
      go (end st) h = ended st h.0 h.1

pub examined : (bs : List ℕ) → Examined bs (answer bs)
examined bs = go (ltb 4096 (length bs)) refl
  where
    go : (x : Bool) → ltb 4096 (length bs) ≡ x → Examined bs (cond x (Err (fault TooLong 4096)) (answer_scan bs (scan (at []) (tokens_from 0 bs))))
    go true e = of_bytes (ltb-true 4096 (length bs) e)
    go false e = examined_scan bs (ltb-false 4096 (length bs) e) _ refl

-- What holds of every text.
use Rattle.std.specs.Prelude.{◌≡◌, ℕ, ◌≤◌, ◌⊎◌, List}
use Rattle.systems.specs.Solving.{Solvable}
use Rattle.systems.specs.Trees.{System}
use Rattle.tokens.specs.Kinds.{Kind}
use Rattle.reader.specs.declared.fault.TextFault.{TextFault}
use Rattle.reader.specs.Grammar.{IsSystem}
use Rattle.reader.specs.Examining.{Accepts, Faulty}
use Rattle.reader.specs.Nodes.{nodes}

pub record TextLaws : Type 0 where
  -- every text is accepted or has a fault, and never both
  pub either : (bs : List ℕ) → ((S : System) × Accepts bs S) ⊎ ((f : TextFault) × Faulty bs f)
  pub never_both : (bs : List ℕ) (S : System) (f : TextFault) → Accepts bs S → ¬ (Faulty bs f)
  -- the grammar is unambiguous, so an accepted text has one system only
  pub one_reading : (ts : List Kind) (S R : System) → IsSystem ts S → IsSystem ts R → S ≡ R
  pub one_system : (bs : List ℕ) (S R : System) → Accepts bs S → Accepts bs R → S ≡ R
  -- any other text has one fault only
  pub one_fault : (bs : List ℕ) (f g : TextFault) → Faulty bs f → Faulty bs g → f ≡ g
  -- the systems of accepted texts meet the side conditions under which a system has one and only one solution
  pub solvable : (bs : List ℕ) (S : System) → Accepts bs S → Solvable S
  -- and have at most 64 nodes
  pub few : (bs : List ℕ) (S : System) → Accepts bs S → nodes S ≤ 64

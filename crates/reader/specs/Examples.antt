-- Texts worked out.
use Rattle.std.specs.Prelude.{ℕ, List, [], ◌∷◌, Ok, Err, codes, Result}
use Rattle.reader.specs.declared.fault.Rule.TheVariants.{NoToken, LongNumber, NotAllowed, TooDeep, Repeated, TooEarly, NoEquation}
use Rattle.reader.specs.declared.fault.TextFault.{TextFault}
use Rattle.reader.specs.Examining.{fault, Examined}

-- texts with what examining them answers
abbrev pub worked : List (List ℕ × Result (ℕ × ℕ) TextFault)
worked =
    (codes "A=A;", Err (fault TooEarly 2))
    ∷ (codes "A=[A];", Ok (2, 0))
    ∷ (codes "A=[B];", Err (fault NoEquation 3))
    ∷ (codes "B=A;A=1;", Err (fault TooEarly 2))
    ∷ (codes "A=1;B=A;", Ok (2, 0))
    ∷ (codes "A=1;A=2;", Err (fault Repeated 4))
    ∷ ([], Err (fault NotAllowed 0))
    ∷ (codes "A=1", Err (fault NotAllowed 3))
    ∷ (codes "A=0#;", Err (fault NoToken 3))
    ∷ (codes "A=1234567890;", Err (fault LongNumber 2))
    ∷ (codes "A=((((((((((((((((1))))))))))))))));", Ok (1, 0))
    ∷ (codes "A=(((((((((((((((((", Err (fault TooDeep 18))
    ∷ (codes "T=[1+T*T];S=1+[S*T];", Ok (12, 2))
    ∷ []

abbrev pub AllExamined : List (List ℕ × Result (ℕ × ℕ) TextFault) → Type 0
AllExamined [] = Unit {0}
AllExamined (row ∷ rows) = Examined row.0 row.1 × AllExamined rows

-- every one of them is examined so
pub record WorkedTexts : Type 0 where
  pub examined : AllExamined worked

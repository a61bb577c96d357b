-- What reading one constraint against one version may answer.
use Rattle.std.specs.Prelude.{◌≡◌, List, [], ◌∷◌, ℕ, Bool, true, false, Result, Ok, Err}
use Rattle.basis.specs.declared.Refusal.{Refusal}
use Rattle.basis.specs.Rows.{Row, row, Gives, number_of as refusal_number}
use Rattle.constraint.specs.declared.Version.{Version}
use Rattle.constraint.specs.Meaning.{Constraint, Satisfies}
use Rattle.constraint.specs.Spelling.{ReadAs, Readable}

-- the number of the refusal, 0 where it is none; and whether the version fits, 1 or 0
abbrev pub number_of : Result Bool Refusal → ℕ
number_of (Ok fitting) = 0
number_of (Err r) = refusal_number r

abbrev pub fit_of : Result Bool Refusal → ℕ
fit_of (Ok true) = 1
fit_of (Ok false) = 0
fit_of (Err r) = 0

-- 4: a constraint outside the rules
abbrev pub rows : List ℕ → List Row
rows part = row 4 (¬ Readable part) ∷ []

-- THE RELATION: what the call may answer for a part and a version
pub data Answers (part : List ℕ) (v : Version) (a : Result Bool Refusal) : Type 0 where
  refused : {r : Refusal} → Gives (rows part) (refusal_number r) → a ≡ Err r → Answers part v a
  fits : {c : Constraint} → ReadAs part c → Satisfies v c → a ≡ Ok true → Answers part v a
  misfits : {c : Constraint} → ReadAs part c → ¬ Satisfies v c → a ≡ Ok false → Answers part v a

-- What is answered of a plan where nothing is refused: its first fault, if it has one, and the answer that a check gives for it.
use Rattle.std.specs.Prelude.{◌≡◌, List, ℕ, Option, MatchOption, Result, Ok, Err}
use Rattle.basis.specs.Rows.{Gives}
use Rattle.pacsolve.specs.declared.Condition.{Condition}
use Rattle.pacsolve.specs.declared.Cost.{Cost}
use Rattle.pacsolve.specs.Problem.{Problem}
use Rattle.pacsolve.specs.Plan.{Plan, plan, faults, condition_number, Sound as IsSound}
use Rattle.pacsolve.specs.Cost.{cost}

-- r is the first condition that the plan breaks, and there is none exactly for a sound plan
abbrev pub FirstFault : Problem → Plan → Option Condition → Type 0
FirstFault p P r = MatchOption r (IsSound p P) (λ k. Gives (faults p P) (condition_number k))

-- the answer of a check that refuses nothing
pub data Judges (p : Problem) (set : ℕ) (table : List ℕ) (a : Result Cost Condition) : Type 0 where
  broken : {k : Condition} → Gives (faults p (plan set table)) (condition_number k) → a ≡ Err k → Judges p set table a
  sound : IsSound p (plan set table) → a ≡ Ok (cost p set) → Judges p set table a

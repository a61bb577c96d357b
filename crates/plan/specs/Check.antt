-- What a check of a plan may answer. A check writes nothing.
use Rattle.std.specs.Prelude.{◌≡◌, List, ℕ, length, Result, Ok, Err}
use Rattle.basis.specs.declared.Refusal.{Refusal}
use Rattle.basis.specs.Rows.{Gives, GivesNone, number_of as refusal_number}
use Rattle.pacsolve.specs.declared.Condition.{Condition}
use Rattle.pacsolve.specs.declared.Cost.{Cost}
use Rattle.pacsolve.specs.Plan.{plan, faults, condition_number, Sound as IsSound}
use Rattle.pacsolve.specs.Cost.{cost}
use Rattle.catalogue.specs.Tables.{Lent}
use Rattle.catalogue.specs.Refusals.{rows}
use Rattle.catalogue.specs.Gives.{problem}
use Rattle.plan.specs.declared.Fault.{Fault}
use Rattle.plan.specs.declared.Fault.TheVariants.{Refused, Broken}

-- the refusal's number, the failing condition's number and the cost of each case: 0 where there is none
abbrev pub number_of : Result Cost Fault → ℕ
number_of (Ok c) = 0
number_of (Err (Refused r)) = refusal_number r
number_of (Err (Broken k)) = 0

abbrev pub condition_of : Result Cost Fault → ℕ
condition_of (Ok c) = 0
condition_of (Err (Refused r)) = 0
condition_of (Err (Broken k)) = condition_number k

abbrev pub cost_of : Result Cost Fault → Cost
cost_of (Ok c) = c
cost_of (Err f) = record { first = 0; second = 0; third = 0 }

-- THE RELATION: what a check may answer for what is lent, a set and a table
pub data Checks (L : Lent) (set : ℕ) (table : List ℕ) (a : Result Cost Fault) : Type 0 where
  refused : {r : Refusal} → Gives (rows L (length table)) (refusal_number r) → a ≡ Err (Refused r) → Checks L set table a
  broken : {k : Condition} → GivesNone (rows L (length table)) → Gives (faults (problem L) (plan set table)) (condition_number k) → a ≡ Err (Broken k) → Checks L set table a
  sound : GivesNone (rows L (length table)) → IsSound (problem L) (plan set table) → a ≡ Ok (cost (problem L) set) → Checks L set table a

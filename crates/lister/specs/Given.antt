-- What is asked for, by a set that is given or not, and what comes of the plan that is given.
use Rattle.std.specs.Prelude.{◌≡◌, List, ℕ, Option, Some, None, Result, Ok, Err}
use Rattle.basis.specs.declared.Refusal.{Refusal}
use Rattle.basis.specs.declared.Refusal.TheVariants.{Unsound}
use Rattle.pacsolve.specs.Problem.{Problem}
use Rattle.pacsolve.specs.Plan.{plan, plan_of, Sound}
use Rattle.pacsolve.specs.Cost.{cost}
use Rattle.pacsolve.specs.Listing.{Asked, from_the_start, after}
use Rattle.node.specs.declared.Given.{Given}

-- all plans, or those after the one of a set and a buffer
abbrev pub asked_after : Option ℕ → List ℕ → Asked
asked_after None buffer = from_the_start
asked_after (Some set) buffer = after (plan set buffer)

-- nothing, where no set is given; else the plan with its own cost, or 10 where it is not sound
pub data Backs (p : Problem) (given : Option ℕ) (table : List ℕ) (a : Result (Option Given) Refusal) : Type 0 where
  no_plan : given ≡ None → a ≡ Ok None → Backs p given table a
  sound_plan : {set : ℕ} {g : Given} → given ≡ Some set → Sound p (plan set table) → plan_of g.plan ≡ plan set table → g.cost ≡ cost p set
      → a ≡ Ok (Some g) → Backs p given table a
  unsound_plan : {set : ℕ} → given ≡ Some set → ¬ Sound p (plan set table) → a ≡ Err Unsound → Backs p given table a

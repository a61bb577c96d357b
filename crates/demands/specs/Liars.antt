-- Wrong calls to try against the contracts: each as what it would answer on a small catalogue, and that no such answer fits the call's relation.
use Rattle.std.specs.Prelude.{◌≡◌, List, [], ◌∷◌, ℕ, zero, suc, length, Ok, Err}
use Rattle.basis.specs.declared.Refusal.TheVariants.{NoPlan}
use Rattle.pacsolve.specs.declared.Cost.{Cost}
use Rattle.pacsolve.specs.declared.Listed.{Listed}
use Rattle.pacsolve.specs.Plan.{plan}
use Rattle.catalogue.specs.Gives.{cargo}
use Rattle.plan.specs.Check.{Checks}
use Rattle.lister.specs.declared.ListingRecord.{ListingRecord}
use Rattle.lister.specs.Answers.{Answer, handed, given, Firsts}
use Rattle.lister.specs.Turns.{fresh, Turns}
use Rattle.lister.specs.Asking.{Asking, Turning}
use Rattle.demands.specs.Claims.{costs}
use Rattle.demands.specs.Bench.{box}
use Rattle.demands.specs.Excluded.{plug_in, with_plug_in, tie}

-- The listers are tried on two A of equal weight, which has two plans, with a plan buffer of one byte. What they answer, call by call, is what no first and next may
-- answer, and no turn
pub record Caught (answers : ℕ → Answer) : Type 0 where
  pub asking : (buffers : ℕ → List ℕ) → length (buffers 0) ≡ 1 → ¬ Asking tie answers buffers
  pub turning : (records : ℕ → ListingRecord) (buffers : ℕ → List ℕ) → length (buffers 0) ≡ 1 → ¬ Turning tie answers records buffers

abbrev pub eleven : Answer
eleven = Err NoPlan

-- the two plans, as answers
abbrev pub plan_one : Answer
plan_one = given tie (plan 3 (1 ∷ []))

abbrev pub plan_two : Answer
plan_two = given tie (plan 5 (2 ∷ []))

-- right at first, and then one answer each time
abbrev pub first_then : Answer → ℕ → Answer
first_then a zero = plan_one
first_then a (suc i) = a

pub record Liars : Type 0 where
  -- a lister that says 11 to everything
  pub always_eleven : Caught (λ i. eleven)
  -- one that gives the same plan each time
  pub same_plan : (l : Listed) → Caught (λ i. Ok l)
  -- a turn that moves nothing: the record as it was, whatever is answered and left in the buffer
  pub moves_nothing : (r : ListingRecord) (buffer buffer' : List ℕ) (a : Answer) → r.stage ≡ fresh → length buffer ≡ 1 → ¬ Turns tie r buffer a r buffer'
  -- a lister right at first and repeating after that, and one ending after that
  pub repeating : Caught (first_then plan_two)
  pub ending : Caught (first_then eleven)
  -- a check that always says sound: of the plan with the plug-in that nothing needs
  pub always_sound : (c : Cost) → ¬ Checks plug_in with_plug_in.set with_plug_in.table (Ok c)
  -- invented cost numbers: of plan 1 of the input, by a check and by first
  pub invented_by_check : (c : Cost) → ¬ (c ≡ costs 3 4 1) → ¬ Checks (box cargo) 59 (1 ∷ 3 ∷ 4 ∷ 255 ∷ 5 ∷ []) (Ok c)
  pub invented_by_first : (c : Cost) (buffer buffer' : List ℕ) → ¬ (c ≡ costs 3 4 1) → ¬ Firsts (box cargo) buffer (handed 59 c) buffer'

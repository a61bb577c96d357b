-- From a survey to a check: a survey's refusal is the check's; where there is none, nothing is refused and its sets index the catalogue, and then what is judged by those
-- sets is what a check answers.
use mathlib.Core.Path.{◌≡◌, refl, ap, ◌∙◌}
use mathlib.Core.List.{List}
use Prim.Native.Nat.{ℕ}
use lib.ListN.{length, get_or}
use Rattle.std.proofs.Common.{Ok, Err}
use Rattle.basis.specs.declared.Refusal.{Refusal}
use Rattle.basis.specs.Rows.{Gives, GivesNone, number_of}
use Rattle.bitset.specs.Bits.{Member}
use Rattle.pacsolve.specs.declared.Condition.{Condition}
use Rattle.pacsolve.specs.declared.Cost.{Cost}
use Rattle.pacsolve.specs.Plan.{Plan, plan, condition_number}
use Rattle.pacsolve.specs.Cost.{cost}
use Rattle.pacsolve.proofs.Refit.{refit_cost, refit_rooted, refit_reached, refit_named, refit_fitting, refit_acyclic}
use Rattle.catalogue.specs.Tables.{Lent}
use Rattle.catalogue.specs.Refusals.{rows}
use Rattle.catalogue.specs.Gives.{problem}
use Rattle.catalogue.specs.Survey.{Indexes, Surveys, refused, sane, indexed}
use Rattle.catalogue.proofs.Indexed.{index_agrees, indexed_sound}
use Rattle.plan.specs.declared.Fault.TheVariants.{Broken}
use Rattle.plan.specs.Check.{Checks, broken, sound}
use Rattle.plan.specs.Judged.{Judges, broken as fault, sound as no_fault}
use Rattle.plan.proofs.Faults.{faults_carried}

module _ {L : Lent} {room : ℕ} where
  pub surveyed_refused : {r : Refusal} → Surveys L room (Err r) → Gives (rows L room) (number_of r)
  surveyed_refused {r} (refused {r = q} g e) = let same : q ≡ r = cc in rw same at g
  surveyed_refused (sane h e f) = absurd (cc)

  pub surveyed_sane : {fits : List ℕ} → Surveys L room (Ok fits) → GivesNone (rows L room) × Indexes L fits
  surveyed_sane (refused g e) = absurd (cc)
  surveyed_sane {fits} (sane {fits = found} h e f) = let same : found ≡ fits = cc in (h, rw same at f)

module _ (L : Lent) (fits : List ℕ) (right : Indexes L fits) (set : ℕ) (table : List ℕ) (unrefused : GivesNone (rows L (length table))) where
  pub judged_broken : {k : Condition} → Judges (indexed L fits) set table (Err k) → Checks L set table (Err (Broken k))
  judged_broken {k} (fault {k = j} g e) =
      let same : j ≡ k = cc in
      let P : Plan = plan set table in
      let F : ℕ → ℕ → Type 0 = λ s e. Member (get_or fits s 0) e in
      broken unrefused
      (faults_carried (indexed L fits) (problem L) P (refit_rooted (problem L) F P) (refit_reached (problem L) F P) (refit_named (problem L) F P)
      (refit_fitting (problem L) F (index_agrees L fits right) P) (λ x. x, λ x. x) (refit_acyclic (problem L) F P) (condition_number k) (rw same at g))
      refl
  judged_broken (no_fault s e) = absurd (cc)

  pub judged_sound : {c : Cost} → Judges (indexed L fits) set table (Ok c) → Checks L set table (Ok c)
  judged_sound (fault g e) = absurd (cc)
  judged_sound {c} (no_fault s e) =
      let same : c ≡ cost (indexed L fits) set = cc in
      sound unrefused ((indexed_sound L fits right (plan set table)).0 s) (ap (λ (d : Cost). Ok d) (same ∙ refit_cost (problem L) (λ s e. Member (get_or fits s 0) e) set))

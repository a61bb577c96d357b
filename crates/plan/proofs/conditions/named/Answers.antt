-- `plan::conditions::named` meets its contract: every slot is tested.
use Prim.Native.Nat.{◌/◌}
use mathlib.Core.Path.{refl}
use native.Mathlib.Omega.{arith}
use lib.ListN.{length}
use Rattle.std.proofs.Common.{rules, tests}
use Rattle.std.proofs.lemmas.Iterator.{cases_from_all, YieldsList-from_range}
use Rattle.catalogue.specs.Survey.{tabled}
use Rattle.pacsolve.specs.Plan.{plan_of}
use Rattle.plan.specs.Posing.{problem_by}
use Rattle.plan.specs.Slots.{NamedAt}
use Rattle.plan.proofs.Every.{decides_below}
use Rattle.plan.proofs.SlotTests.{named_by_slots}
use Rattle.plan.proofs.Unseen.{named_of_any}
use Rattle.plan.proofs.conditions.named.Goals as goal

pub returns : goal.returns
returns c =
    let p = problem_by c.args.problem.now in
    let P = plan_of c.args.plan.now in
    let n = length c.args.problem.now.slots.now / 4 in
    λ entries objectives fits settings.
    named_of_any p (tabled entries c.args.problem.now.slots.now settings objectives fits) P
    (named_by_slots p P
    (decides_below _ n _ _ (λ s differ. differ)
    (cases_from_all _ _ _ (NamedAt p P) (λ s. ¬ NamedAt p P s) c.all.ensures.ran (YieldsList-from_range 0 n n refl (omega arith))
    (λ x q k. search (rules, tests)) (λ x q k. search (rules, tests)))))

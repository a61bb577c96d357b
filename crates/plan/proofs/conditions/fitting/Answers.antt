-- `plan::conditions::fitting` meets its contract: every slot is tested.
use Prim.Native.Nat.{◌/◌}
use mathlib.Core.Path.{refl}
use native.Mathlib.Omega.{arith}
use lib.ListN.{length}
use Rattle.std.proofs.Common.{rules, tests}
use Rattle.std.proofs.lemmas.Iterator.{cases_from_all, YieldsList-from_range}
use Rattle.pacsolve.specs.Plan.{plan_of}
use Rattle.plan.specs.Posing.{problem_by}
use Rattle.plan.specs.Slots.{FittingAt}
use Rattle.plan.proofs.Every.{decides_below}
use Rattle.plan.proofs.conditions.fitting.Goals as goal

pub returns : goal.returns
returns c =
    let p = problem_by c.args.problem.now in
    let P = plan_of c.args.plan.now in
    let n = length c.args.problem.now.slots.now / 4 in
    λ objectives settings.
    decides_below _ n _ _ (λ s differ. differ)
    (cases_from_all _ _ _ (FittingAt p P) (λ s. ¬ FittingAt p P s) c.all.ensures.ran (YieldsList-from_range 0 n n refl (omega arith))
    (λ x q k. search (rules, tests)) (λ x q k. search (rules, tests)))

-- `plan::cycles::loopless` meets its contract: every row is tested.
use mathlib.Core.Path.{refl}
use Rattle.std.proofs.Common.{rules, tests}
use Rattle.std.proofs.lemmas.Iterator.{cases_from_all, YieldsList-from_range}
use Rattle.plan.specs.Closure.{Holds}
use Rattle.plan.proofs.Every.{decides_below}
use Rattle.plan.proofs.cycles.loopless.Goals as goal

pub returns : goal.returns
returns c =
    decides_below _ 64 _ _ (λ d holds not. not holds)
    (cases_from_all _ _ _ (λ d. ¬ Holds c.args.rows.now d d) (λ d. Holds c.args.rows.now d d) c.all.ensures.ran (YieldsList-from_range 0 64 64 refl refl)
    (λ x q k. search (rules, tests)) (λ x q k. search (rules, tests)))

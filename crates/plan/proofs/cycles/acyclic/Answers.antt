-- `plan::cycles::acyclic` meets its contract: where cycles are forbidden, a walk returns exactly if a row of the closed steps holds its own entry.
use Rattle.catalogue.specs.Survey.{tabled}
use Rattle.plan.proofs.Trails.{acyclic_by_rows}
use Rattle.plan.proofs.Unseen.{acyclic_of_any}
use Rattle.plan.proofs.cycles.acyclic.Goals as goal

pub returns-else-problem-ne0 : goal.returns-else-problem-ne0
returns-else-problem-ne0 c =
    λ entries objectives fits.
    acyclic_of_any _ (tabled entries c.args.problem.now.slots.now c.args.problem.now.settings objectives fits) _
    (acyclic_by_rows _ _ c.if-problem-ne0.false c.trails.ensures c.loopless.ensures)

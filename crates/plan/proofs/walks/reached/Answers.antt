-- `plan::walks::reached` meets its contract: every member is reached exactly if what is reached is the whole set.
use Rattle.catalogue.specs.Survey.{tabled}
use Rattle.plan.proofs.Reaching.{reached_by_grown}
use Rattle.plan.proofs.Unseen.{reached_of_any}
use Rattle.plan.proofs.walks.reached.Goals as goal

pub returns : goal.returns
returns c =
    λ entries objectives fits.
    reached_of_any _ (tabled entries c.args.problem.now.slots.now c.args.problem.now.settings objectives fits) _ (reached_by_grown _ _ _ c.grown.ensures)

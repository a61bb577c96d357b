-- `plan::costs::cost` meets its contract: its three numbers are those at the first three places.
use Rattle.plan.proofs.Amounts.{cost_by_places}
use Rattle.plan.proofs.costs.cost.Goals as goal

pub returns : goal.returns
returns c slots fits settings =
    cost_by_places _ _ _
    (c.place.ensures slots fits settings, c.place-2.ensures slots fits settings, c.place-3.ensures slots fits settings)

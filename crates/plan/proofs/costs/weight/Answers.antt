-- `plan::costs::weight` meets its contract: the number of each member is its weight.
use Rattle.std.proofs.Common.{rules, tests}
use Rattle.pacsolve.specs.Cost.{weight_of}
use Rattle.plan.proofs.Totals.{weights}
use Rattle.plan.proofs.costs.weight.Goals as goal

pub returns : goal.returns
unfolding weight_of
returns c slots objectives fits settings = c.sum_over.ensures (weights c.args.entries.now) (λ e r h k. search (rules, tests))

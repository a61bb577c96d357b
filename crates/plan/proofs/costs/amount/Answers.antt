-- `plan::costs::amount` meets its contract: each objective has its own number, and a code of none 0.
use mathlib.Core.Path.{◌∙◌}
use Rattle.plan.proofs.Amounts.{amount_of_weight, amount_of_dependencies, amount_of_duplicates, amount_of_none}
use Rattle.plan.proofs.costs.amount.Goals as goal

pub returns-in-Some-Weight : goal.returns-in-Some-Weight
returns-in-Some-Weight c slots objectives fits settings =
    c.weight.ensures slots objectives fits settings ∙ amount_of_weight _ _ c.args.code (cc)

pub returns-in-Some-Dependencies : goal.returns-in-Some-Dependencies
returns-in-Some-Dependencies c slots objectives fits settings = c.dependencies.ensures ∙ amount_of_dependencies _ _ c.args.code (cc)

pub returns-in-Some-Duplicates : goal.returns-in-Some-Duplicates
returns-in-Some-Duplicates c slots objectives fits settings =
    c.duplicates.ensures slots objectives fits settings ∙ amount_of_duplicates _ _ c.args.code (cc)

pub returns-in-None : goal.returns-in-None
returns-in-None c slots objectives fits settings = amount_of_none _ _ c.args.code (cc)

-- `plan::costs::duplicates` meets its contract: each member with an earlier one of its package counts.
use mathlib.Core.Path.{sym, ◌∙◌}
use Rattle.std.proofs.Common.{rules, tests}
use Rattle.pacsolve.proofs.Duplicates.{duplicates_repeated}
use Rattle.plan.proofs.Repeated.{repeats, repeats_counted}
use Rattle.plan.proofs.costs.duplicates.Goals as goal

pub returns : goal.returns
returns c slots objectives fits settings =
    c.sum_over.ensures (repeats c.args.entries.now c.args.set) (λ e r h k. search (rules, tests, repeats_counted)) ∙ sym (duplicates_repeated _ _)

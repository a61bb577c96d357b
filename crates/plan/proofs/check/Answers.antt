-- `plan::check` meets its contract: a survey's refusal is answered as it is, and where there is none the plan is judged by the survey's sets, which index the catalogue.
use mathlib.Core.Path.{refl}
use Rattle.std.proofs.lemmas.Result.{err_from_is_err_and}
use Rattle.plan.specs.Check.{refused}
use Rattle.plan.proofs.Carried.{surveyed_refused, surveyed_sane, judged_broken, judged_sound}
use Rattle.plan.proofs.check.Goals as goal

pub returns-in_err-fits : goal.returns-in_err-fits
returns-in_err-fits c =
    let answer = err_from_is_err_and c.from_residual.result c.from_residual.ensures.1 in
    rw (answer.1, answer.2) (refused (surveyed_refused c.in_err-fits.ensures) refl)

pub returns-in_err-cost : goal.returns-in_err-cost
returns-in_err-cost c =
    let answer = err_from_is_err_and c.from_residual-in_err-cost.result c.from_residual-in_err-cost.ensures.1 in
    let sane = surveyed_sane c.in_ok-fits.ensures in
    rw (answer.1, answer.2) (judged_broken _ c.in_ok-fits.fits sane.1 c.args.plan.now.set c.args.plan.now.table.now sane.0 c.in_err-cost.ensures)

pub returns : goal.returns
returns c =
    let sane = surveyed_sane c.in_ok-fits.ensures in
    judged_sound _ c.in_ok-fits.fits sane.1 c.args.plan.now.set c.args.plan.now.table.now sane.0 c.in_ok-cost.ensures

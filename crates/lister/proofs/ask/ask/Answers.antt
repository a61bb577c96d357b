-- `lister::ask::ask` meets its contract.
use Rattle.std.proofs.lemmas.Result.{err_from_is_err_and}
use Rattle.catalogue.specs.Tables.{lent_of}
use Rattle.lister.proofs.Asks.{asked_refused, few_bytes, asked_unsound, posed, asked_least}
use Rattle.lister.proofs.ask.ask.Goals as goal

pub returns-in_err-fits : goal.returns-in_err-fits
returns-in_err-fits c =
    let e = err_from_is_err_and c.from_residual.result c.from_residual.ensures.1 in
    rw (e.1, e.2) (asked_refused (lent_of c.args.lent.now) c.args.plan.now _ c.in_err-fits.ensures)

pub kept_aside-aside-requires : goal.kept_aside-aside-requires
kept_aside-aside-requires c = few_bytes (lent_of c.args.lent.now) c.args.plan.now _ c.in_ok-fits.ensures

pub returns-in_err-given : goal.returns-in_err-given
returns-in_err-given c =
    let e = err_from_is_err_and c.from_residual-in_err-given.result c.from_residual-in_err-given.ensures.1 in
    let backs = rw c.kept_aside-aside.ensures at c.in_err-given.ensures in
    rw (e.1, e.2) (asked_unsound (lent_of c.args.lent.now) c.args.plan.now _ c.in_ok-fits.ensures _ backs)

pub least-requires : goal.least-requires
least-requires c =
    let backs = rw c.kept_aside-aside.ensures at c.in_ok-given.ensures in
    posed (lent_of c.args.lent.now) c.args.plan.now _ c.in_ok-fits.ensures _ _ backs

pub returns : goal.returns
returns c =
    let backs = rw c.kept_aside-aside.ensures at c.in_ok-given.ensures in
    rw c.ok_or.ensures.value (asked_least (lent_of c.args.lent.now) c.args.plan.now _ c.in_ok-fits.ensures _ _ backs _ _ c.least.ensures)

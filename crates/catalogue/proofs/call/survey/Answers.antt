-- `catalogue::call::survey` meets its contract: each of its four returns is one outcome of the rows.
use Rattle.std.proofs.Common.{refl, rules}
use Rattle.catalogue.specs.Tables.{lent_of}
use Rattle.catalogue.proofs.Surveyed.{keys_listed, shape_refused, unread_refused, setup_refused, none_refused}
use Rattle.catalogue.proofs.call.survey.Goals as goal

pub returns-in_err-shape_refusal : goal.returns-in_err-shape_refusal
returns-in_err-shape_refusal c = shape_refused (lent_of c.args.lent.now) c.args.room c.in_err-shape_refusal.ensures (search rules)

pub index_slots-requires-clause-keys : goal.index_slots-requires-clause-keys
index_slots-requires-clause-keys c =
    let keys = c.keys-packed.ensures in
    rw (c.count.ensures.count, c.of-entries.ensures)
    (rw c.of-entries.ensures at (keys_listed c.of-entries.result.numbers.now c.keys-packed.result c.of-entries.result.few keys.listed keys.back))

pub returns-in_err-fits : goal.returns-in_err-fits
returns-in_err-fits c = unread_refused (lent_of c.args.lent.now) c.args.room c.in_ok-shape_refusal.ensures c.in_err-fits.ensures (search rules)

pub returns-in_err-rest : goal.returns-in_err-rest
returns-in_err-rest c =
    setup_refused (lent_of c.args.lent.now) c.args.room c.in_ok-shape_refusal.ensures c.in_ok-fits.ensures c.in_err-rest.ensures (search rules)

pub returns : goal.returns
returns c = none_refused (lent_of c.args.lent.now) c.args.room c.in_ok-shape_refusal.ensures c.in_ok-fits.ensures c.in_ok-rest.ensures refl

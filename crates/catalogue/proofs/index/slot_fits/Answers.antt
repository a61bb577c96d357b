-- `catalogue::index::slot_fits` meets its contract: the part is cut between marks that rise within the text, each version is handed over by its key, and those that
-- satisfy the constraint are met with those of the wanted package.
use Rattle.std.proofs.Common.{refl}
use Rattle.catalogue.specs.Tables.{lent_of}
use Rattle.catalogue.proofs.Sets.{finds_set}
use Rattle.catalogue.proofs.index.slot_fits.Goals as goal

pub returns : goal.returns
returns c =
    finds_set
    (lent_of c.args.lent.now)
    c.args.keys.now
    c.requires.keys
    c.args.s
    c.in-Some.set
    c.slot_field-wanted.result
    c.of_package.result
    (rw (c.from-start.ensures, c.from-end.ensures, c.slot_field.ensures, c.slot_field-2.ensures) refl)
    c.in-Some.ensures
    c.slot_field-wanted.ensures
    (rw c.of.ensures at c.of_package.ensures)

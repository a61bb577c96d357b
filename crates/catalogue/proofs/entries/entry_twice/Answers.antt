-- `catalogue::entries::entry_twice` meets its contract: an entry stands twice exactly if its name does.
use Rattle.catalogue.specs.Parts.{entries_alone}
use Rattle.catalogue.proofs.Names.{names_twice, numbers_twice}
use Rattle.catalogue.proofs.entries.entry_twice.Goals as goal

pub returns : goal.returns
returns c =
    names_twice
    (entries_alone c.args.entries.numbers.now)
    c.args.entries.sized
    c.names-packed.result
    c.args.entries.few
    c.names-packed.ensures
    (rw c.count.ensures.count at (numbers_twice _ c.stands_twice.ensures))

-- `catalogue::packing::keys` meets its contract: what `key_of` gives of each entry is listed, and tells the entry's version.
use Rattle.std.proofs.Common.{◌≡◌, get_or, rules}
use Rattle.catalogue.specs.Parts.{entries_alone, entry_key}
use Rattle.catalogue.proofs.Names.{version_back}
use Rattle.catalogue.proofs.packing.keys.Goals as goal

pub returns-clause-listed : goal.returns-clause-listed
returns-clause-listed c = record { size = c.packed.ensures.size; each = λ e h. let r = c.packed.ensures.each e h in search rules }

pub returns-clause-back : goal.returns-clause-back
returns-clause-back c e h =
    let L = entries_alone c.args.entries.numbers.now in
    let r = c.packed.ensures.each e h in
    let key : get_or c.packed.result e 0 ≡ entry_key L e = search rules in
    rw key (version_back L c.args.entries.sized e)

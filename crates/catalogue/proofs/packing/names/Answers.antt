-- `catalogue::packing::names` meets its contract: what `name_of` gives of each entry is listed.
use Rattle.std.proofs.Common.{rules}
use Rattle.catalogue.proofs.packing.names.Goals as goal

pub returns : goal.returns
returns c = record { size = c.packed.ensures.size; each = λ e h. let r = c.packed.ensures.each e h in search rules }

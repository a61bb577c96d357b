-- `catalogue::index::index_slots` meets its contract: each set found is stored, and the first constraint that is not read ends it.
use Rattle.std.proofs.Common.{arith}
use Rattle.catalogue.specs.Tables.{lent_of}
use Rattle.catalogue.proofs.Sets.{filled_none, filled_one_more}
use Rattle.catalogue.proofs.index.index_slots.Goals as goal

pub loop-s-init : goal.loop-s-init
loop-s-init c = filled_none (lent_of c.args.lent.now)

pub loop-s-preserved : goal.loop-s-preserved
loop-s-preserved c =
    let found = c.in_ok-fits.ensures in
    filled_one_more (lent_of c.args.lent.now) c.loop-s.s c.in_ok-fits.field-0 c.loop-s.fits (omega (arith, c.requires.shaped.slots)) found.0 found.1 c.loop-s.invariant

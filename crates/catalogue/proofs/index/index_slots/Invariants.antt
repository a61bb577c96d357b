-- `catalogue::index::index_slots` meets its contract. The loop's invariant: the list has the sets of the slots passed, each read, and 0 from there on.
use Rattle.catalogue.specs.Tables.{lent_of}
use Rattle.catalogue.proofs.Sets.{Filled}
use Rattle.catalogue.proofs.index.index_slots.Given as goal

abbrev pub invariant-loop-s : goal.invariant-loop-s
invariant-loop-s l = Filled (lent_of l.lent) l.s l.fits

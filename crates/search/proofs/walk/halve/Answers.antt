-- `search::walk::halve` meets its contract.
use Rattle.search.proofs.Halves.{parted}
use Rattle.search.proofs.walk.halve.Goals as goal

pub returns-clause-parted : goal.returns-clause-parted
returns-clause-parted c some = parted _ _ _ _ c.ranges.all.fits (c.choose-e.ensures some) c.with-one.ensures c.without-rest.ensures

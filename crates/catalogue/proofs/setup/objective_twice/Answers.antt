-- `catalogue::setup::objective_twice` meets its contract: codes are equal as numbers are.
use Rattle.catalogue.proofs.Names.{numbers_twice}
use Rattle.catalogue.proofs.setup.objective_twice.Goals as goal

pub returns : goal.returns
returns c = numbers_twice c.args.objectives.now c.stands_twice.ensures

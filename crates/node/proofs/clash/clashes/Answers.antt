-- `node::clash::clashes` meets its contract.
use Rattle.std.proofs.Common.{rules}
use Rattle.node.proofs.Clashing.{clashes_pip, clashes_cargo, clashes_none}
use Rattle.node.proofs.clash.clashes.Goals as goal

pub returns-in-2 : goal.returns-in-2
returns-in-2 c = clashes_pip c.in-2.is c.requires c.shared.ensures

pub returns-in-1 : goal.returns-in-1
returns-in-1 c = clashes_cargo c.in-1.is c.requires c.equal_rows-majors.ensures c.shared-in-1.ensures

pub returns-in_default : goal.returns-in_default
returns-in_default c = clashes_none (search rules) (search rules)

-- `node::ceiling::low_in` meets its contract.
use native.Mathlib.Omega.{arith}
use Rattle.node.proofs.Few.{lowest_fits}
use Rattle.node.proofs.Lower.{lowest_low}
use Rattle.node.proofs.ceiling.low_in.Goals as goal

pub overflow_cast-result : goal.overflow_cast-result
overflow_cast-result c = omega (arith, lowest_fits (omega arith) c.lowest.ensures)

pub returns : goal.returns
returns c = record { due = λ n e m. lowest_low c.lowest.ensures e m; most = omega (arith, lowest_fits (omega arith) c.lowest.ensures) }

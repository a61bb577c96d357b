-- `node::grounded::apart` meets its contract.
use native.Mathlib.Omega.{arith}
use lib.Bits.{bit_and}
use Rattle.basis.proofs.Decide.{decides_eq}
use Rattle.node.proofs.Grounding.{apart_decides}
use Rattle.node.proofs.grounded.apart.Goals as goal

pub returns : goal.returns
returns c = apart_decides c.args.choices c.args.footing (omega arith) (decides_eq (bit_and c.args.choices c.args.footing) 0)

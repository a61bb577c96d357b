-- `node::grounded::highest` meets its contract.
use native.Mathlib.Omega.{arith}
use Rattle.node.proofs.Grounding.{highest_member}
use Rattle.node.proofs.grounded.highest.Goals as goal

pub returns : goal.returns
returns c = highest_member c.args.set c.requires (omega arith)

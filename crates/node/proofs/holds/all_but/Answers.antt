-- `node::holds::all_but` meets its contract: a bitwise and has the members that both have, and the turned over set those that it had not.
use native.Mathlib.Omega.{arith}
use Rattle.node.proofs.Few.{less_members}
use Rattle.node.proofs.holds.all_but.Goals as goal

pub returns : goal.returns
returns c d = less_members c.args.set c.args.out (omega arith) (omega arith) d

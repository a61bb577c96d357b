-- `node::grounded::ungrounded` meets its contract. What a round promises where it adds nothing is enough, whatever the footing.
use native.Mathlib.Omega.{arith}
use Rattle.node.proofs.Grounding.{hangs_held}
use Rattle.node.proofs.grounded.ungrounded.Goals as goal

pub returns-then-next-footing : goal.returns-then-next-footing
returns-then-next-footing c = hangs_held (omega arith) (omega arith) c.if-next-footing.true c.risen-next.ensures

-- `node::afford::beyond_means` meets its contract.
use native.Mathlib.Omega.{arith}
use Rattle.node.proofs.afford.beyond_means.Goals as goal

pub returns : goal.returns
returns c e m = omega (arith, c.too_dear.ensures.dear e m)

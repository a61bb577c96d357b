-- `constraint::keys::all` meets its contract: the set is 2 ^ count - 1.
use native.Mathlib.Omega.{arith}
use Rattle.bitset.proofs.Made.{one_shifted}
use Rattle.constraint.proofs.Picked.{below_all}
use Rattle.constraint.proofs.keys.all.Goals as goal

pub returns-then-count-eq64 : goal.returns-then-count-eq64
returns-then-count-eq64 c = rw c.if-count-eq64.true (below_all 64)

pub returns : goal.returns
returns c = rw (one_shifted c.args.count (omega arith)) (below_all c.args.count)

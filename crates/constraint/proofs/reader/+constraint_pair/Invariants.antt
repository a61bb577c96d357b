-- The measure of the cycle of calls {constraint, pair}: a constraint calls a pair with one depth less, and a pair calls constraints with the depth that it
-- has, so twice the depth left falls, with one more for a pair.
use Rattle.std.proofs.Common.{◌+◌, ◌*◌}
use Rattle.constraint.proofs.reader.+constraint_pair.Given as goal

abbrev pub decreases-constraint : goal.decreases-constraint
decreases-constraint l = 2 * l.left

abbrev pub decreases-pair : goal.decreases-pair
decreases-pair l = 2 * l.left + 1

-- `bitset::count` meets its contract: what the machine counts is the sum of the bits.
use mathlib.Core.Path.{sym}
use native.Mathlib.Omega.{arith}
use Rattle.bitset.proofs.Counts.{count_ones}
use Rattle.bitset.proofs.count.Goals as goal

pub returns : goal.returns
returns c = sym (count_ones c.args.set (omega arith))

-- `bitset::lowest` meets its contract: the zeros below a set's lowest bit that is 1 are the number of its lowest member, and of the empty set all 64 are zeros.
use mathlib.Core.Path.{ap, ◌∙◌}
use native.Mathlib.Omega.{arith}
use lib.Count.{count_trailing_zeros, trailing_of_zero}
use Rattle.bitset.proofs.Least.{lowest_trailing}
use Rattle.bitset.proofs.lowest.Goals as goal

pub returns : goal.returns
returns c = record { none = λ e. ap (count_trailing_zeros 64) e ∙ trailing_of_zero 64; some = lowest_trailing 64 c.args.set (omega arith) }

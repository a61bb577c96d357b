-- A lowest member is below 64.
use native.Mathlib.Omega.{arith}
use Rattle.bitset.proofs.Subsets.{lowest_below}
use Rattle.price.proofs.needs.lowest_of.Goals as goal

pub returns : goal.returns
returns c = lowest_below (omega arith) (c.lowest.ensures.some c.requires)

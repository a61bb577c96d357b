-- `search::choose::cheapest` meets its contract: the best so far is one of the choices.
use Rattle.bitset.proofs.MemberWalk.{walk_at, walk_on}
use Rattle.bitset.proofs.Sets.{member_below, not_empty}
use Rattle.search.proofs.choose.cheapest.Goals as goal

pub bounds-price-best : goal.bounds-price-best
bounds-price-best c =
    member_below 64 _ _ c.ranges.all.fits (c.loop-e.invariant.its (not_empty _ _ (walk_at c.loop-e.invariant.walk c.in-Some.ensures.steps)))

pub loop-e-preserved-then-price-e : goal.loop-e-preserved-then-price-e
loop-e-preserved-then-price-e c =
    record { walk = walk_on c.loop-e.invariant.walk c.in-Some.ensures.steps tt; its = λ some. walk_at c.loop-e.invariant.walk c.in-Some.ensures.steps }

pub loop-e-preserved : goal.loop-e-preserved
loop-e-preserved c = record { walk = walk_on c.loop-e.invariant.walk c.in-Some.ensures.steps tt; its = c.loop-e.invariant.its }

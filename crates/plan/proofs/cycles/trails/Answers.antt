-- `plan::cycles::trails` meets its contract. The loop walks through the members; its invariant: the rows hold the walks whose inner entries are members passed.
use Rattle.bitset.proofs.MemberWalk.{walk_on}
use Rattle.bitset.proofs.Subsets.{lowest_below}
use Rattle.plan.proofs.Trails.{close_on, close_end}
use Rattle.plan.proofs.cycles.trails.Goals as goal

pub loop-k-preserved : goal.loop-k-preserved
loop-k-preserved c = (
  walk_on c.loop-k.invariant.0 c.in-Some.ensures.steps tt,
  close_on _ _ c.in-Some.ensures.steps (lowest_below c.loop-k.invariant.0.fits c.in-Some.ensures.steps.lowest) c.loop-k.invariant.1 c.pass.ensures,
)

pub returns : goal.returns
returns c = close_end _ _ c.loop-k.invariant.1 c.in-None.ensures.steps.0

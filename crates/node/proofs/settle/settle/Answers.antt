-- `node::settle::settle` meets its contract: the entries passed are settled.
use Rattle.bitset.proofs.MemberWalk.{walk_on}
use Rattle.bitset.proofs.Subsets.{lowest_below}
use Rattle.catalogue.proofs.Spanned.{span_owner}
use Rattle.node.proofs.Settling.{settled_apart}
use Rattle.node.proofs.settle.settle.Goals as goal

pub returns-in_err-known : goal.returns-in_err-known
returns-in_err-known c slots spans =
    let below = lowest_below c.loop-e.invariant.walked.fits c.in-Some.ensures.steps.lowest in
    rw c.from_residual.ensures (c.in_err-known.ensures slots _ _ (λ s. span_owner spans _ s below) (c.loop-e.invariant.settled slots spans))

pub loop-e-preserved : goal.loop-e-preserved
loop-e-preserved c =
    let below = lowest_below c.loop-e.invariant.walked.fits c.in-Some.ensures.steps.lowest in
    record {
      walked = walk_on c.loop-e.invariant.walked c.in-Some.ensures.steps tt;
      settled = λ slots spans. c.in_ok-known.ensures slots _ _ (λ s. span_owner spans _ s below) (c.loop-e.invariant.settled slots spans);
    }

pub returns : goal.returns
returns c slots spans = settled_apart slots (c.loop-e.invariant.settled slots spans) c.ban_all.ensures

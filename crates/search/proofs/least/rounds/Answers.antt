-- `search::least::rounds` meets its contract: no round so far has found a plan, and the buffer is as it was.
use Rattle.search.proofs.Rounds.{round_ends, not_none}
use Rattle.search.proofs.least.rounds.Goals.{then-is_some-via-then-is_some, then-is_some-via-else-is_some+then-bound-top}
use Rattle.search.proofs.least.rounds.Goals as goal

pub returns-then-is_some : goal.returns-then-is_some
returns-then-is_some c =
    elim c.then-is_some.branch [
      | then-is_some-via-then-is_some w ↦
          round_ends c.loop-node.invariant.unwritten c.requires.above (λ n. absurd (not_none _ c.is_some.ensures w.if-is_some.true n)) c.round-best.ensures
      | then-is_some-via-else-is_some+then-bound-top w ↦
          round_ends c.loop-node.invariant.unwritten c.requires.above (λ n. w.if-bound-top.true) c.round-best.ensures
    ]

-- `node::narrow::narrow` meets its contract: the rounds so far have dropped nothing that a plan that is sought has.
use mathlib.Core.Path.{refl}
use Rattle.pacsolve.specs.Listing.{from_the_start}
use Rattle.node.proofs.Narrowing.{narrowed_then, ready_more}
use Rattle.node.proofs.narrow.narrow.Goals as goal

pub once-requires-clause-ready : goal.once-requires-clause-ready
once-requires-clause-ready c = ready_more c.requires.ready (((c.loop.invariant from_the_start).fewer _ refl).more)

pub returns-in_err-next : goal.returns-in_err-next
returns-in_err-next c q = rw c.from_residual.ensures (narrowed_then (c.loop.invariant q) (c.in_err-next.ensures q))

pub returns-then-eq : goal.returns-then-eq
returns-then-eq c q = narrowed_then (c.loop.invariant q) (c.in_ok-next.ensures q)

pub loop-preserved : goal.loop-preserved
loop-preserved c q = narrowed_then (c.loop.invariant q) (c.in_ok-next.ensures q)

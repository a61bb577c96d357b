-- `node::narrow::once` meets its contract.
use mathlib.Core.Path.{refl}
use Rattle.node.proofs.Narrowing.{settled_then, narrowed_by, narrowed_then, ready_more}
use Rattle.node.proofs.narrow.once.Goals as goal

pub returns-in_err-sorted : goal.returns-in_err-sorted
returns-in_err-sorted c q = rw c.from_residual.ensures (narrowed_by (c.in_err-sorted.ensures c.args.problem.now c.requires.facts))

pub returns-then-ne : goal.returns-then-ne
returns-then-ne c q = narrowed_by (c.in_ok-sorted.ensures c.args.problem.now c.requires.facts)

pub walked_through-requires-clause-rooted : goal.walked_through-requires-clause-rooted
walked_through-requires-clause-rooted c =
    ((c.in_ok-sorted.ensures c.args.problem.now c.requires.facts).fewer _ refl).more _ c.requires.ready.rooted

pub returns-in_err-walked : goal.returns-in_err-walked
returns-in_err-walked c q =
    rw c.from_residual-in_err-walked.ensures (narrowed_by (settled_then (c.in_ok-sorted.ensures c.args.problem.now c.requires.facts) c.in_err-walked.ensures))

pub returns-then-ne-2 : goal.returns-then-ne-2
returns-then-ne-2 c q = narrowed_by (settled_then (c.in_ok-sorted.ensures c.args.problem.now c.requires.facts) c.in_ok-walked.ensures)

pub afford-requires-clause-ready : goal.afford-requires-clause-ready
afford-requires-clause-ready c =
    let both = settled_then (c.in_ok-sorted.ensures c.args.problem.now c.requires.facts) c.in_ok-walked.ensures in
    ready_more c.requires.ready ((both.fewer _ refl).more)

pub returns : goal.returns
returns c q =
    narrowed_then (narrowed_by (settled_then (c.in_ok-sorted.ensures c.args.problem.now c.requires.facts) c.in_ok-walked.ensures)) (c.afford.ensures q)

-- `node::narrow::walked_through` meets its contract.
use mathlib.Core.Path.{refl}
use Rattle.node.proofs.Narrowing.{settled_then}
use Rattle.node.proofs.narrow.walked_through.Goals as goal

pub returns-in_err-standing : goal.returns-in_err-standing
returns-in_err-standing c =
    let q = c.args.problem.now in
    rw c.from_residual.ensures (c.in_err-standing.ensures q.entries.now q.slots.now q.objectives.now q.fits.now c.requires.spans)

pub returns-in_err-pointed : goal.returns-in_err-pointed
returns-in_err-pointed c =
    let q = c.args.problem.now in
    let one = c.in_ok-standing.ensures q.entries.now q.slots.now q.objectives.now q.fits.now c.requires.spans in
    rw c.from_residual-in_err-pointed.ensures
    (settled_then one (c.in_err-pointed.ensures q.entries.now q.slots.now q.objectives.now q.fits.now c.requires.spans))

pub returns : goal.returns
returns c =
    let q = c.args.problem.now in
    let one = c.in_ok-standing.ensures q.entries.now q.slots.now q.objectives.now q.fits.now c.requires.spans in
    let two = settled_then one (c.in_ok-pointed.ensures q.entries.now q.slots.now q.objectives.now q.fits.now c.requires.spans) in
    settled_then two
    (c.within_reach.ensures q.entries.now q.slots.now q.objectives.now q.fits.now q.settings c.requires.spans ((two.fewer _ refl).more _ c.requires.rooted))

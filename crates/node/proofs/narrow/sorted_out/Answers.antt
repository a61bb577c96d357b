-- `node::narrow::sorted_out` meets its contract.
use Rattle.node.proofs.Narrowing.{settled_then, settled_tabled}
use Rattle.node.proofs.narrow.sorted_out.Goals as goal

pub returns-in_err-settled : goal.returns-in_err-settled
returns-in_err-settled c q facts =
    rw c.from_residual.ensures (settled_tabled q.entries.now q.slots.now q.settings q.objectives.now q.fits.now (c.in_err-settled.ensures q.slots.now facts.spans))

pub returns : goal.returns
returns c q facts =
    settled_then (settled_tabled q.entries.now q.slots.now q.settings q.objectives.now q.fits.now (c.in_ok-settled.ensures q.slots.now facts.spans))
    (c.clash_banned.ensures q.entries.now q.slots.now q.objectives.now q.fits.now _ q.settings facts.clashes)

-- `node::grounded::risen` meets its contract. The loop's invariant: unless something is found, each entry passed is held up. The measure is the number of entries left.
use native.Mathlib.Omega.{arith}
use Rattle.node.proofs.Grounding.{rising_none, left_below, left_less, rising_found}
use Rattle.node.proofs.grounded.risen.Goals as goal

pub loop-rest-init : goal.loop-rest-init
loop-rest-init c = rising_none (omega arith) (omega arith)

pub held-requires : goal.held-requires
held-requires c = left_below c.loop-rest.invariant c.highest-e.ensures

pub loop-rest-smaller-then-not-held : goal.loop-rest-smaller-then-not-held
loop-rest-smaller-then-not-held c = left_less c.loop-rest.invariant c.highest-e.ensures c.without-rest.ensures

pub loop-rest-preserved-then-not-held : goal.loop-rest-preserved-then-not-held
loop-rest-preserved-then-not-held c = rising_found c.loop-rest.invariant c.highest-e.ensures c.without-rest.ensures c.with-found.ensures

pub loop-rest-smaller : goal.loop-rest-smaller
loop-rest-smaller c = left_less c.loop-rest.invariant c.highest-e.ensures c.without-rest.ensures

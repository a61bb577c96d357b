-- `node::order::earlier` meets its contract: what is left of the tables decides.
use mathlib.Core.Logic.{◌↔◌}
use Rattle.pacsolve.specs.Order.{Earlier}
use Rattle.node.proofs.order.earlier.Given as goal

abbrev pub invariant-loop-x : goal.invariant-loop-x
invariant-loop-x l = Earlier l.x-iterator.a.rest.now l.x-iterator.b.rest.now ↔ Earlier l.a l.b

-- `node::clash::equal_rows` meets its contract. The rows before `e` are stored.
use mathlib.Core.Path.{◌≡◌}
use Rattle.plan.specs.Pairs.{field}
use Rattle.node.proofs.Clashing.{RowsTo}
use Rattle.node.proofs.clash.equal_rows.Given as goal

abbrev pub invariant-loop-e : goal.invariant-loop-e
invariant-loop-e l = RowsTo l.entries (λ d f. field l.entries f l.k ≡ field l.entries d l.k) l.e l.all

-- `node::clash::equal_row` meets its contract. Of the entries before `f`, the row holds exactly those whose field `k` is that of `e`.
use mathlib.Core.Path.{◌≡◌}
use Rattle.plan.specs.Pairs.{field}
use Rattle.node.proofs.Clashing.{Upto}
use Rattle.node.proofs.clash.equal_row.Given as goal

abbrev pub invariant-loop-f : goal.invariant-loop-f
invariant-loop-f l = Upto (λ g. field l.entries g l.k ≡ field l.entries l.e l.k) l.f l.row

-- `search::table::held_in` meets its contract: the lowest choice is the only one, where there is just one.
use native.Mathlib.Omega.{arith}
use Rattle.node.proofs.Few.{lowest_fits, lowest_only}
use Rattle.basis.proofs.Answers.{holds}
use Rattle.search.proofs.table.held_in.Goals as goal

pub overflow_cast-result : goal.overflow_cast-result
overflow_cast-result c = omega (arith, lowest_fits (omega arith) c.lowest.ensures)

pub returns-then-has : goal.returns-then-has
returns-then-has c =
    record { due = λ e m o. lowest_only c.lowest.ensures o; other = λ n. absurd (n (holds c.has.ensures c.if-has.true)) }

-- `constraint::number::ended` meets its contract, by what the longest number tells of every number that the byte ends.
use native.Mathlib.Omega.{arith}
use Rattle.constraint.proofs.Fields.{ended_unnumbered, ended_never}
use Rattle.constraint.proofs.number.ended.Goals as goal

pub returns-in_err-value : goal.returns-in_err-value
returns-in_err-value c = rw c.from_residual.ensures (ended_unnumbered c.in_err-value.ensures)

pub returns-in_err-get : goal.returns-in_err-get
returns-in_err-get c =
    rw c.from_residual-in_err-get.ensures
    (ended_never c.in_ok-value.ensures c.requires (λ h. omega (arith, h.0, c.in_err-get.ensures.lookup)))

pub returns-then-branch-stop : goal.returns-then-branch-stop
returns-then-branch-stop c =
    ended_never c.in_ok-value.ensures c.requires (λ h. omega (arith, h.1, c.in_ok-get.ensures.lookup.3.1 0, c.if-branch-stop.true))

-- `constraint::bound::three` meets its contract: each number is read where the one before it ends, and the text fixes where that is.
use Rattle.constraint.proofs.Bounded.{closed_read, closed_no_first, closed_no_second, closed_no_third}
use Rattle.constraint.proofs.Texts.{part_from}
use Rattle.constraint.proofs.bound.three.Goals as goal

pub returns-in_err-major : goal.returns-in_err-major
returns-in_err-major c = rw c.from_residual.ensures (closed_no_first c.in_err-major.ensures)

pub returns-in_err-minor : goal.returns-in_err-minor
returns-in_err-minor c = rw c.from_residual-in_err-minor.ensures (closed_no_second c.in_ok-major.ensures (simp part_from at c.in_err-minor.ensures))

pub returns-in_err-patch : goal.returns-in_err-patch
returns-in_err-patch c =
    rw c.from_residual-in_err-patch.ensures
    (closed_no_third c.in_ok-major.ensures (simp part_from at c.in_ok-minor.ensures) (simp part_from at c.in_err-patch.ensures))

pub returns : goal.returns
returns c = closed_read c.in_ok-major.ensures (simp part_from at c.in_ok-minor.ensures) (simp part_from at c.in_ok-patch.ensures)

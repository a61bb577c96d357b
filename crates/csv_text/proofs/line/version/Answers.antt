-- `csv_text::line::version` meets its contract: three numbers, each in front of its sign, or not all three.
use Rattle.constraint.proofs.Texts.{part_from}
use Rattle.csv_text.proofs.Lines.{no_major, no_minor, no_patch, version_there}
use Rattle.csv_text.proofs.line.version.Goals as goal

pub returns-in_err-major : goal.returns-in_err-major
returns-in_err-major c = rw c.from_residual.ensures (no_major c.in_err-major.ensures)

pub returns-in_err-minor : goal.returns-in_err-minor
returns-in_err-minor c = rw c.from_residual-in_err-minor.ensures (no_minor c.in_ok-major.ensures (rw part_from at c.in_err-minor.ensures))

pub returns-in_err-patch : goal.returns-in_err-patch
returns-in_err-patch c =
    rw c.from_residual-in_err-patch.ensures
    (no_patch c.in_ok-major.ensures (rw part_from at c.in_ok-minor.ensures) (rw part_from at c.in_err-patch.ensures))

pub returns : goal.returns
returns c = version_there c.in_ok-major.ensures (rw part_from at c.in_ok-minor.ensures) (rw part_from at c.in_ok-patch.ensures)

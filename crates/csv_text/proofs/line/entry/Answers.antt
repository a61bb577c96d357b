-- `csv_text::line::entry` meets its contract: each field stands where the one before it ends, or the text begins with no entry's line.
use Rattle.basis.specs.Bytes.{bytes}
use Rattle.basis.proofs.Answers.{holds, fails}
use Rattle.constraint.proofs.Texts.{part_from}
use Rattle.csv_text.proofs.Words.{started, not_started}
use Rattle.csv_text.proofs.Lines.{entry_no_version, entry_no_weight, entry_no_comma, entry_no_end, entry_there}
use Rattle.csv_text.proofs.line.entry.Goals as goal

pub returns-in_err-release : goal.returns-in_err-release
returns-in_err-release c = rw c.from_residual-in_err-release.ensures (entry_no_version c.in_ok-name.ensures (rw part_from at c.in_err-release.ensures))

pub returns-in_err-weight : goal.returns-in_err-weight
returns-in_err-weight c =
    rw c.from_residual-in_err-weight.ensures
    (entry_no_weight c.in_ok-name.ensures (rw part_from at c.in_ok-release.ensures) (rw part_from at c.in_err-weight.ensures))

pub returns-then-not-starts_with : goal.returns-then-not-starts_with
returns-then-not-starts_with c =
    entry_no_comma c.in_ok-name.ensures (rw part_from at c.in_ok-release.ensures) (rw part_from at c.in_ok-weight.ensures)
    (not_started (bytes ",") (rw part_from at c.starts_with.ensures.value) c.if-not-starts_with.true)

pub returns-then-not-at_end : goal.returns-then-not-at_end
returns-then-not-at_end c =
    entry_no_end c.in_ok-name.ensures (rw part_from at c.in_ok-release.ensures) (rw part_from at c.in_ok-weight.ensures)
    (rw part_from at (fails c.at_end.ensures c.if-not-at_end.true))

pub returns : goal.returns
returns c =
    entry_there c.in_ok-name.ensures (rw part_from at c.in_ok-release.ensures) (rw part_from at c.in_ok-weight.ensures)
    (started (bytes ",") (rw part_from at c.starts_with.ensures.value) c.if-not-starts_with.false)
    (rw part_from at (holds c.at_end.ensures c.if-not-at_end.false))

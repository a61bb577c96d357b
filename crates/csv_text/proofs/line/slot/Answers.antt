-- `csv_text::line::slot` meets its contract: three commas, a name, a comma and a field, or the text begins with no slot's line.
use Rattle.basis.specs.Bytes.{bytes}
use Rattle.basis.proofs.Answers.{holds, fails}
use Rattle.constraint.proofs.Texts.{part_from}
use Rattle.csv_text.proofs.Words.{started}
use Rattle.csv_text.proofs.Lines.{slot_no_field, slot_no_end, slot_there}
use Rattle.csv_text.proofs.line.slot.Goals.{then-constraint-eq0-via-then-constraint-eq0, then-constraint-eq0-via-else-constraint-eq0+then-not-at_end}
use Rattle.csv_text.proofs.line.slot.Goals as goal

pub returns-then-constraint-eq0 : goal.returns-then-constraint-eq0
returns-then-constraint-eq0 c =
    let opened = started (bytes ",,,") c.starts_with.ensures.value c.if-not-starts_with.false in
    elim c.then-constraint-eq0.branch [
      | then-constraint-eq0-via-then-constraint-eq0 w ↦
          slot_no_field opened (rw part_from at c.in_ok-name.ensures) (rw part_from at c.plain_bytes-constraint.ensures) w.if-constraint-eq0.true
      | then-constraint-eq0-via-else-constraint-eq0+then-not-at_end w ↦
          slot_no_end opened (rw part_from at c.in_ok-name.ensures) (rw part_from at c.plain_bytes-constraint.ensures)
          (rw part_from at (fails w.at_end.ensures w.if-not-at_end.true))
    ]

pub returns : goal.returns
returns c =
    slot_there (started (bytes ",,,") c.starts_with.ensures.value c.if-not-starts_with.false) (rw part_from at c.in_ok-name.ensures)
    (rw part_from at c.plain_bytes-constraint.ensures) c.if-constraint-eq0.false (rw part_from at (holds c.at_end.ensures c.if-not-at_end.false))

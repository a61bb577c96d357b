-- `csv_text::count::advance` meets its contract: each way out by what the line reader found.
use native.Mathlib.Omega.{arith}
use Rattle.constraint.proofs.Texts.{part_from}
use Rattle.csv_text.proofs.Counted.{no_line, first_slot, entry_passed, slot_passed, counts_small}
use Rattle.csv_text.proofs.count.advance.Goals as goal

pub returns-in_err-entry : goal.returns-in_err-entry
returns-in_err-entry c = rw c.from_residual.ensures (no_line c.requires (rw part_from at c.in_err-entry.ensures))

pub overflow_add-result-in-Entry : goal.overflow_add-result-in-Entry
overflow_add-result-in-Entry c = omega (arith, counts_small c.requires)

pub returns-then-here-eq0 : goal.returns-then-here-eq0
returns-then-here-eq0 c = first_slot c.requires c.if-here-eq0.true (rw (c.in-Slot.is, part_from) at c.in_ok-entry.ensures)

pub overflow_add-result-in-Slot-2 : goal.overflow_add-result-in-Slot-2
overflow_add-result-in-Slot-2 c = omega (arith, counts_small c.requires)

pub returns-in-Entry : goal.returns-in-Entry
returns-in-Entry c = entry_passed _ c.requires.1 (rw (c.in-Entry.is, part_from) at c.in_ok-entry.ensures)

pub returns-else-here-eq0 : goal.returns-else-here-eq0
returns-else-here-eq0 c = slot_passed _ c.requires.1 c.if-here-eq0.false (rw (c.in-Slot.is, part_from) at c.in_ok-entry.ensures)

-- `report::members::next` meets its contract: the line that is read is the next line of the text, so there is room for its record.
use native.Mathlib.Omega.{arith}
use Rattle.constraint.proofs.Texts.{part_from}
use Rattle.report.proofs.Telling.{member_room, entries_before, tells_entry, tells_slot, no_line_left}
use Rattle.report.proofs.members.next.Goals as goal

pub member-requires : goal.member-requires
member-requires c = rw part_from (member_room c.requires.telling c.requires.more (rw (c.in-Some-Entry.field-0-is, part_from) at c.in-Some-Entry.ensures))

pub overflow_add-result-in-Some-Entry : goal.overflow_add-result-in-Some-Entry
overflow_add-result-in-Some-Entry c = omega (arith, c.requires.telling.declared, entries_before c.requires.telling c.requires.more)

pub returns-in-Some-Entry : goal.returns-in-Some-Entry
returns-in-Some-Entry c = tells_entry c.requires.more (rw (c.in-Some-Entry.field-0-is, part_from) at c.in-Some-Entry.ensures) (rw part_from at c.member.ensures)

pub returns-in-Some-Slot : goal.returns-in-Some-Slot
returns-in-Some-Slot c = tells_slot c.requires.more (rw (c.in-Some-Slot.field-0-is, part_from) at c.in-Some-Slot.ensures)

pub returns-in-None : goal.returns-in-None
returns-in-None c = absurd (no_line_left c.requires (rw part_from at c.in-None.ensures))

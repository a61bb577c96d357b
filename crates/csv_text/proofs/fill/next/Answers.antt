-- `csv_text::fill::next` meets its contract: the line that is read is the next line of the text, so there is room for it.
use Rattle.constraint.proofs.Texts.{part_from}
use Rattle.csv_text.proofs.Filled.{entry_room, slot_room, fills_entry, fills_slot, no_line_left}
use Rattle.csv_text.proofs.fill.next.Goals as goal

pub declare-requires : goal.declare-requires
declare-requires c = entry_room c.requires.filling c.requires.more (rw (c.in-Some-Entry.field-0-is, part_from) at c.in-Some-Entry.ensures)

pub want-requires : goal.want-requires
want-requires c = slot_room c.requires.filling c.requires.more (rw (c.in-Some-Slot.field-0-is, part_from) at c.in-Some-Slot.ensures)

pub returns-in-Some-Entry : goal.returns-in-Some-Entry
returns-in-Some-Entry c = fills_entry c.requires.more (rw (c.in-Some-Entry.field-0-is, part_from) at c.in-Some-Entry.ensures) c.declare.ensures

pub returns-in-Some-Slot : goal.returns-in-Some-Slot
returns-in-Some-Slot c = fills_slot c.requires.more (rw (c.in-Some-Slot.field-0-is, part_from) at c.in-Some-Slot.ensures) c.want.ensures

pub returns-in-None : goal.returns-in-None
returns-in-None c = absurd (no_line_left c.requires (rw part_from at c.in-None.ensures))

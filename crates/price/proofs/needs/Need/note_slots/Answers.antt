-- The sets that wait are needed.
use mathlib.Core.Path.{refl}
use native.Mathlib.Omega.{arith}
use Rattle.price.proofs.Needed.{waiting_more, needed_slot}
use Rattle.price.proofs.needs.Need.note_slots.Goals as goal

pub loop-s-preserved : goal.loop-s-preserved
loop-s-preserved c =
    waiting_more c.loop-s.invariant c.note.ensures (needed_slot c.requires.e_small c.requires.member (omega arith) c.loop-s-test.true refl)

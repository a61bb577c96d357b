-- `catalogue::refusals::shape_refusal` meets its contract: whichever test of the slot table comes out true, those before it came out false.
use Rattle.catalogue.proofs.Order.{applies, passes}
use Rattle.catalogue.proofs.refusals.shape_refusal.Goals as goal
use Rattle.catalogue.proofs.refusals.shape_refusal.Goals.{then-slots_misshapen-via-then-slots_misshapen as first}
use Rattle.catalogue.proofs.refusals.shape_refusal.Goals.{then-slots_misshapen-via-else-slots_misshapen+then-owner_missing as second}
use Rattle.catalogue.proofs.refusals.shape_refusal.Goals.{then-slots_misshapen-via-else-slots_misshapen+else-owner_missing+then-owners_fall as third}
use Rattle.catalogue.proofs.refusals.shape_refusal.Goals.{then-slots_misshapen-via-else-slots_misshapen+else-owner_missing+else-owners_fall+then-marks_cross as fourth}
use Rattle.catalogue.proofs.refusals.shape_refusal.Goals.{then-slots_misshapen-via-else-slots_misshapen+else-owner_missing+else-owners_fall+else-marks_cross+then-end_past_text as fifth}

pub returns-then-slots_misshapen : goal.returns-then-slots_misshapen
returns-then-slots_misshapen c =
    passes c.entries_misshapen.ensures c.if-entries_misshapen.false
    (passes (rw c.of.ensures at c.entry_twice.ensures) c.if-entry_twice.false
    (elim c.then-slots_misshapen.branch [
      | first w ↦ applies c.slots_misshapen.ensures w.if-slots_misshapen.true
      | second w ↦ passes c.slots_misshapen.ensures w.if-slots_misshapen.false (applies w.owner_missing.ensures w.if-owner_missing.true)
      | third w ↦
          passes c.slots_misshapen.ensures w.if-slots_misshapen.false
          (passes w.owner_missing.ensures w.if-owner_missing.false (applies w.owners_fall.ensures w.if-owners_fall.true))
      | fourth w ↦
          passes c.slots_misshapen.ensures w.if-slots_misshapen.false
          (passes w.owner_missing.ensures w.if-owner_missing.false
          (passes w.owners_fall.ensures w.if-owners_fall.false (applies w.marks_cross.ensures w.if-marks_cross.true)))
      | fifth w ↦
          passes c.slots_misshapen.ensures w.if-slots_misshapen.false
          (passes w.owner_missing.ensures w.if-owner_missing.false
          (passes w.owners_fall.ensures w.if-owners_fall.false
          (passes w.marks_cross.ensures w.if-marks_cross.false (applies w.end_past_text.ensures w.if-end_past_text.true))))
    ]))

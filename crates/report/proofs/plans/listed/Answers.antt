-- `report::plans::listed` meets its contract: the plan buffer has one byte per slot.
use mathlib.Core.Path.{sym, ◌∙◌}
use Prim.Native.Nat.{◌/◌}
use native.Mathlib.Omega.{arith}
use lib.ListN.{length, replicate}
use lib.Seq.{length-take-le}
use Rattle.report.proofs.Reading.{wanted, lends}
use Rattle.report.proofs.plans.listed.Goals as goal

pub slice_bounds-buffer-end : goal.slice_bounds-buffer-end
slice_bounds-buffer-end c = omega (arith, wanted c.requires, c.requires.limited.few_slots)

pub slice_bounds-table-end : goal.slice_bounds-table-end
slice_bounds-table-end c = sym (length-take-le (length c.args.slots.now / 4) (replicate 256 0) (omega (arith, wanted c.requires, c.requires.limited.few_slots)))

pub answered-requires : goal.answered-requires
answered-requires c =
    record {
      lines = c.requires.lines;
      catalogued = record { accepted = c.requires.accepted; limited = c.requires.limited; lends = lends c.requires };
      size = length-take-le (length c.args.slots.now / 4) (replicate 256 0) (omega (arith, wanted c.requires, c.requires.limited.few_slots)) ∙ wanted c.requires;
      empty = c.requires.empty;
    }

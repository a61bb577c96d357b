-- `report::output` meets its contract: a refusal of read is all that is printed, and what was read is a catalogue.
use mathlib.Core.Path.{refl}
use native.Mathlib.Omega.{arith}
use Rattle.report.proofs.Reading.{read_refused, listable, printed}
use Rattle.report.proofs.output.Goals.{in-Err, in-Ok}
use Rattle.report.proofs.output.Goals as goal

pub listed-requires : goal.listed-requires
listed-requires c = listable c.read.ensures c.in-Ok.is (record { unfilled = refl; roomy = omega (arith, c.well_formed) })

pub returns : goal.returns
returns c =
    elim c.match-read.branch [
      | in-Err w ↦ rw w.output-is (printed refl (read_refused c.read.ensures w.in-Err.is w.refusal.ensures))
      | in-Ok w ↦ rw w.output-is (printed refl w.listed.ensures)
    ]

-- `report::put::Output::refusal` meets its contract: the word, and behind it the number.
use native.Mathlib.Omega.{arith}
use Rattle.report.proofs.Adding.{adds_both}
use Rattle.report.proofs.put.Output.refusal.Goals as goal

pub returns : goal.returns
returns c = adds_both (omega (arith, c.requires)) c.put.ensures (rw c.from.ensures at c.line.ensures)

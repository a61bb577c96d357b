-- `report::put::Output::member` meets its contract: three parts put one behind the other.
use native.Mathlib.Omega.{arith}
use Rattle.report.proofs.Adding.{adds_both}
use Rattle.report.proofs.put.Output.member.Goals as goal

pub returns : goal.returns
returns c = adds_both (omega (arith, c.requires.room)) (adds_both (omega (arith, c.requires.room)) c.put.ensures c.put-2.ensures) c.put-3.ensures

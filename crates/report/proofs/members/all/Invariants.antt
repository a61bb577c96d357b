-- `report::members::all` meets its contract. The loop's invariant: of the text's lines some are passed, and the records of their members are put. The measure is what is left of the text.
use mathlib.Core.List.{List}
use Prim.Native.Nat.{◌-◌}
use lib.ListN.{length}
use Rattle.csv_text.specs.Layout.{Line}
use Rattle.report.specs.Telling.{Telling}
use Rattle.report.proofs.members.all.Given as goal

abbrev pub invariant-loop-here : goal.invariant-loop-here
invariant-loop-here l =
    (lines : List Line) × (done : List Line) × Telling l.text l.plan l.initial.output lines done l.here l.output

abbrev pub decreases-loop-here : goal.decreases-loop-here
decreases-loop-here l = length l.text - l.here.at

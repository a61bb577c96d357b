-- `csv_text::count::lines` meets its contract. The loop's invariant: some lines are passed and counted. The measure is what is left of the text.
use Prim.Native.Nat.{◌-◌}
use mathlib.Core.List.{List}
use lib.ListN.{length}
use Rattle.csv_text.specs.Layout.{Line}
use Rattle.csv_text.specs.Walk.{Counting}
use Rattle.csv_text.proofs.count.lines.Given as goal

abbrev pub invariant-loop-here : goal.invariant-loop-here
invariant-loop-here l = (done : List Line) × Counting l.text done l.here

abbrev pub decreases-loop-here : goal.decreases-loop-here
decreases-loop-here l = length l.text - l.here.at

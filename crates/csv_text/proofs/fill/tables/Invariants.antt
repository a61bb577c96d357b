-- `csv_text::fill::tables` meets its contract. The loop's invariant: of the text's lines some are passed, and their numbers stand in front of what was lent. The measure is what is left of the text.
use mathlib.Core.Path.{◌≡◌}
use mathlib.Core.List.{List}
use Prim.Native.Nat.{◌-◌}
use lib.ListN.{length}
use Rattle.csv_text.specs.Layout.{Line}
use Rattle.csv_text.specs.Filling.{Filling}
use Rattle.csv_text.proofs.fill.tables.Given as goal

abbrev pub invariant-loop-here : goal.invariant-loop-here
invariant-loop-here l =
    (lines : List Line) × (done : List Line) × Filling l.text l.initial.entries l.initial.slots lines done l.here l.names l.entries l.slots
    × (length l.entries ≡ length l.initial.entries) × (length l.slots ≡ length l.initial.slots)

abbrev pub decreases-loop-here : goal.decreases-loop-here
decreases-loop-here l = length l.text - l.here.at

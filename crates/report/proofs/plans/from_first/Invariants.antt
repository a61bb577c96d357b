-- `report::plans::from_first` meets its contract. The loop's invariant: with what the loop began with shown, so is what it has come to. The measure is how many may follow.
use Prim.Native.Nat.{◌-◌}
use Rattle.report.specs.Telling.{Carries}
use Rattle.report.proofs.plans.from_first.Given as goal

abbrev pub invariant-loop-here : goal.invariant-loop-here
invariant-loop-here l = Carries l.lent l.initial.table l.initial.here l.initial.output l.table l.here l.output

abbrev pub decreases-loop-here : goal.decreases-loop-here
decreases-loop-here l = 8 - l.here.number

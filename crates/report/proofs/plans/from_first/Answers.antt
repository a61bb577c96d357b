-- `report::plans::from_first` meets its contract. The loop's invariant: with what the loop began with shown, so is what it has come to. The measure is how many may follow.
use mathlib.Core.List.{[]}
use mathlib.Core.Logic.{inl}
use Rattle.report.proofs.Showing.{first_shown, ended_all, shown_all}
use Rattle.report.proofs.plans.from_first.Goals as goal

pub next-requires : goal.next-requires
next-requires c =
    let now = c.loop-here.invariant c.requires.lines _ [] c.requires.more (first_shown c.requires c.put.ensures c.all.ensures) in
    record { lines = c.requires.lines; start = _; before = now.0; more = now.1; showing = now.2; fewer = c.loop-here-test.true }

pub returns-in_default : goal.returns-in_default
returns-in_default c =
    let now = c.loop-here.invariant c.requires.lines _ [] c.requires.more (first_shown c.requires c.put.ensures c.all.ensures) in
    ended_all now.2 c.in_default.ensures

pub returns : goal.returns
returns c =
    let now = c.loop-here.invariant c.requires.lines _ [] c.requires.more (first_shown c.requires c.put.ensures c.all.ensures) in
    shown_all now.2 (inl c.loop-here-test.false)

-- `report::members::all` meets its contract. The loop's invariant: of the text's lines some are passed, and the records of their members are put. The measure is what is left of the text.
use mathlib.Core.List.{[], ◌∷◌, ◌++◌}
use Rattle.report.proofs.Telling.{telling_none, all_told}
use Rattle.report.proofs.members.all.Goals as goal

pub loop-here-init : goal.loop-here-init
loop-here-init c = (c.requires.lines, [], telling_none c.requires)

pub loop-here-preserved : goal.loop-here-preserved
loop-here-preserved c =
    let r = c.next-here.ensures.told _ c.loop-here.invariant.0 c.loop-here.invariant.1 c.loop-here.invariant.2 in
    (c.loop-here.invariant.0, c.loop-here.invariant.1 ++ (r.0 ∷ []), r.1)

pub returns : goal.returns
returns c = all_told c.loop-here.invariant.2 c.loop-here-test.false

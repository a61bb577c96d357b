-- `csv_text::count::lines` meets its contract. The loop's invariant: some lines are passed and counted. The measure is what is left of the text.
use mathlib.Core.List.{[], ◌∷◌, ◌++◌}
use native.Mathlib.Omega.{arith}
use Rattle.basis.proofs.Answers.{holds, fails}
use Rattle.csv_text.proofs.Counted.{text_too_long, not_headed, counting_none, all_counted}
use Rattle.csv_text.proofs.count.lines.Goals.{then-text-gt65535-via-then-text-gt65535, then-text-gt65535-via-else-text-gt65535+then-not-headed}
use Rattle.csv_text.proofs.count.lines.Goals as goal

pub returns-then-text-gt65535 : goal.returns-then-text-gt65535
returns-then-text-gt65535 c =
    elim c.then-text-gt65535.branch [
      | then-text-gt65535-via-then-text-gt65535 w ↦ text_too_long w.if-text-gt65535.true
      | then-text-gt65535-via-else-text-gt65535+then-not-headed w ↦ not_headed (fails w.headed.ensures w.if-not-headed.true)
    ]

pub loop-here-init : goal.loop-here-init
loop-here-init c = ([], counting_none (holds c.headed.ensures c.if-not-headed.false) c.if-text-gt65535.false)

pub overflow_add-here : goal.overflow_add-here
overflow_add-here c = omega (arith, c.loop-here.invariant.1.walked.within, c.loop-here.invariant.1.short)

pub advance-requires : goal.advance-requires
advance-requires c = (c.loop-here.invariant, c.loop-here-test.true)

pub loop-here-preserved : goal.loop-here-preserved
loop-here-preserved c =
    let r = c.in_ok-here.ensures.counting c.loop-here.invariant.0 c.loop-here.invariant.1 in
    (c.loop-here.invariant.0 ++ (r.0 ∷ []), r.1)

pub returns : goal.returns
returns c = all_counted c.loop-here.invariant.1 c.loop-here-test.false

-- `search::pick_slot::look_at` meets its contract: each answer is told by the owner, the number of choices and whether the only one is a must.
use mathlib.Core.Path.{refl}
use Rattle.node.proofs.Few.{of_one, of_several}
use Rattle.basis.proofs.Answers.{holds, fails}
use Rattle.search.specs.Picks.{wide, narrow}
use Rattle.search.proofs.pick_slot.look_at.Goals as goal

pub returns-in-Several : goal.returns-in-Several
returns-in-Several c =
    let two = of_several c.held_by.ensures c.in-Several.is in
    wide (holds c.has.ensures c.if-not-has.false) two.2 two.3 two.4 refl

pub returns-else-has : goal.returns-else-has
returns-else-has c =
    narrow (holds c.has.ensures c.if-not-has.false)
    (of_one c.held_by.ensures c.in-One.is).1 (fails c.has-in-One.ensures c.if-has.false) refl

-- `search::keep::keep` meets its contract.
use borrow.Kind.Array.{good_length, e_int}
use mir.Syntax.{w8}
use Rattle.basis.proofs.Answers.{holds, fails}
use Rattle.plan.specs.Posing.{problem_by}
use Rattle.node.proofs.Slotted.{tabled_slotted}
use Rattle.search.proofs.Keeping.{Leaf, kept_unsound, kept_other, kept_new, judged_unsound, judged_sound}
use Rattle.search.proofs.keep.keep.Goals.{After-table_of-table}
use Rattle.search.proofs.keep.keep.Goals as goal

leaf : (c : After-table_of-table)
    → Leaf (problem_by c.args.problem.now) c.args.problem.now.slots.now c.args.given c.args.node c.args.choices.now c.args.limit c.args.plan.now c.table_of-table.result
leaf c =
    record {
      slotted = tabled_slotted _ _ _ _ _;
      ready = c.requires.ready;
      given_costed = c.requires.given_costed;
      settles = c.requires.settles;
      tabled = c.table_of-table.ensures;
      long = good_length (e_int w8) 256 c.table_of-table.result _ c.table_of-table.type_inv;
    }

pub returns-in_default : goal.returns-in_default
returns-in_default c = kept_unsound (leaf (goal.at.returns-in_default c).After-table_of-table) (judged_unsound c.judge.ensures c.in_default.is)

pub returns-then-not-sought : goal.returns-then-not-sought
returns-then-not-sought c =
    kept_other (leaf (goal.at.returns-then-not-sought c).After-table_of-table) (judged_sound c.judge.ensures c.in-Ok.is).1 (fails c.sought.ensures c.if-not-sought.true)

pub returns : goal.returns
returns c =
    let j = judged_sound c.judge.ensures c.in-Ok.is in
    kept_new (leaf (goal.at.returns c).After-table_of-table) j.1 j.0 (holds c.sought.ensures c.if-not-sought.false) c.copy_from_slice.ensures.after

-- `node::order::earlier` meets its contract: what is left of the tables decides.
use mathlib.Core.Logic.{inl, inr, ⊎_elim}
use Rattle.basis.proofs.Answers.{answer_no}
use Rattle.basis.proofs.Decide.{decides_by, decides_lt}
use Rattle.node.proofs.Compared.{same_first, other_first, ended_first}
use Rattle.node.proofs.order.earlier.Goals as goal

pub returns-then-x-y : goal.returns-then-x-y
returns-then-x-y c =
    let heads = c.in-Some.ensures.steps in
    let decide = other_first c.if-x-y.true in
    decides_by (λ l. c.loop-x.invariant.0 (rw (heads.0, heads.1) (decide.0 l))) (λ e. decide.1 (rw (heads.0, heads.1) at (c.loop-x.invariant.1 e)))
    (decides_lt _ _)

pub loop-x-preserved : goal.loop-x-preserved
loop-x-preserved c =
    let heads = c.in-Some.ensures.steps in
    let on = same_first c.if-x-y.false in
    (λ e. c.loop-x.invariant.0 (rw (heads.0, heads.1) (on.0 e)), λ e. on.1 (rw (heads.0, heads.1) at (c.loop-x.invariant.1 e)))

pub returns : goal.returns
returns c =
    answer_no (λ e. ended_first _ _ (⊎_elim (λ x. inl x.1.0) (λ x. inr x.1.0) c.in-None.ensures.steps) (c.loop-x.invariant.1 e))

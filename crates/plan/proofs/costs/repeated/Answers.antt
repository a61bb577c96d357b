-- `plan::costs::repeated` meets its contract. The loop walks through the members before e; its invariant: none passed is of e's package.
use Rattle.bitset.proofs.MemberWalk.{walk_on}
use Rattle.plan.proofs.costs.repeated.Goals as goal

pub loop-d-preserved : goal.loop-d-preserved
loop-d-preserved c =
    walk_on c.loop-d.invariant c.in-Some.ensures.steps
    (λ same. c.if-entry_field-package.false (rw (c.entry_field.ensures, c.entry_field-package.ensures) same))

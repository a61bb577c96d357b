-- `node::ceiling::ceiling` meets its contract.
use borrow.Author.Rules.{rules}
use Prim.Native.Nat.{◌/◌, ◌≤◌}
use lib.ListN.{length}
use Rattle.basis.proofs.Answers.{fails}
use Rattle.node.proofs.Lower.{ceils_bound, ceils_tied, ceils_past}
use Rattle.node.proofs.Slotted.{tabled_slotted}
use Rattle.node.proofs.ceiling.ceiling.Goals as goal

pub returns-in-Under-clause-over : goal.returns-in-Under-clause-over
returns-in-Under-clause-over c =
    let facts = c.requires.facts in
    rw (c.in-Under.is, c.worth.ensures.0) (ceils_bound _ _ facts.scaled (record { entries = facts.few; weight = facts.light }) _ _ c.in-Under.bound)

pub returns-then-earlier-clause-over : goal.returns-then-earlier-clause-over
returns-then-earlier-clause-over c =
    let facts = c.requires.facts in
    let costed = rw c.in-Before.is at c.requires.ready.costed in
    rw (c.in-Before.is, c.worth-top.ensures.0)
    (ceils_tied _ _ facts.scaled (record { entries = facts.few; weight = facts.light }) _ _ c.in-Before.best costed _)

pub returns-else-earlier-clause-over : goal.returns-else-earlier-clause-over
returns-else-earlier-clause-over c =
    let q = c.args.problem.now in
    let facts = c.requires.facts in
    let costed = rw c.in-Before.is at c.requires.ready.costed in
    let long : length q.slots.now / 4 ≤ length c.low_table-table.result = search rules in
    rw (c.in-Before.is, c.worth-top.ensures.0)
    (ceils_past _ _ facts.scaled (record { entries = facts.few; weight = facts.light }) _ _ c.in-Before.best costed _ q.slots.now
    (tabled_slotted q.entries.now q.slots.now q.settings q.objectives.now q.fits.now) c.low_table-table.result c.low_table-table.ensures long
    (λ h. fails c.earlier.ensures c.if-earlier.false (rw c.requires.ready.plan_sized h)))

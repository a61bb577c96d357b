-- `node::order::ahead` meets its contract.
use borrow.Author.Rules.{rules}
use mathlib.Core.Path.{◌≡◌}
use mathlib.Core.Logic.{inl}
use Rattle.basis.proofs.Answers.{answer_yes, answer_no, holds, fails}
use Rattle.node.proofs.Preceding.{tied_ahead, not_ahead}
use Rattle.node.proofs.order.ahead.Goals as goal

pub returns-then-cheaper : goal.returns-then-cheaper
returns-then-cheaper c = rw c.if-cheaper.true (answer_yes (inl (holds c.cheaper.ensures c.if-cheaper.true)))

pub returns-then-eq : goal.returns-then-eq
returns-then-eq c = let same : c.args.a ≡ c.args.b = search rules in tied_ahead same c.earlier.ensures

pub returns-else-eq : goal.returns-else-eq
returns-else-eq c =
    let other : ¬ (c.args.a ≡ c.args.b) = search rules in rw c.if-eq.false (answer_no (not_ahead (fails c.cheaper.ensures c.if-cheaper.false) other))

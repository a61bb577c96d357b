-- `node::holds::held_by` meets its contract: without its lowest member a set is empty exactly if it had no other.
use mathlib.Core.Path.{refl}
use native.Mathlib.Omega.{arith}
use Rattle.bitset.proofs.Sets.{member_below}
use Rattle.node.specs.Members.{one, several}
use Rattle.node.proofs.Few.{only_member, second_member}
use Rattle.node.proofs.holds.held_by.Goals as goal

pub returns-then-without-eq0 : goal.returns-then-without-eq0
returns-then-without-eq0 c =
    let low = c.lowest-e.ensures.some c.if-set-eq0.false in
    one (member_below 64 _ _ (omega arith) low.member) (only_member _ _ _ (omega arith) low.member c.without.ensures c.if-without-eq0.true) refl

pub returns : goal.returns
returns c =
    let low = c.lowest-e.ensures.some c.if-set-eq0.false in
    let other = second_member _ _ _ (omega arith) low.member c.without.ensures c.if-without-eq0.false in
    several other.1 low.member other.2 refl

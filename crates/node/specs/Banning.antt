-- What banning entries makes of a node.
use Rattle.std.specs.Prelude.{◌≡◌, Option, Some, None, ◌⊎◌, ◌↔◌, ℕ}
use Rattle.bitset.specs.Bits.{Member}
use Rattle.node.specs.declared.Node.{Node}

-- the node with more entries banned, where nothing must be there that must not
pub record MoreBanned (node : Node) (out : ℕ) (r : Node) : Type 0 where
  pub must : r.must ≡ node.must
  pub ban : (e : ℕ) → Member r.ban e ↔ (Member node.ban e ⊎ Member out e)
  pub apart : (e : ℕ) → Member r.must e → ¬ Member r.ban e

-- that node, or none, where something must be there that must not
pub data Bans (node : Node) (out : ℕ) (r : Option Node) : Type 0 where
  none_left : (e : ℕ) → Member node.must e → Member node.ban e ⊎ Member out e → r ≡ None → Bans node out r
  some_left : {n : Node} → MoreBanned node out n → r ≡ Some n → Bans node out r

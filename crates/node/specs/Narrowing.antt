-- What narrowing a node is handed and what it promises.
use Rattle.std.specs.Prelude.{◌≡◌, Option, Some, List, ℕ, ◌≤◌, length}
use Rattle.bitset.specs.Bits.{Member}
use Rattle.pacsolve.specs.Problem.{Problem}
use Rattle.pacsolve.specs.Plan.{Plan}
use Rattle.pacsolve.specs.Listing.{Asked}
use Rattle.node.specs.declared.Limit.{Limit as ALimit}
use Rattle.node.specs.declared.Node.{Node}
use Rattle.node.specs.Sought.{Limit, Inside, Sought, CostedLimit}
use Rattle.node.specs.Steps.{NoneGained, Fewer}

-- the problem is of the size that tables have; the plan of the limit, if it is one, has its own cost, and the buffer has the right size for its table; and the root must
-- be there
pub record Ready (p : Problem) (node : Node) (limit : ALimit) (buffer : List ℕ) : Type 0 where
  pub entries : p.entries ≤ 64
  pub slots : p.slots ≤ 256
  pub plan_sized : length buffer ≡ p.slots
  pub costed : CostedLimit p limit
  pub rooted : Member node.must p.root

-- THE PROMISE of narrowing a node: no plan that is sought is lost, and where no node is left there is none; nothing is gained
pub record Narrowed (p : Problem) (q : Asked) (lim : Limit) (node : Node) (choices : List ℕ) (after : Option Node) (choices' : List ℕ) : Type 0 where
  pub less : NoneGained choices choices'
  pub fewer : (n : Node) → after ≡ Some n → Fewer node.must choices n.must choices'
  pub keeps : (P : Plan) → Sought p q lim node.must node.ban choices P → (n : Node) × (after ≡ Some n) × Inside p n.must n.ban choices' P

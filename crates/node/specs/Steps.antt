-- What a step of narrowing promises: nothing is gained, and no good plan inside the node is lost.
use Rattle.std.specs.Prelude.{◌≡◌, Option, Some, List, ◌↔◌, ℕ, length, get_or}
use Rattle.bitset.specs.Bits.{Member}
use Rattle.pacsolve.specs.Problem.{Problem}
use Rattle.pacsolve.specs.Plan.{Plan}
use Rattle.pacsolve.specs.Listing.{Good}
use Rattle.node.specs.declared.Node.{Node}
use Rattle.node.specs.Sought.{Inside}

-- e and nothing else is a member
abbrev pub Only : ℕ → ℕ → Type 0
Only set e = (d : ℕ) → Member set d ↔ (d ≡ e)

-- no slot has gained a choice
pub record NoneGained (choices choices' : List ℕ) : Type 0 where
  pub fewer : (s e : ℕ) → Member (get_or choices' s 0) e → Member (get_or choices s 0) e
  pub sized : length choices' ≡ length choices

-- a node after a step: all that it had to have it has, and no slot has gained a choice
pub record Fewer (must : ℕ) (choices : List ℕ) (must' : ℕ) (choices' : List ℕ) : Type 0 where
  pub more : (e : ℕ) → Member must e → Member must' e
  pub fewer : (s e : ℕ) → Member (get_or choices' s 0) e → Member (get_or choices s 0) e
  pub sized : length choices' ≡ length choices

-- no good plan inside the node is lost; where no node is left there is none
pub record Settled (p : Problem) (before : Node) (after : Option Node) (choices choices' : List ℕ) : Type 0 where
  pub less : NoneGained choices choices'
  pub fewer : (n : Node) → after ≡ Some n → Fewer before.must choices n.must choices'
  pub keeps : (P : Plan) → Good p P → Inside p before.must before.ban choices P → (n : Node) × (after ≡ Some n) × Inside p n.must n.ban choices' P

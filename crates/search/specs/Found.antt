-- What the search for the least plan is handed and what it promises, in all and in one round.
use Rattle.std.specs.Prelude.{◌≡◌, List, ℕ, suc, ◌≤◌, ◌<◌, length, Option, Some, None}
use Rattle.bitset.specs.Bits.{Member}
use Rattle.pacsolve.specs.Problem.{Problem}
use Rattle.pacsolve.specs.Plan.{Plan, plan}
use Rattle.pacsolve.specs.declared.Cost.{Cost}
use Rattle.pacsolve.specs.declared.Listed.{Listed}
use Rattle.pacsolve.specs.Cost.{cost, numbers}
use Rattle.pacsolve.specs.Order.{Earlier}
use Rattle.pacsolve.specs.Listing.{Good, Asked, Wanted, Least, NoneLeft}
use Rattle.price.specs.Worth.{Apart}
use Rattle.node.specs.declared.Given.{Given}
use Rattle.node.specs.declared.Node.{Node}
use Rattle.node.specs.Sought.{Inside, CostedGiven}

-- what the search for the least plan is handed
pub record Posed (p : Problem) (given : Option Given) (buffer : List ℕ) : Type 0 where
  pub entries : p.entries ≤ 64
  pub slots : p.slots ≤ 256
  pub root : p.root < p.entries
  pub apart : Apart p.objectives
  -- owners never fall
  pub rising : (s : ℕ) → suc s < p.slots → p.owner s ≤ p.owner (suc s)
  pub plan_sized : length buffer ≡ p.slots
  pub given_costed : CostedGiven p given

-- a node that every plan asked for is inside of; where there is no node there is no such plan
pub record Whole (p : Problem) (q : Asked) (node : Option Node) (choices : List ℕ) : Type 0 where
  pub rooted : (n : Node) → node ≡ Some n → Member n.must p.root
  pub whole : (P : Plan) → Good p P → Wanted p q P → (n : Node) × (node ≡ Some n) × Inside p n.must n.ban choices P

-- more than the first number of any cost
abbrev pub Above : Problem → ℕ → Type 0
Above p bound = (set : ℕ) → (cost p set).first < bound

-- THE PROMISE of the search: the least plan of those asked for, with its cost and its table in the buffer; or that none is left, and the buffer as it was
pub data Found (p : Problem) (q : Asked) (buffer : List ℕ) (r : Option Listed) (buffer' : List ℕ) : Type 0 where
  none_left : r ≡ None → NoneLeft p q → buffer' ≡ buffer → Found p q buffer r buffer'
  the_least : {best : Listed} → r ≡ Some best → Least p q (plan best.set buffer') → best.cost ≡ cost p best.set → Found p q buffer r buffer'

-- a cost that is above those, and those only, whose first number is below a bound
abbrev pub firstly : ℕ → Cost
firstly bound = record { first = bound; second = 0; third = 0 }

-- nothing that is asked for costs less than a bound
abbrev pub NoneUnder : Problem → Asked → Cost → Type 0
NoneUnder p q c = (Q : Plan) → Good p Q → Wanted p q Q → ¬ Earlier (numbers (cost p Q.set)) (numbers c)

-- the promise of one round: the least plan of those asked for, or that none costs less than the bound
pub data FoundUnder (p : Problem) (q : Asked) (c : Cost) (buffer : List ℕ) (r : Option Listed) (buffer' : List ℕ) : Type 0 where
  none_under : r ≡ None → NoneUnder p q c → buffer' ≡ buffer → FoundUnder p q c buffer r buffer'
  found_least : {best : Listed} → r ≡ Some best → Least p q (plan best.set buffer') → best.cost ≡ cost p best.set → FoundUnder p q c buffer r buffer'

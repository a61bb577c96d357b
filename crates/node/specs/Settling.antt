-- What settling promises, by the slot table alone. Of a plan it asks only that each slot of a member names a member, as every good plan of a problem with these
-- slots does.
use Rattle.std.specs.Prelude.{◌≡◌, Option, Some, List, ◌↔◌, ℕ, ◌/◌, ◌≤◌, ◌<◌, length, get_or}
use Rattle.bitset.specs.Bits.{Member}
use Rattle.pacsolve.specs.Plan.{Plan, chosen, MemberOf}
use Rattle.catalogue.specs.Spans.{owner_in}
use Rattle.node.specs.declared.Node.{Node}
use Rattle.node.specs.Steps.{NoneGained, Fewer}

-- the members of one set that another has not
abbrev pub Less : ℕ → ℕ → ℕ → Type 0
Less set out r = (d : ℕ) → Member r d ↔ (Member set d × ¬ Member out d)

-- the slots from start on, before end, are of entry e
abbrev pub SlotsOf : List ℕ → ℕ → ℕ → ℕ → Type 0
SlotsOf slots e start end = (s : ℕ) → start ≤ s → s < end → (s < length slots / 4) × (owner_in slots s ≡ e)

-- a plan's set has all of must and none of ban
pub record SetInside (must ban set : ℕ) : Type 0 where
  pub has : (e : ℕ) → Member must e → Member set e
  pub lacks : (e : ℕ) → Member ban e → ¬ Member set e

-- one slot settled, of which some choices are left: no plan whose slot names one of these is lost, and where no node is left there is none
pub record SlotSettled (node : Node) (owner left : ℕ) (r : Option Node) : Type 0 where
  pub more : (n : Node) → r ≡ Some n → (e : ℕ) → Member node.must e → Member n.must e
  pub keeps : (set named : ℕ) → (Member set owner → Member set named) → (Member set owner → Member left named) → SetInside node.must node.ban set
      → (n : Node) × (r ≡ Some n) × SetInside n.must n.ban set

-- each slot of a member names a member
abbrev pub Filled : List ℕ → Plan → Type 0
Filled slots P = (s : ℕ) → s < length slots / 4 → MemberOf P (owner_in slots s) → MemberOf P (chosen P s)

-- a plan inside a node, by the slot table
pub record InsideBy (slots : List ℕ) (must ban : ℕ) (choices : List ℕ) (P : Plan) : Type 0 where
  pub has : (e : ℕ) → Member must e → MemberOf P e
  pub lacks : (e : ℕ) → Member ban e → ¬ MemberOf P e
  pub names : (s : ℕ) → s < length slots / 4 → MemberOf P (owner_in slots s) → Member (get_or choices s 0) (chosen P s)

-- no such plan inside the node is lost; where no node is left there is none
pub record SettledBy (slots : List ℕ) (before : Node) (after : Option Node) (choices choices' : List ℕ) : Type 0 where
  pub less : NoneGained choices choices'
  pub fewer : (n : Node) → after ≡ Some n → Fewer before.must choices n.must choices'
  pub keeps : (P : Plan) → Filled slots P → InsideBy slots before.must before.ban choices P → (n : Node) × (after ≡ Some n) × InsideBy slots n.must n.ban choices' P

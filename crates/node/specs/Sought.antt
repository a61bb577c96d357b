-- What the search looks for. A node is what is known of some plans: they have all of `must`, none of `ban`, and each slot of a member names one of its `choices`. A plan
-- is sought at a node if it is good, asked for, below the limit, and inside the node.
use Rattle.std.specs.Prelude.{◌≡◌, Option, Some, None, List, ℕ, ◌<◌, get_or}
use Rattle.bitset.specs.Bits.{Member}
use Rattle.pacsolve.specs.Problem.{Problem}
use Rattle.pacsolve.specs.Plan.{Plan, plan, plan_of, chosen, MemberOf}
use Rattle.pacsolve.specs.declared.Cost.{Cost}
use Rattle.pacsolve.specs.Cost.{cost, numbers}
use Rattle.pacsolve.specs.Order.{Earlier, Precedes}
use Rattle.pacsolve.specs.Listing.{Good, Asked, from_the_start, after, Wanted}
use Rattle.node.specs.declared.Limit.{Limit as ALimit}
use Rattle.node.specs.declared.Limit.TheVariants.{Under, Before}
use Rattle.node.specs.declared.Given.{Given}

-- what is sought costs less than the bound of the round or, once a plan is found, lies before it
pub data Limit : Type 0 where
  under : Cost → Limit
  before : Plan → Limit

abbrev pub Below : Problem → Limit → Plan → Type 0
Below p (under c) P = Earlier (numbers (cost p P.set)) (numbers c)
Below p (before Q) P = Precedes p P Q

pub record Inside (p : Problem) (must ban : ℕ) (choices : List ℕ) (P : Plan) : Type 0 where
  pub has : (e : ℕ) → Member must e → MemberOf P e
  pub lacks : (e : ℕ) → Member ban e → ¬ MemberOf P e
  pub names : (s : ℕ) → s < p.slots → MemberOf P (p.owner s) → Member (get_or choices s 0) (chosen P s)

pub record Sought (p : Problem) (q : Asked) (lim : Limit) (must ban : ℕ) (choices : List ℕ) (P : Plan) : Type 0 where
  pub good : Good p P
  pub wanted : Wanted p q P
  pub below : Below p lim P
  pub inside : Inside p must ban choices P

-- the limit of a bound, or of a plan and its table
abbrev pub limit_of : ALimit → List ℕ → Limit
limit_of (Under c) table = under c
limit_of (Before l) table = before (plan l.set table)

-- what is asked for, by a plan that is given or not
abbrev pub asked_of : Option Given → Asked
asked_of None = from_the_start
asked_of (Some g) = after (plan_of g.plan)

-- the cost beside a plan is its own
abbrev pub CostedLimit : Problem → ALimit → Type 0
CostedLimit p (Under c) = Unit {0}
CostedLimit p (Before l) = l.cost ≡ cost p l.set

abbrev pub CostedGiven : Problem → Option Given → Type 0
CostedGiven p None = Unit {0}
CostedGiven p (Some g) = g.cost ≡ cost p g.plan.set

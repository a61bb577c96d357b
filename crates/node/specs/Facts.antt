-- What the search works out of the tables once: where the slots of each entry stand, rows of the entries that clash and of those of one package, how costs are scaled
-- to one number, and the entries' prices.
use Rattle.std.specs.Prelude.{List, ℕ, ◌+◌, ◌*◌, ◌/◌, ◌≤◌, ◌<◌, length, get_or}
use Rattle.bitset.specs.Bits.{Member}
use Rattle.pacsolve.specs.Problem.{Problem as AProblem}
use Rattle.pacsolve.specs.Plan.{Plan}
use Rattle.pacsolve.specs.Cost.{cost}
use Rattle.pacsolve.specs.Listing.{Good}
use Rattle.catalogue.specs.Spans.{Spans, owner_in}
use Rattle.plan.specs.declared.Problem.{Problem}
use Rattle.price.specs.declared.Scale.{Scale}
use Rattle.price.specs.Worth.{Scaled, worth_of, BasePrices}
use Rattle.price.specs.Kinds.{OfOnePackage}
use Rattle.price.specs.Floor.{Moderate}
use Rattle.node.specs.declared.Facts.{Facts}
use Rattle.node.specs.declared.Node.{Node}
use Rattle.node.specs.Clashing.{Clashes}
use Rattle.node.specs.Sought.{Limit, Below, Inside}

pub record FactsOf (entries slots objectives : List ℕ) (mode : ℕ) (facts : Facts) : Type 0 where
  pub spans : Spans slots facts.spans.first
  pub clashes : Clashes entries mode facts.clash
  pub alikes : OfOnePackage entries facts.rates.alike
  pub scaled : Scaled objectives facts.rates.scale
  pub priced : BasePrices entries objectives facts.rates.scale facts.rates.base
  pub moderate : Moderate facts.rates.base facts.rates.scale
  pub few : length entries / 5 ≤ 64
  pub light : (e : ℕ) → get_or entries (e * 5 + 4) 0 ≤ 65535

-- the facts of a problem's tables
abbrev pub FactsFor : Problem → Facts → Type 0
FactsFor q facts = FactsOf q.entries.now q.slots.now q.objectives.now q.settings.mode facts

-- with any of these entries the sum comes to the limit or more
abbrev pub Beyond : List ℕ → ℕ → ℕ → ℕ → Type 0
Beyond price sum limit r = (e : ℕ) → Member r e → limit ≤ sum + get_or price e 0

-- no more than what a plan inside a node chooses for a slot, whose owner is banned or not
pub record LowIn (ban owner choices r : ℕ) : Type 0 where
  pub due : ¬ Member ban owner → (e : ℕ) → Member choices e → r ≤ e
  pub most : r ≤ 255

-- a table with that for every slot
pub record LowTable (slots : List ℕ) (ban : ℕ) (choices table : List ℕ) : Type 0 where
  pub low : (s : ℕ) → s < length slots / 4 → LowIn ban (owner_in slots s) (get_or choices s 0) (get_or table s 255)

-- every plan inside the node that is sought is worth less
pub record Ceils (p : AProblem) (scale : Scale) (lim : Limit) (node : Node) (choices : List ℕ) (r : ℕ) : Type 0 where
  pub over : (P : Plan) → Good p P → Below p lim P → Inside p node.must node.ban choices P → worth_of scale (cost p P.set) < r

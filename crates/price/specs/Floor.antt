-- The floor of a node: a sum that every plan inside the node pays, so that with what is left of its members' prices it is no more than the plan's cost, but for a
-- credit.
use Rattle.std.specs.Prelude.{◌≡◌, List, ℕ, ◌+◌, ◌/◌, ◌^◌, ◌≤◌, ◌<◌, length, get_or}
use Rattle.bitset.specs.Bits.{Member}
use Rattle.pacsolve.specs.Cost.{cost}
use Rattle.catalogue.specs.declared.Settings.{Settings}
use Rattle.catalogue.specs.Survey.{tabled}
use Rattle.price.specs.declared.Rates.{Rates}
use Rattle.price.specs.declared.Scale.{Scale}
use Rattle.price.specs.declared.floor.Ground.{Ground}
use Rattle.price.specs.Prices.{price_of, Has, Serves}
use Rattle.price.specs.Worth.{Scaled, Small, worth_of, BasePrices}
use Rattle.price.specs.Kinds.{OfOnePackage}

-- prices from which sums fit
pub record Moderate (base : List ℕ) (scale : Scale) : Type 0 where
  pub small : Small scale
  pub sized : length base ≡ 64
  pub each : (e : ℕ) → get_or base e 0 ≤ 140737488355328

pub record Floors (rates : Rates) (first : List ℕ) (must : ℕ) (choices price : List ℕ) (r : Ground) : Type 0 where
  pub sum : r.sum < 2 ^ 62
  pub credit : r.credit < 2 ^ 62
  pub sized : length price ≡ 64
  pub below : (entries objectives all fits : List ℕ) (settings : Settings) → OfOnePackage entries rates.alike → Scaled objectives rates.scale
      → BasePrices entries objectives rates.scale rates.base
      → length entries / 5 ≤ 64 → (set : ℕ) → ((e : ℕ) → Member set e → e < length entries / 5) → Has must set → Serves first set choices set
      → r.sum + price_of price set ≤ worth_of rates.scale (cost (tabled entries all settings objectives fits) set) + r.credit

-- none but entries whose price is the limit or more
pub record Dear (price : List ℕ) (limit r : ℕ) : Type 0 where
  pub dear : (e : ℕ) → Member r e → limit ≤ get_or price e 0

-- A cost as one number: each of its numbers counts as many times as the later ones can come to, so that a lower cost is worth less. The price of an entry is what
-- it adds to that number, told by each objective.
use Rattle.std.specs.Prelude.{◌≡◌, List, ℕ, ◌+◌, ◌*◌, ◌/◌, ◌≤◌, ◌<◌, length, get_or, Option, Some, None}
use Rattle.pacsolve.specs.declared.Cost.{Cost}
use Rattle.pacsolve.specs.declared.Objective.{Objective}
use Rattle.pacsolve.specs.declared.Objective.TheVariants.{Weight, Dependencies, Duplicates}
use Rattle.pacsolve.specs.Cost.{objective_of}
use Rattle.price.specs.declared.Scale.{Scale}

-- the code of the objective at a place, and one that costs nothing where there is none
abbrev pub code_at : List ℕ → ℕ → ℕ
code_at objectives i = get_or objectives i 3

-- the objective at a place
abbrev pub objective_at : List ℕ → ℕ → Option Objective
objective_at objectives i = objective_of (code_at objectives i)

-- more than an objective can come to: 64 weights of 16 bits, or 64 entries
abbrev pub span_of : Option Objective → ℕ
span_of (Some Weight) = 4194304
span_of (Some Dependencies) = 128
span_of (Some Duplicates) = 128
span_of None = 128

-- what an entry of a given weight adds by an objective that counts `unit` times; a second entry of one package is priced apart
abbrev pub part_of : Option Objective → ℕ → ℕ → ℕ
part_of (Some Weight) unit weight = unit * weight
part_of (Some Dependencies) unit weight = unit
part_of (Some Duplicates) unit weight = 0
part_of None unit weight = 0

-- how many times dependencies count, where the root is none
abbrev pub count_of : Option Objective → ℕ → ℕ
count_of (Some Weight) unit = 0
count_of (Some Dependencies) unit = unit
count_of (Some Duplicates) unit = 0
count_of None unit = 0

-- how many times duplicates count
abbrev pub double_of : Option Objective → ℕ → ℕ
double_of (Some Weight) unit = 0
double_of (Some Dependencies) unit = 0
double_of (Some Duplicates) unit = unit
double_of None unit = 0

-- what the objectives come to together, each by how many times it counts
abbrev pub by_each : (Option Objective → ℕ → ℕ) → List ℕ → Scale → ℕ
by_each f objectives scale =
    f (objective_at objectives 0) scale.first + (f (objective_at objectives 1) scale.second + f (objective_at objectives 2) scale.third)

-- how many times each number of a cost counts, by the objectives
pub record Scaled (objectives : List ℕ) (scale : Scale) : Type 0 where
  pub third : scale.third ≡ 1
  pub second : scale.second ≡ span_of (objective_at objectives 2)
  pub first : scale.first ≡ span_of (objective_at objectives 1) * span_of (objective_at objectives 2)
  pub count : scale.count ≡ by_each count_of objectives scale
  pub double : scale.double ≡ by_each double_of objectives scale

-- weight is not asked for twice, so that the numbers stay small
abbrev pub Apart : List ℕ → Type 0
Apart objectives = code_at objectives 1 ≡ 0 → ¬ (code_at objectives 2 ≡ 0)

-- numbers small enough for costs and prices to fit
pub record Small (scale : Scale) : Type 0 where
  pub third : scale.third ≡ 1
  pub second : scale.second ≤ 4194304
  pub first : scale.first ≤ 536870912
  pub count : scale.count ≤ 541065217
  pub double : scale.double ≤ 541065217

unfoldable pub worth_of : Scale → Cost → ℕ
worth_of scale c = c.first * scale.first + (c.second * scale.second + c.third * scale.third)

-- the price of an entry by its weight
abbrev pub base_price_of : List ℕ → Scale → ℕ → ℕ
base_price_of objectives scale weight = by_each (λ o unit. part_of o unit weight) objectives scale

-- the prices of all entries; there are none past the last
pub record BasePrices (entries objectives : List ℕ) (scale : Scale) (base : List ℕ) : Type 0 where
  pub sized : length base ≡ 64
  pub priced : (e : ℕ) → e < length entries / 5 → e < 64 → get_or base e 0 ≡ base_price_of objectives scale (get_or entries (e * 5 + 4) 0)
  pub beyond : (e : ℕ) → length entries / 5 ≤ e → get_or base e 0 ≡ 0

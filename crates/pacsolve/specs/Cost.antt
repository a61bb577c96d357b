-- Weight, count and duplicates of any set, and the cost of a plan.
use Rattle.std.specs.Prelude.{List, [], ◌∷◌, map, ℕ, zero, suc, ◌-◌, ◌*◌, get_or, Option, Some, None}
use Rattle.basis.specs.Sum.{sum, same}
use Rattle.bitset.specs.Bits.{bit, count}
use Rattle.pacsolve.specs.declared.Cost.{Cost}
use Rattle.pacsolve.specs.declared.Objective.{Objective}
use Rattle.pacsolve.specs.declared.Objective.TheVariants.{Weight, Dependencies, Duplicates}
use Rattle.pacsolve.specs.Problem.{Problem}

-- the sum of the members' weights
unfoldable pub weight_of : Problem → ℕ → ℕ
weight_of p set = sum (λ e. bit set e * p.weight e) p.entries

-- how many members are of package k
unfoldable pub members_of : Problem → ℕ → ℕ → ℕ
members_of p set k = sum (λ e. bit set e * same (p.kind e) k) p.entries

-- how many entries before e are of its package
unfoldable pub earlier : Problem → ℕ → ℕ
earlier p e = sum (λ d. same (p.kind d) (p.kind e)) e

-- for each package with members their number less one, summed. A package is counted at its first entry; one without members adds 0 - 1, which is 0
unfoldable pub duplicates_of : Problem → ℕ → ℕ
duplicates_of p set = sum (λ e. same (earlier p e) 0 * (members_of p set (p.kind e) - 1)) p.entries

-- a plan's cost by an objective's code: 0 weight, 1 dependencies (the members, counted as the ones in the set, less the root), 2 duplicates, and no other
unfoldable pub amount : Problem → ℕ → ℕ → ℕ
amount p set zero = weight_of p set
amount p set (suc zero) = count set - 1
amount p set (suc (suc zero)) = duplicates_of p set
amount p set (suc (suc (suc code))) = 0

-- the objective with a code
abbrev pub objective_of : ℕ → Option Objective
objective_of zero = Some Weight
objective_of (suc zero) = Some Dependencies
objective_of (suc (suc zero)) = Some Duplicates
objective_of (suc (suc (suc code))) = None

-- three numbers, in the order of the objectives, 0 where there is none
unfoldable pub cost : Problem → ℕ → Cost
cost p set =
    record {
      first = get_or (map (amount p set) p.objectives) 0 0;
      second = get_or (map (amount p set) p.objectives) 1 0;
      third = get_or (map (amount p set) p.objectives) 2 0;
    }

-- a cost's numbers, the most important first
abbrev pub numbers : Cost → List ℕ
numbers c = c.first ∷ c.second ∷ c.third ∷ []

-- A cost's numbers by an objective's code and by its place among the objectives.
use mathlib.Core.Path.{◌≡◌, refl, sym, ◌∙◌}
use mathlib.Core.List.{List, map}
use Prim.Native.Nat.{ℕ, zero, suc, ◌-◌, ◌≤◌, ◌<◌}
use Rattle.std.proofs.Common.{Some, None}
use lib.ListN.{length, get_or, length-map, get_or-map, get_or-eq_default}
use Rattle.bitset.specs.Bits.{count}
use Rattle.pacsolve.specs.declared.Cost.{Cost}
use Rattle.pacsolve.specs.Problem.{Problem}
use Rattle.pacsolve.specs.declared.Objective.TheVariants.{Weight, Dependencies, Duplicates}
use Rattle.pacsolve.specs.Cost.{weight_of, duplicates_of, amount, cost, objective_of}
use Rattle.plan.proofs.Tables.{get_d_within}

-- the amount by the code of an objective, and by a code of none
module _ (p : Problem) (set : ℕ) where
  pub amount_of_weight : (code : ℕ) → objective_of code ≡ Some Weight → weight_of p set ≡ amount p set code
  unfolding amount
  amount_of_weight zero e = refl
  amount_of_weight (suc zero) e = absurd (cc)
  amount_of_weight (suc (suc zero)) e = absurd (cc)
  amount_of_weight (suc (suc (suc code))) e = absurd (cc)

  pub amount_of_dependencies : (code : ℕ) → objective_of code ≡ Some Dependencies → count set - 1 ≡ amount p set code
  unfolding amount
  amount_of_dependencies zero e = absurd (cc)
  amount_of_dependencies (suc zero) e = refl
  amount_of_dependencies (suc (suc zero)) e = absurd (cc)
  amount_of_dependencies (suc (suc (suc code))) e = absurd (cc)

  pub amount_of_duplicates : (code : ℕ) → objective_of code ≡ Some Duplicates → duplicates_of p set ≡ amount p set code
  unfolding amount
  amount_of_duplicates zero e = absurd (cc)
  amount_of_duplicates (suc zero) e = absurd (cc)
  amount_of_duplicates (suc (suc zero)) e = refl
  amount_of_duplicates (suc (suc (suc code))) e = absurd (cc)

  pub amount_of_none : (code : ℕ) → objective_of code ≡ None → ◌≡◌ {A = ℕ} 0 (amount p set code)
  unfolding amount
  amount_of_none zero e = absurd (cc)
  amount_of_none (suc zero) e = absurd (cc)
  amount_of_none (suc (suc zero)) e = absurd (cc)
  amount_of_none (suc (suc (suc code))) e = refl

-- what stands at a place of a list whose elements are mapped, and 0 past its end
module _ (f : ℕ → ℕ) (l : List ℕ) (i : ℕ) where
  pub mapped_within : i < length l → f (get_or l i 0) ≡ get_or (map f l) i 0
  mapped_within h = sym (get_or-map f l i 0) ∙ get_d_within (map f l) i (f 0) 0 (rw (length-map l f) h)

  pub mapped_past : length l ≤ i → ◌≡◌ {A = ℕ} 0 (get_or (map f l) i 0)
  mapped_past h = sym (get_or-eq_default (map f l) 0 (rw (length-map l f) h))

pub cost_by_places : (p : Problem) (set : ℕ) (c : Cost)
    → ((c.first ≡ get_or (map (amount p set) p.objectives) 0 0) × (c.second ≡ get_or (map (amount p set) p.objectives) 1 0)
    × (c.third ≡ get_or (map (amount p set) p.objectives) 2 0)) → c ≡ cost p set
unfolding cost
cost_by_places p set c e = λ i. record { first = e.0 i; second = e.1 i; third = e.2 i }

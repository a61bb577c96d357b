-- A lower cost is worth less: the numbers of a set's cost stay below the spans of their objectives, so that no later number makes up for an earlier one.
use mathlib.Core.Path.{◌≡◌, refl, sym, ap, ◌∙◌}
use mathlib.Core.List.{List, [], ◌∷◌, map}
use mathlib.Core.Logic.{◌⊎◌, inl, inr}
use Prim.Native.Nat.{ℕ, zero, suc, ◌+◌, ◌*◌, ◌≤◌, ◌<◌}
use native.Mathlib.Decide.{dec_lt}
use native.Mathlib.Nat.{suc-mul, mul-le-mul_right}
use native.Mathlib.Omega.{arith}
use lib.ListN.{length, get_or, get_or-eq_default}
use Rattle.std.specs.Prelude.{Option, Some, None}
use Rattle.basis.specs.Sum.{sum, same}
use Rattle.basis.proofs.Sums.{sum_bound}
use Rattle.bitset.specs.Bits.{bit}
use Rattle.bitset.proofs.Counts.{count_le}
use Rattle.pacsolve.specs.declared.Cost.{Cost}
use Rattle.pacsolve.specs.Problem.{Problem}
use Rattle.pacsolve.specs.declared.Objective.{Objective}
use Rattle.pacsolve.specs.declared.Objective.TheVariants.{Weight, Dependencies, Duplicates}
use Rattle.pacsolve.specs.Cost.{weight_of, duplicates_of, amount, cost, numbers, objective_of}
use Rattle.pacsolve.specs.Order.{Earlier}
use Rattle.pacsolve.proofs.Order.{earlier_cases}
use Rattle.pacsolve.proofs.Duplicates.{some?, duplicates_repeated}
use Rattle.plan.proofs.Amounts.{mapped_within, mapped_past}
use Rattle.plan.proofs.Tables.{get_d_within}
use Rattle.plan.proofs.Totals.{over_bound}
use Rattle.price.specs.declared.Scale.{Scale}
use Rattle.price.specs.Worth.{code_at, objective_at, span_of, count_of, double_of, by_each, Scaled, Apart, Small, worth_of}

-- a problem of the size that tables have
pub record Modest (p : Problem) : Type 0 where
  pub entries : p.entries ≤ 64
  pub weight : (e : ℕ) → p.weight e ≤ 65535

module _ (p : Problem) (set : ℕ) where
  -- the number of a cost at a place, by the code of the objective there
  by_code : (i : ℕ) → get_or (map (amount p set) p.objectives) i 0 ≡ amount p set (code_at p.objectives i)
  unfolding amount
  by_code i = go (dec_lt i (length p.objectives))
    where
      go : Dec (i < length p.objectives) → get_or (map (amount p set) p.objectives) i 0 ≡ amount p set (code_at p.objectives i)
      go (yes h) = sym (mapped_within (amount p set) p.objectives i h) ∙ ap (amount p set) (get_d_within p.objectives i 0 3 h)
      go (no n) =
          sym (mapped_past (amount p set) p.objectives i (omega arith)) ∙ ap (amount p set) (sym (get_or-eq_default p.objectives 3 (omega arith)))

  pub first_number : (cost p set).first ≡ amount p set (code_at p.objectives 0)
  unfolding cost
  first_number = by_code 0

  pub second_number : (cost p set).second ≡ amount p set (code_at p.objectives 1)
  unfolding cost
  second_number = by_code 1

  pub third_number : (cost p set).third ≡ amount p set (code_at p.objectives 2)
  unfolding cost
  third_number = by_code 2

  module _ (modest : Modest p) where
    pub light : weight_of p set < 4194304
    unfolding weight_of
    light = bound p.entries modest.entries (over_bound p.weight set p.entries 65535 modest.weight)
      where
        bound : (n : ℕ) {w : ℕ} → n ≤ 64 → w ≤ n * 65535 → w < 4194304
        bound n h l = omega arith

    few_duplicates : duplicates_of p set < 128
    few_duplicates =
        few (duplicates_repeated p set) (sum_bound (λ e. bit set e * some? (before e)) p.entries 1 (λ e. at_most (bit set e) (some? (before e)) (bit_le set e) (some_le (before e))))
      where
        before : ℕ → ℕ
        before e = sum (λ d. bit set d * same (p.kind d) (p.kind e)) e

        bit_le : (s e : ℕ) → bit s e ≤ 1
        bit_le s e = omega arith

        some_le : (n : ℕ) → some? n ≤ 1
        some_le n = omega arith

        at_most : (a b : ℕ) → a ≤ 1 → b ≤ 1 → a * b ≤ 1
        at_most zero b h l = omega arith
        at_most (suc zero) b h l = omega arith
        at_most (suc (suc a)) b h l = absurd (omega arith)

        few : {d s : ℕ} → d ≡ s → s ≤ p.entries * 1 → d < 128
        few e h = omega (arith, modest.entries)

    pub in_span : (code : ℕ) → amount p set code < span_of (objective_of code)
    unfolding amount
    in_span zero = light
    in_span (suc zero) = omega (arith, count_le set)
    in_span (suc (suc zero)) = few_duplicates
    in_span (suc (suc (suc code))) = omega arith

    -- all but the weight
    pub other_amount : (code : ℕ) → amount p set (suc code) < 128
    other_amount zero = in_span 1
    other_amount (suc zero) = in_span 2
    other_amount (suc (suc code)) = in_span (suc (suc (suc code)))

-- numbers of which the later stay below their spans compare as their sum does
worth_by_digits : (k m a b c d e f : ℕ) → b < k → c < m → (a < d) ⊎ ((a ≡ d) × ((b < e) ⊎ ((b ≡ e) × (c < f)))) → a * (k * m) + (b * m + c * 1) < d * (k * m) + (e * m + f * 1)
worth_by_digits k m a b c d e f h l (inl x) =
    let whole : suc a * (k * m) ≤ d * (k * m) = mul-le-mul_right (k * m) x in
    let part : suc b * m ≤ k * m = mul-le-mul_right m h in
    omega (arith, whole, suc-mul a (k * m), part, suc-mul b m)
worth_by_digits k m a b c d e f h l (inr (x, inl y)) =
    let part : suc b * m ≤ e * m = mul-le-mul_right m y in
    rw x (omega (arith, part, suc-mul b m))
worth_by_digits k m a b c d e f h l (inr (x, inr (y, z))) = rw (x, y) (omega arith)

-- what a lower cost looks like
in_turn : (x y : Cost) → Earlier (numbers x) (numbers y)
    → (x.first < y.first) ⊎ ((x.first ≡ y.first) × ((x.second < y.second) ⊎ ((x.second ≡ y.second) × (x.third < y.third))))
in_turn x y h = one (earlier_cases h)
  where
    three : (x.third < y.third) ⊎ ((x.third ≡ y.third) × Earlier [] []) → x.third < y.third
    three (inl l) = l
    three (inr k) = absurd (earlier_cases k.1)

    two : (x.second < y.second) ⊎ ((x.second ≡ y.second) × Earlier (x.third ∷ []) (y.third ∷ []))
        → (x.second < y.second) ⊎ ((x.second ≡ y.second) × (x.third < y.third))
    two (inl l) = inl l
    two (inr k) = inr (k.0, three (earlier_cases k.1))

    one : (x.first < y.first) ⊎ ((x.first ≡ y.first) × Earlier (x.second ∷ x.third ∷ []) (y.second ∷ y.third ∷ []))
        → (x.first < y.first) ⊎ ((x.first ≡ y.first) × ((x.second < y.second) ⊎ ((x.second ≡ y.second) × (x.third < y.third))))
    one (inl l) = inl l
    one (inr k) = inr (k.0, two (earlier_cases k.1))

-- the cost of a set, and any other
pub worth_less : (p : Problem) (scale : Scale) → Scaled p.objectives scale → Modest p → (set : ℕ) (c : Cost) → Earlier (numbers (cost p set)) (numbers c)
    → worth_of scale (cost p set) < worth_of scale c
unfolding worth_of
worth_less p scale s modest set c h =
    rw (s.first, s.second, s.third)
    (worth_by_digits (span_of (objective_at p.objectives 1)) (span_of (objective_at p.objectives 2)) (cost p set).first (cost p set).second (cost p set).third c.first c.second c.third
    (rw (second_number p set) (in_span p set modest (code_at p.objectives 1))) (rw (third_number p set) (in_span p set modest (code_at p.objectives 2))) (in_turn (cost p set) c h))

-- where weight is asked for once, all that is counted stays small
span_cases : (code : ℕ) → ((code ≡ 0) × (span_of (objective_of code) ≡ 4194304)) ⊎ (span_of (objective_of code) ≡ 128)
span_cases zero = inl (refl, refl)
span_cases (suc zero) = inr refl
span_cases (suc (suc zero)) = inr refl
span_cases (suc (suc (suc code))) = inr refl

counted_le : (o : Option Objective) (unit : ℕ) → count_of o unit ≤ unit
counted_le (Some Weight) unit = omega arith
counted_le (Some Dependencies) unit = omega arith
counted_le (Some Duplicates) unit = omega arith
counted_le None unit = omega arith

doubled_le : (o : Option Objective) (unit : ℕ) → double_of o unit ≤ unit
doubled_le (Some Weight) unit = omega arith
doubled_le (Some Dependencies) unit = omega arith
doubled_le (Some Duplicates) unit = omega arith
doubled_le None unit = omega arith

pub scaled_small : (objectives : List ℕ) (scale : Scale) → Scaled objectives scale → Apart objectives → Small scale
scaled_small objectives scale s apart = go (span_cases (code_at objectives 1)) (span_cases (code_at objectives 2))
  where
    each_le : (f : Option Objective → ℕ → ℕ) → ((o : Option Objective) (unit : ℕ) → f o unit ≤ unit) → by_each f objectives scale ≤ scale.first + (scale.second + scale.third)
    each_le f h =
        let a = h (objective_at objectives 0) scale.first in
        let b = h (objective_at objectives 1) scale.second in
        let c = h (objective_at objectives 2) scale.third in
        omega (arith, a, b, c)

    small : scale.first ≤ 536870912 → scale.second ≤ 4194304 → Small scale
    small f g =
        record {
          third = s.third;
          second = g;
          first = f;
          count = omega (arith, s.count, s.third, each_le count_of counted_le);
          double = omega (arith, s.double, s.third, each_le double_of doubled_le);
        }

    go : ((code_at objectives 1 ≡ 0) × (span_of (objective_at objectives 1) ≡ 4194304)) ⊎ (span_of (objective_at objectives 1) ≡ 128)
        → ((code_at objectives 2 ≡ 0) × (span_of (objective_at objectives 2) ≡ 4194304)) ⊎ (span_of (objective_at objectives 2) ≡ 128) → Small scale
    go (inl x) (inl y) = absurd (apart x.0 y.0)
    go (inl x) (inr y) = small (omega (arith, rw (x.1, y) at s.first)) (omega (arith, rw y at s.second))
    go (inr x) (inl y) = small (omega (arith, rw (x, y.1) at s.first)) (omega (arith, rw y.1 at s.second))
    go (inr x) (inr y) = small (omega (arith, rw (x, y) at s.first)) (omega (arith, rw y at s.second))

-- codes that are all different: weight is asked for once
pub different_codes : (objectives : List ℕ) → ¬ ((i : ℕ) × (i < length objectives) × ((j : ℕ) × (j < i) × (get_or objectives j 0 ≡ get_or objectives i 0))) → Apart objectives
different_codes objectives once b c = go (dec_lt 2 (length objectives))
  where
    go : Dec (2 < length objectives) → ⊥
    go (yes h) =
        once (2, h, (1, omega arith, get_d_within objectives 1 0 3 (omega arith) ∙ b ∙ sym c ∙ sym (get_d_within objectives 2 0 3 h)))
    go (no n) = let past : length objectives ≤ 2 = omega arith in let three : ◌≡◌ {A = ℕ} 3 0 = sym (get_or-eq_default objectives 3 past) ∙ c in omega (arith, three)

-- What a set costs at the prices of a node is no more than the worth of its cost, but for what dependencies and duplicates count one member late.
use mathlib.Core.Path.{◌≡◌, refl, sym, ap, ◌∙◌}
use mathlib.Core.List.{List}
use mathlib.Core.Logic.{◌⊎◌, inl, inr}
use Prim.Native.Nat.{ℕ, zero, suc, ◌+◌, ◌-◌, ◌*◌, ◌/◌, ◌^◌, ◌≤◌, ◌<◌}
use native.Mathlib.Decide.{dec_lt}
use native.Mathlib.Nat.{mul-zero, zero-mul, mul-add, add-mul, mul_comm, mul_left_comm, mul-suc, mul-le-mul_left}
use native.Mathlib.Omega.{arith}
use lib.ListN.{length, get_or, get_or-eq_default}
use Rattle.std.specs.Prelude.{Option, Some, None}
use Rattle.basis.specs.Sum.{sum, same}
use Rattle.basis.proofs.Sums.{sum_same, sum_mono}
use Rattle.bitset.specs.Bits.{bit, Member, count}
use Rattle.bitset.proofs.Counts.{count_below}
use Rattle.bitset.proofs.Sets.{bit_cases, bit_of_none, below_by_members}
use Rattle.pacsolve.specs.Problem.{Problem}
use Rattle.pacsolve.specs.declared.Objective.{Objective}
use Rattle.pacsolve.specs.declared.Objective.TheVariants.{Weight, Dependencies, Duplicates}
use Rattle.pacsolve.specs.Cost.{weight_of, duplicates_of, amount, cost, objective_of}
use Rattle.pacsolve.proofs.Duplicates.{some?, duplicates_repeated}
use Rattle.catalogue.specs.declared.Settings.{Settings}
use Rattle.catalogue.specs.Survey.{tabled}
use Rattle.plan.proofs.Totals.{sum_further, over_bound}
use Rattle.price.specs.declared.Scale.{Scale}
use Rattle.price.specs.declared.packages.Known.{Known}
use Rattle.price.specs.Prices.{price_of, everything, Low}
use Rattle.price.specs.Worth.{code_at, objective_at, part_of, count_of, double_of, by_each, Scaled, Small, worth_of, base_price_of, BasePrices}
use Rattle.price.specs.Kinds.{before_it, shared, firsts, Packaged, Raised}
use Rattle.price.proofs.FirstMembers.{sum_add, same_le}
use Rattle.price.proofs.Units.{part_le}
use Rattle.price.proofs.Worth.{first_number, second_number, third_number}

sum_times : (k : ℕ) (f : ℕ → ℕ) (n : ℕ) → sum (λ e. k * f e) n ≡ k * sum f n
sum_times k f zero = sym (mul-zero k)
sum_times k f (suc n) = ap (λ (x : ℕ). x + k * f n) (sum_times k f n) ∙ sym (mul-add k (sum f n) (f n))

-- a member among others is a duplicate or the first of its package
either : (a b s : ℕ) → (a ≡ 0) ⊎ (a ≡ 1) → (b ≡ 0) ⊎ (b ≡ 1) → s ≤ 1 → a * b ≤ a * (1 - s) + a * (b * s)
either a b s (inl x) y h = rw (x, zero-mul b) (omega arith)
either a b s (inr x) (inl y) h = rw (x, y) (omega arith)
either a b s (inr x) (inr y) h = rw (x, y) (omega arith)

module _ (entries slots : List ℕ) (settings : Settings) (objectives fits : List ℕ) (set : ℕ) where
  abbrev p : Problem
  p = tabled entries slots settings objectives fits

  module _ (few : length entries / 5 ≤ 64) (exist : (e : ℕ) → Member set e → e < length entries / 5) where
    -- nothing past the entries counts
    nothing_past : (g : ℕ → ℕ) (e : ℕ) → length entries / 5 ≤ e → bit set e * g e ≡ 0
    nothing_past g e h = ap (λ (b : ℕ). b * g e) (bit_of_none set e (λ m. omega (arith, exist e m))) ∙ zero-mul (g e)

    up_to_entries : (g : ℕ → ℕ) → sum (λ e. bit set e * g e) 64 ≡ sum (λ e. bit set e * g e) (length entries / 5)
    up_to_entries g = sum_further (λ e. bit set e * g e) (length entries / 5) 64 few (nothing_past g)

    -- all that are known but one of each package are duplicates
    shared_le : (others : ℕ) → shared set others ≤ duplicates_of p set + firsts entries set others
    unfolding shared firsts
    shared_le others =
        together (sum (λ e. bit set e * (bit others e * same (before_it entries set e) 0)) 64)
        (sum_mono (λ e. bit set e * bit others e) (λ e. bit set e * some? (before_it entries set e) + bit set e * (bit others e * same (before_it entries set e) 0)) 64 (λ e h.
        either (bit set e) (bit others e) (same (before_it entries set e) 0) (bit_cases set e) (bit_cases others e) (same_le (before_it entries set e) 0)))
        (sum_add (λ e. bit set e * some? (before_it entries set e)) (λ e. bit set e * (bit others e * same (before_it entries set e) 0)) 64)
        (up_to_entries (λ e. some? (before_it entries set e)) ∙ sym (duplicates_repeated p set))
      where
        together : {x y a d : ℕ} (b : ℕ) → x ≤ y → y ≡ a + b → a ≡ d → x ≤ d + b
        together b h e f = omega arith

    -- what the members add by one objective
    added : Option Objective → ℕ → ℕ
    added o unit = sum (λ e. bit set e * part_of o unit (p.weight e)) (length entries / 5)

    weight_added : (unit : ℕ) → added (Some Weight) unit ≡ weight_of p set * unit
    unfolding added weight_of
    weight_added unit =
        sum_same (λ e. bit set e * (unit * p.weight e)) (λ e. unit * (bit set e * p.weight e)) (length entries / 5) (λ e h. mul_left_comm (bit set e) unit (p.weight e))
        ∙ sum_times unit (λ e. bit set e * p.weight e) (length entries / 5) ∙ mul_comm unit (sum (λ e. bit set e * p.weight e) (length entries / 5))

    count_added : (unit : ℕ) → added (Some Dependencies) unit ≡ unit * count set
    unfolding added
    count_added unit =
        sum_same (λ e. bit set e * unit) (λ e. unit * bit set e) (length entries / 5) (λ e h. mul_comm (bit set e) unit) ∙ sum_times unit (λ e. bit set e) (length entries / 5)
        ∙ ap (λ (k : ℕ). unit * k) (sym (count_below (length entries / 5) set few (below_by_members (length entries / 5) set exist)))

    zeros : (n : ℕ) → sum (λ e. bit set e * 0) n ≡ 0
    zeros zero = refl
    zeros (suc n) = omega (arith, zeros n, mul-zero (bit set n))

    duplicates_added : (unit : ℕ) → added (Some Duplicates) unit ≡ 0
    unfolding added
    duplicates_added unit = zeros (length entries / 5)

    none_added : (unit : ℕ) → added None unit ≡ 0
    unfolding added
    none_added unit = zeros (length entries / 5)

    less_one : (k unit : ℕ) → unit * k ≤ (k - 1) * unit + unit
    less_one zero unit = omega (arith, mul-zero unit)
    less_one (suc k) unit = let less : suc k - 1 ≡ k = omega arith in rw less (omega (arith, mul-suc unit k, mul_comm unit k))

    by_objective : (code unit x n : ℕ) → x ≤ duplicates_of p set + n
        → added (objective_of code) unit + double_of (objective_of code) unit * x
        ≤ amount p set code * unit + (count_of (objective_of code) unit + double_of (objective_of code) unit * n)
    unfolding amount
    by_objective zero unit x n h = omega (arith, weight_added unit)
    by_objective (suc zero) unit x n h = omega (arith, count_added unit, less_one (count set) unit)
    by_objective (suc (suc zero)) unit x n h =
        omega (arith, duplicates_added unit, mul-le-mul_left unit h, mul-add unit (duplicates_of p set) n, mul_comm unit (duplicates_of p set))
    by_objective (suc (suc (suc code))) unit x n h = omega (arith, none_added unit)

    module _ (scale : Scale) (base : List ℕ) (scaled : Scaled objectives scale) (prices : BasePrices entries objectives scale base) where
      -- the prices by objective
      base_added : price_of base set ≡ by_each added objectives scale
      unfolding price_of added
      base_added =
          up_to_entries (λ e. get_or base e 0)
          ∙ sum_same (λ e. bit set e * get_or base e 0) (λ e. one e + (two e + three e)) (length entries / 5) (λ e h.
          ap (λ (x : ℕ). bit set e * x) (prices.priced e h (omega arith)) ∙ apart e)
          ∙ sum_add one (λ e. two e + three e) (length entries / 5) ∙ ap (λ (x : ℕ). sum one (length entries / 5) + x) (sum_add two three (length entries / 5))
        where
          part : ℕ → ℕ → ℕ → ℕ
          part i unit e = part_of (objective_at objectives i) unit (p.weight e)

          one : ℕ → ℕ
          one e = bit set e * part 0 scale.first e

          two : ℕ → ℕ
          two e = bit set e * part 1 scale.second e

          three : ℕ → ℕ
          three e = bit set e * part 2 scale.third e

          apart : (e : ℕ) → bit set e * base_price_of objectives scale (p.weight e) ≡ one e + (two e + three e)
          apart e =
              mul-add (bit set e) (part 0 scale.first e) (part 1 scale.second e + part 2 scale.third e)
              ∙ ap (λ (x : ℕ). one e + x) (mul-add (bit set e) (part 1 scale.second e) (part 2 scale.third e))

      spread : (k : ℕ) → scale.double * k ≡ by_each (λ o unit. double_of o unit * k) objectives scale
      spread k =
          ap (λ (x : ℕ). x * k) scaled.double
          ∙ add-mul (double_of (objective_at objectives 0) scale.first) (double_of (objective_at objectives 1) scale.second + double_of (objective_at objectives 2) scale.third) k
          ∙ ap (λ (x : ℕ). double_of (objective_at objectives 0) scale.first * k + x)
          (add-mul (double_of (objective_at objectives 1) scale.second) (double_of (objective_at objectives 2) scale.third) k)

      base_le : (x n : ℕ) → x ≤ duplicates_of p set + n → price_of base set + scale.double * x ≤ worth_of scale (cost p set) + (scale.count + scale.double * n)
      unfolding worth_of
      base_le x n h =
          let a = by_objective (code_at objectives 0) scale.first x n h in
          let b = by_objective (code_at objectives 1) scale.second x n h in
          let c = by_objective (code_at objectives 2) scale.third x n h in
          rw (first_number p set, second_number p set, third_number p set) (omega (arith, a, b, c, base_added, spread x, spread n, scaled.count))

      -- THE BOUND: what a set costs at the prices of a node
      pub price_le : (known : Known) → Packaged entries known → (price : List ℕ) → Raised base known.entries scale.double price
          → price_of price set ≤ worth_of scale (cost p set) + (scale.count + scale.double * known.packages)
      unfolding price_of shared
      price_le known packaged price raised =
          together
          (sum_same (λ e. bit set e * get_or price e 0) (λ e. bit set e * get_or base e 0 + scale.double * (bit set e * bit known.entries e)) 64 (λ e h.
          ap (λ (x : ℕ). bit set e * x) (raised.each e h) ∙ apart (bit set e) (get_or base e 0) (bit known.entries e) scale.double)
          ∙ sum_add (λ e. bit set e * get_or base e 0) (λ e. scale.double * (bit set e * bit known.entries e)) 64
          ∙ ap (λ (x : ℕ). price_of base set + x) (sum_times scale.double (λ e. bit set e * bit known.entries e) 64))
          (base_le (shared set known.entries) known.packages (more (duplicates_of p set) (shared_le known.entries) (packaged.few set)))
        where
          together : {x y z : ℕ} → x ≡ y → y ≤ z → x ≤ z
          together e h = omega arith

          more : {x f n : ℕ} (d : ℕ) → x ≤ d + f → f ≤ n → x ≤ d + n
          more d h l = omega arith

          apart : (k a b c : ℕ) → k * (a + b * c) ≡ k * a + c * (k * b)
          apart k a b c =
              mul-add k a (b * c) ∙ ap (λ (x : ℕ). k * a + x) (ap (λ (x : ℕ). k * x) (mul_comm b c) ∙ mul_left_comm k c b)

-- prices stay small: each by its three parts, and all together
pub base_small : (entries objectives : List ℕ) (scale : Scale) (base : List ℕ) → Small scale → BasePrices entries objectives scale base
    → ((e : ℕ) → get_or entries (e * 5 + 4) 0 ≤ 65535) → (e : ℕ) → get_or base e 0 ≤ 140737488355328
base_small entries objectives scale base small prices light e = go (dec_lt e (length entries / 5)) (dec_lt e 64)
  where
    go : Dec (e < length entries / 5) → Dec (e < 64) → get_or base e 0 ≤ 140737488355328
    go (yes h) (yes l) =
        let a = part_le (objective_at objectives 0) scale.first (get_or entries (e * 5 + 4) 0) small.first (light e) in
        let b = part_le (objective_at objectives 1) scale.second (get_or entries (e * 5 + 4) 0) (omega (arith, small.second)) (light e) in
        let c = part_le (objective_at objectives 2) scale.third (get_or entries (e * 5 + 4) 0) (omega (arith, small.third)) (light e) in
        omega (arith, prices.priced e h l, a, b, c)
    go (no n) l = omega (arith, prices.beyond e (omega arith))
    go (yes h) (no n) = let past : length base ≤ e = omega (arith, prices.sized) in omega (arith, get_or-eq_default base 0 past)

pub raised_low : (base price : List ℕ) (known double : ℕ) → ((e : ℕ) → get_or base e 0 ≤ 140737488355328) → double ≤ 541065217 → Raised base known double price → Low price
unfolding price_of
raised_low base price known double small d raised = (raised.sized, under (over_bound (λ e. get_or price e 0) everything 64 281474976710656 each))
  where
    under : {x : ℕ} → x ≤ 64 * 281474976710656 → x < 2 ^ 62
    under h = omega arith

    bit_times : (e : ℕ) → (bit known e ≡ 0) ⊎ (bit known e ≡ 1) → bit known e * double ≤ double
    bit_times e (inl z) = rw z (omega arith)
    bit_times e (inr o) = rw o (omega arith)

    each : (e : ℕ) → get_or price e 0 ≤ 281474976710656
    each e = go (dec_lt e 64)
      where
        go : Dec (e < 64) → get_or price e 0 ≤ 281474976710656
        go (yes h) = omega (arith, raised.each e h, small e, bit_times e (bit_cases known e), d)
        go (no n) = let past : length price ≤ e = omega (arith, raised.sized) in omega (arith, get_or-eq_default price 0 past)

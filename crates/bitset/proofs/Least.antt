-- The lowest member of a set: there is at most one, and the zeros that the machine counts below a set's lowest bit that is 1 are its number.
use mathlib.Core.Path.{◌≡◌, sym, ◌∙◌}
use mathlib.Core.Logic.{◌⊎◌, inl, inr}
use Prim.Native.Nat.{ℕ, zero, suc, ◌/◌, ◌%◌, ◌^◌, ◌<◌}
use native.Mathlib.Nat.{pow-succ', not-suc-le-zero}
use native.Mathlib.Omega.{arith}
use lib.Count.{count_trailing_zeros}
use Rattle.bitset.specs.Bits.{Member, Lowest}
use Rattle.bitset.proofs.Sets.{digit_cases, bit_first, bit_next}

-- the lowest member of an even set is one above that of its half
lowest_even : (set e : ℕ) → set % 2 ≡ 0 → Lowest (set / 2) e → Lowest set (suc e)
lowest_even set e even low = record { member = bit_next set e ∙ low.member; least = least }
  where
    least : (d : ℕ) → d < suc e → ¬ Member set d
    least zero l m = omega (arith, sym (bit_first set) ∙ m)
    least (suc d) l m = low.least d (omega arith) (sym (bit_next set d) ∙ m)

-- a set below 2 ^ k that is not empty has its lowest member where the machine counts it
pub lowest_trailing : (k set : ℕ) → set < 2 ^ k → ¬ (set ≡ 0) → Lowest set (count_trailing_zeros k set)
unfolding count_trailing_zeros
lowest_trailing zero set h n = absurd (n (omega arith))
lowest_trailing (suc k) set h n = go (lowest_trailing k (set / 2) (omega (arith, pow-succ' 2 k))) (digit_cases set)
  where
    go : (¬ (set / 2 ≡ 0) → Lowest (set / 2) (count_trailing_zeros k (set / 2))) → (set % 2 ≡ 0) ⊎ (set % 2 ≡ 1) → Lowest set (count_trailing_zeros (suc k) set)
    go half (inl even) = rw even (lowest_even set (count_trailing_zeros k (set / 2)) even (half (λ z. n (omega arith))))
    go half (inr odd) = rw odd (record { member = bit_first set ∙ odd; least = λ d l. absurd (not-suc-le-zero l) })

below_its_power : (n : ℕ) → n < 2 ^ n
below_its_power zero = omega arith
below_its_power (suc n) = omega (arith, below_its_power n, pow-succ' 2 n)

-- so a set that is not empty has a member
pub some_member : (set : ℕ) → ¬ (set ≡ 0) → (e : ℕ) × Member set e
some_member set n = (count_trailing_zeros set set, (lowest_trailing set set (below_its_power set) n).member)

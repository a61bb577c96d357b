-- How many members a set has: the ones among its bits, as the machine counts them. It is the sum of its bits below any bound that holds it, at most 64, 0
-- for the empty set, and one more with one member more.
use mathlib.Core.Path.{◌≡◌, sym, ap, ap₂, ◌∙◌}
use mathlib.Core.Logic.{◌⊎◌, inl, inr}
use Prim.Native.Nat.{ℕ, zero, suc, ◌+◌, ◌/◌, ◌^◌, ◌≤◌, ◌<◌}
use native.Mathlib.Nat.{pow-succ', lt_of_lt_of_le}
use native.Mathlib.Omega.{arith}
use lib.Arith.{lt-one}
use lib.Count.{ones, ones_step}
use lib.Pow.{pow_mono}
use Rattle.basis.specs.Sum.{sum}
use Rattle.bitset.specs.Bits.{bit, Member, count}
use Rattle.bitset.proofs.Sets.{bit_cases, bit_of_none, bit_first, bit_next}
use Rattle.basis.proofs.Sums.{sum_first, sum_same, sum_bound, sum_mono, sum_less}

-- the sum of the bits below n of a set below 2 ^ n is the number of its ones
pub sum_ones : (n set : ℕ) → set < 2 ^ n → sum (λ e. bit set e) n ≡ ones set
unfolding ones
sum_ones zero set h = ap ones (sym (lt-one h))
sum_ones (suc n) set h =
    let half : set / 2 < 2 ^ n = omega (arith, pow-succ' 2 n) in
    let others : sum (λ e. bit set (suc e)) n ≡ sum (λ e. bit (set / 2) e) n = sum_same _ _ n (λ e l. bit_next set e) in
    sum_first (λ e. bit set e) n ∙ ap₂ (λ (x y : ℕ). x + y) (bit_first set) (others ∙ sum_ones n (set / 2) half) ∙ sym (ones_step set)

-- the count is the machine's
pub count_ones : (set : ℕ) → set < 2 ^ 64 → count set ≡ ones set
unfolding count
count_ones set h = sum_ones 64 set h

-- the count is the sum of the bits below any bound that holds the set
pub count_below : (n set : ℕ) → n ≤ 64 → set < 2 ^ n → count set ≡ sum (λ e. bit set e) n
count_below n set l h = count_ones set (lt_of_lt_of_le h (pow_mono l)) ∙ sym (sum_ones n set h)

-- the count is at most 64
pub count_le : (set : ℕ) → count set ≤ 64
unfolding count
count_le set = sum_bound (λ e. bit set e) 64 1 (λ e. omega arith)

-- bit by bit, a set within another is no larger
bit_within : (a b e : ℕ) → (Member a e → Member b e) → bit a e ≤ bit b e
bit_within a b e h = go (bit_cases a e)
  where
    go : (bit a e ≡ 0) ⊎ (bit a e ≡ 1) → bit a e ≤ bit b e
    go (inl z) = omega arith
    go (inr o) = omega (arith, h o)

-- a set within another counts no more, and less where it lacks a member of it
pub count_within : (a b : ℕ) → ((e : ℕ) → Member a e → Member b e) → count a ≤ count b
unfolding count
count_within a b h = sum_mono (λ e. bit a e) (λ e. bit b e) 64 (λ e l. bit_within a b e (h e))

pub count_less : (a b e : ℕ) → ((d : ℕ) → Member a d → Member b d) → e < 64 → Member b e → ¬ Member a e → count a < count b
unfolding count
count_less a b e h l m n =
    sum_less (λ d. bit a d) (λ d. bit b d) 64 e (λ d k. bit_within a b d (h d)) l (omega (arith, bit_of_none a e n))

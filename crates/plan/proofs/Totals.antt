-- Sums over the members of a set that are below a bound, added up along a walk through them, the lowest first.
use mathlib.Core.Path.{◌≡◌, refl, sym, ap, ◌∙◌}
use mathlib.Core.List.{List}
use mathlib.Core.Logic.{◌⊎◌, inl, inr}
use Prim.Native.Nat.{ℕ, zero, suc, ◌+◌, ◌*◌, ◌^◌, ◌≤◌, ◌<◌}
use native.Mathlib.Decide.{ℕ_discrete}
use native.Mathlib.Nat.{zero-mul, zero-add, mul-le-mul_right}
use native.Mathlib.Omega.{arith}
use lib.ListN.{get_or}
use Rattle.basis.specs.Sum.{sum}
use Rattle.basis.proofs.Sums.{sum_bound, sum_changed, sum_same, sum_zero}
use Rattle.bitset.specs.Bits.{bit, Member, count}
use Rattle.bitset.specs.Walk.{Parts}
use Rattle.bitset.specs.declared.Rising.{Rising}
use Rattle.bitset.proofs.Counts.{count_le}
use Rattle.bitset.proofs.Sets.{bit_cases, bit_of_none, member_below, below_by_members, none_in_empty}
use Rattle.bitset.proofs.Subsets.{left_within, left_other, left_kept, left_count}

-- two sets that have or have not a number as a member have the same bit for it
bit_same : (a b e : ℕ) → (Member a e → Member b e) → (Member b e → Member a e) → bit a e ≡ bit b e
bit_same a b e f g = go (bit_cases a e) (bit_cases b e)
  where
    go : (bit a e ≡ 0) ⊎ (bit a e ≡ 1) → (bit b e ≡ 0) ⊎ (bit b e ≡ 1) → bit a e ≡ bit b e
    go (inl x) (inl y) = x ∙ sym y
    go (inl x) (inr y) = g y ∙ sym y
    go (inr x) y = x ∙ sym (f x)

-- the weight of an entry, by the entries' table
abbrev pub weights : List ℕ → ℕ → ℕ
weights entries e = get_or entries (e * 5 + 4) 0

-- the sum of g over the members of a set that are below n
abbrev pub over : (ℕ → ℕ) → ℕ → ℕ → ℕ
over g set n = sum (λ e. bit set e * g e) n

bit_times : (set e x : ℕ) → bit set e * x ≤ x
bit_times set e x = go (bit_cases set e)
  where
    go : (bit set e ≡ 0) ⊎ (bit set e ≡ 1) → bit set e * x ≤ x
    go (inl z) = rw z (omega arith)
    go (inr o) = rw o (omega arith)

pub over_bound : (g : ℕ → ℕ) (set n k : ℕ) → ((e : ℕ) → g e ≤ k) → over g set n ≤ n * k
over_bound g set n k h = sum_bound (λ e. bit set e * g e) n k (λ e. omega (arith, bit_times set e (g e), h e))

-- terms that are 0 from m on add nothing
pub sum_further : (f : ℕ → ℕ) (m n : ℕ) → m ≤ n → ((e : ℕ) → m ≤ e → f e ≡ 0) → sum f n ≡ sum f m
sum_further f m zero h z = let e : m ≡ 0 = omega arith in rw e refl
sum_further f m (suc n) h z = go (ℕ_discrete m (suc n)) (λ l. sum_further f m n l z)
  where
    go : Dec (m ≡ suc n) → (m ≤ n → sum f n ≡ sum f m) → sum f (suc n) ≡ sum f m
    go (yes e) rest = rw e refl
    go (no k) rest = omega (arith, rest (omega arith), z n (omega arith))

-- a walk through the members, where those below n are added up, each by a number below 2 ^ 16: what was added up, with what is left to add, is the sum over the set, by
-- whatever g the numbers are by
pub record Adding (By : (ℕ → ℕ) → Type 0) (set n total rest : ℕ) : Type 0 where
  pub fits : rest < 2 ^ 64
  pub bound : total + count rest * 65535 ≤ 64 * 65535
  pub adds : (g : ℕ → ℕ) → By g → total + over g rest n ≡ over g set n

pub add_start : {set : ℕ} {walk made : Rising} (By : (ℕ → ℕ) → Type 0) (n : ℕ) → walk ≡ made → made.rest ≡ set → set < 2 ^ 64 → Adding By set n 0 walk.rest
add_start {set = set} By n w s h =
    rw (ap (λ x. x.rest) w ∙ s)
    (record { fits = h; bound = omega (arith, mul-le-mul_right 65535 (count_le set)); adds = λ g b. zero-add (over g set n) })

module _ {By : (ℕ → ℕ) → Type 0} {set n total rest : ℕ} (a : Adding By set n total rest) where
  pub add_end : rest ≡ 0 → (g : ℕ → ℕ) → By g → total ≡ over g set n
  add_end z g b =
      let none : over g rest n ≡ 0 = sum_zero (λ d. bit rest d * g d) n (λ d l. rw (z, bit_of_none 0 d (none_in_empty d)) (zero-mul (g d))) in
      omega (arith, none, a.adds g b)

  module _ {e less : ℕ} (p : Parts rest e less) where
    left_fits : less < 2 ^ 64
    left_fits = below_by_members 64 less (λ d m. member_below 64 rest d a.fits (left_within a.fits p.lowest p.rest d m))

    -- what is left counts one less
    left_bound : count less * 65535 + 65535 ≤ count rest * 65535
    left_bound = omega (arith, mul-le-mul_right 65535 (left_count a.fits p.lowest p.rest))

    same_bit : (d : ℕ) → ¬ (d ≡ e) → bit rest d ≡ bit less d
    same_bit d k = bit_same rest less d (λ m. left_kept a.fits p.lowest p.rest d m k) (left_within a.fits p.lowest p.rest d)

    over_more : (g : ℕ → ℕ) → e < n → over g rest n ≡ over g less n + g e
    over_more g h =
        sum_changed (λ d. bit rest d * g d) (λ d. bit less d * g d) n e (g e) h
        (rw (p.lowest.member, bit_of_none less e (λ m. left_other a.fits p.lowest p.rest e m refl)) (omega arith))
        (λ d k. ap (λ (x : ℕ). x * g d) (same_bit d k))

    over_same : (g : ℕ → ℕ) → n ≤ e → over g rest n ≡ over g less n
    over_same g h = sum_same (λ d. bit rest d * g d) (λ d. bit less d * g d) n (λ d l. ap (λ (x : ℕ). x * g d) (same_bit d (λ k. omega arith)))

    -- a member below n adds its number, which fits
    pub add_on : {r : ℕ} → e < n → r < 2 ^ 16 → ((g : ℕ → ℕ) → By g → r ≡ g e) → Adding By set n (total + r) less
    add_on {r} h small by =
        record { fits = left_fits; bound = omega (arith, a.bound, left_bound); adds = λ g b. omega (arith, a.adds g b, over_more g h, by g b) }

    -- any other adds nothing
    pub add_skip : n ≤ e → Adding By set n total less
    add_skip h = record { fits = left_fits; bound = omega (arith, a.bound, left_bound); adds = λ g b. omega (arith, a.adds g b, over_same g h) }

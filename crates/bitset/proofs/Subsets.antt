-- A set within another: it counts less unless it is the other. So a set that loses its lowest member counts less, and a set that only grows can grow 64 times.
use mathlib.Core.Path.{◌≡◌, refl}
use mathlib.Core.Logic.{◌⊎◌, inl, inr}
use Prim.Native.Nat.{ℕ, zero, suc, ◌^◌, ◌≤◌, ◌<◌}
use native.Mathlib.Decide.{dec_lt}
use native.Mathlib.Nat.{not-suc-le-zero}
use native.Mathlib.Omega.{arith}
use Rattle.basis.specs.Sum.{sum}
use Rattle.basis.proofs.Decide.{below_suc}
use Rattle.bitset.specs.Bits.{bit, Member, count, Lowest}
use Rattle.bitset.specs.Changes.{Without}
use Rattle.bitset.proofs.Sets.{bit_cases, same_members, member_below}

-- a sum of lesser terms is at most the other
pub sum_mono : (f g : ℕ → ℕ) (n : ℕ) → ((e : ℕ) → f e ≤ g e) → sum f n ≤ sum g n
sum_mono f g zero h = omega arith
sum_mono f g (suc n) h = omega (arith, sum_mono f g n h, h n)

-- and where it is no less, the terms are equal
sum_tight : (f g : ℕ → ℕ) (n : ℕ) → ((e : ℕ) → f e ≤ g e) → sum g n ≤ sum f n → (e : ℕ) → e < n → g e ≤ f e
sum_tight f g zero h t e l = absurd (not-suc-le-zero l)
sum_tight f g (suc n) h t e l = go (below_suc l) (sum_tight f g n h (omega (arith, h n)) e)
  where
    go : (e ≡ n) ⊎ (e < n) → (e < n → g e ≤ f e) → g e ≤ f e
    go (inl k) rest = rw k (omega (arith, sum_mono f g n h))
    go (inr k) rest = rest k

-- every member of a is one of b
abbrev pub Within : ℕ → ℕ → Type 0
Within a b = (e : ℕ) → Member a e → Member b e

bit_within : (a b e : ℕ) → (Member a e → Member b e) → bit a e ≤ bit b e
bit_within a b e f = go (bit_cases a e)
  where
    go : (bit a e ≡ 0) ⊎ (bit a e ≡ 1) → bit a e ≤ bit b e
    go (inl z) = omega arith
    go (inr o) = omega (arith, f o)

bits_within : (n a b : ℕ) → b < 2 ^ n → Within a b → ¬ (a ≡ b) → sum (λ e. bit a e) n < sum (λ e. bit b e) n
bits_within n a b h w differ = go (dec_lt (sum (λ e. bit a e) n) (sum (λ e. bit b e) n))
  where
    terms : (e : ℕ) → bit a e ≤ bit b e
    terms e = bit_within a b e (w e)

    back : ¬ (sum (λ e. bit a e) n < sum (λ e. bit b e) n) → Within b a
    back f e m = omega (arith, sum_tight (λ e. bit a e) (λ e. bit b e) n terms (omega arith) e (member_below n b e h m), terms e)

    go : Dec (sum (λ e. bit a e) n < sum (λ e. bit b e) n) → sum (λ e. bit a e) n < sum (λ e. bit b e) n
    go (yes l) = l
    go (no f) = absurd (differ (same_members a b w (back f)))

pub count_within : (a b : ℕ) → b < 2 ^ 64 → Within a b → ¬ (a ≡ b) → count a < count b
unfolding count
count_within a b h w n = bits_within 64 a b h w n

-- a lowest member is a member, so one below 64 of a 64-bit set
pub lowest_below : {set e : ℕ} → set < 2 ^ 64 → Lowest set e → e < 64
lowest_below {set} {e} h l = member_below 64 set e h l.member

module _ {rest d less : ℕ} (h : rest < 2 ^ 64) (low : Lowest rest d) (w : Without rest d less) where
  -- what is left without the lowest member
  pub left_within : Within less rest
  left_within e m = ((w.members (lowest_below h low) e).0 m).0

  pub left_other : (e : ℕ) → Member less e → ¬ (e ≡ d)
  left_other e m = ((w.members (lowest_below h low) e).0 m).1

  pub left_kept : (e : ℕ) → Member rest e → ¬ (e ≡ d) → Member less e
  left_kept e m n = (w.members (lowest_below h low) e).1 (m, n)

  pub left_count : count less < count rest
  left_count = count_within less rest h left_within (λ e. left_other d (rw e low.member) refl)

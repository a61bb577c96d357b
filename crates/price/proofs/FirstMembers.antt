-- Of entries of n packages a set has at most n that are the first of their package; all others that it has are duplicates.
use mathlib.Core.Path.{◌≡◌, refl, ap, ap₂, ◌∙◌}
use mathlib.Core.List.{List}
use mathlib.Core.Logic.{◌⊎◌, inl, inr}
use Prim.Native.Nat.{ℕ, zero, suc, ◌+◌, ◌*◌, ◌≤◌, ◌<◌}
use native.Mathlib.Decide.{ℕ_discrete}
use native.Mathlib.Nat.{mul-zero, zero-mul}
use native.Mathlib.Omega.{arith}
use borrow.Author.Tests.{eq-eqb, ne_eqb}
use lib.Bits.{bit_or}
use Rattle.basis.specs.Sum.{sum, same, one_if}
use Rattle.basis.proofs.Sums.{sum_zero, sum_mono, term_le}
use Rattle.bitset.specs.Bits.{bit, Member}
use Rattle.bitset.proofs.Made.{join_members}
use Rattle.bitset.proofs.Sets.{bit_cases, bit_of_none, none_in_empty}
use Rattle.plan.specs.Pairs.{field}
use Rattle.price.specs.Kinds.{before_it, firsts}

-- sums of sums
pub sum_add : (f g : ℕ → ℕ) (n : ℕ) → sum (λ e. f e + g e) n ≡ sum f n + sum g n
sum_add f g zero = refl
sum_add f g (suc n) = omega (arith, sum_add f g n)

-- a sum of which at most one term is 1 and all others are 0
sum_one : (f : ℕ → ℕ) (n : ℕ) → ((e : ℕ) → f e ≤ 1) → ((d e : ℕ) → d < e → f e ≡ 1 → f d ≡ 0) → sum f n ≤ 1
sum_one f zero h l = omega arith
sum_one f (suc n) h l = go (ℕ_discrete (f n) 1) (sum_one f n h l)
  where
    go : Dec (f n ≡ 1) → sum f n ≤ 1 → sum f (suc n) ≤ 1
    go (yes e) rest = omega (arith, e, sum_zero f n (λ d k. l d n k e))
    go (no k) rest = omega (arith, h n, rest)

-- products of three tests
both : (a b c : ℕ) → a ≤ 1 → b ≤ 1 → c ≤ 1 → a * (b * c) ≤ 1
both zero b c h k l = omega arith
both (suc zero) zero c h k l = omega arith
both (suc zero) (suc zero) c h k l = omega arith
both (suc zero) (suc (suc b)) c h k l = absurd (omega arith)
both (suc (suc a)) b c h k l = absurd (omega arith)

each_one : (a b c : ℕ) → a ≤ 1 → b ≤ 1 → c ≤ 1 → a * (b * c) ≡ 1 → (a ≡ 1) × ((b ≡ 1) × (c ≡ 1))
each_one zero b c h k l e = absurd (omega arith)
each_one (suc zero) zero c h k l e = absurd (omega arith)
each_one (suc zero) (suc zero) c h k l e = (refl, (refl, omega arith))
each_one (suc zero) (suc (suc b)) c h k l e = absurd (omega arith)
each_one (suc (suc a)) b c h k l e = absurd (omega arith)

bit_le : (s e : ℕ) → bit s e ≤ 1
bit_le s e = omega arith

pub same_le : (a b : ℕ) → same a b ≤ 1
same_le a b = go (ℕ_discrete a b)
  where
    go : Dec (a ≡ b) → same a b ≤ 1
    go (yes e) = rw (ap one_if (eq-eqb a b e)) (omega arith)
    go (no n) = rw (ap one_if (ne_eqb a b n)) (omega arith)

same_none : (a b : ℕ) → same a b ≡ 1 → a ≡ b
same_none a b e = go (ℕ_discrete a b)
  where
    go : Dec (a ≡ b) → a ≡ b
    go (yes k) = k
    go (no n) = absurd (omega (arith, ap one_if (ne_eqb a b n), e))

-- nothing is known
pub firsts_none : (entries : List ℕ) (set : ℕ) → firsts entries set 0 ≡ 0
unfolding firsts
firsts_none entries set =
    sum_zero (λ e. bit set e * (bit 0 e * same (before_it entries set e) 0)) 64 (λ e h.
    ap (λ (b : ℕ). bit set e * (b * same (before_it entries set e) 0)) (bit_of_none 0 e (none_in_empty e)) ∙ ap (λ (b : ℕ). bit set e * b) (zero-mul (same (before_it entries set e) 0))
    ∙ mul-zero (bit set e))

module _ (entries : List ℕ) (set : ℕ) where
  term : ℕ → ℕ → ℕ
  term others e = bit set e * (bit others e * same (before_it entries set e) 0)

  term_one : (others e : ℕ) → term others e ≤ 1
  unfolding term
  term_one others e = both (bit set e) (bit others e) (same (before_it entries set e) 0) (bit_le set e) (bit_le others e) (same_le (before_it entries set e) 0)

  -- of one package there is one first member
  pub firsts_one : (others : ℕ) → ((d e : ℕ) → Member others d → Member others e → field entries d 0 ≡ field entries e 0) → firsts entries set others ≤ 1
  unfolding firsts term
  firsts_one others one = sum_one (term others) 64 (term_one others) none_before
    where
      none_before : (d e : ℕ) → d < e → term others e ≡ 1 → term others d ≡ 0
      none_before d e h x = go (ℕ_discrete (term others d) 1)
        where
          its : (bit set e ≡ 1) × ((bit others e ≡ 1) × (same (before_it entries set e) 0 ≡ 1))
          its = each_one (bit set e) (bit others e) (same (before_it entries set e) 0) (bit_le set e) (bit_le others e) (same_le (before_it entries set e) 0) x

          go : Dec (term others d ≡ 1) → term others d ≡ 0
          go (no n) = omega (arith, term_one others d)
          go (yes y) =
              let d_its = each_one (bit set d) (bit others d) (same (before_it entries set d) 0) (bit_le set d) (bit_le others d) (same_le (before_it entries set d) 0) y in
              let counts : bit set d * same (field entries d 0) (field entries e 0) ≡ 1 =
              ap₂ (λ (a b : ℕ). a * b) d_its.0 (ap one_if (eq-eqb (field entries d 0) (field entries e 0) (one d e d_its.1.0 its.1.0))) in
              let less = term_le (λ c. bit set c * same (field entries c 0) (field entries e 0)) e d h in
              absurd (clash (same_none (before_it entries set e) 0 its.1.1) counts less)
            where
              clash : {b c : ℕ} → b ≡ 0 → c ≡ 1 → c ≤ b → ⊥
              clash p q r = omega arith

  -- what is known with more
  pub firsts_more : (a b : ℕ) → firsts entries set (bit_or a b) ≤ firsts entries set a + firsts entries set b
  unfolding firsts term
  firsts_more a b = together (sum_mono (term (bit_or a b)) (λ e. term a e + term b e) 64 (λ e h. at e)) (sum_add (term a) (term b) 64)
    where
      together : {x y z : ℕ} → x ≤ y → y ≡ z → x ≤ z
      together h e = omega arith

      at : (e : ℕ) → term (bit_or a b) e ≤ term a e + term b e
      at e = go (bit_cases (bit_or a b) e)
        where
          x : ℕ
          x = same (before_it entries set e) 0

          go : (bit (bit_or a b) e ≡ 0) ⊎ (bit (bit_or a b) e ≡ 1) → bit set e * (bit (bit_or a b) e * x) ≤ bit set e * (bit a e * x) + bit set e * (bit b e * x)
          go (inl z) = rw (z, zero-mul x, mul-zero (bit set e)) (omega arith)
          go (inr o) = of ((join_members a b e).0 o)
            where
              of : Member a e ⊎ Member b e → bit set e * (bit (bit_or a b) e * x) ≤ bit set e * (bit a e * x) + bit set e * (bit b e * x)
              of (inl m) = rw (o, m) (omega arith)
              of (inr m) = rw (o, m) (omega arith)

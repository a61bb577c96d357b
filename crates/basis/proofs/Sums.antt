-- Sums over the numbers below a bound: the first term taken out, terms that are equal, terms that are bounded, and one term that is more.
use mathlib.Core.Path.{◌≡◌, refl}
use mathlib.Core.Logic.{◌⊎◌, inl, inr}
use Prim.Native.Nat.{ℕ, zero, suc, ◌+◌, ◌*◌, ◌≤◌, ◌<◌}
use native.Mathlib.Nat.{not-suc-le-zero, suc-mul}
use native.Mathlib.Omega.{arith}
use Rattle.basis.specs.Sum.{sum}
use Rattle.basis.proofs.Decide.{below_suc}

-- the first term, and the sum of the others
pub sum_first : (f : ℕ → ℕ) (n : ℕ) → sum f (suc n) ≡ f 0 + sum (λ e. f (suc e)) n
sum_first f zero = omega arith
sum_first f (suc n) = omega (arith, sum_first f n)

-- sums of equal terms are equal
pub sum_same : (f g : ℕ → ℕ) (n : ℕ) → ((e : ℕ) → e < n → f e ≡ g e) → sum f n ≡ sum g n
sum_same f g zero h = refl
sum_same f g (suc n) h = omega (arith, sum_same f g n (λ e l. h e (omega arith)), h n (omega arith))

-- a sum of terms of at most k
pub sum_bound : (f : ℕ → ℕ) (n k : ℕ) → ((e : ℕ) → f e ≤ k) → sum f n ≤ n * k
sum_bound f zero k h = omega arith
sum_bound f (suc n) k h = omega (arith, sum_bound f n k h, h n, suc-mul n k)

-- where one term is more by x, and the others are equal, so is the sum
pub sum_changed : (f g : ℕ → ℕ) (n e x : ℕ) → e < n → f e ≡ g e + x → ((d : ℕ) → ¬ (d ≡ e) → f d ≡ g d) → sum f n ≡ sum g n + x
sum_changed f g zero e x l more others = absurd (not-suc-le-zero l)
sum_changed f g (suc n) e x l more others = go (below_suc l) (λ h. sum_changed f g n e x h more others)
  where
    go : (e ≡ n) ⊎ (e < n) → (e < n → sum f n ≡ sum g n + x) → sum f (suc n) ≡ sum g (suc n) + x
    go (inl h) rest = omega (arith, rw h at more, sum_same f g n (λ d k. others d (omega arith)))
    go (inr h) rest = omega (arith, rest h, others n (omega arith))

-- each term is at most the sum
pub term_le : (f : ℕ → ℕ) (n e : ℕ) → e < n → f e ≤ sum f n
term_le f zero e h = absurd (not-suc-le-zero h)
term_le f (suc n) e h = go (below_suc h) (λ l. term_le f n e l)
  where
    go : (e ≡ n) ⊎ (e < n) → (e < n → f e ≤ sum f n) → f e ≤ sum f (suc n)
    go (inl k) rest = rw k (omega arith)
    go (inr k) rest = omega (arith, rest k)

-- a sum of zeros is zero
pub sum_zero : (f : ℕ → ℕ) (n : ℕ) → ((e : ℕ) → e < n → f e ≡ 0) → sum f n ≡ 0
sum_zero f zero h = refl
sum_zero f (suc n) h = omega (arith, sum_zero f n (λ e l. h e (omega arith)), h n (omega arith))

-- a sum of smaller terms is smaller, and less where one of them is less
pub sum_mono : (f g : ℕ → ℕ) (n : ℕ) → ((e : ℕ) → e < n → f e ≤ g e) → sum f n ≤ sum g n
sum_mono f g zero h = omega arith
sum_mono f g (suc n) h = omega (arith, sum_mono f g n (λ e l. h e (omega arith)), h n (omega arith))

pub sum_less : (f g : ℕ → ℕ) (n e : ℕ) → ((d : ℕ) → d < n → f d ≤ g d) → e < n → f e < g e → sum f n < sum g n
sum_less f g zero e h l k = absurd (not-suc-le-zero l)
sum_less f g (suc n) e h l k = go (below_suc l) (λ m. sum_less f g n e (λ d o. h d (omega arith)) m k)
  where
    go : (e ≡ n) ⊎ (e < n) → (e < n → sum f n < sum g n) → sum f (suc n) < sum g (suc n)
    go (inl m) rest = omega (arith, rw m at k, sum_mono f g n (λ d o. h d (omega arith)))
    go (inr m) rest = omega (arith, rest m, h n (omega arith))

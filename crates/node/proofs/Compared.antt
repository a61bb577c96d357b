-- How two lists compare: by their first numbers and what follows these, and by where they first differ.
use mathlib.Core.Path.{◌≡◌}
use mathlib.Core.List.{List, [], ◌∷◌}
use mathlib.Core.Logic.{◌⊎◌, ◌↔◌, inl, inr}
use Prim.Native.Nat.{ℕ, zero, suc, ◌≤◌, ◌<◌}
use native.Mathlib.Nat.{zero-lt-suc}
use native.Mathlib.Omega.{arith}
use lib.ListN.{length, get_or}
use Rattle.pacsolve.specs.Order.{Earlier, lower, alike}
use Rattle.pacsolve.proofs.Order.{earlier_cases}

-- first numbers that are equal decide nothing
pub same_first : {a b : ℕ} {s t : List ℕ} → a ≡ b → Earlier s t ↔ Earlier (a ∷ s) (b ∷ t)
same_first {a} {b} {s} {t} same = (λ e. rw same (alike e), λ e. go (earlier_cases e))
  where
    go : (a < b) ⊎ ((a ≡ b) × Earlier s t) → Earlier s t
    go (inl l) = absurd (omega arith)
    go (inr x) = x.1

-- others decide
pub other_first : {a b : ℕ} {s t : List ℕ} → ¬ (a ≡ b) → (a < b) ↔ Earlier (a ∷ s) (b ∷ t)
other_first {a} {b} {s} {t} other = (lower, λ e. go (earlier_cases e))
  where
    go : (a < b) ⊎ ((a ≡ b) × Earlier s t) → a < b
    go (inl l) = l
    go (inr x) = absurd (other x.0)

-- where one has ended, neither is earlier
pub ended_first : (s t : List ℕ) → (length s ≡ 0) ⊎ (length t ≡ 0) → ¬ Earlier s t
ended_first [] t x e = earlier_cases e
ended_first (a ∷ s) [] x e = earlier_cases e
ended_first (a ∷ s) (b ∷ t) (inl x) e = omega arith
ended_first (a ∷ s) (b ∷ t) (inr x) e = omega arith

-- two lists are alike up to i
abbrev pub Alike : List ℕ → List ℕ → ℕ → Type 0
Alike s t i = (k : ℕ) → k < i → get_or s k 0 ≡ get_or t k 0

one_on : (a b : ℕ) (s t : List ℕ) (i : ℕ) → Alike (a ∷ s) (b ∷ t) (suc i) → Alike s t i
one_on a b s t i h k l = h (suc k) (omega arith)

-- where they first differ decides
pub earlier_at : (s t : List ℕ) (i : ℕ) → i < length s → i < length t → Alike s t i → get_or s i 0 < get_or t i 0 → Earlier s t
earlier_at [] t i h l k d = absurd (omega arith)
earlier_at (a ∷ s) [] i h l k d = absurd (omega arith)
earlier_at (a ∷ s) (b ∷ t) zero h l k d = lower d
earlier_at (a ∷ s) (b ∷ t) (suc i) h l k d = rw (k 0 (zero-lt-suc i)) (alike (earlier_at s t i (omega arith) (omega arith) (one_on a b s t i k) d))

pub not_earlier_at : (s t : List ℕ) (i : ℕ) → Alike s t i → get_or t i 0 < get_or s i 0 → ¬ Earlier s t
not_earlier_at (a ∷ s) (b ∷ t) zero k d e = go (earlier_cases e)
  where
    go : (a < b) ⊎ ((a ≡ b) × Earlier s t) → ⊥
    go (inl x) = omega arith
    go (inr x) = omega (arith, x.0)
not_earlier_at (a ∷ s) (b ∷ t) (suc i) k d e = go (earlier_cases e) (not_earlier_at s t i (one_on a b s t i k) d)
  where
    go : (a < b) ⊎ ((a ≡ b) × Earlier s t) → ¬ Earlier s t → ⊥
    go (inl x) n = omega (arith, k 0 (zero-lt-suc i))
    go (inr x) n = n x.1
not_earlier_at [] t i k d e = absurd (earlier_cases e)
not_earlier_at (a ∷ s) [] i k d e = absurd (earlier_cases e)

-- where one ends first, or both at once, neither is earlier
pub not_earlier_end : (s t : List ℕ) (i : ℕ) → Alike s t i → (length s ≤ i) ⊎ (length t ≤ i) → ¬ Earlier s t
not_earlier_end [] t i k x e = absurd (earlier_cases e)
not_earlier_end (a ∷ s) [] i k x e = absurd (earlier_cases e)
not_earlier_end (a ∷ s) (b ∷ t) zero k (inl x) e = omega arith
not_earlier_end (a ∷ s) (b ∷ t) zero k (inr x) e = omega arith
not_earlier_end (a ∷ s) (b ∷ t) (suc i) k x e = go (earlier_cases e) (not_earlier_end s t i (one_on a b s t i k) (shorter x))
  where
    shorter : (length (a ∷ s) ≤ suc i) ⊎ (length (b ∷ t) ≤ suc i) → (length s ≤ i) ⊎ (length t ≤ i)
    shorter (inl h) = inl (omega arith)
    shorter (inr h) = inr (omega arith)

    go : (a < b) ⊎ ((a ≡ b) × Earlier s t) → ¬ Earlier s t → ⊥
    go (inl h) n = omega (arith, k 0 (zero-lt-suc i))
    go (inr h) n = n h.1

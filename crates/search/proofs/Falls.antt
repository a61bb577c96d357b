-- What falls in the search: the choices left over all slots, and the entries that are not yet a must.
use mathlib.Core.Path.{◌≡◌}
use mathlib.Core.List.{List}
use Prim.Native.Nat.{ℕ, ◌+◌, ◌-◌, ◌≤◌, ◌<◌}
use native.Mathlib.Decide.{ℕ_discrete}
use native.Mathlib.Nat.{le_refl}
use native.Mathlib.Omega.{arith}
use lib.ListN.{length, get_or, set}
use lib.Seq.{get_or-set_same, get_or-set_other}
use Rattle.basis.specs.Sum.{sum}
use Rattle.basis.proofs.Sums.{sum_mono, sum_less}
use Rattle.bitset.specs.Bits.{Member, count}
use Rattle.bitset.proofs.Counts.{count_within, count_less, count_le}
use Rattle.node.specs.Steps.{Fewer}

-- the choices of all slots together
total : List ℕ → ℕ
total choices = sum (λ s. count (get_or choices s 0)) 256

total_within : (choices choices' : List ℕ) → ((s e : ℕ) → Member (get_or choices' s 0) e → Member (get_or choices s 0) e) → total choices' ≤ total choices
unfolding total
total_within choices choices' f =
    sum_mono (λ s. count (get_or choices' s 0)) (λ s. count (get_or choices s 0)) 256 (λ s h. count_within (get_or choices' s 0) (get_or choices s 0) (f s))

total_less : (choices : List ℕ) (s x d : ℕ) → s < 256 → s < length choices → ((e : ℕ) → Member x e → Member (get_or choices s 0) e) → d < 64
    → Member (get_or choices s 0) d → ¬ Member x d → total (set choices s x) < total choices
unfolding total
total_less choices s x d h l within small has lacks =
    sum_less (λ t. count (get_or (set choices s x) t 0)) (λ t. count (get_or choices t 0)) 256 s (λ t k. at t (ℕ_discrete t s)) h
    (rw (get_or-set_same choices s x 0 l) (count_less x (get_or choices s 0) d within small has lacks))
  where
    at : (t : ℕ) → Dec (t ≡ s) → count (get_or (set choices s x) t 0) ≤ count (get_or choices t 0)
    at t (yes e) = rw (e, get_or-set_same choices s x 0 l) (count_within x (get_or choices s 0) within)
    at t (no n) = rw (get_or-set_other choices s t x 0 n) (le_refl (count (get_or choices t 0)))

pub remaining : ℕ → List ℕ → ℕ
remaining must choices = total choices + (64 - count must)

-- no step adds to it
pub remaining_fewer : {must must' : ℕ} {choices choices' : List ℕ} → Fewer must choices must' choices' → remaining must' choices' ≤ remaining must choices
unfolding remaining
remaining_fewer {must} {must'} {choices} {choices'} f = omega (arith, total_within choices choices' f.fewer, count_within must must' f.more)

-- a slot that loses a choice
pub remaining_less : (must : ℕ) (choices : List ℕ) (s x d : ℕ) → s < 256 → s < length choices → ((e : ℕ) → Member x e → Member (get_or choices s 0) e) → d < 64
    → Member (get_or choices s 0) d → ¬ Member x d → remaining must (set choices s x) < remaining must choices
unfolding remaining
remaining_less must choices s x d h l within small has lacks = omega (arith, total_less choices s x d h l within small has lacks)

-- one must more
pub remaining_forced : (must must' e : ℕ) (choices : List ℕ) → ((d : ℕ) → Member must d → Member must' d) → e < 64 → Member must' e → ¬ Member must e
    → remaining must' choices < remaining must choices
unfolding remaining
remaining_forced must must' e choices within small has lacks = omega (arith, count_less must must' e within small has lacks, count_le must')

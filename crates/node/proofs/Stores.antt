-- Slots passed one by one, and stores to a list: what holds of each slot of a span and of each element stored so far, and of the members where the elements are sets.
use mathlib.Core.Path.{◌≡◌, refl, ap}
use mathlib.Core.List.{List, [], ◌∷◌}
use mathlib.Core.Logic.{⊎_elim}
use Prim.Native.Nat.{ℕ, zero, suc, ◌+◌, ◌≤◌, ◌<◌}
use native.Mathlib.Nat.{lt_irrefl}
use native.Mathlib.Omega.{arith}
use borrow.Author.Count.{below_more}
use lib.ListN.{length, get_or, set}
use lib.Seq.{get_or-set_same, get_or-set_other}
use Rattle.basis.proofs.Decide.{below_suc}
use Rattle.bitset.specs.Bits.{Member}

-- what holds of each slot of a span as far as s, and of s, holds as far as s + 1
pub span_more : (P : ℕ → Type 0) {start s : ℕ} → ((t : ℕ) → start ≤ t → t < s → P t) → P s → (t : ℕ) → start ≤ t → t < s + 1 → P t
span_more P all here t low high = ⊎_elim (λ same. rw same here) (λ before. all t low before) (below_suc (omega arith))

module _ (P : ℕ → ℕ → Type 0) (xs : List ℕ) (i v d : ℕ) where
  -- what holds of each element below i, and of what is stored at i, holds below i + 1
  pub stored_more : i < length xs → ((k : ℕ) → k < i → P k (get_or xs k d)) → P i v → (k : ℕ) → k < i + 1 → P k (get_or (set xs i v) k d)
  stored_more h all here =
      below_more (λ k. P k (get_or (set xs i v) k d)) i
      (λ k l. rw (get_or-set_other xs i k v d (λ e. lt_irrefl i (rw e at l))) (all k l))
      (rw (get_or-set_same xs i v d h) here)

-- a list of sets, at s of which a part of what stood there is stored: no set has gained a member, and each keeps those that the part has
pub stored_fewer : (xs : List ℕ) (s v : ℕ) → ((e : ℕ) → Member v e → Member (get_or xs s 0) e) → (t e : ℕ) → Member (get_or (set xs s v) t 0) e → Member (get_or xs t 0) e
stored_fewer [] s v f t e m = m
stored_fewer (x ∷ xs) zero v f zero e m = f e m
stored_fewer (x ∷ xs) zero v f (suc t) e m = m
stored_fewer (x ∷ xs) (suc s) v f zero e m = m
stored_fewer (x ∷ xs) (suc s) v f (suc t) e m = stored_fewer xs s v f t e m

pub stored_keeps : (xs : List ℕ) (s v t e : ℕ) → Member (get_or xs t 0) e → (t ≡ s → Member v e) → Member (get_or (set xs s v) t 0) e
stored_keeps [] s v t e m h = m
stored_keeps (x ∷ xs) zero v zero e m h = h refl
stored_keeps (x ∷ xs) zero v (suc t) e m h = m
stored_keeps (x ∷ xs) (suc s) v zero e m h = m
stored_keeps (x ∷ xs) (suc s) v (suc t) e m h = stored_keeps xs s v t e m (λ k. h (ap suc k))

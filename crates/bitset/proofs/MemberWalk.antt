-- A walk through the members of a set, the lowest first: what is left of the set, and what holds of each member passed.
use mathlib.Core.Path.{◌≡◌, ap, ◌∙◌}
use mathlib.Core.Logic.{◌⊎◌, inl, inr}
use Prim.Native.Nat.{ℕ, ◌^◌, ◌<◌}
use native.Mathlib.Decide.{ℕ_discrete}
use Rattle.bitset.specs.Bits.{Member}
use Rattle.bitset.specs.Walk.{Parts}
use Rattle.bitset.specs.declared.Rising.{Rising}
use Rattle.bitset.proofs.Sets.{below_by_members, member_below, none_in_empty}
use Rattle.bitset.proofs.Subsets.{Within, left_within, left_other, left_kept}

-- what is left of a set, where Q holds of each member passed
pub record Walked (set rest : ℕ) (Q : ℕ → Type 0) : Type 0 where
  pub fits : rest < 2 ^ 64
  pub within : Within rest set
  pub passed : (e : ℕ) → Member set e → Member rest e ⊎ Q e

-- a walk begins with the set itself, made into an iterator
pub walk_start : {set : ℕ} {walk made : Rising} (Q : ℕ → Type 0) → walk ≡ made → made.rest ≡ set → set < 2 ^ 64 → Walked set walk.rest Q
walk_start {set = set} Q w s h = rw (ap (λ x. x.rest) w ∙ s) (record { fits = h; within = λ e m. m; passed = λ e m. inl m })

pub walk_end : {set rest : ℕ} {Q : ℕ → Type 0} → Walked set rest Q → rest ≡ 0 → (e : ℕ) → Member set e → Q e
walk_end {set} {rest} {Q} w z e m = go (w.passed e m)
  where
    go : Member rest e ⊎ Q e → Q e
    go (inl x) = absurd (none_in_empty e (rw z at x))
    go (inr q) = q

-- the lowest member of what is left is a member of the set
pub walk_at : {set rest d less : ℕ} {Q : ℕ → Type 0} → Walked set rest Q → Parts rest d less → Member set d
walk_at {d = d} w p = w.within d p.lowest.member

-- one step of the walk, from rest to less by its lowest member d
module _ {set rest d less : ℕ} {Q : ℕ → Type 0} (w : Walked set rest Q) (p : Parts rest d less) where
  -- what is left then is of the set, without d
  pub walk_left : (e : ℕ) → Member less e → Member set e × ¬ (e ≡ d)
  walk_left e m = (w.within e (left_within w.fits p.lowest p.rest e m), left_other w.fits p.lowest p.rest e m)

  -- a member other than d is left, or was passed before
  pub walk_other : (e : ℕ) → Member set e → ¬ (e ≡ d) → Member less e ⊎ Q e
  walk_other e m n = go (w.passed e m)
    where
      go : Member rest e ⊎ Q e → Member less e ⊎ Q e
      go (inl r) = inl (left_kept w.fits p.lowest p.rest e r n)
      go (inr q) = inr q

  pub walk_on : Q d → Walked set less Q
  walk_on q =
      record {
        fits = below_by_members 64 less (λ e m. member_below 64 rest e w.fits (left_within w.fits p.lowest p.rest e m));
        within = λ e m. (walk_left e m).0;
        passed = λ e m. go e m (ℕ_discrete e d);
      }
    where
      go : (e : ℕ) → Member set e → Dec (e ≡ d) → Member less e ⊎ Q e
      go e m (yes s) = inr (rw s q)
      go e m (no n) = walk_other e m n

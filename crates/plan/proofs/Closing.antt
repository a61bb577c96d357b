-- The laws of rows of sets: what a store to one row, a link and a pass make of them.
use mathlib.Core.Path.{◌≡◌, ◌∙◌}
use mathlib.Core.List.{List}
use mathlib.Core.Logic.{◌⊎◌, ◌↔◌, inl, inr, ⊎_elim}
use Prim.Native.Nat.{ℕ, ◌≤◌, ◌<◌}
use native.Mathlib.Decide.{ℕ_discrete}
use native.Mathlib.Omega.{arith}
use lib.Bits.{bit_or}
use lib.ListN.{length, get_or, set as written, length-set, get_or-eq_default}
use lib.Seq.{get_or-set_same, get_or-set_other}
use Rattle.bitset.specs.Bits.{Member}
use Rattle.bitset.specs.Changes.{With}
use Rattle.bitset.proofs.Made.{join_members}
use Rattle.bitset.proofs.Sets.{none_in_empty}
use Rattle.plan.specs.Closure.{Holds, Links, Through}

-- a row past the end holds nothing
pub past_end : (rows : List ℕ) (d e : ℕ) → length rows ≤ d → ¬ Holds rows d e
past_end rows d e h m = none_in_empty e (rw (get_or-eq_default rows 0 h) at m)

-- after a store to row c, that row holds what was stored, and each other row what it held
module _ (rows : List ℕ) (c r : ℕ) where
  pub stored_here : c < length rows → (d e : ℕ) → d ≡ c → Holds (written rows c r) d e ↔ Member r e
  stored_here h d e p = (λ m. rw (p, get_or-set_same rows c r 0 h) at m, λ m. rw (p, get_or-set_same rows c r 0 h) m)

  pub stored_elsewhere : (d e : ℕ) → ¬ (d ≡ c) → Holds (written rows c r) d e ↔ Holds rows d e
  stored_elsewhere d e n = (λ m. rw (get_or-set_other rows c d r 0 n) at m, λ m. rw (get_or-set_other rows c d r 0 n) m)

-- what a link adds
abbrev Linked : ℕ → ℕ → ℕ → ℕ → ℕ → Type 0
Linked set owner choice d e = (d ≡ owner) × (e ≡ choice) × (Member set owner × Member set choice)

module _ {set owner choice : ℕ} {before : List ℕ} (size : length before ≡ 64) where
  pub links_none : ¬ (Member set owner × Member set choice) → Links set owner choice before before
  links_none n = record { size = size; holds = λ d e. (λ m. inl m, λ x. ⊎_elim (λ m. m) (λ l. absurd (n l.2)) x) }

  pub links_one : {r : ℕ} → owner < 64 → choice < 64 → Member set owner → Member set choice → With (get_or before owner 0) choice r → Links set owner choice before (written before owner r)
  links_one {r} ho hc mo mc w = record { size = length-set before owner r ∙ size; holds = λ d e. go d e (ℕ_discrete d owner) }
    where
      below : owner < length before
      below = omega arith

      to : (d e : ℕ) → d ≡ owner → (e ≡ choice) ⊎ Holds before owner e → Holds before d e ⊎ Linked set owner choice d e
      to d e p (inl q) = inr (p, q, (mo, mc))
      to d e p (inr m) = inl (rw p m)

      from : (d e : ℕ) → d ≡ owner → Holds before d e ⊎ Linked set owner choice d e → (e ≡ choice) ⊎ Holds before owner e
      from d e p (inl m) = inr (rw p at m)
      from d e p (inr l) = inl l.1

      go : (d e : ℕ) → Dec (d ≡ owner) → Holds (written before owner r) d e ↔ (Holds before d e ⊎ Linked set owner choice d e)
      go d e (yes p) = (
        λ m. to d e p ((w.members hc e).0 ((stored_here before owner r below d e p).0 m)),
        λ x. (stored_here before owner r below d e p).1 ((w.members hc e).1 (from d e p x)),
      )
      go d e (no n) = (
        λ m. inl ((stored_elsewhere before owner r d e n).0 m),
        λ x. ⊎_elim (λ m. (stored_elsewhere before owner r d e n).1 m) (λ l. absurd (n l.0)) x,
      )

-- a row that holds k takes up what k leads to
module _ {row k via : ℕ} where
  pub through_yes : Member row k → Through row k via (bit_or row via)
  through_yes m =
      record {
        holds = λ e. (λ x. ⊎_elim (λ y. inl y) (λ y. inr (m, y)) ((join_members row via e).0 x), λ x. (join_members row via e).1 (⊎_elim (λ y. inl y) (λ y. inr y.1) x));
      }

-- a pass by way of k at its row d: the rows before d are done, the others as they were
pub record Passing (before : List ℕ) (k d : ℕ) (rows : List ℕ) : Type 0 where
  pub size : length rows ≡ 64
  pub done : (c : ℕ) → c < d → (e : ℕ) → Holds rows c e ↔ (Holds before c e ⊎ (Holds before c k × Holds before k e))
  pub kept : (c : ℕ) → d ≤ c → get_or rows c 0 ≡ get_or before c 0

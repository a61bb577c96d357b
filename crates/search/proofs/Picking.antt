-- What a pick says, by its case.
use mathlib.Core.Path.{◌≡◌, sym, ◌∙◌}
use mathlib.Core.List.{List}
use Prim.Native.Nat.{ℕ}
use native.Mathlib.Decide.{ℕ_discrete}
use lib.ListN.{get_or}
use Rattle.bitset.specs.Bits.{Member}
use Rattle.bitset.proofs.Sets.{none_in_empty}
use Rattle.node.specs.Steps.{Only}
use Rattle.search.specs.declared.Pick.{Pick}
use Rattle.search.specs.declared.Pick.TheVariants.{Split, Force, Dead, Complete}
use Rattle.search.specs.Picks.{Due, Settles, Picked, undecided, forced, dead, complete}

module _ (slots : List ℕ) (must : ℕ) (choices : List ℕ) where
  pub picked_dead : (a : Pick) → a ≡ Dead → Picked slots must choices a → (s : ℕ) × Due slots must s × (get_or choices s 0 ≡ 0)
  picked_dead a f (undecided d x y n e) = cc
  picked_dead a f (forced d o n e) = cc
  picked_dead a f (dead {s = s} d z e) = (s, d, z)
  picked_dead a f (complete g e) = cc

  pub picked_complete : (a : Pick) → a ≡ Complete → Picked slots must choices a → Settles slots must choices
  picked_complete a f (undecided d x y n e) = cc
  picked_complete a f (forced d o n e) = cc
  picked_complete a f (dead d z e) = cc
  picked_complete a f (complete g e) = g

  pub record Forcing (s : ℕ) : Type 0 where
    pub due : Due slots must s
    pub only_one : ℕ
    pub only : Only (get_or choices s 0) only_one
    pub lacks : ¬ Member must only_one

  pub picked_force : (a : Pick) (t : ℕ) → a ≡ Force t → Picked slots must choices a → Forcing t
  picked_force a t f (undecided d x y n e) = cc
  picked_force a t f (forced {s = s} {e = x} d o n e) = let its : t ≡ s = cc in rw its (record { due = d; only_one = x; only = o; lacks = n })
  picked_force a t f (dead d z e) = cc
  picked_force a t f (complete g e) = cc

  pub record Splitting (s : ℕ) : Type 0 where
    pub due : Due slots must s
    pub one : ℕ
    pub other : ℕ
    pub is_one : Member (get_or choices s 0) one
    pub is_other : Member (get_or choices s 0) other
    pub differ : ¬ (one ≡ other)

  pub picked_split : (a : Pick) (t : ℕ) → a ≡ Split t → Picked slots must choices a → Splitting t
  picked_split a t f (undecided {s = s} {d = x} {e = y} d m n o e) =
      let its : t ≡ s = cc in rw its (record { due = d; one = x; other = y; is_one = m; is_other = n; differ = o })
  picked_split a t f (forced d o n e) = cc
  picked_split a t f (dead d z e) = cc
  picked_split a t f (complete g e) = cc

  -- whichever choice is taken, another is left
  pub another : (s : ℕ) → Splitting s → (e : ℕ) → (d : ℕ) × Member (get_or choices s 0) d × (¬ (d ≡ e))
  another s x e = go (ℕ_discrete x.one e)
    where
      go : Dec (x.one ≡ e) → (d : ℕ) × Member (get_or choices s 0) d × (¬ (d ≡ e))
      go (yes h) = (x.other, x.is_other, λ k. x.differ (h ∙ sym k))
      go (no n) = (x.one, x.is_one, n)

  -- and so there is one
  pub some_choice : (s : ℕ) → Splitting s → ¬ (get_or choices s 0 ≡ 0)
  some_choice s x z = none_in_empty x.one (rw z at x.is_one)

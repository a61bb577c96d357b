-- From how one slot stands to what is to be done next.
use mathlib.Core.Path.{◌≡◌}
use mathlib.Core.List.{List}
use Prim.Native.Nat.{ℕ, ◌/◌, ◌<◌}
use lib.ListN.{length, get_or}
use Rattle.bitset.specs.Bits.{Member}
use Rattle.catalogue.specs.Spans.{owner_in}
use Rattle.node.specs.Steps.{Only}
use Rattle.search.specs.declared.Pick.{Pick}
use Rattle.search.specs.declared.Pick.TheVariants.{Split, Force, Dead, Complete}
use Rattle.search.specs.declared.pick_slot.Standing.{Standing}
use Rattle.search.specs.declared.pick_slot.Standing.TheVariants.{Fine, Open, Narrow, Stuck}
use Rattle.search.specs.Picks.{Picked, undecided, forced, dead, Stands, wide, narrow, stuck, fine}

-- a slot at which there is nothing to do
abbrev pub Quiet : ℕ → ℕ → ℕ → Type 0
Quiet must owner choices = Member must owner → (e : ℕ) × Only choices e × Member must e

pub quiet : {must owner choices : ℕ} {a : Standing} → Stands must owner choices a → a ≡ Fine → Quiet must owner choices
quiet (wide m x y n e) f = cc
quiet (narrow m o n e) f = cc
quiet (stuck m o e) f = cc
quiet (fine q e) f = q

-- what is to be done at a slot, by how it stands
abbrev pub pick_for : Standing → ℕ → Pick
pick_for Fine s = Complete
pick_for Open s = Split s
pick_for Narrow s = Force s
pick_for Stuck s = Dead

pub picked_at : {must : ℕ} {a : Standing} (slots choices : List ℕ) (s : ℕ) → s < length slots / 4 → Stands must (owner_in slots s) (get_or choices s 0) a
    → (b : Standing) → a ≡ b → ¬ (b ≡ Fine) → Picked slots must choices (pick_for b s)
picked_at slots choices s l (wide m x y n e) b f other = undecided (record { there = l; owned = m }) x y n (cc)
picked_at slots choices s l (narrow m o n e) b f other = forced (record { there = l; owned = m }) o n (cc)
picked_at slots choices s l (stuck m o e) b f other = dead (record { there = l; owned = m }) o (cc)
picked_at slots choices s l (fine q e) b f other = let z : b ≡ Fine = cc in absurd (other z)

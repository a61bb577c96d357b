-- A set of choices parted into one of them and the others.
use mathlib.Core.Path.{◌≡◌}
use mathlib.Core.Logic.{◌⊎◌, inl, inr}
use Prim.Native.Nat.{ℕ, ◌^◌, ◌<◌}
use Rattle.bitset.specs.Bits.{Member}
use Rattle.bitset.specs.Changes.{With, Without}
use Rattle.bitset.proofs.Sets.{none_in_empty, member_below}
use Rattle.search.specs.Picks.{Halved}

pub parted : (all e one rest : ℕ) → all < 2 ^ 64 → Member all e → With 0 e one → Without all e rest → (x : ℕ) × Halved all one rest x
parted all e one rest small its with_it out =
    let below : e < 64 = member_below 64 all e small its in
    (e, record { small = below; is = its; alone = λ d. (λ m. only d ((with_it.members below d).0 m), λ h. (with_it.members below d).1 (inl h)); others = λ d. out.members below d })
  where
    only : (d : ℕ) → (d ≡ e) ⊎ Member 0 d → d ≡ e
    only d (inl h) = h
    only d (inr m) = absurd (none_in_empty d m)

-- Sets of few members: what taking members out of a set leaves, and what an answer tells of the set.
use mathlib.Core.Path.{◌≡◌, refl}
use Prim.Native.Nat.{ℕ, ◌-◌, ◌^◌, ◌≤◌, ◌<◌}
use native.Mathlib.Decide.{ℕ_discrete}
use native.Mathlib.Omega.{arith}
use lib.Bits.{bit_and}
use Rattle.bitset.specs.Bits.{Member}
use Rattle.bitset.specs.Changes.{Without}
use Rattle.bitset.specs.Search.{LowestOr64}
use Rattle.bitset.proofs.Least.{some_member}
use Rattle.bitset.proofs.Made.{meet_members, rest_members}
use Rattle.bitset.proofs.Sets.{member_below, not_empty}
use Rattle.node.specs.declared.holds.Held.{Held}
use Rattle.node.specs.declared.holds.Held.TheVariants.{Nothing, One, Several}
use Rattle.node.specs.Steps.{Only}
use Rattle.node.specs.Members.{Holds, nothing, one, several}
use Rattle.node.specs.Settling.{Less}

module _ (set e rest : ℕ) (h : set < 2 ^ 64) (m : Member set e) (out : Without set e rest) where
  below : e < 64
  below = member_below 64 set e h m

  -- without e nothing is left: e is the only member
  pub only_member : rest ≡ 0 → Only set e
  only_member none d = (λ x. go x (ℕ_discrete d e), λ same. rw same m)
    where
      go : Member set d → Dec (d ≡ e) → d ≡ e
      go x (yes same) = same
      go x (no other) = absurd (not_empty rest d ((out.members below d).1 (x, other)) none)

  -- without e something is left: a second member
  pub second_member : ¬ (rest ≡ 0) → (d : ℕ) × Member set d × ¬ (d ≡ e)
  second_member n =
      let other = some_member rest n in
      let both = (out.members below other.0).0 other.1 in
      (other.0, both.0, both.1)

-- the number of the lowest member fits a byte, and is the only member's where there is one
pub lowest_fits : {set r : ℕ} → set < 2 ^ 64 → LowestOr64 set r → r ≤ 64
lowest_fits {set} {r} h low = go (ℕ_discrete set 0)
  where
    go : Dec (set ≡ 0) → r ≤ 64
    go (yes z) = omega (arith, low.none z)
    go (no n) = omega (arith, member_below 64 set r h (low.some n).member)

pub lowest_only : {set r e : ℕ} → LowestOr64 set r → Only set e → r ≡ e
lowest_only {set} {r} {e} low only = (only r).0 (low.some (not_empty set e ((only e).1 refl))).member

-- what is left of a set without the members of another
pub less_members : (set out : ℕ) → set < 2 ^ 64 → out < 2 ^ 64 → Less set out (bit_and set (2 ^ 64 - 1 - out))
less_members set out h l d =
    let both = meet_members set (2 ^ 64 - 1 - out) d in
    let rest = rest_members 64 out d l in
    (λ m. ((both.0 m).0, (rest.0 (both.0 m).1).1), λ x. both.1 (x.0, rest.1 (member_below 64 set d h x.0, x.1)))

-- what an answer tells of the set
pub of_nothing : {set : ℕ} {a : Held} → Holds set a → a ≡ Nothing → set ≡ 0
of_nothing (nothing h e) f = h
of_nothing (one l h e) f = let z : ◌≡◌ {A = ℕ} 0 1 = cc in absurd (omega arith)
of_nothing (several h k n e) f = let z : ◌≡◌ {A = ℕ} 0 1 = cc in absurd (omega arith)

pub of_one : {set : ℕ} {a : Held} {d : ℕ} → Holds set a → a ≡ One d → (d < 64) × Only set d
of_one (nothing h e) f = let z : ◌≡◌ {A = ℕ} 0 1 = cc in absurd (omega arith)
of_one {d = d} (one {e = e} l h x) f = let same : e ≡ d = cc in (rw same at l, rw same at h)
of_one (several h k n e) f = let z : ◌≡◌ {A = ℕ} 0 1 = cc in absurd (omega arith)

pub of_several : {set : ℕ} {a : Held} → Holds set a → a ≡ Several → (d : ℕ) × (e : ℕ) × Member set d × Member set e × ¬ (d ≡ e)
of_several (nothing h e) f = let z : ◌≡◌ {A = ℕ} 0 1 = cc in absurd (omega arith)
of_several (one l h e) f = let z : ◌≡◌ {A = ℕ} 0 1 = cc in absurd (omega arith)
of_several (several {d = d} {e = e} h k n x) f = (d, e, h, k, n)

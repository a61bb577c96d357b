-- What a change of a set by one entry gives: the set with an entry, and the set without it. A 64-bit set has no place for an entry of 64 and more, which
-- changes nothing.
use Rattle.std.specs.Prelude.{◌≡◌, ◌⊎◌, ◌↔◌, ℕ, ◌≤◌, ◌<◌}
use Rattle.bitset.specs.Bits.{Member}

-- r is the set with e as a member too
pub record With (set e r : ℕ) : Type 0 where
  pub members : e < 64 → (d : ℕ) → Member r d ↔ ((d ≡ e) ⊎ Member set d)
  pub beyond : 64 ≤ e → r ≡ set

-- r is the set without e
pub record Without (set e r : ℕ) : Type 0 where
  pub members : e < 64 → (d : ℕ) → Member r d ↔ (Member set d × ¬ (d ≡ e))
  pub beyond : 64 ≤ e → r ≡ set

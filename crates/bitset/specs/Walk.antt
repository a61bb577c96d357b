-- One step of a walk over the members of a set.
use Rattle.std.specs.Prelude.{◌≡◌, ℕ, Option, MatchOption}
use Rattle.bitset.specs.Bits.{Lowest}
use Rattle.bitset.specs.Changes.{Without}

-- e is the lowest member, and left is the set without it
pub record Parts (set e left : ℕ) : Type 0 where
  pub some : ¬ (set ≡ 0)
  pub lowest : Lowest set e
  pub rest : Without set e left

-- the lowest member comes, and the rest is left; nothing comes from the empty set
abbrev pub Steps : ℕ → Option ℕ → ℕ → Type 0
Steps set member left = MatchOption member ((set ≡ 0) × (left ≡ set)) (λ e. Parts set e left)

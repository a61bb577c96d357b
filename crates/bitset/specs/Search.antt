-- What a search for the lowest member of a set gives.
use Rattle.std.specs.Prelude.{◌≡◌, ℕ}
use Rattle.bitset.specs.Bits.{Lowest}

-- r is the lowest member, or 64 for the empty set
pub record LowestOr64 (set r : ℕ) : Type 0 where
  pub none : set ≡ 0 → r ≡ 64
  pub some : ¬ (set ≡ 0) → Lowest set r

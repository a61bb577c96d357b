-- How many members a set has: none, one, or more.
use Rattle.std.specs.Prelude.{◌≡◌, ℕ, ◌<◌}
use Rattle.bitset.specs.Bits.{Member}
use Rattle.node.specs.declared.holds.Held.{Held}
use Rattle.node.specs.declared.holds.Held.TheVariants.{Nothing, One, Several}
use Rattle.node.specs.Steps.{Only}

-- a set has no member, one, or two that differ
pub data Holds (set : ℕ) (a : Held) : Type 0 where
  nothing : set ≡ 0 → a ≡ Nothing → Holds set a
  one : {e : ℕ} → e < 64 → Only set e → a ≡ One e → Holds set a
  several : {d e : ℕ} → Member set d → Member set e → ¬ (d ≡ e) → a ≡ Several → Holds set a

-- Whether an entry has an earlier member of its package.
use Rattle.std.specs.Prelude.{◌≡◌, List, ℕ, ◌<◌}
use Rattle.bitset.specs.Bits.{Member}
use Rattle.plan.specs.Pairs.{field}

-- some member before e is of its package
abbrev pub Repeated : List ℕ → ℕ → ℕ → Type 0
Repeated entries set e = (d : ℕ) × (d < e) × (Member set d × (field entries d 0 ≡ field entries e 0))

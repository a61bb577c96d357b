-- A set of entries is a 64-bit number, bit e for entry e: what its members, their count and the lowest of them are.
use Rattle.std.specs.Prelude.{◌≡◌, ℕ, ◌/◌, ◌%◌, ◌^◌, ◌<◌}
use Rattle.basis.specs.Sum.{sum}

-- bit e of a set: 1 or 0
abbrev pub bit : ℕ → ℕ → ℕ
bit set e = set / 2 ^ e % 2

-- e is a member of a set
abbrev pub Member : ℕ → ℕ → Type 0
Member set e = bit set e ≡ 1

-- how many members a 64-bit set has: the ones among its bits
unfoldable pub count : ℕ → ℕ
count set = sum (λ e. bit set e) 64

-- e is the lowest member of a set
pub record Lowest (set e : ℕ) : Type 0 where
  pub member : Member set e
  pub least : (d : ℕ) → d < e → ¬ Member set d

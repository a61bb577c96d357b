-- Bounds as ranges of packed versions, and the sets of those that lie in a range.
use Rattle.std.specs.Prelude.{◌≡◌, List, ◌⊎◌, ◌↔◌, ℕ, ◌^◌, ◌≤◌, ◌<◌, length, get_or}
use Rattle.bitset.specs.Bits.{Member}
use Rattle.constraint.specs.declared.Version.{Version}
use Rattle.constraint.specs.declared.range.Sign.{Sign}
use Rattle.constraint.specs.Meaning.{Bound, equal, at_most, no_less, caret, Caret, Meets}
use Rattle.constraint.specs.Selection.{key, unkey}

-- the bound of a sign
abbrev pub bound_of : Sign → Bound
bound_of Sign.Equal = equal
bound_of Sign.AtMost = at_most
bound_of Sign.AtLeast = no_less
bound_of Sign.Caret = caret

-- k lies between low and high
abbrev pub Between : ℕ → ℕ → ℕ → Type 0
Between low high k = (low ≤ k) × (k ≤ high)

-- the packed versions that meet a bound are those from low to high
pub record Spans (o : Bound) (b : Version) (low high : ℕ) : Type 0 where
  pub meets : (k : ℕ) → k < 2 ^ 64 → Meets o b (unkey k) ↔ Between low high k

-- the packed versions that fit `^` of b are those from b's own to high
pub record CaretEnds (b : Version) (high : ℕ) : Type 0 where
  pub fits : (k : ℕ) → Caret b (unkey k) ↔ Between (key b) high k

-- r is the set with e too, where the key k lies between low and high
pub record Marks (set e k low high r : ℕ) : Type 0 where
  pub members : (d : ℕ) → Member r d ↔ (((d ≡ e) × Between low high k) ⊎ Member set d)

-- the set of those keys that lie between low and high
pub record Chosen (keys : List ℕ) (low high set : ℕ) : Type 0 where
  pub members : (e : ℕ) → Member set e ↔ ((e < length keys) × Between low high (get_or keys e 0))

-- the set of the numbers below n
pub record AllBelow (n set : ℕ) : Type 0 where
  pub members : (e : ℕ) → Member set e ↔ (e < n)

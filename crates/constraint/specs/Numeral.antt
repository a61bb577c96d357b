-- Numbers as they are written: decimal, 0 to 65535, no leading zero but `0` itself.
use Rattle.std.specs.Prelude.{◌≡◌, List, [], ◌∷◌, ◌⊎◌, ℕ, ◌+◌, ◌-◌, ◌*◌, ◌≤◌, ◌<◌, length, get_or}
use Rattle.basis.specs.Bytes.{All}

-- a byte is one of the digits 0 to 9
abbrev pub Digit : ℕ → Type 0
Digit b = (48 ≤ b) × (b ≤ 57)

-- the number that digits spell, the first the highest, after what a was read before them
abbrev pub value_from : ℕ → List ℕ → ℕ
value_from a [] = a
value_from a (b ∷ bs) = value_from (a * 10 + (b - 48)) bs

abbrev pub value : List ℕ → ℕ
value bs = value_from 0 bs

-- the bytes bs write the number n
pub record Numeral (bs : List ℕ) (n : ℕ) : Type 0 where
  pub digits : All Digit bs
  pub filled : 0 < length bs
  pub plain : (length bs ≡ 1) ⊎ (¬ (get_or bs 0 0 ≡ 48))
  pub worth : value bs ≡ n
  pub small : n ≤ 65535

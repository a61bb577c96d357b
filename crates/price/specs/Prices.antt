-- What a set costs at given prices, and what it is to draw an amount from the prices.
use Rattle.std.specs.Prelude.{◌≡◌, List, ℕ, ◌+◌, ◌-◌, ◌*◌, ◌^◌, ◌≤◌, ◌<◌, length, get_or}
use Rattle.basis.specs.Sum.{sum}
use Rattle.bitset.specs.Bits.{bit, Member}

-- the prices of a set's members together
unfoldable pub price_of : List ℕ → ℕ → ℕ
price_of price set = sum (λ e. bit set e * get_or price e 0) 64

-- the set of all that a 64-bit set can name
abbrev pub everything : ℕ
everything = 2 ^ 64 - 1

-- two sets have a member in common
abbrev pub Meets : ℕ → ℕ → Type 0
Meets a b = (e : ℕ) × Member a e × Member b e

-- every member of a is one of b
abbrev pub Has : ℕ → ℕ → Type 0
Has a b = (e : ℕ) → Member a e → Member b e

-- an amount is drawn from the prices: every set for which Q holds then costs less by as much or more, and so do all entries together
pub record Drawn (Q : ℕ → Type 0) (price price' : List ℕ) (amount : ℕ) : Type 0 where
  pub sized : length price' ≡ length price
  pub fair : (set : ℕ) → Q set → amount + price_of price' set ≤ price_of price set
  pub whole : amount + price_of price' everything ≤ price_of price everything

-- prices so low that no sum of them is past 64 bits
abbrev pub Low : List ℕ → Type 0
Low price = (length price ≡ 64) × (price_of price everything < 2 ^ 62)

-- a set has a choice of each slot from start on, before end
abbrev pub ServesSpan : ℕ → ℕ → List ℕ → ℕ → Type 0
ServesSpan start end choices set = (s : ℕ) → start ≤ s → s < end → Meets (get_or choices s 0) set

-- a set has a choice of each slot that stands in the span of one of some owners
abbrev pub Serves : List ℕ → ℕ → List ℕ → ℕ → Type 0
Serves first owners choices set = (e s : ℕ) → e < 64 → Member owners e → get_or first e 0 ≤ s → s < get_or first (e + 1) 0 → Meets (get_or choices s 0) set

-- every set with all of must that has a choice of each slot of its members meets n
abbrev pub Needs : List ℕ → ℕ → List ℕ → ℕ → Type 0
Needs first must choices n = (set : ℕ) → Has must set → Serves first set choices set → Meets n set

-- What holds an entry up: a slot of its span none of whose choices is in the footing.
use Rattle.std.specs.Prelude.{◌≡◌, List, ◌⊎◌, ℕ, ◌+◌, ◌≤◌, ◌<◌, get_or}
use Rattle.bitset.specs.Bits.{Member}

-- every choice is one of 64 entries, and none is in the footing
abbrev pub Apart : ℕ → ℕ → Type 0
Apart choices footing = (e : ℕ) → Member choices e → (e < 64) × ¬ Member footing e

-- a slot from start on, before end, whose choices have a property
pub record HasSlot (start end : ℕ) (choices : List ℕ) (Choices : ℕ → Type 0) : Type 0 where
  pub slot : ℕ
  pub low : start ≤ slot
  pub high : slot < end
  pub choice : Choices (get_or choices slot 0)

-- o is held up by a slot of its span
abbrev pub HeldUp : List ℕ → List ℕ → ℕ → ℕ → Type 0
HeldUp first choices footing o = HasSlot (get_or first o 0) (get_or first (o + 1) 0) choices (λ set. Apart set footing)

-- a footing that has gained nothing: each entry neither banned nor in it is held up
pub record Risen (first choices : List ℕ) (ban footing r : ℕ) : Type 0 where
  pub held : r ≡ footing → (o : ℕ) → o < 64 → ¬ Member ban o → ¬ Member footing o → HeldUp first choices footing o

-- each entry of a set has a slot that can only name one of the set, or a banned one
pub record Hangs (first choices : List ℕ) (ban r : ℕ) : Type 0 where
  pub below : (o : ℕ) → Member r o → o < 64
  pub members : (o : ℕ) → Member r o → HasSlot (get_or first o 0) (get_or first (o + 1) 0) choices (λ set. (e : ℕ) → Member set e → Member ban e ⊎ Member r e)

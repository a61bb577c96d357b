-- Where the slots of each entry stand. Owners never fall, so an entry's slots stand side by side.
use Rattle.std.specs.Prelude.{ℕ, suc, ◌*◌, ◌/◌, ◌≤◌, ◌<◌, List, ◌↔◌, ◌≡◌, length, get_or}

-- the owner of a slot, by the slot table
abbrev pub owner_in : List ℕ → ℕ → ℕ
owner_in slots s = get_or slots (s * 4) 0

abbrev pub Rising : List ℕ → Type 0
Rising slots = (s : ℕ) → suc s < length slots / 4 → owner_in slots s ≤ owner_in slots (suc s)

-- the slots of the entries below e are those before `first` at e
pub record Spans (slots first : List ℕ) : Type 0 where
  pub sized : length first ≡ 65
  pub within : (e : ℕ) → e ≤ 64 → get_or first e 0 ≤ length slots / 4
  pub upto : (e s : ℕ) → e ≤ 64 → s < length slots / 4 → (s < get_or first e 0) ↔ (owner_in slots s < e)

-- spans of at most 256 slots
abbrev pub Bounded : List ℕ → Type 0
Bounded first = (e : ℕ) → e ≤ 64 → get_or first e 0 ≤ 256

-- the first slot, of those from a slot on, whose owner is e or above; the end where there is none
pub record Past (slots : List ℕ) (from e r : ℕ) : Type 0 where
  pub low : from ≤ r
  pub high : r ≤ length slots / 4
  pub passed : (s : ℕ) → from ≤ s → s < r → owner_in slots s < e
  pub stopped : r < length slots / 4 → e ≤ owner_in slots r

-- What choices lead to: from what must be there, by the slots of what is reached.
use Rattle.std.specs.Prelude.{List, ℕ, ◌/◌, ◌≤◌, ◌<◌, length, get_or}
use Rattle.bitset.specs.Bits.{Member}
use Rattle.catalogue.specs.Spans.{owner_in}

-- e must be there, or is a choice of a slot of an entry that is reached
pub data InReach (slots choices : List ℕ) (must : ℕ) : ℕ → Type 0 where
  at_once : {e : ℕ} → Member must e → InReach slots choices must e
  onward : {s e : ℕ} → s < length slots / 4 → InReach slots choices must (owner_in slots s) → Member (get_or choices s 0) e → InReach slots choices must e

-- every slot with its owner in a set has all its choices in it
abbrev pub Closed : List ℕ → List ℕ → ℕ → Type 0
Closed slots choices reach = (s : ℕ) → s < length slots / 4 → Member reach (owner_in slots s) → (e : ℕ) → Member (get_or choices s 0) e → Member reach e

-- a set with the choices of the slots from start on, before end
pub record Taken (start end : ℕ) (choices : List ℕ) (reach r : ℕ) : Type 0 where
  pub more : (e : ℕ) → Member reach e → Member r e
  pub choice : (s : ℕ) → start ≤ s → s < end → (e : ℕ) → Member (get_or choices s 0) e → Member r e

-- nothing of a set is reached
pub record OutOfReach (slots choices : List ℕ) (must r : ℕ) : Type 0 where
  pub members : (e : ℕ) → Member r e → ¬ InReach slots choices must e

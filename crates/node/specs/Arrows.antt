-- Arrows that follow from slots with one choice, and rows of sets that hold them: row e holds entries that lead to e.
use Rattle.std.specs.Prelude.{◌≡◌, List, ◌⊎◌, ℕ, ◌+◌, ◌≤◌, ◌<◌, length, get_or}
use Rattle.bitset.specs.Bits.{Member}
use Rattle.plan.specs.Closure.{Holds}
use Rattle.node.specs.Grounding.{HasSlot}
use Rattle.node.specs.Steps.{Only}

-- d must lead to e: by a slot of its span with the one choice e, or by way of another entry
pub data Leads (first choices : List ℕ) : ℕ → ℕ → Type 0 where
  at_once : {d e : ℕ} → d < 64 → HasSlot (get_or first d 0) (get_or first (d + 1) 0) choices (λ set. Only set e) → Leads first choices d e
  by_way : {d k e : ℕ} → Leads first choices d k → Leads first choices k e → Leads first choices d e

-- what row e holds leads to e
pub record Sources (first choices rows : List ℕ) : Type 0 where
  pub size : length rows ≡ 64
  pub holds : (e d : ℕ) → Holds rows e d → Leads first choices d e

-- the rows with the arrow of a slot, where it has one choice
pub record Pointed (owner choices : ℕ) (before after : List ℕ) : Type 0 where
  pub size : length after ≡ 64
  pub holds : (e d : ℕ) → Holds after e d → Holds before e d ⊎ ((d ≡ owner) × Only choices e)

-- the rows with the arrows of the slots from start on, before end
pub record PointedAll (start end owner : ℕ) (choices before after : List ℕ) : Type 0 where
  pub size : length after ≡ 64
  pub holds : (e d : ℕ) → Holds after e d → Holds before e d ⊎ ((d ≡ owner) × HasSlot start end choices (λ set. Only set e))

-- no row has gained what doesn't lead to its entry
pub record Followed (before after : List ℕ) : Type 0 where
  pub size : length after ≡ 64
  pub keeps : (first choices : List ℕ) → Sources first choices before → Sources first choices after

-- a set with d too, if d's row holds it
pub record WithLooped (out row d r : ℕ) : Type 0 where
  pub members : (e : ℕ) → Member r e → Member out e ⊎ ((e ≡ d) × Member row d)

-- each of a set leads to itself
pub record Loops (rows : List ℕ) (r : ℕ) : Type 0 where
  pub members : (e : ℕ) → Member r e → Holds rows e e

-- no slot has gained a choice, and those from start on, before end, have lost only what is in a set
pub record TakenBack (start end back : ℕ) (choices left : List ℕ) : Type 0 where
  pub sized : length left ≡ length choices
  pub fewer : (s e : ℕ) → Member (get_or left s 0) e → Member (get_or choices s 0) e
  pub kept : (s e : ℕ) → Member (get_or choices s 0) e → Member (get_or left s 0) e ⊎ ((start ≤ s) × (s < end) × Member back e)

-- e is the entry in whose span a slot stands, or leads to that entry
pub record Returns (first rows : List ℕ) (s e : ℕ) : Type 0 where
  pub owner : ℕ
  pub below : owner < 64
  pub low : get_or first owner 0 ≤ s
  pub high : s < get_or first (owner + 1) 0
  pub back : (e ≡ owner) ⊎ Holds rows owner e

-- no slot has gained a choice, and it has lost only what returns to its owner
pub record Unlooped (first rows choices left : List ℕ) : Type 0 where
  pub sized : length left ≡ length choices
  pub fewer : (s e : ℕ) → Member (get_or left s 0) e → Member (get_or choices s 0) e
  pub kept : (s e : ℕ) → Member (get_or choices s 0) e → Member (get_or left s 0) e ⊎ Returns first rows s e

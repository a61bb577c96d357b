-- Rows of sets, one for each entry below 64: row d holds e where one stands in a relation to the other. What one slot, a pass by way of one entry, and the whole
-- closure make of the rows.
use Rattle.std.specs.Prelude.{◌≡◌, List, ◌⊎◌, ◌↔◌, ℕ, length, get_or}
use Rattle.bitset.specs.Bits.{Member}
use Rattle.pacsolve.specs.Problem.{Problem}
use Rattle.pacsolve.specs.Plan.{Plan, Step, Walk}

-- row d holds e
abbrev pub Holds : List ℕ → ℕ → ℕ → Type 0
Holds rows d e = Member (get_or rows d 0) e

-- the rows with a step from owner to choice, where both are members
pub record Links (set owner choice : ℕ) (before after : List ℕ) : Type 0 where
  pub size : length after ≡ 64
  pub holds : (d e : ℕ) → Holds after d e ↔ (Holds before d e ⊎ ((d ≡ owner) × (e ≡ choice) × (Member set owner × Member set choice)))

-- the row with all that its entry k leads to
pub record Through (row k via r : ℕ) : Type 0 where
  pub holds : (e : ℕ) → Member r e ↔ (Member row e ⊎ (Member row k × Member via e))

-- the rows with all that is reached by way of k
pub record Passes (k : ℕ) (before after : List ℕ) : Type 0 where
  pub size : length after ≡ 64
  pub holds : (d e : ℕ) → Holds after d e ↔ (Holds before d e ⊎ (Holds before d k × Holds before k e))

-- the rows hold the steps of a plan
pub record Steps (p : Problem) (P : Plan) (rows : List ℕ) : Type 0 where
  pub size : length rows ≡ 64
  pub holds : (d e : ℕ) → Holds rows d e ↔ Step p P d e

-- the rows hold its walks of one step or more
pub record Trails (p : Problem) (P : Plan) (rows : List ℕ) : Type 0 where
  pub size : length rows ≡ 64
  pub holds : (d e : ℕ) → Holds rows d e ↔ ((v : ℕ) × Step p P d v × Walk p P v e)

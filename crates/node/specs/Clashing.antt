-- Rows of sets, one for each entry below 64: which entries may not stand beside an entry (condition 5), and which are of its package. What is banned by such rows.
use Rattle.std.specs.Prelude.{◌≡◌, List, ◌⊎◌, ◌↔◌, ℕ, ◌/◌, ◌<◌, length, get_or}
use Rattle.bitset.specs.Bits.{Member}
use Rattle.plan.specs.Pairs.{field, Beside}

-- an entry of the table that a set has a place for
abbrev pub Placed : List ℕ → ℕ → Type 0
Placed entries e = (e < length entries / 5) × (e < 64)

-- a row holds exactly the placed entries with a property
pub record Row (entries : List ℕ) (Q : ℕ → Type 0) (row : ℕ) : Type 0 where
  pub holds : (f : ℕ) → Member row f ↔ (Placed entries f × Q f)

-- row e holds only entries that stand in a relation to e, and of placed ones all
pub record Rows (entries : List ℕ) (R : ℕ → ℕ → Type 0) (rows : List ℕ) : Type 0 where
  pub sized : length rows ≡ 64
  pub only : (e f : ℕ) → Member (get_or rows e 0) f → R e f
  pub all : (e f : ℕ) → Placed entries e → Placed entries f → R e f → Member (get_or rows e 0) f

-- f stands in row e of both, and is not e
pub record Both (one other : List ℕ) (e f : ℕ) : Type 0 where
  pub in_one : Member (get_or one e 0) f
  pub in_other : Member (get_or other e 0) f
  pub distinct : ¬ (e ≡ f)

-- row e holds what row e of both others holds, without e: whatever the table, for no entry is looked at
abbrev pub Shared : List ℕ → List ℕ → List ℕ → Type 0
Shared one other rows = (entries : List ℕ) → Rows entries (Both one other) rows

-- row e: the entries other than e that may not stand beside it
abbrev pub Clashes : List ℕ → ℕ → List ℕ → Type 0
Clashes entries mode rows = Rows entries (λ e f. ¬ (e ≡ f) × ¬ Beside entries mode e f) rows

-- row e: the entries of its package, e too
abbrev pub Alikes : List ℕ → List ℕ → Type 0
Alikes entries rows = Rows entries (λ e f. field entries f 0 ≡ field entries e 0) rows

-- what was banned, and what stands in the row of a must entry
pub record Banned (ban must : ℕ) (rows : List ℕ) (r : ℕ) : Type 0 where
  pub only : (f : ℕ) → Member r f → Member ban f ⊎ ((e : ℕ) × Member must e × Member (get_or rows e 0) f)

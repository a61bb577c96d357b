-- Refusals as rows. A call's refusals are a list of rows, each a number and the condition under which it is given; the first row that applies gives
-- the call's number. The six conditions of a plan are rows too: the first that fails names the plan's fault.
use Rattle.std.specs.Prelude.{◌≡◌, List, [], ◌∷◌, ◌⊎◌, ℕ}
use Rattle.basis.specs.declared.Refusal.{Refusal}
use Rattle.basis.specs.declared.Refusal.TheVariants.{Entries, EntryTwice, Slots, Constraint, Root, Settings, Size, Weights, Stage, Unsound, NoPlan, Text}

pub record Row : Type 1 where
  pub number : ℕ
  pub applies : Type 0

abbrev pub row : ℕ → Type 0 → Row
row n A = record { number = n; applies = A }

-- n is the number of the first row that applies
abbrev pub Gives : List Row → ℕ → Type 0
Gives [] n = ⊥
Gives (r ∷ rs) n = (r.applies × (n ≡ r.number)) ⊎ (¬ r.applies × Gives rs n)

-- no row applies
abbrev pub GivesNone : List Row → Type 0
GivesNone [] = Unit {0}
GivesNone (r ∷ rs) = ¬ r.applies × GivesNone rs

-- a refusal's number
abbrev pub number_of : Refusal → ℕ
number_of Entries = 1
number_of EntryTwice = 2
number_of Slots = 3
number_of Constraint = 4
number_of Root = 5
number_of Settings = 6
number_of Size = 7
number_of Weights = 8
number_of Stage = 9
number_of Unsound = 10
number_of NoPlan = 11
number_of Text = 12

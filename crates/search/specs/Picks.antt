-- Which slot is decided next, how its choices are parted, and the table of a node whose slots are all decided.
use Rattle.std.specs.Prelude.{◌≡◌, List, ◌↔◌, ℕ, ◌/◌, ◌<◌, length, get_or}
use Rattle.bitset.specs.Bits.{Member}
use Rattle.pacsolve.specs.Plan.{none}
use Rattle.catalogue.specs.Spans.{owner_in}
use Rattle.node.specs.Steps.{Only}
use Rattle.search.specs.declared.Pick.{Pick}
use Rattle.search.specs.declared.Pick.TheVariants.{Split, Force, Dead, Complete}
use Rattle.search.specs.declared.pick_slot.Standing.{Standing}
use Rattle.search.specs.declared.pick_slot.Standing.TheVariants.{Fine, Open, Narrow, Stuck}

-- a slot whose owner must be there
pub record Due (slots : List ℕ) (must s : ℕ) : Type 0 where
  pub there : s < length slots / 4
  pub owned : Member must (owner_in slots s)

-- every due slot has one choice, which must be there
abbrev pub Settles : List ℕ → ℕ → List ℕ → Type 0
Settles slots must choices = (s : ℕ) → Due slots must s → (e : ℕ) × Only (get_or choices s 0) e × Member must e

-- a slot to decide: it has two choices or more; one whose only choice is not yet a must; one with no choice; or every slot's only choice is a must
pub data Picked (slots : List ℕ) (must : ℕ) (choices : List ℕ) (a : Pick) : Type 0 where
  undecided : {s d e : ℕ} → Due slots must s → Member (get_or choices s 0) d → Member (get_or choices s 0) e → ¬ (d ≡ e) → a ≡ Split s → Picked slots must choices a
  forced : {s e : ℕ} → Due slots must s → Only (get_or choices s 0) e → ¬ Member must e → a ≡ Force s → Picked slots must choices a
  dead : {s : ℕ} → Due slots must s → get_or choices s 0 ≡ 0 → a ≡ Dead → Picked slots must choices a
  complete : Settles slots must choices → a ≡ Complete → Picked slots must choices a

-- the table of a node: the only choice of each slot whose owner must be there, and 255 for every slot whose owner need not be
pub record Tabled (slots : List ℕ) (must : ℕ) (choices table : List ℕ) : Type 0 where
  pub due : (s e : ℕ) → Due slots must s → Only (get_or choices s 0) e → get_or table s none ≡ e
  pub other : (s : ℕ) → s < length slots / 4 → ¬ Member must (owner_in slots s) → get_or table s none ≡ none

-- a slot with a given owner and choices: its owner must be there and it has two choices, its only choice is no must, or it has none; or there is nothing to do
pub data Stands (must owner choices : ℕ) (a : Standing) : Type 0 where
  wide : {d e : ℕ} → Member must owner → Member choices d → Member choices e → ¬ (d ≡ e) → a ≡ Open → Stands must owner choices a
  narrow : {e : ℕ} → Member must owner → Only choices e → ¬ Member must e → a ≡ Narrow → Stands must owner choices a
  stuck : Member must owner → choices ≡ 0 → a ≡ Stuck → Stands must owner choices a
  fine : (Member must owner → (e : ℕ) × Only choices e × Member must e) → a ≡ Fine → Stands must owner choices a

-- what the table holds for a slot with a given owner and choices
pub record Entered (must owner choices r : ℕ) : Type 0 where
  pub due : (e : ℕ) → Member must owner → Only choices e → r ≡ e
  pub other : ¬ Member must owner → r ≡ none

-- a choice e taken from others: one has it alone, rest has the others
pub record Halved (all one rest e : ℕ) : Type 0 where
  pub small : e < 64
  pub is : Member all e
  pub alone : Only one e
  pub others : (d : ℕ) → Member rest d ↔ (Member all d × ¬ (d ≡ e))

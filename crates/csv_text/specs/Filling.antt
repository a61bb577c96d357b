-- Pass two: how far the tables are filled. The numbers of the lines that are passed stand in front, and behind them what was lent.
use Rattle.std.specs.Prelude.{◌≡◌, List, [], ◌∷◌, ◌++◌, ℕ, ◌+◌, ◌-◌, ◌*◌, ◌≤◌, ◌<◌, length, take, drop}
use Rattle.csv_text.specs.declared.count.Progress.{Progress}
use Rattle.csv_text.specs.declared.line.EntryParts.{EntryParts}
use Rattle.csv_text.specs.declared.line.SlotParts.{SlotParts}
use Rattle.csv_text.specs.declared.packages.Names.{Names}
use Rattle.csv_text.specs.Layout.{header, Line, Lays}
use Rattle.csv_text.specs.Says.{entry_count, slot_count, packages, entry_rows, slot_rows, entry_table, slot_table}
use Rattle.csv_text.specs.Walk.{Walked}
use Rattle.csv_text.specs.Numbering.{part, known, Room, Numbers}

-- a text in the layout and within the limits
pub record Limited (text : List ℕ) (lines : List Line) : Type 0 where
  pub lays : Lays text lines
  pub few_entries : entry_count lines ≤ 64
  pub few_slots : slot_count lines ≤ 256

-- of the text's lines, those done are passed: their names are known, and their numbers are written over the front of the lent tables
pub record Filling (text lent_entries lent_slots : List ℕ) (lines done : List Line) (p : Progress) (names : Names) (entries slots : List ℕ) : Type 0 where
  pub limited : Limited text lines
  pub walked : Walked text done p.at
  pub declared : p.entries ≡ entry_count done
  pub wanted : p.slots ≡ slot_count done
  pub named : known text names ≡ packages done
  pub room : Room text names
  pub entry_size : length lent_entries ≡ 320
  pub slot_size : length lent_slots ≡ 1024
  pub entered : entries ≡ entry_rows (packages lines) done ++ drop (5 * entry_count done) lent_entries
  pub slotted : slots ≡ slot_rows (packages lines) 0 (length header + 2) done ++ drop (4 * slot_count done) lent_slots

-- some lines are passed, and more follow
pub record Underway (text : List ℕ) (p : Progress) (names : Names) (entries slots : List ℕ) : Type 0 where
  pub lent_entries : List ℕ
  pub lent_slots : List ℕ
  pub lines : List Line
  pub done : List Line
  pub filling : Filling text lent_entries lent_slots lines done p names entries slots
  pub more : p.at + 2 < length text

-- one line more is passed
pub record Fills (text : List ℕ) (p : Progress) (names : Names) (entries slots : List ℕ) (r : Progress) (names' : Names) (entries' slots' : List ℕ) : Type 0 where
  pub onward : p.at < r.at
  pub filled : (lent_entries lent_slots : List ℕ) (lines done : List Line) → Filling text lent_entries lent_slots lines done p names entries slots
      → (line : Line) × Filling text lent_entries lent_slots lines (done ++ (line ∷ [])) r names' entries' slots'

-- what the whole pass starts from, and what it leaves
pub record Fillable (text entries slots : List ℕ) : Type 0 where
  pub lines : List Line
  pub limited : Limited text lines
  pub entry_size : length entries ≡ 320
  pub slot_size : length slots ≡ 1024

pub record Filled (text entries slots entries' slots' : List ℕ) : Type 0 where
  pub entered : (lines : List Line) → Lays text lines → entries' ≡ entry_table lines ++ drop (5 * entry_count lines) entries
  pub slotted : (lines : List Line) → Lays text lines → slots' ≡ slot_table lines ++ drop (4 * slot_count lines) slots

-- a row of numbers written over a table at a place
abbrev pub over : List ℕ → ℕ → List ℕ → List ℕ
over table at row = take at table ++ (row ++ drop (at + length row) table)

-- there is room for the name and the numbers of an entry's line, which begins behind the CR LF at `at`
pub record EntryRoom (text : List ℕ) (p : Progress) (e : EntryParts) (names : Names) (entries : List ℕ) : Type 0 where
  pub room : Room text names
  pub name_room : names.count < 320
  pub row_room : 5 * p.entries + 5 ≤ length entries
  pub within : p.at + 2 + e.used ≤ length text
  pub name_within : e.name ≤ e.used

-- the name is numbered, and the numbers are written
pub record Declares (text : List ℕ) (p : Progress) (e : EntryParts) (names : Names) (entries : List ℕ) (r : Progress) (names' : Names) (entries' : List ℕ) : Type 0 where
  pub number : ℕ
  pub numbers : Numbers text names (part text (p.at + 2) (p.at + 2 + e.name)) number names'
  pub row : entries' ≡ over entries (5 * p.entries) (number ∷ e.version.major ∷ e.version.minor ∷ e.version.patch ∷ e.weight ∷ [])
  pub reached : r ≡ record { at = p.at + 2 + e.used; entries = p.entries + 1; slots = p.slots }

-- the same of a slot's line, which has an owner
pub record SlotRoom (text : List ℕ) (p : Progress) (e : SlotParts) (names : Names) (slots : List ℕ) : Type 0 where
  pub room : Room text names
  pub name_room : names.count < 320
  pub row_room : 4 * p.slots + 4 ≤ length slots
  pub within : p.at + 2 + e.used ≤ length text
  pub parts : e.used ≡ 3 + e.name + 1 + e.constraint
  pub owned : 1 ≤ p.entries
  pub owner_small : p.entries ≤ 64
  pub short : length text ≤ 65535

pub record Wants (text : List ℕ) (p : Progress) (e : SlotParts) (names : Names) (slots : List ℕ) (r : Progress) (names' : Names) (slots' : List ℕ) : Type 0 where
  pub number : ℕ
  pub numbers : Numbers text names (part text (p.at + 2 + 3) (p.at + 2 + 3 + e.name)) number names'
  pub row : slots' ≡ over slots (4 * p.slots)
      ((p.entries - 1) ∷ number ∷ (p.at + 2 + 3 + e.name + 1) ∷ (p.at + 2 + 3 + e.name + 1 + e.constraint) ∷ [])
  pub reached : r ≡ record { at = p.at + 2 + e.used; entries = p.entries; slots = p.slots + 1 }

-- What reading a catalogue from text may answer, and what it leaves in the lent tables.
use Rattle.std.specs.Prelude.{◌≡◌, List, [], ◌∷◌, ◌++◌, ◌⊎◌, ℕ, ◌*◌, ◌<◌, length, drop, Result, Ok, Err}
use Rattle.basis.specs.Rows.{Row, row, Gives, GivesNone, number_of as refusal_number}
use Rattle.basis.specs.declared.Refusal.{Refusal}
use Rattle.csv_text.specs.declared.Sheet.{Sheet}
use Rattle.csv_text.specs.Layout.{Line, Lays}
use Rattle.csv_text.specs.Says.{entry_count, slot_count, entry_table, slot_table}

-- the number and counts of each case: 0 for a refusal, and number 0 where there is none
abbrev pub number_of : Result Sheet Refusal → ℕ
number_of (Err r) = refusal_number r
number_of (Ok s) = 0

abbrev pub entries_of : Result Sheet Refusal → ℕ
entries_of (Err r) = 0
entries_of (Ok s) = s.entries

abbrev pub slots_of : Result Sheet Refusal → ℕ
slots_of (Err r) = 0
slots_of (Ok s) = s.slots

-- read's refusals, in its own order: 7, 12, 1, 3. The last two look at what the text says, so they apply only to a text in the layout
abbrev pub rows : List ℕ → List ℕ → List ℕ → List Row
rows text entries slots =
    row 7 ((¬ (length entries ≡ 320)) ⊎ (¬ (length slots ≡ 1024)))
    ∷ row 12 (¬ ((lines : List Line) × Lays text lines))
    ∷ row 1 ((lines : List Line) × Lays text lines × ((entry_count lines ≡ 0) ⊎ (64 < entry_count lines)))
    ∷ row 3 ((lines : List Line) × Lays text lines × (256 < slot_count lines))
    ∷ []

-- THE RELATION: for a text and two lent tables, the answer and what the tables then hold. A success writes only the first five numbers per entry and four per slot
pub data Reads (text entries slots : List ℕ) (a : Result Sheet Refusal) (entries' slots' : List ℕ) : Type 0 where
  refused : {r : Refusal} → Gives (rows text entries slots) (refusal_number r) → a ≡ Err r → entries' ≡ entries → slots' ≡ slots
      → Reads text entries slots a entries' slots'
  read : {lines : List Line} → GivesNone (rows text entries slots) → Lays text lines
      → a ≡ Ok (record { entries = entry_count lines; slots = slot_count lines })
      → entries' ≡ entry_table lines ++ drop (5 * entry_count lines) entries → slots' ≡ slot_table lines ++ drop (4 * slot_count lines) slots
      → Reads text entries slots a entries' slots'

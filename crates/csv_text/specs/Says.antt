-- What lines say: the numbers of entries and slots, package numbers and marks, as the lent tables hold them.
use Rattle.std.specs.Prelude.{Bool, true, false, ◌&&◌, List, [], ◌∷◌, map, ℕ, suc, ◌+◌, ◌-◌, length, eqb}
use Rattle.constraint.specs.Numeral.{value}
use Rattle.csv_text.specs.Layout.{Line, entry, slot, written, header}

-- the name that a line gives, in either column
abbrev pub name_of : Line → List ℕ
name_of (entry name x y z weight) = name
name_of (slot name constraint) = name

-- whether two names are the same
abbrev pub same_name : List ℕ → List ℕ → Bool
same_name [] [] = true
same_name [] (b ∷ bs) = false
same_name (a ∷ as') [] = false
same_name (a ∷ as') (b ∷ bs) = eqb a b && same_name as' bs

-- x in front of xs, unless the test holds
abbrev pub keep : Bool → List ℕ → List (List ℕ) → List (List ℕ)
keep true x xs = xs
keep false x xs = x ∷ xs

abbrev pub without : List ℕ → List (List ℕ) → List (List ℕ)
without n [] = []
without n (m ∷ ms) = keep (same_name n m) m (without n ms)

-- names in the order in which they first appear, each once
abbrev pub distinct : List (List ℕ) → List (List ℕ)
distinct [] = []
distinct (n ∷ ns) = n ∷ without n (distinct ns)

abbrev pub onward : Bool → ℕ → ℕ
onward true k = 0
onward false k = suc k

-- the place of a name in a list, from 0
abbrev pub place : List (List ℕ) → List ℕ → ℕ
place [] n = 0
place (m ∷ ms) n = onward (same_name m n) (place ms n)

-- packages are numbered from 0 by first appearance in either column
abbrev pub packages : List Line → List (List ℕ)
packages lines = distinct (map name_of lines)

abbrev pub entry_count : List Line → ℕ
entry_count [] = 0
entry_count (entry name x y z weight ∷ lines) = suc (entry_count lines)
entry_count (slot name constraint ∷ lines) = entry_count lines

abbrev pub slot_count : List Line → ℕ
slot_count [] = 0
slot_count (entry name x y z weight ∷ lines) = slot_count lines
slot_count (slot name constraint ∷ lines) = suc (slot_count lines)

-- five numbers per entry: package, major, minor, patch, weight
abbrev pub entry_rows : List (List ℕ) → List Line → List ℕ
entry_rows names [] = []
entry_rows names (entry name x y z weight ∷ lines) = place names name ∷ value x ∷ value y ∷ value z ∷ value weight ∷ entry_rows names lines
entry_rows names (slot name constraint ∷ lines) = entry_rows names lines

-- where a slot line's constraint field begins, counted from where the line does: after three commas, the name and a comma
abbrev pub field_start : List ℕ → ℕ
field_start name = 3 + length name + 1

-- four numbers per slot: owner, wanted package, start and end of the constraint field in the text. `declared` entries stand before these lines,
-- the first of which begins at the byte `at`
abbrev pub slot_rows : List (List ℕ) → ℕ → ℕ → List Line → List ℕ
slot_rows names declared at [] = []
slot_rows names declared at (entry name x y z weight ∷ lines) =
    slot_rows names (suc declared) (at + length (written (entry name x y z weight)) + 2) lines
slot_rows names declared at (slot name constraint ∷ lines) =
    (declared - 1) ∷ place names name ∷ (at + field_start name) ∷ (at + field_start name + length constraint)
    ∷ slot_rows names declared (at + length (written (slot name constraint)) + 2) lines

abbrev pub entry_table : List Line → List ℕ
entry_table lines = entry_rows (packages lines) lines

abbrev pub slot_table : List Line → List ℕ
slot_table lines = slot_rows (packages lines) 0 (length header + 2) lines

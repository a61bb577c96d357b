-- Rows of the tables: one row written behind those before it, and what a line more says.
use mathlib.Core.Path.{◌≡◌, refl, sym, ap, ◌∙◌}
use mathlib.Core.List.{List, [], ◌∷◌, ◌++◌, append_assoc, map, map-append}
use Prim.Native.Nat.{ℕ, suc, ◌+◌, ◌-◌, ◌≤◌}
use native.Mathlib.Omega.{arith}
use lib.ListN.{length, take, drop, length-append}
use lib.Seq.{take_at, drop-append-add, drop-drop, sets, sets-eq}
use Rattle.constraint.specs.Numeral.{value}
use Rattle.csv_text.specs.Layout.{Line, entry, slot, written, body}
use Rattle.csv_text.specs.Says.{name_of, distinct, place, packages, entry_count, entry_rows, slot_rows, field_start}
use Rattle.csv_text.specs.Numbering.{grow}
use Rattle.csv_text.specs.Filling.{over}
use Rattle.csv_text.proofs.Names.{distinct_then, place_seen}
use Rattle.csv_text.proofs.Walks.{◌then◌}

-- numbers stored one after the other
pub stored : (table : List ℕ) (at : ℕ) (row : List ℕ) → at + length row ≤ length table → sets table at row ≡ over table at row
stored table at row h = sets-eq row table at h ∙ append_assoc (take at table) row (drop (at + length row) table)

-- a row behind the rows that stand in front of a lent table
pub row_behind : {table : List ℕ} (rows lent row : List ℕ) (k : ℕ) → length rows ≡ k → table ≡ rows ++ drop k lent
    → over table k row ≡ (rows ++ row) ++ drop (k + length row) lent
row_behind {table} rows lent row k size e =
    rw (e, take_at rows (drop k lent) k size, behind) (sym (append_assoc rows row (drop (k + length row) lent)))
  where
    behind : drop (k + length row) (rows ++ drop k lent) ≡ drop (k + length row) lent
    behind = rw (← size) (drop-append-add rows (drop (length rows) lent) (length row) ∙ drop-drop (length row) (length rows) lent)

-- what the tables say with a line more
pub entry_rows_entry : (names : List (List ℕ)) (done : List Line) (name x y z weight : List ℕ)
    → entry_rows names (done then entry name x y z weight) ≡ entry_rows names done ++ (place names name ∷ value x ∷ value y ∷ value z ∷ value weight ∷ [])
entry_rows_entry names [] name x y z weight = refl
entry_rows_entry names (entry n a b c w ∷ done) name x y z weight =
    ap (λ (l : List ℕ). place names n ∷ value a ∷ value b ∷ value c ∷ value w ∷ l) (entry_rows_entry names done name x y z weight)
entry_rows_entry names (slot n c ∷ done) name x y z weight = entry_rows_entry names done name x y z weight

pub entry_rows_slot : (names : List (List ℕ)) (done : List Line) (name constraint : List ℕ) → entry_rows names (done then slot name constraint) ≡ entry_rows names done
entry_rows_slot names [] name constraint = refl
entry_rows_slot names (entry n a b c w ∷ done) name constraint =
    ap (λ (l : List ℕ). place names n ∷ value a ∷ value b ∷ value c ∷ value w ∷ l) (entry_rows_slot names done name constraint)
entry_rows_slot names (slot n c ∷ done) name constraint = entry_rows_slot names done name constraint

pub slot_rows_entry : (names : List (List ℕ)) (declared at : ℕ) (done : List Line) (name x y z weight : List ℕ)
    → slot_rows names declared at (done then entry name x y z weight) ≡ slot_rows names declared at done
slot_rows_entry names declared at [] name x y z weight = refl
slot_rows_entry names declared at (entry n a b c w ∷ done) name x y z weight = slot_rows_entry names (suc declared) _ done name x y z weight
slot_rows_entry names declared at (slot n c ∷ done) name x y z weight =
    ap (λ (l : List ℕ). (declared - 1) ∷ place names n ∷ (at + field_start n) ∷ (at + field_start n + length c) ∷ l)
    (slot_rows_entry names declared (at + length (written (slot n c)) + 2) done name x y z weight)

-- a slot's row, where `declared` entries stand before it and its line begins at the byte `at`
abbrev pub slot_row : List (List ℕ) → ℕ → ℕ → (name constraint : List ℕ) → List ℕ
slot_row names declared at name constraint = (declared - 1) ∷ place names name ∷ (at + field_start name) ∷ (at + field_start name + length constraint) ∷ []

pub slot_rows_slot : (names : List (List ℕ)) (declared at : ℕ) (done : List Line) (name constraint : List ℕ)
    → slot_rows names declared at (done then slot name constraint)
    ≡ slot_rows names declared at done ++ slot_row names (declared + entry_count done) (at + length (body done)) name constraint
slot_rows_slot names declared at [] name constraint =
    let d : declared ≡ declared + 0 = omega arith in let a : at ≡ at + 0 = omega arith in rw (← d, ← a) refl
slot_rows_slot names declared at (entry n x y z w ∷ done) name constraint =
    let line = entry n x y z w in
    let d : declared + suc (entry_count done) ≡ suc declared + entry_count done = omega arith in
    let a : at + length (body (line ∷ done)) ≡ at + length (written line) + 2 + length (body done) = omega (arith, length-append (written line) (body done)) in
    rw (d, a) (slot_rows_slot names (suc declared) (at + length (written line) + 2) done name constraint)
slot_rows_slot names declared at (slot n c ∷ done) name constraint =
    let line = slot n c in
    let a : at + length (body (line ∷ done)) ≡ at + length (written line) + 2 + length (body done) = omega (arith, length-append (written line) (body done)) in
    rw a (ap (λ (l : List ℕ). (declared - 1) ∷ place names n ∷ (at + field_start n) ∷ (at + field_start n + length c) ∷ l)
    (slot_rows_slot names declared (at + length (written line) + 2) done name constraint))

-- the packages with a line more, and a line's package among all
pub packages_then : (done : List Line) (line : Line) → packages (done then line) ≡ grow (packages done) (name_of line)
packages_then done line = ap distinct (map-append name_of done (line ∷ [])) ∙ distinct_then (map name_of done) (name_of line)

pub package_placed : (lines done more : List Line) (line : Line) → lines ≡ done ++ (line ∷ more) → place (packages lines) (name_of line) ≡ place (packages done) (name_of line)
package_placed lines done more line e =
    ap (λ (l : List Line). place (packages l) (name_of line)) e
    ∙ ap (λ (l : List (List ℕ)). place (distinct l) (name_of line)) (map-append name_of done (line ∷ more))
    ∙ place_seen (map name_of done) (map name_of more) (name_of line)

-- The tables that lines say: how long they are; that the text between a slot's marks is its constraint field, and lies within the text; and that
-- a slot's owner is one of the entries, no earlier than the owner of the slot before it.
use mathlib.Core.Path.{◌≡◌, refl, sym, ap, ◌∙◌}
use mathlib.Core.List.{List, [], ◌∷◌, ◌++◌, append_assoc}
use Prim.Native.Nat.{ℕ, zero, suc, ◌+◌, ◌-◌, ◌*◌, ◌≤◌, ◌<◌}
use native.Mathlib.Nat.{not-suc-le-zero, le-add_right}
use native.Mathlib.Numerals.{add-four}
use native.Mathlib.Omega.{arith}
use lib.ListN.{length, get_or, take, drop, length-append}
use lib.Seq.{take_at, drop_at}
use Rattle.basis.specs.Bytes.{bytes}
use Rattle.csv_text.specs.Layout.{header, crlf, Line, entry, slot, written, EntryFirst, body, Lays}
use Rattle.csv_text.specs.Says.{entry_count, slot_count, entry_rows, slot_rows, entry_table, slot_table, packages, field_start}
use Rattle.csv_text.proofs.Unique.{body_first, ended}

pub entry_rows_length : (names : List (List ℕ)) (lines : List Line) → length (entry_rows names lines) ≡ 5 * entry_count lines
entry_rows_length names [] = refl
entry_rows_length names (entry name x y z weight ∷ lines) = omega (arith, entry_rows_length names lines)
entry_rows_length names (slot name constraint ∷ lines) = entry_rows_length names lines

pub entry_table_length : (lines : List Line) → length (entry_table lines) ≡ 5 * entry_count lines
entry_table_length lines = entry_rows_length (packages lines) lines

pub slot_rows_length : (names : List (List ℕ)) (declared at : ℕ) (lines : List Line) → length (slot_rows names declared at lines) ≡ 4 * slot_count lines
slot_rows_length names declared at [] = refl
slot_rows_length names declared at (entry name x y z weight ∷ lines) = slot_rows_length names (suc declared) _ lines
slot_rows_length names declared at (slot name constraint ∷ lines) =
    omega (arith, slot_rows_length names declared (at + length (written (slot name constraint)) + 2) lines)

pub slot_table_length : (lines : List Line) → length (slot_table lines) ≡ 4 * slot_count lines
slot_table_length lines = slot_rows_length (packages lines) 0 _ lines

-- four numbers stand for each slot line, and between its marks the text is the line's constraint field
pub data Marked (text : List ℕ) : List ℕ → List Line → Type 0 where
  no_lines : Marked text [] []
  entry_line : {name x y z weight rows : List ℕ} {lines : List Line} → Marked text rows lines → Marked text rows (entry name x y z weight ∷ lines)
  slot_line : {name constraint rows : List ℕ} {lines : List Line} {owner wanted start end : ℕ} → start ≤ end → end ≤ length text
      → take (end - start) (drop start text) ≡ constraint → Marked text rows lines
      → Marked text (owner ∷ wanted ∷ start ∷ end ∷ rows) (slot name constraint ∷ lines)

-- a field with `front` before it and `after` behind it
module _ {text : List ℕ} {start end : ℕ} (front field after : List ℕ)
    (whole : text ≡ front ++ (field ++ after)) (begins : length front ≡ start) (ends : start + length field ≡ end) where
  within : end ≤ length text
  within = omega (arith, simp length-append at (ap length whole))

  between : take (end - start) (drop start text) ≡ field
  between = rw (whole, drop_at front (field ++ after) start) (take_at field after (end - start) (omega arith))

-- the first line goes to what stands before the lines
past_line : {text : List ℕ} (before : List ℕ) (line : Line) (lines : List Line) (ending : List ℕ) → text ≡ before ++ (body (line ∷ lines) ++ ending)
    → text ≡ (before ++ (crlf ++ written line)) ++ (body lines ++ ending)
past_line before line lines ending e =
    e ∙ ap (λ (t : List ℕ). before ++ t) (body_first line lines ending) ∙ sym (append_assoc before (crlf ++ written line) (body lines ++ ending))

next_begins : {at : ℕ} (before : List ℕ) (line : Line) → length before + 2 ≡ at → length (before ++ (crlf ++ written line)) + 2 ≡ at + length (written line) + 2
next_begins before line f = simp length-append (omega arith)

-- marks of lines that stand after `before` in the text: the first of them begins at the byte `at`, behind its CR LF
module _ (names : List (List ℕ)) (text ending : List ℕ) where
  pub marks_from : (declared at : ℕ) (before : List ℕ) (lines : List Line) → text ≡ before ++ (body lines ++ ending) → length before + 2 ≡ at
      → Marked text (slot_rows names declared at lines) lines
  marks_from declared at before [] e f = no_lines
  marks_from declared at before (entry name x y z weight ∷ lines) e f =
      let line = entry name x y z weight in
      entry_line (marks_from (suc declared) _ (before ++ (crlf ++ written line)) lines (past_line before line lines ending e) (next_begins before line f))
  marks_from declared at before (slot name constraint ∷ lines) e f =
      let line = slot name constraint in
      let rest = past_line before line lines ending e in
      let front = before ++ (crlf ++ (bytes ",,," ++ (name ++ bytes ","))) in
      let whole : text ≡ front ++ (constraint ++ (body lines ++ ending)) = rest ∙ simp append_assoc in
      let begins : length front ≡ at + field_start name = simp length-append (omega arith) in
      slot_line
      (le-add_right _ _)
      (within front constraint (body lines ++ ending) whole begins refl)
      (between front constraint (body lines ++ ending) whole begins refl)
      (marks_from declared _ (before ++ (crlf ++ written line)) lines rest (next_begins before line f))

pub marks_hold : {text : List ℕ} {lines : List Line} → Lays text lines → Marked text (slot_table lines) lines
marks_hold {text} {lines} l =
    let u = ended text lines (l.each, l.whole) in
    marks_from (packages lines) text u.0 0 (length header + 2) header lines u.2 refl

-- the four numbers of the first slot are passed over
past_four : (a b c d : ℕ) (rows : List ℕ) (n m : ℕ) → m ≡ n + 4 → get_or (a ∷ b ∷ c ∷ d ∷ rows) m 0 ≡ get_or rows n 0
past_four a b c d rows n m e = rw (e, add-four) refl

marked_at : {text rows : List ℕ} {lines : List Line} → Marked text rows lines → (s : ℕ) → s < slot_count lines
    → (get_or rows (4 * s + 2) 0 ≤ get_or rows (4 * s + 3) 0) × (get_or rows (4 * s + 3) 0 ≤ length text)
marked_at no_lines s h = absurd (not-suc-le-zero h)
marked_at (entry_line m) s h = marked_at m s h
marked_at (slot_line o w t m) zero h = (o, w)
marked_at (slot_line {rows = rows} {owner = a} {wanted = b} {start = c} {end = d} o w t m) (suc s) h =
    rw (past_four a b c d rows (4 * s + 2) (4 * suc s + 2) (omega arith), past_four a b c d rows (4 * s + 3) (4 * suc s + 3) (omega arith))
    (marked_at m s (omega arith))

-- a slot's field ends no earlier than it begins, and ends within the text
pub marks_ordered : {text : List ℕ} {lines : List Line} → Lays text lines → (s : ℕ) → s < slot_count lines
    → get_or (slot_table lines) (4 * s + 2) 0 ≤ get_or (slot_table lines) (4 * s + 3) 0
marks_ordered l s h = (marked_at (marks_hold l) s h).0

pub marks_within : {text : List ℕ} {lines : List Line} → Lays text lines → (s : ℕ) → s < slot_count lines → get_or (slot_table lines) (4 * s + 3) 0 ≤ length text
marks_within l s h = (marked_at (marks_hold l) s h).1

-- after `suc d` entries each owner is the last of those or a later entry
owner_from : (names : List (List ℕ)) (d at : ℕ) (lines : List Line) (s : ℕ) → s < slot_count lines
    → (d ≤ get_or (slot_rows names (suc d) at lines) (4 * s) 0) × (get_or (slot_rows names (suc d) at lines) (4 * s) 0 ≤ d + entry_count lines)
owner_from names d at [] s h = absurd (not-suc-le-zero h)
owner_from names d at (entry name x y z weight ∷ lines) s h =
    let r = owner_from names (suc d) (at + length (written (entry name x y z weight)) + 2) lines s h in
    (omega arith, omega arith)
owner_from names d at (slot name constraint ∷ lines) zero h = (omega arith, omega arith)
owner_from names d at (slot name constraint ∷ lines) (suc s) h =
    rw (past_four _ _ _ _ _ (4 * s) (4 * suc s) (omega arith))
    (owner_from names d (at + length (written (slot name constraint)) + 2) lines s (omega arith))

owners_rise_from : (names : List (List ℕ)) (d at : ℕ) (lines : List Line) (s : ℕ) → s + 1 < slot_count lines
    → get_or (slot_rows names (suc d) at lines) (4 * s) 0 ≤ get_or (slot_rows names (suc d) at lines) (4 * (s + 1)) 0
owners_rise_from names d at [] s h = absurd (not-suc-le-zero h)
owners_rise_from names d at (entry name x y z weight ∷ lines) s h = owners_rise_from names (suc d) _ lines s h
owners_rise_from names d at (slot name constraint ∷ lines) zero h =
    omega (arith, (owner_from names d (at + length (written (slot name constraint)) + 2) lines 0 (omega arith)).0)
owners_rise_from names d at (slot name constraint ∷ lines) (suc s) h =
    rw (past_four _ _ _ _ _ (4 * s) (4 * suc s) (omega arith), past_four _ _ _ _ _ (4 * (s + 1)) (4 * (suc s + 1)) (omega arith))
    (owners_rise_from names d (at + length (written (slot name constraint)) + 2) lines s (omega arith))

-- an entry stands before the first slot
pub owner_below : (lines : List Line) → EntryFirst lines → (s : ℕ) → s < slot_count lines → get_or (slot_table lines) (4 * s) 0 < entry_count lines
owner_below [] f s h = absurd (not-suc-le-zero h)
owner_below (entry name x y z weight ∷ lines) f s h =
    let line = entry name x y z weight in
    omega (arith, (owner_from (packages (line ∷ lines)) 0 (length header + 2 + length (written line) + 2) lines s h).1)
owner_below (slot name constraint ∷ lines) f s h = absurd f

pub owners_rise : (lines : List Line) → EntryFirst lines → (s : ℕ) → s + 1 < slot_count lines
    → get_or (slot_table lines) (4 * s) 0 ≤ get_or (slot_table lines) (4 * (s + 1)) 0
owners_rise [] f s h = absurd (not-suc-le-zero h)
owners_rise (entry name x y z weight ∷ lines) f s h = owners_rise_from (packages (entry name x y z weight ∷ lines)) 0 _ lines s h
owners_rise (slot name constraint ∷ lines) f s h = absurd f

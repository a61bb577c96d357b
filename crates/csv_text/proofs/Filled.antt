-- Pass two: each line that is read puts its numbers behind those before it. A package's number is final as soon as its name has been seen.
use mathlib.Core.Path.{◌≡◌, refl, sym, ap, ◌∙◌}
use mathlib.Core.List.{List, [], ◌∷◌, ◌++◌, map, append_assoc}
use Prim.Native.Nat.{ℕ, ◌+◌, ◌-◌, ◌*◌, ◌≤◌, ◌<◌}
use native.Mathlib.Omega.{arith}
use lib.ListN.{length, drop, length-append, length-drop, length-map}
use lib.Seq.{take_at}
use Rattle.constraint.specs.Numeral.{value}
use Rattle.csv_text.specs.declared.count.Progress.{Progress}
use Rattle.csv_text.specs.declared.line.EntryParts.{EntryParts}
use Rattle.csv_text.specs.declared.line.SlotParts.{SlotParts}
use Rattle.csv_text.specs.declared.packages.Names.{Names}
use Rattle.csv_text.specs.Layout.{header, Line, entry, slot, body, Lays}
use Rattle.csv_text.specs.Says.{name_of, place, packages, entry_count, slot_count, entry_rows, slot_rows, field_start}
use Rattle.csv_text.specs.Reader.{IsLine, EntryFound, SlotFound, NoLine}
use Rattle.csv_text.specs.Numbering.{part, known, Room, Numbers}
use Rattle.csv_text.specs.Filling.{Filling, Underway, Fills, Fillable, Filled, over, EntryRoom, Declares, SlotRoom, Wants}
use Rattle.csv_text.proofs.Unique.{one_sheet}
use Rattle.csv_text.proofs.Tables.{entry_rows_length, slot_rows_length}
use Rattle.csv_text.proofs.Lines.{past, entry_size, slot_size}
use Rattle.csv_text.proofs.Names.{distinct_few}
use Rattle.csv_text.proofs.Known.{known_length}
use Rattle.csv_text.proofs.Rows.{row_behind, entry_rows_entry, entry_rows_slot, slot_rows_entry, slot_row, slot_rows_slot, packages_then, package_placed}
use Rattle.csv_text.proofs.Walks.{◌then◌, Next, next_line, all_passed, lines_at_end, same_line, next_ok, lays_headed, walked_none, walked_on, counts_length, entry_next, slot_next, entry_before, entries_then_entry, slots_then_entry, entries_then_slot, slots_then_slot}
use Rattle.csv_text.proofs.Found.{entry_of, slot_of, entry_within, slot_within}

-- the line that is read is the next line of the text
pub entry_is : {text : List ℕ} {lines done : List Line} {at : ℕ} {e : EntryParts} → Lays text lines → (x : Next text lines done at)
    → (f : EntryFound (drop (at + 2) text) e) → lines ≡ done ++ (entry_of f ∷ x.more)
entry_is {done = done} l x f =
    let same = same_line (entry_of f) x.line f.rest (body x.more ++ x.ending) f.ok (next_ok l x) f.ends (lines_at_end x.more x.ending x.ends) (sym f.whole ∙ x.rest) in
    x.same ∙ ap (λ (m : Line). done ++ (m ∷ x.more)) (sym same)

pub slot_is : {text : List ℕ} {lines done : List Line} {at : ℕ} {e : SlotParts} → Lays text lines → (x : Next text lines done at)
    → (f : SlotFound (drop (at + 2) text) e) → lines ≡ done ++ (slot_of f ∷ x.more)
slot_is {done = done} l x f =
    let same = same_line (slot_of f) x.line f.rest (body x.more ++ x.ending) f.ok (next_ok l x) f.ends (lines_at_end x.more x.ending x.ends) (sym f.whole ∙ x.rest) in
    x.same ∙ ap (λ (m : Line). done ++ (m ∷ x.more)) (sym same)

pub entries_of_append : (done more : List Line) → entry_count (done ++ more) ≡ entry_count done + entry_count more
entries_of_append [] more = omega arith
entries_of_append (entry n x y z w ∷ done) more = omega (arith, entries_of_append done more)
entries_of_append (slot n c ∷ done) more = entries_of_append done more

slots_of_append : (done more : List Line) → slot_count (done ++ more) ≡ slot_count done + slot_count more
slots_of_append [] more = omega arith
slots_of_append (entry n x y z w ∷ done) more = slots_of_append done more
slots_of_append (slot n c ∷ done) more = omega (arith, slots_of_append done more)

-- a front part between marks
front_part : (text : List ℕ) (at n : ℕ) (front rest : List ℕ) → drop at text ≡ front ++ rest → n ≡ length front → part text at (at + n) ≡ front
front_part text at n front rest e f =
    let size : at + n - at ≡ length front = omega arith in
    rw (size, e) (take_at front rest (length front) refl)

-- how long a table is with rows in front of what was lent
rows_size : {table : List ℕ} (rows lent : List ℕ) (k : ℕ) → table ≡ rows ++ drop k lent → length rows ≡ k → k ≤ length lent → length table ≡ length lent
rows_size rows lent k e f h = omega (arith, ap length e ∙ length-append rows (drop k lent), length-drop k lent)

-- where more lines follow
module _ {text lent_entries lent_slots : List ℕ} {lines done : List Line} {p : Progress} {names : Names} {entries slots : List ℕ}
    (g : Filling text lent_entries lent_slots lines done p names entries slots) (h : p.at + 2 < length text) where
  coming : Next text lines done p.at
  coming = next_line g.walked g.limited.lays h

  entries_before : entry_count done + entry_count (coming.line ∷ coming.more) ≤ 64
  entries_before = omega (arith, g.limited.few_entries, ap entry_count coming.same ∙ entries_of_append done (coming.line ∷ coming.more))

  slots_before : slot_count done + slot_count (coming.line ∷ coming.more) ≤ 256
  slots_before = omega (arith, g.limited.few_slots, ap slot_count coming.same ∙ slots_of_append done (coming.line ∷ coming.more))

  -- there is room for one name more
  name_room : names.count < 320
  name_room =
      omega (
        arith,
        sym (known_length text names g.room) ∙ ap length g.named,
        distinct_few (map name_of done),
        length-map done name_of,
        counts_length done,
        counts_length (coming.line ∷ coming.more),
        entries_before,
        slots_before,
      )

  -- a name's number is its place among all packages
  module _ (line : Line) (more : List Line) (is : lines ≡ done ++ (line ∷ more)) {name : List ℕ} (called : name ≡ name_of line)
      {r : ℕ} {names' : Names} (n : Numbers text names name r names') where
    place_final : r ≡ place (packages lines) (name_of line)
    place_final = n.placed ∙ cc (g.named, called) ∙ sym (package_placed lines done more line is)

    named_then : known text names' ≡ packages (done then line)
    named_then = n.grown ∙ cc (g.named, called) ∙ sym (packages_then done line)

  entries_size : length entries ≡ 320
  entries_size =
      rows_size (entry_rows (packages lines) done) lent_entries (5 * entry_count done) g.entered (entry_rows_length (packages lines) done) (omega (arith, g.entry_size, entries_before))
      ∙ g.entry_size

  slots_size : length slots ≡ 1024
  slots_size =
      rows_size (slot_rows (packages lines) 0 (length header + 2) done) lent_slots (4 * slot_count done) g.slotted
      (slot_rows_length (packages lines) 0 (length header + 2) done) (omega (arith, g.slot_size, slots_before))
      ∙ g.slot_size

  -- an entry comes next
  module _ {e : EntryParts} (f : EntryFound (drop (p.at + 2) text) e) where
    entry_same : lines ≡ done ++ (entry_of f ∷ coming.more)
    entry_same = entry_is g.limited.lays coming f

    pub entry_room : EntryRoom text p e names entries
    entry_room =
        record {
          room = g.room;
          name_room = name_room;
          row_room = omega (arith, entries_size, g.declared, g.limited.few_entries, ap entry_count entry_same ∙ entries_of_append done (entry_of f ∷ coming.more));
          within = entry_within text (p.at + 2) f (omega arith);
          name_within = omega (arith, f.of_name, f.used, entry_size f.name f.x f.y f.z f.weight);
        }

    entry_name : part text (p.at + 2) (p.at + 2 + e.name) ≡ f.name
    entry_name = front_part text (p.at + 2) e.name f.name _ (f.whole ∙ append_assoc f.name _ f.rest) f.of_name

    pub entry_filled : {r : Progress} {names' : Names} {entries' : List ℕ} → Declares text p e names entries r names' entries'
        → Filling text lent_entries lent_slots lines (done then entry_of f) r names' entries' slots
    entry_filled {r} {names'} {entries'} d =
        rw d.reached
        (record {
          limited = g.limited;
          walked =
              rw f.used
              (walked_on (entry_of f) f.rest g.walked h f.ok (entry_next done f.name f.x f.y f.z f.weight g.walked.first) f.whole f.ends);
          declared = omega (arith, g.declared, counted);
          wanted = g.wanted ∙ sym (slots_then_entry done f.name f.x f.y f.z f.weight);
          named = named_then (entry_of f) coming.more entry_same entry_name d.numbers;
          room = d.numbers.room;
          entry_size = g.entry_size;
          slot_size = g.slot_size;
          entered =
              d.row
              ∙ ap (λ (k : ℕ). over entries (5 * k) (d.number ∷ e.version.major ∷ e.version.minor ∷ e.version.patch ∷ e.weight ∷ [])) g.declared
              ∙ row_behind (entry_rows (packages lines) done) lent_entries (d.number ∷ e.version.major ∷ e.version.minor ∷ e.version.patch ∷ e.weight ∷ []) (5 * entry_count done)
              (entry_rows_length (packages lines) done) g.entered
              ∙ cc (row, entry_rows_entry (packages lines) done f.name f.x f.y f.z f.weight, places);
          slotted =
              g.slotted
              ∙ cc (
                slot_rows_entry (packages lines) 0 (length header + 2) done f.name f.x f.y f.z f.weight,
                slots_then_entry done f.name f.x f.y f.z f.weight,
              );
        })
      where
        counted : entry_count (done then entry_of f) ≡ entry_count done + 1
        counted = entries_then_entry done f.name f.x f.y f.z f.weight

        places : 5 * entry_count done + 5 ≡ 5 * entry_count (done then entry_of f)
        places = omega (arith, counted)

        row : d.number ∷ e.version.major ∷ e.version.minor ∷ e.version.patch ∷ e.weight ∷ []
            ≡ place (packages lines) f.name ∷ value f.x ∷ value f.y ∷ value f.z ∷ value f.weight ∷ []
        row = cc (place_final (entry_of f) coming.more entry_same entry_name d.numbers, f.of_major, f.of_minor, f.of_patch, f.of_weight)

  -- a slot comes next
  module _ {e : SlotParts} (f : SlotFound (drop (p.at + 2) text) e) where
    slot_same : lines ≡ done ++ (slot_of f ∷ coming.more)
    slot_same = slot_is g.limited.lays coming f

    some_entry : ¬ (entry_count done ≡ 0)
    some_entry = entry_before done f.name f.constraint coming.more (rw slot_same at g.limited.lays.first)

    pub slot_room : SlotRoom text p e names slots
    slot_room =
        record {
          room = g.room;
          name_room = name_room;
          row_room = omega (arith, slots_size, g.wanted, g.limited.few_slots, ap slot_count slot_same ∙ slots_of_append done (slot_of f ∷ coming.more));
          within = slot_within text (p.at + 2) f (omega arith);
          parts = omega (arith, f.used, slot_size f.name f.constraint, f.of_name, f.of_constraint);
          owned = omega (arith, some_entry, g.declared);
          owner_small = omega (arith, g.declared, entries_before);
          short = g.limited.lays.short;
        }

    slot_name : part text (p.at + 2 + 3) (p.at + 2 + 3 + e.name) ≡ f.name
    slot_name =
        let behind = sym (past text (p.at + 2) 3 (p.at + 2 + 3) refl) ∙ ap (λ (t : List ℕ). drop 3 t) f.whole in
        front_part text (p.at + 2 + 3) e.name f.name _ (behind ∙ append_assoc f.name _ f.rest) f.of_name

    pub slot_filled : {r : Progress} {names' : Names} {slots' : List ℕ} → Wants text p e names slots r names' slots'
        → Filling text lent_entries lent_slots lines (done then slot_of f) r names' entries slots'
    slot_filled {r} {names'} {slots'} d =
        rw d.reached
        (record {
          limited = g.limited;
          walked =
              rw f.used
              (walked_on (slot_of f) f.rest g.walked h f.ok (slot_next done f.name f.constraint g.walked.first some_entry) f.whole f.ends);
          declared = g.declared ∙ sym (entries_then_slot done f.name f.constraint);
          wanted = omega (arith, g.wanted, counted);
          named = named_then (slot_of f) coming.more slot_same slot_name d.numbers;
          room = d.numbers.room;
          entry_size = g.entry_size;
          slot_size = g.slot_size;
          entered = g.entered ∙ cc (entry_rows_slot (packages lines) done f.name f.constraint, entries_then_slot done f.name f.constraint);
          slotted =
              d.row
              ∙ ap (λ (j : ℕ). over slots (4 * j) written_row) g.wanted
              ∙ row_behind (slot_rows (packages lines) 0 (length header + 2) done) lent_slots written_row (4 * slot_count done)
              (slot_rows_length (packages lines) 0 (length header + 2) done) g.slotted
              ∙ cc (row, slot_rows_slot (packages lines) 0 (length header + 2) done f.name f.constraint, places);
        })
      where
        written_row : List ℕ
        written_row = (p.entries - 1) ∷ d.number ∷ (p.at + 2 + 3 + e.name + 1) ∷ (p.at + 2 + 3 + e.name + 1 + e.constraint) ∷ []

        counted : slot_count (done then slot_of f) ≡ slot_count done + 1
        counted = slots_then_slot done f.name f.constraint

        places : 4 * slot_count done + 4 ≡ 4 * slot_count (done then slot_of f)
        places = omega (arith, counted)

        row : written_row ≡ slot_row (packages lines) (0 + entry_count done) (length header + 2 + length (body done)) f.name f.constraint
        row =
            let number = place_final (slot_of f) coming.more slot_same slot_name d.numbers in
            let owner : p.entries - 1 ≡ 0 + entry_count done - 1 = omega (arith, g.declared) in
            let start : p.at + 2 + 3 + e.name + 1 ≡ length header + 2 + length (body done) + field_start f.name = omega (arith, g.walked.there, f.of_name) in
            cc (number, owner, start, f.of_constraint)

-- one line more is passed, whichever it is
module _ {text : List ℕ} {p : Progress} {names : Names} {entries slots : List ℕ} (h : p.at + 2 < length text) where
  pub fills_entry : {e : EntryParts} (f : EntryFound (drop (p.at + 2) text) e) {r : Progress} {names' : Names} {entries' : List ℕ}
      → Declares text p e names entries r names' entries' → Fills text p names entries slots r names' entries' slots
  fills_entry f d =
      record { onward = rw d.reached (omega arith); filled = λ lent_entries lent_slots lines done g. (entry_of f, entry_filled g h f d) }

  pub fills_slot : {e : SlotParts} (f : SlotFound (drop (p.at + 2) text) e) {r : Progress} {names' : Names} {slots' : List ℕ}
      → Wants text p e names slots r names' slots' → Fills text p names entries slots r names' entries slots'
  fills_slot f d = record { onward = rw d.reached (omega arith); filled = λ lent_entries lent_slots lines done g. (slot_of f, slot_filled g h f d) }

-- a line stands there
pub no_line_left : {text : List ℕ} {p : Progress} {names : Names} {entries slots : List ℕ} → Underway text p names entries slots → ¬ NoLine IsLine (drop (p.at + 2) text)
no_line_left v never =
    let g = v.filling in
    let x = next_line g.walked g.limited.lays v.more in
    never x.line tt (next_ok g.limited.lays x) (body x.more ++ x.ending) (lines_at_end x.more x.ending x.ends) x.rest

-- before the first line
pub filling_none : {text entries slots : List ℕ} {names : Names} (v : Fillable text entries slots) → known text names ≡ [] → Room text names
    → Filling text entries slots v.lines [] (record { at = 39; entries = 0; slots = 0 }) names entries slots
filling_none v empty room =
    record {
      limited = v.limited;
      walked = walked_none (lays_headed v.limited.lays);
      declared = refl;
      wanted = refl;
      named = empty;
      room = room;
      entry_size = v.entry_size;
      slot_size = v.slot_size;
      entered = refl;
      slotted = refl;
    }

-- behind the last
pub all_filled : {text lent_entries lent_slots : List ℕ} {lines done : List Line} {p : Progress} {names : Names} {entries slots : List ℕ}
    → Filling text lent_entries lent_slots lines done p names entries slots → length text ≤ p.at + 2 → Filled text lent_entries lent_slots entries slots
all_filled {text} {lent_entries} {lent_slots} {lines} {done} {entries = entries} {slots = slots} g h =
    record {
      entered = λ ls l. rw (← (same ls l)) (rw (all_passed g.walked g.limited.lays h) at g.entered);
      slotted = λ ls l. rw (← (same ls l)) (rw (all_passed g.walked g.limited.lays h) at g.slotted);
    }
  where
    same : (ls : List Line) → Lays text ls → lines ≡ ls
    same ls l = one_sheet g.limited.lays l

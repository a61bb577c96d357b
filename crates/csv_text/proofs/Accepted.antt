-- What read fills is what every other call takes: with the same text, the front numbers of the two tables never give 1 or 3.
use mathlib.Core.Path.{◌≡◌}
use mathlib.Core.List.{List, ◌++◌}
use mathlib.Core.Logic.{inl, inr}
use Prim.Native.Nat.{ℕ, ◌+◌, ◌*◌, ◌≤◌, ◌<◌}
use native.Mathlib.Decide.{dec_le}
use native.Mathlib.Omega.{arith}
use lib.ListN.{length, get_or, take, drop}
use lib.Seq.{take_at}
use Rattle.basis.specs.Rows.{GivesNone}
use Rattle.std.proofs.Common.{Ok}
use Rattle.csv_text.specs.declared.Sheet.{Sheet}
use Rattle.csv_text.specs.Layout.{Line, Lays}
use Rattle.csv_text.specs.Says.{entry_count, slot_count, entry_table, slot_table}
use Rattle.csv_text.specs.Reading.{rows, Reads, refused, read}
use Rattle.csv_text.proofs.Tables.{entry_table_length, slot_table_length, marks_ordered, marks_within, owner_below, owners_rise}

-- tables to which neither 1 nor 3 applies: n entries of five numbers, and m slots of four, each with its owner and its marks
pub record Accepted (text : List ℕ) (n m : ℕ) (entries slots : List ℕ) : Type 0 where
  pub five_each : length entries ≡ 5 * n
  pub some_entry : 1 ≤ n
  pub few_entries : n ≤ 64
  pub four_each : length slots ≡ 4 * m
  pub few_slots : m ≤ 256
  pub owned : (s : ℕ) → s < m → get_or slots (4 * s) 0 < n
  pub in_order : (s : ℕ) → s + 1 < m → get_or slots (4 * s) 0 ≤ get_or slots (4 * (s + 1)) 0
  pub ordered : (s : ℕ) → s < m → get_or slots (4 * s + 2) 0 ≤ get_or slots (4 * s + 3) 0
  pub within : (s : ℕ) → s < m → get_or slots (4 * s + 3) 0 ≤ length text

-- of lines that no refusal applies to
tables_accepted : {text : List ℕ} {lines : List Line} (entries slots : List ℕ) → GivesNone (rows text entries slots) → Lays text lines
    → Accepted text (entry_count lines) (slot_count lines) (entry_table lines) (slot_table lines)
tables_accepted {text} {lines} entries slots none l =
    record {
      five_each = entry_table_length lines;
      some_entry = some (dec_le 1 (entry_count lines));
      few_entries = few (dec_le (entry_count lines) 64);
      four_each = slot_table_length lines;
      few_slots = short (dec_le (slot_count lines) 256);
      owned = owner_below lines l.first;
      in_order = owners_rise lines l.first;
      ordered = marks_ordered l;
      within = marks_within l;
    }
  where
    some : Dec (1 ≤ entry_count lines) → 1 ≤ entry_count lines
    some (yes h) = h
    some (no h) = absurd (none.1.1.0 (lines, l, inl (omega arith)))

    few : Dec (entry_count lines ≤ 64) → entry_count lines ≤ 64
    few (yes h) = h
    few (no h) = absurd (none.1.1.0 (lines, l, inr (omega arith)))

    short : Dec (slot_count lines ≤ 256) → slot_count lines ≤ 256
    short (yes h) = h
    short (no h) = absurd (none.1.1.1.0 (lines, l, omega arith))

-- the front numbers that read has filled
pub read_accepted : {text entries slots : List ℕ} {s : Sheet} {entries' slots' : List ℕ} → Reads text entries slots (Ok s) entries' slots'
    → Accepted text s.entries s.slots (take (5 * s.entries) entries') (take (4 * s.slots) slots')
read_accepted (refused g e a b) = let z : ◌≡◌ {A = ℕ} 0 1 = cc in absurd (omega arith)
read_accepted {text} {entries} {slots} {s} {entries'} {slots'} (read {lines = lines} none l e a b) =
    let of_entries : entry_count lines ≡ s.entries = cc in
    let of_slots : slot_count lines ≡ s.slots = cc in
    rw (← of_entries, ← of_slots, a, b, front_entries, front_slots) (tables_accepted entries slots none l)
  where
    front_entries : take (5 * entry_count lines) (entry_table lines ++ drop (5 * entry_count lines) entries) ≡ entry_table lines
    front_entries = take_at (entry_table lines) (drop (5 * entry_count lines) entries) (5 * entry_count lines) (entry_table_length lines)

    front_slots : take (4 * slot_count lines) (slot_table lines ++ drop (4 * slot_count lines) slots) ≡ slot_table lines
    front_slots = take_at (slot_table lines) (drop (4 * slot_count lines) slots) (4 * slot_count lines) (slot_table_length lines)

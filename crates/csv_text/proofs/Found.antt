-- The lines that the line reader finds, and that they lie within the text.
use mathlib.Core.Path.{◌≡◌, sym, ap, ◌∙◌}
use mathlib.Core.List.{List, ◌++◌}
use Prim.Native.Nat.{ℕ, ◌+◌, ◌≤◌}
use native.Mathlib.Omega.{arith}
use lib.ListN.{length, drop, length-append, length-drop}
use Rattle.csv_text.specs.declared.line.EntryParts.{EntryParts}
use Rattle.csv_text.specs.declared.line.SlotParts.{SlotParts}
use Rattle.csv_text.specs.Layout.{Line, entry, slot, written}
use Rattle.csv_text.specs.Reader.{EntryFound, SlotFound}

-- the line that was found
abbrev pub entry_of : {text : List ℕ} {e : EntryParts} → EntryFound text e → Line
entry_of f = entry f.name f.x f.y f.z f.weight

abbrev pub slot_of : {text : List ℕ} {e : SlotParts} → SlotFound text e → Line
slot_of f = slot f.name f.constraint

-- a line lies within the text
line_within : (text : List ℕ) (k : ℕ) {u : ℕ} (line : Line) (s : List ℕ) → drop k text ≡ written line ++ s → u ≡ length (written line) → k ≤ length text → k + u ≤ length text
line_within text k line s e f h = omega (arith, sym (length-drop k text) ∙ ap length e ∙ length-append (written line) s)

pub entry_within : (text : List ℕ) (k : ℕ) {e : EntryParts} → EntryFound (drop k text) e → k ≤ length text → k + e.used ≤ length text
entry_within text k f h = line_within text k (entry_of f) f.rest f.whole f.used h

pub slot_within : (text : List ℕ) (k : ℕ) {e : SlotParts} → SlotFound (drop k text) e → k ≤ length text → k + e.used ≤ length text
slot_within text k f h = line_within text k (slot_of f) f.rest f.whole f.used h

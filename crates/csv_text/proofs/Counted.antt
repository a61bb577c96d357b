-- Pass one: each line that is read is one line more of the text, and where none is read the text is outside the layout.
use mathlib.Core.Path.{◌≡◌, refl, sym, ◌∙◌}
use mathlib.Core.List.{List, [], ◌++◌}
use Prim.Native.Nat.{ℕ, ◌+◌, ◌≤◌, ◌<◌}
use native.Mathlib.Omega.{arith}
use lib.ListN.{length, drop}
use Rattle.csv_text.specs.declared.count.Progress.{Progress}
use Rattle.csv_text.specs.declared.line.EntryParts.{EntryParts}
use Rattle.csv_text.specs.declared.line.SlotParts.{SlotParts}
use Rattle.csv_text.specs.Layout.{Line, body}
use Rattle.csv_text.specs.Reader.{Headed, IsLine, EntryFound, SlotFound, NoLine}
use Rattle.csv_text.specs.Walk.{Counting, Unfinished, Outside, Onward, Counted}
use Rattle.csv_text.proofs.Walks.{◌then◌, next_line, lines_at_end, same_line, next_ok, lays_headed, walked_none, walked_on, walked_lays, counts_few, entry_next, slot_next, entry_before, entries_then_entry, slots_then_entry, entries_then_slot, slots_then_slot}
use Rattle.csv_text.proofs.Found.{entry_of, slot_of}

pub no_line : {text : List ℕ} {p : Progress} → Unfinished text p → NoLine IsLine (drop (p.at + 2) text) → Outside text
no_line u never lines l =
    let n = next_line u.0.1.walked l u.1 in
    never n.line tt (next_ok l n) (body n.more ++ n.ending) (lines_at_end n.more n.ending n.ends) n.rest

-- a slot where no entry is declared yet
pub first_slot : {text : List ℕ} {p : Progress} {e : SlotParts} → Unfinished text p → p.entries ≡ 0 → SlotFound (drop (p.at + 2) text) e → Outside text
first_slot v z f lines l =
    let done = v.0.0 in
    let x = next_line v.0.1.walked l v.1 in
    let same =
    same_line (slot_of f) x.line f.rest (body x.more ++ x.ending) f.ok (next_ok l x) f.ends
    (lines_at_end x.more x.ending x.ends) (sym f.whole ∙ x.rest) in
    entry_before done f.name f.constraint x.more
    (rw (x.same, ← same) at l.first)
    (sym v.0.1.entries ∙ z)

pub entry_passed : {text : List ℕ} (p : Progress) {e : EntryParts} → p.at + 2 < length text → EntryFound (drop (p.at + 2) text) e
    → Onward text p (record { at = p.at + 2 + e.used; entries = p.entries + 1; slots = p.slots })
entry_passed {text} p {e = e} h f = record { further = omega arith; counting = passed }
  where
    passed : (done : List Line) → Counting text done p
        → (line : Line) × Counting text (done then line) (record { at = p.at + 2 + e.used; entries = p.entries + 1; slots = p.slots })
    passed done w =
        let first = entry_next done f.name f.x f.y f.z f.weight w.walked.first in (
          entry_of f,
          record {
            walked = rw f.used (walked_on (entry_of f) f.rest w.walked h f.ok first f.whole f.ends);
            entries = omega (arith, w.entries, entries_then_entry done f.name f.x f.y f.z f.weight);
            slots = w.slots ∙ sym (slots_then_entry done f.name f.x f.y f.z f.weight);
            short = w.short;
          },
        )

pub slot_passed : {text : List ℕ} (p : Progress) {e : SlotParts} → p.at + 2 < length text → ¬ (p.entries ≡ 0) → SlotFound (drop (p.at + 2) text) e
    → Onward text p (record { at = p.at + 2 + e.used; entries = p.entries; slots = p.slots + 1 })
slot_passed {text} p {e = e} h some f = record { further = omega arith; counting = passed }
  where
    passed : (done : List Line) → Counting text done p
        → (line : Line) × Counting text (done then line) (record { at = p.at + 2 + e.used; entries = p.entries; slots = p.slots + 1 })
    passed done w =
        let first = slot_next done f.name f.constraint w.walked.first (λ z. some (w.entries ∙ z)) in (
          slot_of f,
          record {
            walked = rw f.used (walked_on (slot_of f) f.rest w.walked h f.ok first f.whole f.ends);
            entries = w.entries ∙ sym (entries_then_slot done f.name f.constraint);
            slots = omega (arith, w.slots, slots_then_slot done f.name f.constraint);
            short = w.short;
          },
        )

-- the counts are small, as the text is short
pub counts_small : {text : List ℕ} {p : Progress} → Unfinished text p → p.entries + p.slots ≤ 65535
counts_small u = let w = u.0.1 in omega (arith, counts_few w.walked, w.entries, w.slots, w.short, u.1)

-- no text that is too long, or that does not open with the header, is in the layout
pub text_too_long : {text : List ℕ} → 65535 < length text → Outside text
text_too_long h lines l = omega (arith, l.short)

pub not_headed : {text : List ℕ} → ¬ Headed text → Outside text
not_headed n lines l = n (lays_headed l)

pub counting_none : {text : List ℕ} → Headed text → length text ≤ 65535 → Counting text [] (record { at = 39; entries = 0; slots = 0 })
counting_none h short = record { walked = walked_none h; entries = refl; slots = refl; short = short }

pub all_counted : {text : List ℕ} {p : Progress} {done : List Line} → Counting text done p → length text ≤ p.at + 2 → Counted text p
all_counted {done = done} w h = record { lines = done; lays = walked_lays w.walked h w.short; entries = w.entries; slots = w.slots }

-- What each of the refusals 1 to 8 means on the tables, text, settings and plan buffer, and the rows in which they are tested. Outside read the lowest number that
-- applies is given, so the rows rise.
use Rattle.std.specs.Prelude.{◌≡◌, List, [], ◌∷◌, ◌⊎◌, ℕ, suc, ◌%◌, ◌^◌, ◌≤◌, ◌<◌, length, get_or}
use Rattle.basis.specs.Rows.{Row, row}
use Rattle.basis.specs.Sum.{sum}
use Rattle.constraint.specs.Meaning.{Same}
use Rattle.constraint.specs.Spelling.{Readable}
use Rattle.catalogue.specs.Tables.{Lent, entry_width, entry_count, package_of, version_of, weight_of, slot_width, slot_count, owner_of, start_of, end_of, part_of}

-- some entry, some slot
abbrev pub SomeEntry : Lent → (ℕ → Type 0) → Type 0
SomeEntry L P = (e : ℕ) × (e < entry_count L) × P e

abbrev pub SomeSlot : Lent → (ℕ → Type 0) → Type 0
SomeSlot L P = (s : ℕ) × (s < slot_count L) × P s

-- 1: entry numbers not a multiple of five, none, or over 64 entries
abbrev pub EntriesMisshapen : Lent → Type 0
EntriesMisshapen L = (¬ (length L.entries % entry_width ≡ 0)) ⊎ ((length L.entries ≡ 0) ⊎ (64 < entry_count L))

-- 2: two entries of equal package and version
abbrev pub EntryTwice : Lent → Type 0
EntryTwice L = SomeEntry L (λ e. (d : ℕ) × (d < e) × ((package_of L d ≡ package_of L e) × Same (version_of L d) (version_of L e)))

-- 3: slot numbers not a multiple of four, or over 256 slots
abbrev pub SlotsMisshapen : Lent → Type 0
SlotsMisshapen L = (¬ (length L.slots % slot_width ≡ 0)) ⊎ (256 < slot_count L)

-- 3: owner not an entry
abbrev pub OwnerMissing : Lent → Type 0
OwnerMissing L = SomeSlot L (λ s. entry_count L ≤ owner_of L s)

-- 3: owner below the one before
abbrev pub OwnersFall : Lent → Type 0
OwnersFall L = SomeSlot L (λ s. (suc s < slot_count L) × (owner_of L (suc s) < owner_of L s))

-- 3: start after end
abbrev pub MarksCross : Lent → Type 0
MarksCross L = SomeSlot L (λ s. end_of L s < start_of L s)

-- 3: end past the text
abbrev pub EndPastText : Lent → Type 0
EndPastText L = SomeSlot L (λ s. length L.text < end_of L s)

-- 4: a constraint outside the rules, of whatever slot
abbrev pub ConstraintUnread : Lent → Type 0
ConstraintUnread L = SomeSlot L (λ s. ¬ Readable (part_of L s))

-- 5: root not an entry
abbrev pub RootMissing : Lent → Type 0
RootMissing L = entry_count L ≤ L.settings.root

-- 6: mode or cycles outside 0 to 2 and 0 to 1
abbrev pub ModeUnknown : Lent → Type 0
ModeUnknown L = 2 < L.settings.mode

abbrev pub CyclesUnknown : Lent → Type 0
CyclesUnknown L = 1 < L.settings.cycles

-- 6: objectives other than one to three different codes of 0 to 2
abbrev pub ObjectivesMisnumbered : Lent → Type 0
ObjectivesMisnumbered L = (length L.objectives ≡ 0) ⊎ (3 < length L.objectives)

abbrev pub ObjectiveUnknown : Lent → Type 0
ObjectiveUnknown L = (i : ℕ) × (i < length L.objectives) × (2 < get_or L.objectives i 0)

abbrev pub ObjectiveTwice : Lent → Type 0
ObjectiveTwice L = (i : ℕ) × (i < length L.objectives) × ((j : ℕ) × (j < i) × (get_or L.objectives j 0 ≡ get_or L.objectives i 0))

-- 7: plan buffer not one byte per slot
abbrev pub BufferMisfits : Lent → ℕ → Type 0
BufferMisfits L room = ¬ (room ≡ slot_count L)

-- 8: a weight sum past 32 bits
abbrev pub WeightsOverflow : Lent → Type 0
WeightsOverflow L = 2 ^ 32 ≤ sum (λ e. weight_of L e) (entry_count L)

-- the rows of every call but read, for a plan buffer of `room` bytes
unfoldable pub rows : Lent → ℕ → List Row
rows L room =
    row 1 (EntriesMisshapen L)
    ∷ row 2 (EntryTwice L)
    ∷ row 3 (SlotsMisshapen L)
    ∷ row 3 (OwnerMissing L)
    ∷ row 3 (OwnersFall L)
    ∷ row 3 (MarksCross L)
    ∷ row 3 (EndPastText L)
    ∷ row 4 (ConstraintUnread L)
    ∷ row 5 (RootMissing L)
    ∷ row 6 (ModeUnknown L)
    ∷ row 6 (CyclesUnknown L)
    ∷ row 6 (ObjectivesMisnumbered L)
    ∷ row 6 (ObjectiveUnknown L)
    ∷ row 6 (ObjectiveTwice L)
    ∷ row 7 (BufferMisfits L room)
    ∷ row 8 (WeightsOverflow L)
    ∷ []

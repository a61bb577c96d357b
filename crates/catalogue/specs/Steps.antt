-- The steps of a survey and what each answers. The rows are tested in three steps: those on the tables, before any part of the text is cut; that of the constraints, as
-- every slot's set is made; and those on what is set for the call.
use Rattle.std.specs.Prelude.{◌≡◌, List, [], ◌∷◌, ◌++◌, ◌↔◌, ℕ, ◌≤◌, ◌<◌, length, get_or, Result, MatchResult}
use Rattle.basis.specs.declared.Refusal.{Refusal}
use Rattle.basis.specs.declared.Refusal.TheVariants.{Constraint}
use Rattle.basis.specs.Rows.{Row, row, Gives, GivesNone, number_of}
use Rattle.bitset.specs.Bits.{Member}
use Rattle.constraint.specs.Spelling.{Readable}
use Rattle.constraint.specs.Selection.{unkey}
use Rattle.catalogue.specs.Tables.{Lent, entry_count, package_of, version_of, slot_count, start_of, end_of, part_of}
use Rattle.catalogue.specs.Refusals.{EntriesMisshapen, EntryTwice, SlotsMisshapen, OwnerMissing, OwnersFall, MarksCross, EndPastText, ConstraintUnread, RootMissing, ModeUnknown, CyclesUnknown, ObjectivesMisnumbered, ObjectiveUnknown, ObjectiveTwice, BufferMisfits, WeightsOverflow}
use Rattle.catalogue.specs.Gives.{Fits}
use Rattle.catalogue.specs.Survey.{Indexes}
use Rattle.catalogue.specs.Parts.{entries_alone, entry_key}

abbrev pub entry_rows : Lent → List Row
entry_rows L = row 1 (EntriesMisshapen L) ∷ row 2 (EntryTwice L) ∷ []

abbrev pub owner_rows : Lent → List Row
owner_rows L = row 3 (SlotsMisshapen L) ∷ row 3 (OwnerMissing L) ∷ row 3 (OwnersFall L) ∷ []

abbrev pub mark_rows : Lent → List Row
mark_rows L = row 3 (MarksCross L) ∷ row 3 (EndPastText L) ∷ []

-- the rows on the tables
abbrev pub shape_rows : Lent → List Row
shape_rows L = entry_rows L ++ (owner_rows L ++ mark_rows L)

abbrev pub setting_rows : Lent → List Row
setting_rows L = row 5 (RootMissing L) ∷ row 6 (ModeUnknown L) ∷ row 6 (CyclesUnknown L) ∷ []

abbrev pub objective_rows : Lent → List Row
objective_rows L = row 6 (ObjectivesMisnumbered L) ∷ row 6 (ObjectiveUnknown L) ∷ row 6 (ObjectiveTwice L) ∷ []

abbrev pub size_rows : Lent → ℕ → List Row
size_rows L room = row 7 (BufferMisfits L room) ∷ row 8 (WeightsOverflow L) ∷ []

-- the rows on what is set for the call
abbrev pub setup_rows : Lent → ℕ → List Row
setup_rows L room = setting_rows L ++ (objective_rows L ++ size_rows L room)

-- the refusal has the number of the first row that applies, and where there is none no row does
abbrev pub Numbered : List Row → Result Unit Refusal → Type 0
Numbered rs a = MatchResult a (λ u. GivesNone rs) (λ r. Gives rs (number_of r))

-- what the later steps go by, once no row on the tables applies
pub record Shaped (L : Lent) : Type 0 where
  pub entries : entry_count L ≤ 64
  pub slots : slot_count L ≤ 256
  pub marks : (s : ℕ) → s < slot_count L → start_of L s ≤ end_of L s
  pub within : (s : ℕ) → s < slot_count L → end_of L s ≤ length L.text

-- the numbers are the keys of the versions of the entries, and tell the versions
pub record Keys (entries numbers : List ℕ) : Type 0 where
  pub size : length numbers ≡ entry_count (entries_alone entries)
  pub each : (e : ℕ) → e < entry_count (entries_alone entries) → get_or numbers e 0 ≡ entry_key (entries_alone entries) e
  pub back : (e : ℕ) → e < entry_count (entries_alone entries) → unkey (get_or numbers e 0) ≡ version_of (entries_alone entries) e

-- the set of the entries below n of a package
abbrev pub OfPackage : Lent → ℕ → ℕ → ℕ → Type 0
OfPackage L wanted n set = (e : ℕ) → Member set e ↔ ((e < n) × (package_of L e ≡ wanted))

-- a set has the entries that fit slot s
abbrev pub FitsOf : Lent → ℕ → ℕ → Type 0
FitsOf L s set = (e : ℕ) → Member set e ↔ ((e < entry_count L) × Fits L s e)

-- what is found of slot s: the set of the entries that fit it, or 4 where its constraint is not read
abbrev pub Finds : Lent → ℕ → Result ℕ Refusal → Type 0
Finds L s a = MatchResult a (λ set. Readable (part_of L s) × FitsOf L s set) (λ r. (¬ Readable (part_of L s)) × (r ≡ Constraint))

-- what is found of all slots: their sets, or 4 where some constraint is not read
abbrev pub FindsAll : Lent → Result (List ℕ) Refusal → Type 0
FindsAll L a = MatchResult a (λ fits. (¬ ConstraintUnread L) × Indexes L fits) (λ r. ConstraintUnread L × (r ≡ Constraint))

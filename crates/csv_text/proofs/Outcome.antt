-- Reading a text into two lent tables has exactly one outcome: the answer and what each table then holds; and a text in the layout, within the limits, is read.
use mathlib.Core.Path.{◌≡◌, refl, ap}
use mathlib.Core.List.{List, ◌++◌}
use mathlib.Core.Logic.{◌⊎◌, inl, inr, ⊎_elim}
use Prim.Native.Nat.{ℕ, ◌*◌, ◌≤◌, ◌<◌}
use native.Mathlib.Decide.{ℕ_discrete, dec_lt}
use native.Mathlib.Omega.{arith}
use lib.ListN.{length, drop}
use Rattle.std.proofs.Common.{Result, Ok, Err}
use Rattle.basis.specs.declared.Refusal.{Refusal}
use Rattle.basis.specs.declared.Refusal.TheVariants.{Size, Text, Entries, Slots}
use Rattle.basis.specs.Rows.{Gives, GivesNone, number_of as refusal_number}
use Rattle.basis.proofs.Decide.{either_or_not, not_or_not}
use Rattle.basis.proofs.Refusals.{number_differs, refuses, gives_refusal}
use Rattle.basis.proofs.Rows.{gives_one, gives_not_none, Settled, settled_each}
use Rattle.csv_text.specs.declared.Sheet.{Sheet}
use Rattle.csv_text.specs.Layout.{Line, Lays}
use Rattle.csv_text.specs.Says.{entry_count, slot_count, entry_table, slot_table}
use Rattle.csv_text.specs.Reading.{rows, Reads, refused, read}
use Rattle.csv_text.proofs.Unique.{one_sheet}
use Rattle.csv_text.proofs.Decided.{only_or_not, lays_or_not}

pub read_one : (text entries slots : List ℕ) (a b : Result Sheet Refusal) (e e' s s' : List ℕ) → Reads text entries slots a e s → Reads text entries slots b e' s'
    → (a ≡ b) × (e ≡ e') × (s ≡ s')
read_one text entries slots a b e e' s s' (refused {r = m} g p q r) (refused {r = n} g' p' q' r') =
    let same = number_differs (gives_one (rows text entries slots) (refusal_number m) (refusal_number n) g g') in (cc, cc, cc)
read_one text entries slots a b e e' s s' (refused {r = n} g p q r) (read g' l p' q' r') = absurd (gives_not_none (rows text entries slots) (refusal_number n) g g')
read_one text entries slots a b e e' s s' (read g l p q r) (refused {r = n} g' p' q' r') = absurd (gives_not_none (rows text entries slots) (refusal_number n) g' g)
read_one text entries slots a b e e' s s' (read g l p q r) (read g' l' p' q' r') = let same = one_sheet l l' in (cc, cc, cc)

settled : (text entries slots : List ℕ) → Settled (rows text entries slots)
settled text entries slots =
    settled_each (rows text entries slots) (
      either_or_not (not_or_not (ℕ_discrete (length entries) 320)) (not_or_not (ℕ_discrete (length slots) 1024)),
      (
        not_or_not (lays_or_not text),
        (
          of_lines (λ lines. either_or_not (ℕ_discrete (entry_count lines) 0) (dec_lt 64 (entry_count lines))),
          (of_lines (λ lines. dec_lt 256 (slot_count lines)), tt),
        ),
      ),
    )
  where
    of_lines : {Q : List Line → Type 0} → ((lines : List Line) → Dec (Q lines)) → Dec ((lines : List Line) × Lays text lines × Q lines)
    of_lines d = only_or_not (λ ls ms a b. one_sheet a b) (lays_or_not text) d

pub read_some : (text entries slots : List ℕ) → (a : Result Sheet Refusal) × (e : List ℕ) × (s : List ℕ) × Reads text entries slots a e s
read_some text entries slots = go (gives_refusal (rows text entries slots) (refuses Size, (refuses Text, (refuses Entries, (refuses Slots, tt)))) (settled text entries slots)) (lays_or_not text)
  where
    go : ((r : Refusal) × Gives (rows text entries slots) (refusal_number r)) ⊎ GivesNone (rows text entries slots) → Dec ((lines : List Line) × Lays text lines)
        → (a : Result Sheet Refusal) × (e : List ℕ) × (s : List ℕ) × Reads text entries slots a e s
    go (inl g) l = (Err g.0, entries, slots, refused g.1 refl refl refl)
    go (inr g) (yes l) = (_, _, _, read g l.1 refl refl refl)
    go (inr g) (no n) = absurd (g.1.0 n)

-- no refusal applies to a text in the layout with as many entries and slots as there may be
pub no_refusal : {text : List ℕ} {lines : List Line} (entries slots : List ℕ) → Lays text lines → length entries ≡ 320 → length slots ≡ 1024
    → 0 < entry_count lines → entry_count lines ≤ 64 → slot_count lines ≤ 256 → GivesNone (rows text entries slots)
no_refusal {text} {lines} entries slots l e s some few_entries few_slots = (sizes, ((λ n. n (lines, l)), (entries_fit, (slots_fit, tt))))
  where
    sizes : ¬ ((¬ (length entries ≡ 320)) ⊎ (¬ (length slots ≡ 1024)))
    sizes (inl n) = n e
    sizes (inr n) = n s

    counted : {ls : List Line} → Lays text ls → entry_count ls ≡ entry_count lines
    counted k = ap entry_count (one_sheet k l)

    entries_fit : ¬ ((ls : List Line) × Lays text ls × ((entry_count ls ≡ 0) ⊎ (64 < entry_count ls)))
    entries_fit x = ⊎_elim (λ (z : entry_count x.0 ≡ 0). omega (arith, counted x.1, z)) (λ (z : 64 < entry_count x.0). omega (arith, counted x.1, z)) x.2

    slots_fit : ¬ ((ls : List Line) × Lays text ls × (256 < slot_count ls))
    slots_fit x = omega (arith, ap slot_count (one_sheet x.1 l), x.2)

-- such a text is read
pub read_of : {text : List ℕ} {lines : List Line} (entries slots : List ℕ) → Lays text lines → length entries ≡ 320 → length slots ≡ 1024
    → 0 < entry_count lines → entry_count lines ≤ 64 → slot_count lines ≤ 256
    → Reads text entries slots (Ok (record { entries = entry_count lines; slots = slot_count lines })) (entry_table lines ++ drop (5 * entry_count lines) entries) (slot_table lines ++ drop (4 * slot_count lines) slots)
read_of entries slots l e s some few_entries few_slots = read (no_refusal entries slots l e s some few_entries few_slots) l refl refl refl

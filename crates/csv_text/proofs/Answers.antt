-- What the call answers, by what the first pass has counted and the second has filled: each refusal in its order, and the success.
use mathlib.Core.Path.{◌≡◌, refl, sym, ◌∙◌}
use mathlib.Core.List.{List}
use mathlib.Core.Logic.{◌⊎◌, inl, inr}
use Prim.Native.Nat.{ℕ, ◌≤◌, ◌<◌}
use native.Mathlib.Omega.{arith}
use lib.ListN.{length}
use Rattle.std.proofs.Common.{Ok, Err}
use Rattle.basis.specs.declared.Refusal.TheVariants.{Size, Text, Entries, Slots}
use Rattle.csv_text.specs.declared.count.Progress.{Progress}
use Rattle.csv_text.specs.Layout.{Line, Lays}
use Rattle.csv_text.specs.Says.{entry_count}
use Rattle.csv_text.specs.Walk.{Outside, Counted}
use Rattle.csv_text.specs.Filling.{Fillable, Filled}
use Rattle.csv_text.specs.Reading.{Reads, refused, read}
use Rattle.csv_text.proofs.Unique.{one_sheet}
use Rattle.csv_text.proofs.Outcome.{no_refusal}

module _ (text entries slots : List ℕ) where
  pub wrong_size : (¬ (length entries ≡ 320)) ⊎ (¬ (length slots ≡ 1024)) → Reads text entries slots (Err Size) entries slots
  wrong_size n = refused {r = Size} (inl (n, refl)) refl refl refl

  module _ (e : length entries ≡ 320) (s : length slots ≡ 1024) where
    sizes : ¬ ((¬ (length entries ≡ 320)) ⊎ (¬ (length slots ≡ 1024)))
    sizes (inl n) = n e
    sizes (inr n) = n s

    pub outside_layout : Outside text → Reads text entries slots (Err Text) entries slots
    outside_layout n = refused {r = Text} (inr (sizes, inl (λ x. n x.0 x.1, refl))) refl refl refl

    module _ {p : Progress} (t : Counted text p) where
      there : ¬ (¬ ((lines : List Line) × Lays text lines))
      there never = never (t.lines, t.lays)

      pub no_entries : (p.entries ≡ 0) ⊎ (64 < p.entries) → Reads text entries slots (Err Entries) entries slots
      no_entries n = refused {r = Entries} (inr (sizes, inr (there, inl ((t.lines, t.lays, rw t.entries at n), refl)))) refl refl refl

      module _ (some : ¬ (p.entries ≡ 0)) (few : p.entries ≤ 64) where
        few_entries : ¬ ((lines : List Line) × Lays text lines × ((entry_count lines ≡ 0) ⊎ (64 < entry_count lines)))
        few_entries x = go x.2
          where
            same : entry_count x.0 ≡ p.entries
            same = let z : x.0 ≡ t.lines = one_sheet x.1 t.lays in cc (z, t.entries)

            go : (entry_count x.0 ≡ 0) ⊎ (64 < entry_count x.0) → ⊥
            go (inl z) = some (sym same ∙ z)
            go (inr h) = omega (arith, same)

        pub many_slots : 256 < p.slots → Reads text entries slots (Err Slots) entries slots
        many_slots h =
            refused {r = Slots} (inr (sizes, inr (there, inr (few_entries, inl ((t.lines, t.lays, omega (arith, t.slots)), refl))))) refl refl refl

        pub fillable : p.slots ≤ 256 → Fillable text entries slots
        fillable h =
            record {
              lines = t.lines;
              limited = record { lays = t.lays; few_entries = omega (arith, t.entries); few_slots = omega (arith, t.slots) };
              entry_size = e;
              slot_size = s;
            }

        pub all_read : p.slots ≤ 256 → {entries' slots' : List ℕ} → Filled text entries slots entries' slots' → Reads text entries slots (Ok (record { entries = p.entries; slots = p.slots })) entries' slots'
        all_read h f =
            read {lines = t.lines}
            (no_refusal entries slots t.lays e s (omega (arith, t.entries)) (omega (arith, t.entries)) (omega (arith, t.slots)))
            t.lays
            (cc (t.entries, t.slots))
            (f.entered t.lines t.lays)
            (f.slotted t.lines t.lays)

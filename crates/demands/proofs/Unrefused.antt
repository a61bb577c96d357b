-- A catalogue that is not refused, by computation: where the slots' parts are read as given constraints, each of the other refusals is a test.
use mathlib.Core.Bool.{Bool}
use Prim.Native.Nat.{ℕ, suc, ◌%◌, ◌^◌}
use lib.Dec.{T}
use lib.ListN.{length, get_or}
use Rattle.basis.specs.Sum.{sum}
use Rattle.basis.proofs.Decide.{decides_and, decides_or, decides_not, decides_eq, decides_lt, decides_le, decides_some, every}
use Rattle.constraint.specs.Meaning.{Constraint, bound, equal}
use Rattle.constraint.proofs.Tests.{satisfied_decides}
use Rattle.catalogue.specs.Tables.{Lent, entry_width, entry_count, package_of, version_of, weight_of, slot_width, slot_count, owner_of, start_of, end_of, part_of}
use Rattle.catalogue.specs.Refusals.{EntriesMisshapen, EntryTwice, SlotsMisshapen, OwnerMissing, OwnersFall, MarksCross, EndPastText, RootMissing, ModeUnknown, CyclesUnknown, ObjectivesMisnumbered, ObjectiveUnknown, ObjectiveTwice, BufferMisfits, WeightsOverflow}
use Rattle.catalogue.proofs.Sane.{Sane}
use Rattle.catalogue.proofs.Computed.{AllRead}
use Rattle.demands.proofs.Tested.{Test, every_at}
use Rattle.demands.proofs.Readings.{reads?, reads}

module _ (L : Lent) (constraints : ℕ → Constraint) where
  -- each slot's part is read as its constraint
  abbrev pub reads_all? : Bool
  reads_all? = every (λ s. reads? (part_of L s) (constraints s)) (slot_count L)

  pub all_read : T reads_all? → AllRead L constraints
  all_read t s h = reads (part_of L s) (constraints s) (every_at (λ r. reads? (part_of L r) (constraints r)) (slot_count L) t s h)

module _ (L : Lent) (room : ℕ) where
  -- no refusal of the entries, 1 and 2
  abbrev EntriesFine : Type 0
  EntriesFine = ¬ EntriesMisshapen L × ¬ EntryTwice L

  abbrev entries_tested : Test EntriesFine
  entries_tested = (
    _,
    decides_and
        (decides_not
        (decides_or (decides_not (decides_eq (length L.entries % entry_width) 0)) (decides_or (decides_eq (length L.entries) 0) (decides_lt 64 (entry_count L)))))
        (decides_not (decides_some (entry_count L) (λ e h. decides_some e (λ d k.
        decides_and (decides_eq (package_of L d) (package_of L e)) (satisfied_decides (version_of L d) (bound equal (version_of L e))))))),
  )

  -- none of the slots, 3
  abbrev SlotsFine : Type 0
  SlotsFine = ¬ SlotsMisshapen L × (¬ OwnerMissing L × (¬ OwnersFall L × (¬ MarksCross L × ¬ EndPastText L)))

  abbrev slots_tested : Test SlotsFine
  slots_tested =
      let m : ℕ = slot_count L in (
        _,
        decides_and (decides_not (decides_or (decides_not (decides_eq (length L.slots % slot_width) 0)) (decides_lt 256 m)))
            (decides_and (decides_not (decides_some m (λ s h. decides_le (entry_count L) (owner_of L s))))
            (decides_and (decides_not (decides_some m (λ s h. decides_and (decides_lt (suc s) m) (decides_lt (owner_of L (suc s)) (owner_of L s)))))
            (decides_and (decides_not (decides_some m (λ s h. decides_lt (end_of L s) (start_of L s))))
            (decides_not (decides_some m (λ s h. decides_lt (length L.text) (end_of L s))))))),
      )

  -- none of the settings, 5 and 6
  abbrev SettingsFine : Type 0
  SettingsFine = ¬ RootMissing L × (¬ ModeUnknown L × (¬ CyclesUnknown L × (¬ ObjectivesMisnumbered L × (¬ ObjectiveUnknown L × ¬ ObjectiveTwice L))))

  abbrev settings_tested : Test SettingsFine
  settings_tested =
      let n : ℕ = length L.objectives in (
        _,
        decides_and (decides_not (decides_le (entry_count L) L.settings.root))
            (decides_and (decides_not (decides_lt 2 L.settings.mode))
            (decides_and (decides_not (decides_lt 1 L.settings.cycles))
            (decides_and (decides_not (decides_or (decides_eq n 0) (decides_lt 3 n)))
            (decides_and (decides_not (decides_some n (λ i h. decides_lt 2 (get_or L.objectives i 0))))
            (decides_not (decides_some n (λ i h. decides_some i (λ j k. decides_eq (get_or L.objectives j 0) (get_or L.objectives i 0))))))))),
      )

  -- none of the buffer's size and the sum of the weights, 7 and 8
  abbrev SizesFine : Type 0
  SizesFine = ¬ BufferMisfits L room × ¬ WeightsOverflow L

  abbrev sizes_tested : Test SizesFine
  sizes_tested =
      (_, decides_and (decides_not (decides_not (decides_eq room (slot_count L)))) (decides_not (decides_le (2 ^ 32) (sum (λ e. weight_of L e) (entry_count L)))))

  abbrev fine_tested : Test (EntriesFine × (SlotsFine × (SettingsFine × SizesFine)))
  fine_tested = (_, decides_and entries_tested.1 (decides_and slots_tested.1 (decides_and settings_tested.1 sizes_tested.1)))

  -- no refusal but 4 applies
  abbrev pub fine? : Bool
  fine? = fine_tested.0

  -- nor does 4 where each slot's part is read
  pub sane_by : {constraints : ℕ → Constraint} → T fine? → AllRead L constraints → Sane L room
  sane_by {constraints} t all =
      let fine = fine_tested.1.sure t in
      let slots = fine.1.0 in
      let settings = fine.1.1.0 in
      record {
        entries = fine.0.0;
        different = fine.0.1;
        slots = slots.0;
        owners = slots.1.0;
        rising = slots.1.1.0;
        marks = slots.1.1.1.0;
        within = slots.1.1.1.1;
        constraints = λ x. x.2 (constraints x.0, all x.0 x.1);
        root = settings.0;
        mode = settings.1.0;
        cycles = settings.1.1.0;
        objectives = settings.1.1.1.0;
        known = settings.1.1.1.1.0;
        once = settings.1.1.1.1.1;
        buffer = fine.1.1.1.0;
        weights = fine.1.1.1.1;
      }

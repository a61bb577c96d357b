-- What is known of a catalogue that no row refuses, by name: the one place that goes by the order of all rows.
use mathlib.Core.Path.{◌≡◌}
use Prim.Native.Nat.{ℕ, ◌≤◌}
use native.Mathlib.Decide.{ℕ_discrete}
use Rattle.basis.specs.Rows.{GivesNone}
use Rattle.catalogue.specs.Tables.{Lent, entry_count, slot_count}
use Rattle.catalogue.specs.Refusals.{rows, EntriesMisshapen, EntryTwice, SlotsMisshapen, OwnerMissing, OwnersFall, MarksCross, EndPastText, ConstraintUnread, RootMissing, ModeUnknown, CyclesUnknown, ObjectivesMisnumbered, ObjectiveUnknown, ObjectiveTwice, BufferMisfits, WeightsOverflow}
use Rattle.catalogue.proofs.Order.{at_most_64}

pub record Sane (L : Lent) (room : ℕ) : Type 0 where
  pub entries : ¬ EntriesMisshapen L
  pub different : ¬ EntryTwice L
  pub slots : ¬ SlotsMisshapen L
  pub owners : ¬ OwnerMissing L
  pub rising : ¬ OwnersFall L
  pub marks : ¬ MarksCross L
  pub within : ¬ EndPastText L
  pub constraints : ¬ ConstraintUnread L
  pub root : ¬ RootMissing L
  pub mode : ¬ ModeUnknown L
  pub cycles : ¬ CyclesUnknown L
  pub objectives : ¬ ObjectivesMisnumbered L
  pub known : ¬ ObjectiveUnknown L
  pub once : ¬ ObjectiveTwice L
  pub buffer : ¬ BufferMisfits L room
  pub weights : ¬ WeightsOverflow L

pub sane : (L : Lent) (room : ℕ) → GivesNone (rows L room) → Sane L room
unfolding rows
sane L room g =
    record {
      entries = g.0;
      different = g.1.0;
      slots = g.1.1.0;
      owners = g.1.1.1.0;
      rising = g.1.1.1.1.0;
      marks = g.1.1.1.1.1.0;
      within = g.1.1.1.1.1.1.0;
      constraints = g.1.1.1.1.1.1.1.0;
      root = g.1.1.1.1.1.1.1.1.0;
      mode = g.1.1.1.1.1.1.1.1.1.0;
      cycles = g.1.1.1.1.1.1.1.1.1.1.0;
      objectives = g.1.1.1.1.1.1.1.1.1.1.1.0;
      known = g.1.1.1.1.1.1.1.1.1.1.1.1.0;
      once = g.1.1.1.1.1.1.1.1.1.1.1.1.1.0;
      buffer = g.1.1.1.1.1.1.1.1.1.1.1.1.1.1.0;
      weights = g.1.1.1.1.1.1.1.1.1.1.1.1.1.1.1.0;
    }

pub unrefused : (L : Lent) (room : ℕ) → Sane L room → GivesNone (rows L room)
unfolding rows
unrefused L room s = (
  s.entries,
  (
    s.different,
    (
      s.slots,
      (
        s.owners,
        (
          s.rising,
          (
            s.marks,
            (
              s.within,
              (
                s.constraints,
                (
                  s.root,
                  (
                    s.mode,
                    (
                      s.cycles,
                      (
                        s.objectives,
                        (
                          s.known,
                          (s.once, (s.buffer, (s.weights, tt))),
                        ),
                      ),
                    ),
                  ),
                ),
              ),
            ),
          ),
        ),
      ),
    ),
  ),
)

module _ (L : Lent) (room : ℕ) (s : Sane L room) where
  pub few_entries : entry_count L ≤ 64
  few_entries = at_most_64 L s.entries

  pub right_room : room ≡ slot_count L
  right_room = go (ℕ_discrete room (slot_count L))
    where
      go : Dec (room ≡ slot_count L) → room ≡ slot_count L
      go (yes e) = e
      go (no n) = absurd (s.buffer n)

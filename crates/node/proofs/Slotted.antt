-- The problem of a catalogue's tables has the slots of its slot table.
use mathlib.Core.Path.{◌≡◌, refl, ap}
use mathlib.Core.List.{List}
use Prim.Native.Nat.{ℕ, ◌*◌, ◌/◌, ◌<◌}
use native.Mathlib.Nat.{add-zero}
use lib.ListN.{length, get_or}
use Rattle.pacsolve.specs.Problem.{Problem}
use Rattle.catalogue.specs.declared.Settings.{Settings}
use Rattle.catalogue.specs.Survey.{tabled as tables}
use Rattle.catalogue.specs.Spans.{owner_in}

-- a problem whose slots are those of a slot table
pub record Slotted (p : Problem) (slots : List ℕ) : Type 0 where
  pub count : p.slots ≡ length slots / 4
  pub owner : (s : ℕ) → s < p.slots → p.owner s ≡ owner_in slots s

-- as the problem of a catalogue's tables is
pub tabled_slotted : (entries slots : List ℕ) (settings : Settings) (objectives fits : List ℕ) → Slotted (tables entries slots settings objectives fits) slots
tabled_slotted entries slots settings objectives fits = record { count = refl; owner = λ s h. ap (λ (i : ℕ). get_or slots i 0) (add-zero (s * 4)) }

-- The lent tables and text, as lists of numbers, and the fields of an entry and of a slot.
use Rattle.std.specs.Prelude.{List, ℕ, ◌+◌, ◌-◌, ◌*◌, ◌/◌, length, get_or, take, drop}
use Rattle.constraint.specs.declared.Version.{Version}
use Rattle.catalogue.specs.declared.Settings.{Settings}
use Rattle.catalogue.specs.declared.Lent.{Lent as Lending}

-- all that is lent and set for a call, but the plan
pub record Lent : Type 0 where
  pub entries : List ℕ
  pub slots : List ℕ
  pub text : List ℕ
  pub settings : Settings
  pub objectives : List ℕ

abbrev pub lent : List ℕ → List ℕ → List ℕ → Settings → List ℕ → Lent
lent entries slots text settings objectives = record { entries = entries; slots = slots; text = text; settings = settings; objectives = objectives }

-- the same of what the code is lent, by its references
abbrev pub lent_of : Lending → Lent
lent_of l = lent l.entries.now l.slots.now l.text.now l.settings l.objectives.now

-- five numbers per entry: package, major, minor, patch, weight
abbrev pub entry_width : ℕ
entry_width = 5

abbrev pub entry_count : Lent → ℕ
entry_count L = length L.entries / entry_width

abbrev pub field_of_entry : Lent → ℕ → ℕ → ℕ
field_of_entry L e k = get_or L.entries (e * entry_width + k) 0

abbrev pub package_of : Lent → ℕ → ℕ
package_of L e = field_of_entry L e 0

abbrev pub version_of : Lent → ℕ → Version
version_of L e = record { major = field_of_entry L e 1; minor = field_of_entry L e 2; patch = field_of_entry L e 3 }

abbrev pub weight_of : Lent → ℕ → ℕ
weight_of L e = field_of_entry L e 4

-- four numbers per slot: owner entry, wanted package, start and end of its constraint in the text
abbrev pub slot_width : ℕ
slot_width = 4

abbrev pub slot_count : Lent → ℕ
slot_count L = length L.slots / slot_width

abbrev pub field_of_slot : Lent → ℕ → ℕ → ℕ
field_of_slot L s k = get_or L.slots (s * slot_width + k) 0

abbrev pub owner_of : Lent → ℕ → ℕ
owner_of L s = field_of_slot L s 0

abbrev pub wanted_by : Lent → ℕ → ℕ
wanted_by L s = field_of_slot L s 1

abbrev pub start_of : Lent → ℕ → ℕ
start_of L s = field_of_slot L s 2

abbrev pub end_of : Lent → ℕ → ℕ
end_of L s = field_of_slot L s 3

-- a slot's constraint: the part of the text between its two marks, the end not included
abbrev pub part_of : Lent → ℕ → List ℕ
part_of L s = take (end_of L s - start_of L s) (drop (start_of L s) L.text)

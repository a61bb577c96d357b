-- Catalogues of which only some tables are looked at, so that each refusal's condition is stated over just what its test is lent; what is left out is empty, and
-- no such condition reads it. And what the tests of entries go by: an entry's name, its package and version in one number, and a number that stands twice in a list.
use Rattle.std.specs.Prelude.{◌≡◌, List, [], ℕ, Bool, T, ◌+◌, ◌*◌, ◌^◌, ◌<◌, length, get_or}
use Rattle.constraint.specs.Selection.{key}
use Rattle.catalogue.specs.declared.Settings.{Settings}
use Rattle.catalogue.specs.Tables.{Lent, lent, entry_count, package_of, version_of}

abbrev pub unset : Settings
unset = record { root = 0; mode = 0; cycles = 0 }

-- the tables and the text, with no settings
abbrev pub tables : List ℕ → List ℕ → List ℕ → Lent
tables entries slots text = lent entries slots text unset []

abbrev pub entries_alone : List ℕ → Lent
entries_alone entries = tables entries [] []

abbrev pub slots_alone : List ℕ → Lent
slots_alone slots = tables [] slots []

-- the entries with settings, the settings alone, and the objectives alone
abbrev pub entries_with : List ℕ → Settings → Lent
entries_with entries settings = lent entries [] [] settings []

abbrev pub settings_alone : Settings → Lent
settings_alone settings = entries_with [] settings

abbrev pub objectives_alone : List ℕ → Lent
objectives_alone objectives = lent [] [] [] unset objectives

-- the number at place i stands at a place before it too, and some number does
abbrev pub StandsBefore : List ℕ → ℕ → Type 0
StandsBefore numbers i = (j : ℕ) × (j < i) × (get_or numbers j 0 ≡ get_or numbers i 0)

abbrev pub StandsTwice : List ℕ → Type 0
StandsTwice numbers = (i : ℕ) × (i < length numbers) × StandsBefore numbers i

-- the same of items of any type, where `same` tells whether two are equal; what a list has past its end is of no matter
abbrev pub RepeatsAt : {A : Type 0} → (A → A → Bool) → List A → ℕ → Type 0
RepeatsAt {A} same items i = (j : ℕ) × (j < i) × ((past : A) → T (same (get_or items j past) (get_or items i past)))

abbrev pub Repeats : {A : Type 0} → (A → A → Bool) → List A → Type 0
Repeats same items = (i : ℕ) × (i < length items) × RepeatsAt same items i

-- an entry's version in one number below 2 ^ 48
abbrev pub entry_key : Lent → ℕ → ℕ
entry_key L e = key (version_of L e)

-- an entry's package and version in one number below 2 ^ 64: the package above the version's 48 bits
abbrev pub entry_name : Lent → ℕ → ℕ
entry_name L e = package_of L e * 2 ^ 48 + entry_key L e

-- a list of 64 numbers holds f e for every entry e
pub record Lists (L : Lent) (f : ℕ → ℕ) (numbers : List ℕ) : Type 0 where
  pub size : length numbers ≡ 64
  pub each : (e : ℕ) → e < entry_count L → get_or numbers e 0 ≡ f e

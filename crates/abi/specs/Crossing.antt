-- The C functions: how an answer crosses, and what each may give back. A lent slice of another length than its own is refused with 7 before the call is made, and
-- nothing is then written.
use Rattle.std.specs.Prelude.{◌≡◌, List, [], ◌∷◌, ℕ, Bool, Result, length}
use Rattle.basis.specs.declared.Refusal.{Refusal}
use Rattle.pacsolve.specs.declared.Cost.{Cost}
use Rattle.constraint.specs.declared.Version.{Version}
use Rattle.constraint.specs.Reading.{Answers, fit_of, number_of as reading_number}
use Rattle.catalogue.specs.declared.Settings.{Settings}
use Rattle.catalogue.specs.Tables.{Lent}
use Rattle.plan.specs.declared.Fault.{Fault}
use Rattle.plan.specs.Check.{Checks, condition_of, number_of as checked_number, cost_of as checked_cost}
use Rattle.lister.specs.declared.ListingRecord.{ListingRecord}
use Rattle.lister.specs.Answers.{Answer, number_of, set_of, cost_of}
use Rattle.lister.specs.Turns.{Turns}
use Rattle.csv_text.specs.declared.Sheet.{Sheet}
use Rattle.csv_text.specs.Reading.{Reads, entries_of, slots_of, number_of as sheet_number}

-- a cost as it crosses
abbrev pub three : Cost → List ℕ
three c = c.first ∷ c.second ∷ c.third ∷ []

-- settings and a version from the numbers that cross
abbrev pub settings_of : ℕ → ℕ → ℕ → Settings
settings_of root mode cycles = record { root = root; mode = mode; cycles = cycles }

abbrev pub version_of : ℕ → ℕ → ℕ → Version
version_of major minor patch = record { major = major; minor = minor; patch = patch }

-- one constraint against one version: the slice of the fit has one byte
pub data FitsC (part : List ℕ) (v : Version) (fit : List ℕ) (n : ℕ) (fit' : List ℕ) : Type 0 where
  short : ¬ (length fit ≡ 1) → n ≡ 7 → fit' ≡ fit → FitsC part v fit n fit'
  answered : {a : Result Bool Refusal} → length fit ≡ 1 → Answers part v a → n ≡ reading_number a → fit' ≡ fit_of a ∷ [] → FitsC part v fit n fit'

-- check: the slice of the condition has one byte, that of the cost three numbers
pub data ChecksC (L : Lent) (set : ℕ) (table condition cost : List ℕ) (n : ℕ) (condition' cost' : List ℕ) : Type 0 where
  short : ¬ ((length condition ≡ 1) × (length cost ≡ 3)) → n ≡ 7 → condition' ≡ condition → cost' ≡ cost → ChecksC L set table condition cost n condition' cost'
  answered : {a : Result Cost Fault} → length condition ≡ 1 → length cost ≡ 3 → Checks L set table a → n ≡ checked_number a → condition' ≡ condition_of a ∷ []
      → cost' ≡ three (checked_cost a) → ChecksC L set table condition cost n condition' cost'

-- first and next, told which: the slice of the set has one number, that of the cost three
pub data ListsC (Call : Answer → List ℕ → Type 0) (buffer set cost : List ℕ) (n : ℕ) (buffer' set' cost' : List ℕ) : Type 0 where
  short : ¬ ((length set ≡ 1) × (length cost ≡ 3)) → n ≡ 7 → buffer' ≡ buffer → set' ≡ set → cost' ≡ cost → ListsC Call buffer set cost n buffer' set' cost'
  answered : {a : Answer} → length set ≡ 1 → length cost ≡ 3 → Call a buffer' → n ≡ number_of a → set' ≡ set_of a ∷ [] → cost' ≡ three (cost_of a)
      → ListsC Call buffer set cost n buffer' set' cost'

-- turn: as these, and the record's stage and set cross in a slice of one number each
pub data TurnsC (L : Lent) (stage last buffer set cost : List ℕ) (n : ℕ) (stage' last' buffer' set' cost' : List ℕ) : Type 0 where
  short : ¬ ((length stage ≡ 1) × ((length last ≡ 1) × ((length set ≡ 1) × (length cost ≡ 3)))) → n ≡ 7
      → stage' ≡ stage → last' ≡ last → buffer' ≡ buffer → set' ≡ set → cost' ≡ cost → TurnsC L stage last buffer set cost n stage' last' buffer' set' cost'
  answered : {a : Answer} {r r' : ListingRecord} → stage ≡ r.stage ∷ [] → last ≡ r.last ∷ [] → length set ≡ 1 → length cost ≡ 3
      → Turns L r buffer a r' buffer' → n ≡ number_of a → stage' ≡ r'.stage ∷ [] → last' ≡ r'.last ∷ [] → set' ≡ set_of a ∷ [] → cost' ≡ three (cost_of a)
      → TurnsC L stage last buffer set cost n stage' last' buffer' set' cost'

-- read: the slice of the counts has two numbers, that of the entries first. The sizes of the tables are the call's own to refuse
pub data ReadsC (text entries slots counts : List ℕ) (n : ℕ) (entries' slots' counts' : List ℕ) : Type 0 where
  short : ¬ (length counts ≡ 2) → n ≡ 7 → entries' ≡ entries → slots' ≡ slots → counts' ≡ counts → ReadsC text entries slots counts n entries' slots' counts'
  answered : {a : Result Sheet Refusal} → length counts ≡ 2 → Reads text entries slots a entries' slots' → n ≡ sheet_number a → counts' ≡ entries_of a ∷ slots_of a ∷ []
      → ReadsC text entries slots counts n entries' slots' counts'

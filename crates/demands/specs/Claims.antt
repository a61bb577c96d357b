-- The words in which examples are stated: a version, a cost and settings by their numbers, and what it is to yield plans.
use Rattle.std.specs.Prelude.{List, ℕ}
use Rattle.basis.specs.Rows.{GivesNone}
use Rattle.constraint.specs.declared.Version.{Version}
use Rattle.pacsolve.specs.declared.Cost.{Cost}
use Rattle.pacsolve.specs.Plan.{Plan}
use Rattle.pacsolve.specs.Listing.{Listing}
use Rattle.catalogue.specs.declared.Settings.{Settings}
use Rattle.catalogue.specs.Tables.{Lent}
use Rattle.catalogue.specs.Refusals.{rows}
use Rattle.catalogue.specs.Gives.{problem}

abbrev pub version : ℕ → ℕ → ℕ → Version
version major minor patch = record { major = major; minor = minor; patch = patch }

abbrev pub costs : ℕ → ℕ → ℕ → Cost
costs first second third = record { first = first; second = second; third = third }

abbrev pub settings : ℕ → ℕ → ℕ → Settings
settings root mode cycles = record { root = root; mode = mode; cycles = cycles }

-- the two settings of cycles
abbrev pub forbidden : ℕ
forbidden = 0

abbrev pub allowed : ℕ
allowed = 1

-- what is lent is not refused with a plan buffer of `room` bytes, and its listing holds these plans
pub record Yields (L : Lent) (room : ℕ) (Ps : List Plan) : Type 0 where
  pub unrefused : GivesNone (rows L room)
  pub listing : Listing (problem L) Ps

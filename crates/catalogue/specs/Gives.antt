-- The problem that a catalogue with settings gives: the only place where tables and text meet the definitions of a plan.
use Rattle.std.specs.Prelude.{◌≡◌, ℕ}
use Rattle.constraint.specs.declared.Version.{Version}
use Rattle.constraint.specs.Meaning.{Constraint, Satisfies}
use Rattle.constraint.specs.Spelling.{ReadAs}
use Rattle.pacsolve.specs.Problem.{Problem}
use Rattle.catalogue.specs.Tables.{Lent, entry_count, package_of, version_of, weight_of, slot_count, owner_of, wanted_by, part_of}

-- condition 4: an entry is of the wanted package, and its version fits the constraint that the slot's part is read as
pub record Fits (L : Lent) (s e : ℕ) : Type 0 where
  pub wanted : package_of L e ≡ wanted_by L s
  pub constraint : Constraint
  pub read : ReadAs (part_of L s) constraint
  pub satisfied : Satisfies (version_of L e) constraint

abbrev pub npm : ℕ
npm = 0

abbrev pub cargo : ℕ
cargo = 1

abbrev pub pip : ℕ
pip = 2

-- condition 5, of two versions of one package. npm: always. cargo: their majors differ. pip: never
pub record Together (mode : ℕ) (v w : Version) : Type 0 where
  pub by_cargo : mode ≡ cargo → ¬ (v.major ≡ w.major)
  pub by_pip : ¬ (mode ≡ pip)

abbrev pub problem : Lent → Problem
problem L =
    record {
      entries = entry_count L;
      slots = slot_count L;
      root = L.settings.root;
      owner = owner_of L;
      fits = Fits L;
      kind = package_of L;
      weight = weight_of L;
      together = λ d e. Together L.settings.mode (version_of L d) (version_of L e);
      forbidden = L.settings.cycles ≡ 0;
      objectives = L.objectives;
    }

-- A catalogue that is not refused gives a problem that computes: each slot's part is read as one constraint, and whether an entry fits is a test.
use mathlib.Core.Bool.{Bool, not, ◌&&◌, ◌||◌}
use mathlib.Core.List.{List}
use Prim.Native.Nat.{ℕ, ◌≤◌, ◌<◌}
use native.Mathlib.Omega.{arith}
use lib.Dec.{eqb}
use Rattle.basis.specs.Tests.{Decides}
use Rattle.basis.proofs.Decide.{decides_by, decides_and, decides_if, decides_not, decides_eq}
use Rattle.constraint.specs.declared.Version.{Version}
use Rattle.constraint.specs.Meaning.{Constraint, any}
use Rattle.constraint.specs.Spelling.{ReadAs, Readable}
use Rattle.constraint.proofs.Tests.{satisfied, satisfied_decides}
use Rattle.constraint.proofs.Unique.{read_once}
use Rattle.constraint.proofs.Decided.{readable_or_not}
use Rattle.pacsolve.proofs.Conditions.{Computes}
use Rattle.catalogue.specs.Tables.{Lent, entry_count, package_of, version_of, slot_count, wanted_by, part_of}
use Rattle.catalogue.specs.Gives.{Fits, cargo, pip, Together, problem}
use Rattle.catalogue.proofs.Sane.{Sane, few_entries}

abbrev together? : ℕ → Version → Version → Bool
together? mode v w = (not (eqb mode cargo) || not (eqb v.major w.major)) && not (eqb mode pip)

pub together_decides : (mode : ℕ) (v w : Version) → Decides (together? mode v w) (Together mode v w)
together_decides mode v w =
    decides_by
    (λ x. record { by_cargo = x.0; by_pip = x.1 })
    (λ t. (t.by_cargo, t.by_pip))
    (decides_and (decides_if (decides_eq mode cargo) (λ c. decides_not (decides_eq v.major w.major))) (decides_not (decides_eq mode pip)))

module _ (L : Lent) (constraints : ℕ → Constraint) where
  -- the constraints are those that the slots' parts are read as
  abbrev pub AllRead : Type 0
  AllRead = (s : ℕ) → s < slot_count L → ReadAs (part_of L s) (constraints s)

  abbrev fits? : ℕ → ℕ → Bool
  fits? s e = eqb (package_of L e) (wanted_by L s) && satisfied (version_of L e) (constraints s)

  pub fits_decides : AllRead → (s e : ℕ) → s < slot_count L → Decides (fits? s e) (Fits L s e)
  fits_decides all s e h =
      decides_by
      (λ x. record { wanted = x.0; constraint = constraints s; read = all s h; satisfied = x.1 })
      (λ f. (f.wanted, rw (read_once (all s h) f.read) f.satisfied))
      (decides_and (decides_eq (package_of L e) (wanted_by L s)) (satisfied_decides (version_of L e) (constraints s)))

  unfoldable pub computes_by : entry_count L ≤ 255 → AllRead → Computes (problem L)
  computes_by few all =
      record {
        few = few;
        fits? = fits?;
        fits_right = λ s e h k. fits_decides all s e h;
        together? = λ d e. together? L.settings.mode (version_of L d) (version_of L e);
        together_right = λ d e h k. together_decides L.settings.mode (version_of L d) (version_of L e);
        forbidden? = eqb L.settings.cycles 0;
        forbidden_right = decides_eq L.settings.cycles 0;
      }

-- what a part is read as, where it is
abbrev read_of : {part : List ℕ} → Dec (Readable part) → Constraint
read_of (yes x) = x.0
read_of (no n) = any

module _ (L : Lent) (room : ℕ) (s : Sane L room) where
  all_read : AllRead L (λ t. read_of (readable_or_not (part_of L t)))
  all_read t h = go (readable_or_not (part_of L t))
    where
      go : (d : Dec (Readable (part_of L t))) → ReadAs (part_of L t) (read_of d)
      go (yes x) = x.1
      go (no n) = absurd (s.constraints (t, h, n))

  pub computes : Computes (problem L)
  computes = computes_by L (λ t. read_of (readable_or_not (part_of L t))) (omega (arith, few_entries L room s)) all_read

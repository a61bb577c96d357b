-- A check has exactly one outcome: no two answers fit one input, and some answer fits every input.
use mathlib.Core.Path.{◌≡◌, refl, sym, ap, ◌∙◌}
use mathlib.Core.List.{List}
use mathlib.Core.Logic.{◌⊎◌, inl, inr}
use Prim.Native.Nat.{ℕ}
use lib.ListN.{length}
use Rattle.std.proofs.Common.{Result, Ok, Err}
use Rattle.basis.specs.Bytes.{All}
use Rattle.basis.specs.declared.Refusal.{Refusal}
use Rattle.basis.specs.declared.Refusal.TheVariants as refusal
use Rattle.basis.specs.Rows.{Gives, GivesNone, number_of}
use Rattle.basis.proofs.Refusals.{Refuses, refuses, number_differs, gives_refusal}
use Rattle.basis.proofs.Rows.{gives_one, gives_not_none}
use Rattle.pacsolve.specs.declared.Condition.{Condition}
use Rattle.pacsolve.specs.declared.Cost.{Cost}
use Rattle.pacsolve.specs.Plan.{Plan, plan, faults, condition_number}
use Rattle.pacsolve.specs.Cost.{cost}
use Rattle.pacsolve.proofs.Conditions.{Computes, faults_settled, faultless_sound, sound_faultless}
use Rattle.catalogue.specs.Tables.{Lent}
use Rattle.catalogue.specs.Refusals.{rows}
use Rattle.catalogue.specs.Gives.{problem}
use Rattle.catalogue.proofs.Settled.{rows_settled}
use Rattle.catalogue.proofs.Sane.{sane}
use Rattle.catalogue.proofs.Computed.{computes}
use Rattle.plan.specs.declared.Fault.{Fault}
use Rattle.plan.specs.declared.Fault.TheVariants.{Refused, Broken}
use Rattle.plan.specs.Check.{Checks, refused, broken, sound}
use Rattle.plan.proofs.Faults.{condition_differs, faults_one}

-- each row's number is a refusal's
pub rows_refuse : (L : Lent) (room : ℕ) → All (λ r. Refuses r.number) (rows L room)
unfolding rows
rows_refuse L room =
    let three = refuses refusal.Slots in
    let six = refuses refusal.Settings in
    let seven = refuses refusal.Size in
    let eight = refuses refusal.Weights in (
      refuses refusal.Entries,
      (
        refuses refusal.EntryTwice,
        (
          three,
          (
            three,
            (
              three,
              (
                three,
                (
                  three,
                  (
                    refuses refusal.Constraint,
                    (
                      refuses refusal.Root,
                      (six, (six, (six, (six, (six, (seven, (eight, tt))))))),
                    ),
                  ),
                ),
              ),
            ),
          ),
        ),
      ),
    )

module _ (L : Lent) (set : ℕ) (table : List ℕ) where
  pub check_one : (a b : Result Cost Fault) → Checks L set table a → Checks L set table b → a ≡ b
  check_one a b (refused {r = q} g e) (refused {r = r} h f) =
      e ∙ ap (λ (k : Refusal). Err (Refused k)) (number_differs (gives_one (rows L (length table)) (number_of q) (number_of r) g h)) ∙ sym f
  check_one a b (refused {r = r} g e) (broken h k f) = absurd (gives_not_none (rows L (length table)) (number_of r) g h)
  check_one a b (refused {r = r} g e) (sound h s f) = absurd (gives_not_none (rows L (length table)) (number_of r) g h)
  check_one a b (broken h k e) (refused {r = r} g f) = absurd (gives_not_none (rows L (length table)) (number_of r) g h)
  check_one a b (broken {k = j} h g e) (broken {k = k} i u f) =
      e
      ∙ ap (λ (c : Condition). Err (Broken c)) (condition_differs (gives_one (faults (problem L) (plan set table)) (condition_number j) (condition_number k) g u))
      ∙ sym f
  check_one a b (broken {k = k} h g e) (sound i s f) =
      absurd (gives_not_none (faults (problem L) (plan set table)) (condition_number k) g (sound_faultless (problem L) (plan set table) s))
  check_one a b (sound h s e) (refused {r = r} g f) = absurd (gives_not_none (rows L (length table)) (number_of r) g h)
  check_one a b (sound h s e) (broken {k = k} i u f) =
      absurd (gives_not_none (faults (problem L) (plan set table)) (condition_number k) u (sound_faultless (problem L) (plan set table) s))
  check_one a b (sound h s e) (sound i t f) = e ∙ sym f

  pub check_some : (a : Result Cost Fault) × Checks L set table a
  check_some = of_rows (gives_refusal (rows L (length table)) (rows_refuse L (length table)) (rows_settled L (length table)))
    where
      P : Plan
      P = plan set table

      of_faults : GivesNone (rows L (length table)) → Computes (problem L) → ((k : Condition) × Gives (faults (problem L) P) (condition_number k)) ⊎ GivesNone (faults (problem L) P)
          → (a : Result Cost Fault) × Checks L set table a
      of_faults h c (inl x) = (Err (Broken x.0), broken h x.1 refl)
      of_faults h c (inr x) = (Ok (cost (problem L) set), sound h (faultless_sound (problem L) c P x) refl)

      of_rows : ((r : Refusal) × Gives (rows L (length table)) (number_of r)) ⊎ GivesNone (rows L (length table)) → (a : Result Cost Fault) × Checks L set table a
      of_rows (inl x) = (Err (Refused x.0), refused x.1 refl)
      of_rows (inr h) =
          let c = computes L (length table) (sane L (length table) h) in
          of_faults h c (faults_one (problem L) P (faults_settled (problem L) c P))

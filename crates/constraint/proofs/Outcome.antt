-- Reading a part against a version has exactly one outcome.
use mathlib.Core.Path.{◌≡◌, refl, sym, ◌∙◌}
use mathlib.Core.List.{List}
use mathlib.Core.Logic.{inl}
use Prim.Native.Nat.{ℕ}
use Rattle.std.specs.Prelude.{Bool, true, false, Result, Ok, Err}
use Rattle.basis.specs.declared.Refusal.{Refusal}
use Rattle.basis.specs.declared.Refusal.TheVariants.{Constraint as ConstraintRefusal}
use Rattle.basis.specs.Rows.{Gives, number_of}
use Rattle.basis.proofs.Decide.{decided}
use Rattle.basis.proofs.Refusals.{number_differs}
use Rattle.basis.proofs.Rows.{gives_one, gives_not_none}
use Rattle.constraint.specs.declared.Version.{Version}
use Rattle.constraint.specs.Meaning.{Constraint, Satisfies}
use Rattle.constraint.specs.Spelling.{ReadAs, Readable}
use Rattle.constraint.specs.Reading.{rows, Answers, refused, fits, misfits}
use Rattle.constraint.proofs.Tests.{satisfied_decides}
use Rattle.constraint.proofs.Unique.{read_once}
use Rattle.constraint.proofs.Decided.{readable_or_not}

-- a part that is read as a constraint is not refused
read_not_refused : {part : List ℕ} {c : Constraint} (n : ℕ) → ReadAs part c → ¬ Gives (rows part) n
read_not_refused {part} {c} n r g = gives_not_none (rows part) n g ((λ unread. unread (c, r)), tt)

pub reading_one : (part : List ℕ) (v : Version) (a b : Result Bool Refusal) → Answers part v a → Answers part v b → a ≡ b
reading_one part v a b (refused {r = m} g e) (refused {r = n} h f) =
    let same : m ≡ n = number_differs (gives_one (rows part) (number_of m) (number_of n) g h) in cc
reading_one part v a b (refused {r = n} g e) (fits r s f) = absurd (read_not_refused (number_of n) r g)
reading_one part v a b (refused {r = n} g e) (misfits r s f) = absurd (read_not_refused (number_of n) r g)
reading_one part v a b (fits r s e) (refused {r = n} g f) = absurd (read_not_refused (number_of n) r g)
reading_one part v a b (fits r s e) (fits r' s' f) = e ∙ sym f
reading_one part v a b (fits r s e) (misfits r' unfit f) = absurd (unfit (rw (read_once r r') at s))
reading_one part v a b (misfits r unfit e) (refused {r = n} g f) = absurd (read_not_refused (number_of n) r g)
reading_one part v a b (misfits r unfit e) (fits r' s f) = absurd (unfit (rw (read_once r' r) at s))
reading_one part v a b (misfits r unfit e) (misfits r' unfit' f) = e ∙ sym f

pub reading_some : (part : List ℕ) (v : Version) → (a : Result Bool Refusal) × Answers part v a
reading_some part v = by_part (readable_or_not part)
  where
    by_version : (c : Constraint) → ReadAs part c → Dec (Satisfies v c) → (a : Result Bool Refusal) × Answers part v a
    by_version c r (yes s) = (Ok true, fits r s refl)
    by_version c r (no unfit) = (Ok false, misfits r unfit refl)

    by_part : Dec (Readable part) → (a : Result Bool Refusal) × Answers part v a
    by_part (yes r) = by_version r.0 r.1 (decided (satisfied_decides v r.0))
    by_part (no unread) = (Err ConstraintRefusal, refused (inl (unread, refl)) refl)

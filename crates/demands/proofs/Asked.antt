-- Asking and turning over and over can be done from every buffer, whatever is lent: each call has an outcome, and each outcome can be given back.
use mathlib.Core.Path.{◌≡◌, refl}
use mathlib.Core.List.{List}
use Prim.Native.Nat.{ℕ, zero, suc}
use Rattle.std.specs.Prelude.{Ok, Err}
use Rattle.pacsolve.specs.declared.Listed.{Listed}
use Rattle.catalogue.specs.Tables.{Lent}
use Rattle.lister.specs.declared.ListingRecord.{ListingRecord}
use Rattle.lister.specs.Answers.{Answer, Nexts}
use Rattle.lister.specs.Turns.{fresh}
use Rattle.lister.specs.Asking.{Asking, Turning}
use Rattle.lister.proofs.Outcome.{first_some, next_some}
use Rattle.lister.proofs.TurnOutcome.{turn_some}

module _ (L : Lent) (buffer : List ℕ) where
  -- after a plan the next is asked for; after a refusal nothing more is
  onward : Answer → List ℕ → Answer × List ℕ
  onward (Err r) x = (Err r, x)
  onward (Ok l) x = let n = next_some L l.set x in (n.0, n.1)

  onward_next : (a : Answer) (x : List ℕ) (l : Listed) → a ≡ Ok l → Nexts L l.set x (onward a x).0 (onward a x).1
  unfolding onward
  onward_next a x l e = rw e (next_some L l.set x).2

  -- what call i answers, and the buffer after it
  call : ℕ → Answer × List ℕ
  call zero = let f = first_some L buffer in (f.0, f.1)
  call (suc i) = onward (call i).0 (call i).1

  before : ℕ → List ℕ
  before zero = buffer
  before (suc i) = (call i).1

  pub asking_some : (answers : ℕ → Answer) × (buffers : ℕ → List ℕ) × Asking L answers buffers × (buffers 0 ≡ buffer)
  unfolding call before
  asking_some = (
    λ i. (call i).0,
    before,
    record { first = (first_some L buffer).2; next = λ i l e. onward_next (call i).0 (call i).1 l e },
    refl,
  )

  module _ (r : ListingRecord) (new : r.stage ≡ fresh) where
    -- the record and the buffer before turn i
    turns : ℕ → ListingRecord × List ℕ
    turns zero = (r, buffer)
    turns (suc i) = let t = turn_some L (turns i).0 (turns i).1 in (t.1, t.2)

    pub turning_some : (answers : ℕ → Answer) × (records : ℕ → ListingRecord) × (buffers : ℕ → List ℕ) × Turning L answers records buffers × (records 0 ≡ r) × (buffers 0 ≡ buffer)
    unfolding turns
    turning_some = (
      λ i. (turn_some L (turns i).0 (turns i).1).0,
      λ i. (turns i).0,
      λ i. (turns i).1,
      record { new = new; turn = λ i. (turn_some L (turns i).0 (turns i).1).3 },
      refl,
      refl,
    )

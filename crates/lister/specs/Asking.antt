-- Asking over and over (demand 3): what it is to ask for the first plan and then for the next, and to turn a fresh record, with all else kept the same.
use Rattle.std.specs.Prelude.{◌≡◌, List, [], ◌∷◌, ℕ, suc, ◌≤◌, Ok, Err}
use Rattle.basis.specs.declared.Refusal.TheVariants.{NoPlan}
use Rattle.pacsolve.specs.declared.Listed.{Listed}
use Rattle.pacsolve.specs.Plan.{Plan as APlan}
use Rattle.catalogue.specs.Tables.{Lent}
use Rattle.lister.specs.declared.ListingRecord.{ListingRecord}
use Rattle.lister.specs.Answers.{Answer, given, Firsts, Nexts}
use Rattle.lister.specs.Turns.{fresh, ended, Turns}

-- Call 0 asks for the first plan. Where call i answered a plan, call i + 1 asks for the next after it, the plan given back as it was handed out. `buffers i`
-- is the plan buffer before call i, and `answers i` what that call answers: whatever fits the relations.
pub record Asking (L : Lent) (answers : ℕ → Answer) (buffers : ℕ → List ℕ) : Type 0 where
  pub first : Firsts L (buffers 0) (answers 0) (buffers 1)
  pub next : (i : ℕ) (l : Listed) → answers i ≡ Ok l → Nexts L l.set (buffers (suc i)) (answers (suc i)) (buffers (suc (suc i)))

-- a fresh record turned over and over, the buffer untouched between turns: `records i` is the record before turn i
pub record Turning (L : Lent) (answers : ℕ → Answer) (records : ℕ → ListingRecord) (buffers : ℕ → List ℕ) : Type 0 where
  pub new : (records 0).stage ≡ fresh
  pub turn : (i : ℕ) → Turns L (records i) (buffers i) (answers i) (records (suc i)) (buffers (suc i))

-- call i answers a plan: its set and its cost, and its table in the buffer
pub record Hands (L : Lent) (answers : ℕ → Answer) (buffers : ℕ → List ℕ) (i : ℕ) (P : APlan) : Type 0 where
  pub answer : answers i ≡ given L P
  pub buffer : buffers (suc i) ≡ P.table

-- call i answers 11 and leaves the buffer as it was
pub record Closes (answers : ℕ → Answer) (buffers : ℕ → List ℕ) (i : ℕ) : Type 0 where
  pub answer : answers i ≡ Err NoPlan
  pub buffer : buffers (suc i) ≡ buffers i

-- from call i on the plans are handed out in turn, and then End holds
abbrev pub Follow : Lent → (ℕ → Answer) → (ℕ → List ℕ) → (ℕ → Type 0) → ℕ → List APlan → Type 0
Follow L answers buffers End i [] = End i
Follow L answers buffers End i (P ∷ Ps) = Hands L answers buffers i P × Follow L answers buffers End (suc i) Ps

-- the plans in turn, then 11
abbrev pub FollowedBy11 : Lent → (ℕ → Answer) → (ℕ → List ℕ) → List APlan → Type 0
FollowedBy11 L answers buffers Ps = Follow L answers buffers (Closes answers buffers) 0 Ps

-- the plans in turn, then 11 each time, the record ended
abbrev pub EndedFrom : (ℕ → Answer) → (ℕ → ListingRecord) → (ℕ → List ℕ) → ℕ → Type 0
EndedFrom answers records buffers i = (k : ℕ) → i ≤ k → Closes answers buffers k × ((records (suc k)).stage ≡ ended)

abbrev pub FollowedBy11s : Lent → (ℕ → Answer) → (ℕ → ListingRecord) → (ℕ → List ℕ) → List APlan → Type 0
FollowedBy11s L answers records buffers Ps = Follow L answers buffers (EndedFrom answers records buffers) 0 Ps

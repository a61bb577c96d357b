-- What a turn may answer, and what it makes of the plan buffer and of the listing record.
use Rattle.std.specs.Prelude.{◌≡◌, List, [], ◌∷◌, ◌++◌, ◌⊎◌, ℕ, ◌<◌, length, Ok, Err}
use Rattle.basis.specs.declared.Refusal.{Refusal}
use Rattle.basis.specs.Rows.{Row, row, Gives, GivesNone, number_of}
use Rattle.pacsolve.specs.declared.Listed.{Listed}
use Rattle.pacsolve.specs.Plan.{Plan as APlan, plan, Sound}
use Rattle.pacsolve.specs.Listing.{Asked, from_the_start, after, Least, NoneLeft}
use Rattle.catalogue.specs.Tables.{Lent}
use Rattle.catalogue.specs.Refusals.{rows}
use Rattle.catalogue.specs.Gives.{problem}
use Rattle.lister.specs.declared.ListingRecord.{ListingRecord}
use Rattle.lister.specs.Answers.{Answer, given, Lists}

abbrev pub fresh : ℕ
fresh = 0

abbrev pub running : ℕ
running = 1

abbrev pub ended : ℕ
ended = 2

-- a record
abbrev pub listing : ℕ → ℕ → ListingRecord
listing stage last = record { stage = stage; last = last }

-- what a record asks for: fresh, the first; running, the next after the buffer and the record's set. Ended it asks for nothing
pub data Asks (r : ListingRecord) (buffer : List ℕ) : Asked → Type 0 where
  the_first : r.stage ≡ fresh → Asks r buffer from_the_start
  the_next : r.stage ≡ running → Asks r buffer (after (plan r.last buffer))

-- the rows of turn: those of every call; 9, stage above 2; 10, running with a plan that isn't sound; 11, no sound plan, none after it, or ended
abbrev pub turn_rows : Lent → ListingRecord → List ℕ → List Row
turn_rows L r buffer =
    rows L (length buffer)
    ++ (row 9 (ended < r.stage)
    ∷ row 10 ((r.stage ≡ running) × ¬ Sound (problem L) (plan r.last buffer))
    ∷ row 11 ((r.stage ≡ ended) ⊎ ((a : Asked) × Asks r buffer a × NoneLeft (problem L) a))
    ∷ [])

-- the record after a refusal: 11 makes the stage 2 and keeps the set, any other leaves it as it was
pub data Kept (r : ListingRecord) (n : ℕ) (r' : ListingRecord) : Type 0 where
  closed : n ≡ 11 → r' ≡ listing ended r.last → Kept r n r'
  left : ¬ (n ≡ 11) → r' ≡ r → Kept r n r'

-- THE RELATION: for what is lent, a record and a plan buffer, the answer, the record after and the buffer after
pub data Turns (L : Lent) (r : ListingRecord) (buffer : List ℕ) (a : Answer) (r' : ListingRecord) (buffer' : List ℕ) : Type 0 where
  refused : {f : Refusal} → Gives (turn_rows L r buffer) (number_of f) → a ≡ Err f → Kept r (number_of f) r' → buffer' ≡ buffer
      → Turns L r buffer a r' buffer'
  found : {q : Asked} {P : APlan} → GivesNone (turn_rows L r buffer) → Asks r buffer q → Least (problem L) q P
      → a ≡ given L P → r' ≡ listing running P.set → buffer' ≡ P.table → Turns L r buffer a r' buffer'

-- the record after an answer
pub data MovesOn (r : ListingRecord) (a : Answer) (r' : ListingRecord) : Type 0 where
  refused_with : {f : Refusal} → a ≡ Err f → Kept r (number_of f) r' → MovesOn r a r'
  given_plan : {l : Listed} → a ≡ Ok l → r' ≡ listing running l.set → MovesOn r a r'

-- what a record past running is refused with
pub record Closing (L : Lent) (room stage : ℕ) (f : Refusal) : Type 0 where
  pub gives : running < stage → Gives (rows L room ++ (row 9 (ended < stage) ∷ row 11 (stage ≡ ended) ∷ [])) (number_of f)

-- the answer of a turn: what is answered to what its record asks for, or what a record past running is refused with
pub data TurnAnswers (L : Lent) (r : ListingRecord) (buffer : List ℕ) (a : Answer) (buffer' : List ℕ) : Type 0 where
  asked : {q : Asked} → Asks r buffer q → Lists L q buffer a buffer' → TurnAnswers L r buffer a buffer'
  past_running : {f : Refusal} → running < r.stage → Closing L (length buffer) r.stage f → a ≡ Err f → buffer' ≡ buffer → TurnAnswers L r buffer a buffer'

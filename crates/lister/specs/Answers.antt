-- What first and next may answer, and what they leave in the plan buffer.
use Rattle.std.specs.Prelude.{◌≡◌, List, [], ◌∷◌, ◌++◌, ℕ, length, Result, Ok, Err}
use Rattle.basis.specs.declared.Refusal.{Refusal}
use Rattle.basis.specs.Rows.{Row, row, Gives, GivesNone, number_of as refusal_number}
use Rattle.pacsolve.specs.declared.Cost.{Cost}
use Rattle.pacsolve.specs.declared.Listed.{Listed}
use Rattle.pacsolve.specs.Plan.{Plan as APlan, plan, Sound}
use Rattle.pacsolve.specs.Cost.{cost}
use Rattle.pacsolve.specs.Listing.{Asked, from_the_start, after, Least, NoneLeft}
use Rattle.catalogue.specs.Tables.{Lent}
use Rattle.catalogue.specs.Refusals.{rows}
use Rattle.catalogue.specs.Gives.{problem}

-- a plan of the listing, or a refusal
abbrev pub Answer : Type 0
Answer = Result Listed Refusal

-- the paper's number, set and cost of each case: 0 for a refusal, and number 0 where there is none
abbrev pub number_of : Answer → ℕ
number_of (Err r) = refusal_number r
number_of (Ok l) = 0

abbrev pub set_of : Answer → ℕ
set_of (Err r) = 0
set_of (Ok l) = l.set

abbrev pub cost_of : Answer → Cost
cost_of (Err r) = record { first = 0; second = 0; third = 0 }
cost_of (Ok l) = l.cost

-- a plan as an answer: its set and its cost
abbrev pub handed : ℕ → Cost → Answer
handed set c = Ok (record { set = set; cost = c })

abbrev pub given : Lent → APlan → Answer
given L P = handed P.set (cost (problem L) P.set)

-- the refusals: those of every call; then, from the start, 11, no sound plan; after a given plan, 10, the given plan isn't sound, and 11, none after it
abbrev pub ask_rows : Lent → ℕ → Asked → List Row
ask_rows L room from_the_start = rows L room ++ (row 11 (NoneLeft (problem L) from_the_start) ∷ [])
ask_rows L room (after P) = rows L room ++ (row 10 (¬ Sound (problem L) P) ∷ row 11 (NoneLeft (problem L) (after P)) ∷ [])

-- for what is lent, what is asked for and a plan buffer: the answer, and the buffer after. A plan given overwrites the whole buffer
pub data Lists (L : Lent) (q : Asked) (buffer : List ℕ) (a : Answer) (buffer' : List ℕ) : Type 0 where
  refused : {r : Refusal} → Gives (ask_rows L (length buffer) q) (refusal_number r) → a ≡ Err r → buffer' ≡ buffer → Lists L q buffer a buffer'
  found : {P : APlan} → GivesNone (ask_rows L (length buffer) q) → Least (problem L) q P → a ≡ given L P → buffer' ≡ P.table → Lists L q buffer a buffer'

-- THE RELATION of first: the least sound plan
abbrev pub Firsts : Lent → List ℕ → Answer → List ℕ → Type 0
Firsts L buffer a buffer' = Lists L from_the_start buffer a buffer'

-- THE RELATION of next: the buffer and a given set hold a plan, and the answer is the least sound plan after it
abbrev pub Nexts : Lent → ℕ → List ℕ → Answer → List ℕ → Type 0
Nexts L set buffer a buffer' = Lists L (after (plan set buffer)) buffer a buffer'

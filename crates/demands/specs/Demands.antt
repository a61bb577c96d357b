-- The three demands, as claims about the relations that are the calls' contracts. They speak in the paper's numbers, sets, costs and counts, which are given for each
-- answer beside its relation.
use Rattle.std.specs.Prelude.{◌≡◌, List, ◌↔◌, ℕ, Bool, length, Result, Ok, Err}
use Rattle.basis.specs.declared.Refusal.{Refusal}
use Rattle.basis.specs.Rows.{GivesNone, number_of as refusal_number}
use Rattle.constraint.specs.declared.Version.{Version}
use Rattle.constraint.specs.Reading.{Answers, fit_of, rows as reading_rows, number_of as reading_number}
use Rattle.pacsolve.specs.declared.Cost.{Cost}
use Rattle.pacsolve.specs.declared.Listed.{Listed}
use Rattle.pacsolve.specs.Plan.{Plan as APlan, plan, Sound as IsSound, faults}
use Rattle.pacsolve.specs.Cost.{cost}
use Rattle.pacsolve.specs.Order.{Precedes}
use Rattle.pacsolve.specs.Listing.{from_the_start, after, Good, Listing}
use Rattle.catalogue.specs.Tables.{Lent}
use Rattle.catalogue.specs.Refusals.{rows}
use Rattle.catalogue.specs.Gives.{problem}
use Rattle.catalogue.specs.Survey.{Surveys}
use Rattle.plan.specs.declared.Fault.{Fault}
use Rattle.plan.specs.Check.{Checks, condition_of, number_of as check_number, cost_of as check_cost}
use Rattle.lister.specs.declared.ListingRecord.{ListingRecord}
use Rattle.lister.specs.Answers.{Answer, Firsts, Nexts, ask_rows, number_of, set_of, cost_of}
use Rattle.lister.specs.Turns.{fresh, Turns, turn_rows, Kept}
use Rattle.lister.specs.Asking.{Asking, Turning, FollowedBy11, FollowedBy11s}
use Rattle.csv_text.specs.declared.Sheet.{Sheet}
use Rattle.csv_text.specs.Reading.{Reads, entries_of, slots_of, rows as read_rows, number_of as read_number}
use Rattle.demands.specs.Claims.{costs}
use Rattle.demands.specs.Outcomes.{OneOutcome, RefusesBy}

-- a survey's number: 0 where nothing is refused
abbrev pub survey_number : Result (List ℕ) Refusal → ℕ
survey_number (Ok fits) = 0
survey_number (Err r) = refusal_number r

-- a refused listing answers set 0 and cost 0 0 0, and leaves the plan buffer as it was
pub record Unplanned (a : Answer) (buffer buffer' : List ℕ) : Type 0 where
  pub set : set_of a ≡ 0
  pub cost : cost_of a ≡ costs 0 0 0
  pub kept : buffer' ≡ buffer

-- DEMAND 1. Every call has one outcome for every input, sane or not: the number of the first refusal that applies, and then every buffer as it was and 0 for all
-- else; or, for a plan in a check that is not refused, the first condition that it breaks.
pub record Demand1 : Type 0 where
  pub outcomes : OneOutcome
  -- how each call refuses, and what then comes back; first the survey that all but the reading and read begin with
  pub survey : (L : Lent) (room : ℕ) (a : Result (List ℕ) Refusal) → Surveys L room a → RefusesBy (rows L room) (survey_number a) (λ n. (r : Refusal) × (a ≡ Err r))
  pub reading : (part : List ℕ) (v : Version) (a : Result Bool Refusal) → Answers part v a → RefusesBy (reading_rows part) (reading_number a) (λ n. fit_of a ≡ 0)
  pub check : (L : Lent) (set : ℕ) (table : List ℕ) (a : Result Cost Fault) → Checks L set table a
      → RefusesBy (rows L (length table)) (check_number a) (λ n. (condition_of a ≡ 0) × (check_cost a ≡ costs 0 0 0))
  -- the first condition that a plan breaks, with cost 0 0 0
  pub broken : (L : Lent) (set : ℕ) (table : List ℕ) (a : Result Cost Fault) → Checks L set table a → GivesNone (rows L (length table))
      → RefusesBy (faults (problem L) (plan set table)) (condition_of a) (λ k. check_cost a ≡ costs 0 0 0)
  pub first : (L : Lent) (buffer : List ℕ) (a : Answer) (buffer' : List ℕ) → Firsts L buffer a buffer'
      → RefusesBy (ask_rows L (length buffer) from_the_start) (number_of a) (λ n. Unplanned a buffer buffer')
  pub next : (L : Lent) (set : ℕ) (buffer : List ℕ) (a : Answer) (buffer' : List ℕ) → Nexts L set buffer a buffer'
      → RefusesBy (ask_rows L (length buffer) (after (plan set buffer))) (number_of a) (λ n. Unplanned a buffer buffer')
  pub turn : (L : Lent) (r : ListingRecord) (buffer : List ℕ) (a : Answer) (r' : ListingRecord) (buffer' : List ℕ) → Turns L r buffer a r' buffer'
      → RefusesBy (turn_rows L r buffer) (number_of a) (λ n. Unplanned a buffer buffer' × Kept r n r')
  pub read : (text entries slots : List ℕ) (a : Result Sheet Refusal) (entries' slots' : List ℕ) → Reads text entries slots a entries' slots'
      → RefusesBy (read_rows text entries slots) (read_number a) (λ n. (entries_of a ≡ 0) × (slots_of a ≡ 0) × (entries' ≡ entries) × (slots' ≡ slots))

-- DEMAND 2. A check calls a plan sound exactly if nothing is refused and it meets the six conditions, and its cost is then the one that the objectives define.
-- Whatever first, next or turn hands out is sound by that same check, at the cost that is handed out with it.
pub record Demand2 : Type 0 where
  -- called sound exactly if, and at which cost
  pub exactly : (L : Lent) (set : ℕ) (table : List ℕ) (a : Result Cost Fault) → Checks L set table a
      → ((c : Cost) × (a ≡ Ok c)) ↔ (GivesNone (rows L (length table)) × IsSound (problem L) (plan set table))
  pub costed : (L : Lent) (set : ℕ) (table : List ℕ) (c : Cost) → Checks L set table (Ok c) → c ≡ cost (problem L) set
  -- what is handed out
  pub by_first : (L : Lent) (buffer buffer' : List ℕ) (l : Listed) → Firsts L buffer (Ok l) buffer' → Checks L l.set buffer' (Ok l.cost)
  pub by_next : (L : Lent) (last : ℕ) (buffer buffer' : List ℕ) (l : Listed) → Nexts L last buffer (Ok l) buffer' → Checks L l.set buffer' (Ok l.cost)
  pub by_turn : (L : Lent) (r r' : ListingRecord) (buffer buffer' : List ℕ) (l : Listed) → Turns L r buffer (Ok l) r' buffer'
      → Checks L l.set buffer' (Ok l.cost)

-- DEMAND 3. For a sane catalogue, asking for the first plan and then for the next, or turning a fresh record, over and over, hands out the listing: every sound plan
-- once, in order, and then 11. 11 comes exactly when no sound plan is left, so straight away exactly if there is none.
pub record Demand3 : Type 0 where
  -- whatever is lent, and from every buffer, asking and turning over and over can be done
  pub askable : (L : Lent) (buffer : List ℕ) → (answers : ℕ → Answer) × (buffers : ℕ → List ℕ) × Asking L answers buffers × (buffers 0 ≡ buffer)
  pub turnable : (L : Lent) (buffer : List ℕ) (r : ListingRecord) → r.stage ≡ fresh
      → (answers : ℕ → Answer) × (records : ℕ → ListingRecord) × (buffers : ℕ → List ℕ) × Turning L answers records buffers × (records 0 ≡ r) × (buffers 0 ≡ buffer)
  -- where nothing is refused, they walk through the listing, and there is one only
  pub asked : (L : Lent) (answers : ℕ → Answer) (buffers : ℕ → List ℕ) → GivesNone (rows L (length (buffers 0))) → Asking L answers buffers
      → (Ps : List APlan) × Listing (problem L) Ps × FollowedBy11 L answers buffers Ps
  pub turned : (L : Lent) (answers : ℕ → Answer) (records : ℕ → ListingRecord) (buffers : ℕ → List ℕ) → GivesNone (rows L (length (buffers 0)))
      → Turning L answers records buffers → (Ps : List APlan) × Listing (problem L) Ps × FollowedBy11s L answers records buffers Ps
  pub one_listing : (L : Lent) (Ps Qs : List APlan) → Listing (problem L) Ps → Listing (problem L) Qs → Ps ≡ Qs
  -- 11 exactly when none is left: from the start, and after a sound plan that is given back
  pub none_at_all : (L : Lent) (buffer : List ℕ) (a : Answer) (buffer' : List ℕ) → GivesNone (rows L (length buffer)) → Firsts L buffer a buffer'
      → (number_of a ≡ 11) ↔ ((P : APlan) → ¬ Good (problem L) P)
  pub none_after : (L : Lent) (set : ℕ) (buffer : List ℕ) (a : Answer) (buffer' : List ℕ) → GivesNone (rows L (length buffer))
      → IsSound (problem L) (plan set buffer) → Nexts L set buffer a buffer'
      → (number_of a ≡ 11) ↔ ((P : APlan) → Good (problem L) P → ¬ Precedes (problem L) (plan set buffer) P)

-- DEMAND 1 HOLDS: every call has one outcome for every input, and a refused one gets its number, with every buffer as it was and 0 for all else.
use mathlib.Core.Path.{◌≡◌, refl, ◌∙◌}
use mathlib.Core.List.{List}
use Prim.Native.Nat.{ℕ}
use lib.ListN.{length}
use Rattle.std.specs.Prelude.{Bool, Result, Err}
use Rattle.basis.specs.declared.Refusal.{Refusal}
use Rattle.basis.specs.Rows.{Row, Gives, GivesNone, number_of as refusal_number}
use Rattle.basis.proofs.Rows.{gives_one, gives_not_none}
use Rattle.constraint.specs.declared.Version.{Version}
use Rattle.constraint.specs.Reading.{Answers, fit_of, rows as reading_rows, number_of as reading_number}
use Rattle.pacsolve.specs.declared.Cost.{Cost}
use Rattle.pacsolve.specs.Plan.{plan, faults, condition_number}
use Rattle.pacsolve.specs.Listing.{Asked, from_the_start, after}
use Rattle.pacsolve.proofs.Conditions.{sound_faultless}
use Rattle.catalogue.specs.Tables.{Lent}
use Rattle.catalogue.specs.Refusals.{rows}
use Rattle.catalogue.specs.Gives.{problem}
use Rattle.catalogue.specs.Survey.{Surveys}
use Rattle.plan.specs.declared.Fault.{Fault}
use Rattle.plan.specs.Check.{Checks, condition_of, number_of as check_number, cost_of as check_cost}
use Rattle.lister.specs.declared.ListingRecord.{ListingRecord}
use Rattle.lister.specs.Answers.{Answer, Lists, ask_rows, number_of}
use Rattle.lister.specs.Turns.{Turns, turn_rows, Kept}
use Rattle.csv_text.specs.declared.Sheet.{Sheet}
use Rattle.csv_text.specs.Reading.{Reads, entries_of, slots_of, rows as read_rows, number_of as read_number}
use Rattle.demands.specs.Claims.{costs}
use Rattle.demands.specs.Outcomes.{RefusesBy}
use Rattle.demands.specs.Demands.{Unplanned, survey_number, Demand1}
use Rattle.demands.proofs.Outcomes.{one_outcome}

module _ (rs : List Row) {number : ℕ} {Keeps : ℕ → Type 0} where
  -- where a row applies, its number is the only one that may be given
  refused_by : (m : ℕ) → Gives rs m → number ≡ m → Keeps m → RefusesBy rs number Keeps
  refused_by m g e k =
      record {
        given = λ n h. let same : m ≡ n = gives_one rs m n g h in (e ∙ same, rw same at k);
        clear = λ none. absurd (gives_not_none rs m g none);
      }

  unrefused_by : GivesNone rs → number ≡ 0 → RefusesBy rs number Keeps
  unrefused_by none e = record { given = λ n g. absurd (gives_not_none rs n g none); clear = λ h. e }

survey_refuses : (L : Lent) (room : ℕ) (a : Result (List ℕ) Refusal) → Surveys L room a
    → RefusesBy (rows L room) (survey_number a) (λ n. (r : Refusal) × (a ≡ Err r))
survey_refuses L room a (Surveys.refused {r = r} g e) = refused_by _ (refusal_number r) g (rw e refl) (r, e)
survey_refuses L room a (Surveys.sane none e x) = unrefused_by _ none (rw e refl)

reading_refuses : (part : List ℕ) (v : Version) (a : Result Bool Refusal) → Answers part v a → RefusesBy (reading_rows part) (reading_number a) (λ n. fit_of a ≡ 0)
reading_refuses part v a (Answers.refused {r = r} g e) = refused_by _ (refusal_number r) g (rw e refl) (rw e refl)
reading_refuses part v a (Answers.fits {c = c} r s e) = unrefused_by _ ((λ unread. unread (c, r)), tt) (rw e refl)
reading_refuses part v a (Answers.misfits {c = c} r s e) = unrefused_by _ ((λ unread. unread (c, r)), tt) (rw e refl)

module _ (L : Lent) (set : ℕ) (table : List ℕ) (a : Result Cost Fault) where
  check_refuses : Checks L set table a → RefusesBy (rows L (length table)) (check_number a) (λ n. (condition_of a ≡ 0) × (check_cost a ≡ costs 0 0 0))
  check_refuses (Checks.refused {r = r} g e) = refused_by _ (refusal_number r) g (rw e refl) (rw e refl, rw e refl)
  check_refuses (Checks.broken none g e) = unrefused_by _ none (rw e refl)
  check_refuses (Checks.sound none s e) = unrefused_by _ none (rw e refl)

  check_breaks : Checks L set table a → GivesNone (rows L (length table))
      → RefusesBy (faults (problem L) (plan set table)) (condition_of a) (λ k. check_cost a ≡ costs 0 0 0)
  check_breaks (Checks.refused {r = r} g e) none = absurd (gives_not_none (rows L (length table)) (refusal_number r) g none)
  check_breaks (Checks.broken {k = k} h g e) none = refused_by _ (condition_number k) g (rw e refl) (rw e refl)
  check_breaks (Checks.sound h s e) none = unrefused_by _ (sound_faultless (problem L) (plan set table) s) (rw e refl)

lists_refuses : (L : Lent) (q : Asked) (buffer : List ℕ) (a : Answer) (buffer' : List ℕ) → Lists L q buffer a buffer'
    → RefusesBy (ask_rows L (length buffer) q) (number_of a) (λ n. Unplanned a buffer buffer')
lists_refuses L q buffer a buffer' (Lists.refused {r = r} g e k) =
    refused_by _ (refusal_number r) g (rw e refl) (record { set = rw e refl; cost = rw e refl; kept = k })
lists_refuses L q buffer a buffer' (Lists.found none l e k) = unrefused_by _ none (rw e refl)

turn_refuses : (L : Lent) (r : ListingRecord) (buffer : List ℕ) (a : Answer) (r' : ListingRecord) (buffer' : List ℕ) → Turns L r buffer a r' buffer'
    → RefusesBy (turn_rows L r buffer) (number_of a) (λ n. Unplanned a buffer buffer' × Kept r n r')
turn_refuses L r buffer a r' buffer' (Turns.refused {f = f} g e k b) =
    refused_by _ (refusal_number f) g (rw e refl) (record { set = rw e refl; cost = rw e refl; kept = b }, k)
turn_refuses L r buffer a r' buffer' (Turns.found none asks l e k b) = unrefused_by _ none (rw e refl)

read_refuses : (text entries slots : List ℕ) (a : Result Sheet Refusal) (entries' slots' : List ℕ) → Reads text entries slots a entries' slots'
    → RefusesBy (read_rows text entries slots) (read_number a) (λ n. (entries_of a ≡ 0) × (slots_of a ≡ 0) × (entries' ≡ entries) × (slots' ≡ slots))
read_refuses text entries slots a entries' slots' (Reads.refused {r = r} g e x y) = refused_by _ (refusal_number r) g (rw e refl) (rw e refl, rw e refl, x, y)
read_refuses text entries slots a entries' slots' (Reads.read none l e x y) = unrefused_by _ none (rw e refl)

-- Every call has one outcome for every input, sane or not. A refused one is the number of the first refusal that applies, with every buffer as it was and 0 for all
-- else; a plan in a check that is not refused gets the first condition that it breaks.
pub demand_1 : Demand1
demand_1 =
    record {
      outcomes = one_outcome;
      survey = survey_refuses;
      reading = reading_refuses;
      check = check_refuses;
      broken = check_breaks;
      first = λ L. lists_refuses L from_the_start;
      next = λ L set buffer. lists_refuses L (after (plan set buffer)) buffer;
      turn = turn_refuses;
      read = read_refuses;
    }

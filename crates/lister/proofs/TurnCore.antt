-- What a survey or an asking, and the record moved on by its answer, say together is what a turn may answer.
use mathlib.Core.Path.{◌≡◌, refl}
use mathlib.Core.List.{List, [], ◌∷◌, ◌++◌}
use mathlib.Core.Logic.{◌⊎◌, inl, inr}
use Prim.Native.Nat.{ℕ, ◌≤◌, ◌<◌}
use native.Mathlib.Omega.{arith}
use lib.ListN.{length}
use Rattle.std.specs.Prelude.{Ok, Err}
use Rattle.basis.specs.declared.Refusal.{Refusal}
use Rattle.basis.specs.declared.Refusal.TheVariants.{Stage, NoPlan}
use Rattle.basis.specs.Rows.{Row, row, Gives, GivesNone, number_of as refusal_number}
use Rattle.basis.proofs.Rows.{gives_before, gives_after, none_before, none_after}
use Rattle.pacsolve.specs.Plan.{Plan as APlan, plan, Sound}
use Rattle.pacsolve.specs.Listing.{Asked, from_the_start, after, Least, NoneLeft}
use Rattle.pacsolve.proofs.Fixed.{least_or_none_left}
use Rattle.catalogue.specs.Tables.{Lent}
use Rattle.catalogue.specs.Refusals.{rows}
use Rattle.catalogue.specs.Gives.{problem}
use Rattle.catalogue.specs.Survey.{Surveys}
use Rattle.pacsolve.specs.declared.Listed.{Listed}
use Rattle.lister.specs.declared.ListingRecord.{ListingRecord}
use Rattle.lister.specs.Answers.{Answer, ask_rows, Lists, refused as ask_refused, found as ask_found}
use Rattle.lister.specs.Turns.{running, ended, listing, Asks, the_first, the_next, turn_rows, Kept, Turns, refused, found, MovesOn, refused_with, given_plan, Closing, TurnAnswers, asked, past_running}
use Rattle.lister.proofs.Asks.{survey_gives, survey_sane}
use Rattle.lister.proofs.TurnOutcome.{asks_one, ended_asks_nothing}

-- a number of rows after rows is given by the first, or by the second where the first give none
parted : (rs ss : List Row) (n : ℕ) → Gives (rs ++ ss) n → Gives rs n ⊎ (GivesNone rs × Gives ss n)
parted [] ss n g = inr (tt, g)
parted (r ∷ rs) ss n (inl g) = inl (inl g)
parted (r ∷ rs) ss n (inr g) = go (parted rs ss n g.1)
  where
    go : Gives rs n ⊎ (GivesNone rs × Gives ss n) → Gives (r ∷ rs) n ⊎ (GivesNone (r ∷ rs) × Gives ss n)
    go (inl x) = inl (inr (g.0, x))
    go (inr x) = inr ((g.0, x.0), x.1)

-- a record past running: what the survey, the stage and nothing else refuse it with
module _ (L : Lent) (room stage : ℕ) where
  pub closing_by : {f : Refusal} → Surveys L room (Err f) → Closing L room stage f
  closing_by {f} s = record { gives = λ h. gives_before (rows L room) _ (refusal_number f) (survey_gives L room s) }

  pub closing_nine : {fits : List ℕ} → Surveys L room (Ok fits) → ended < stage → Closing L room stage Stage
  closing_nine s h = record { gives = λ k. gives_after (rows L room) _ 9 (survey_sane L room s).0 (inl (h, refl)) }

  pub closing_eleven : {fits : List ℕ} → Surveys L room (Ok fits) → stage ≤ ended → Closing L room stage NoPlan
  closing_eleven s h =
      record { gives = λ k. gives_after (rows L room) _ 11 (survey_sane L room s).0 (inr ((λ m. omega arith), inl (omega arith, refl))) }

-- the same at an equal stage
pub closing_at : {L : Lent} {room stage stage' : ℕ} {f : Refusal} → Closing L room stage f → stage ≡ stage' → Closing L room stage' f
closing_at c same = rw (← same) c

-- the record moved on by a refusal, and by a plan
kept_of : {r r' : ListingRecord} (f : Refusal) → MovesOn r (Err f) r' → Kept r (refusal_number f) r'
kept_of f (refused_with {f = g} e k) = let its : f ≡ g = cc in rw its k
kept_of f (given_plan e k) = absurd (cc)

moved_of : {r r' : ListingRecord} (l : Listed) → MovesOn r (Ok l) r' → r' ≡ listing running l.set
moved_of l (refused_with e k) = absurd (cc)
moved_of l (given_plan {l = m} e k) = let its : l ≡ m = cc in rw its k

module _ (L : Lent) (r : ListingRecord) (buffer : List ℕ) where
  turned_closed : running < r.stage → (f : Refusal) → Closing L (length buffer) r.stage f → (r' : ListingRecord) → MovesOn r (Err f) r'
      → Turns L r buffer (Err f) r' buffer
  turned_closed h f c r' m = refused (go (refusal_number f) (parted (rows L (length buffer)) _ (refusal_number f) (c.gives h))) refl (kept_of f m) refl
    where
      go : (n : ℕ) → Gives (rows L (length buffer)) n ⊎ (GivesNone (rows L (length buffer)) × Gives (row 9 (ended < r.stage) ∷ row 11 (r.stage ≡ ended) ∷ []) n)
          → Gives (turn_rows L r buffer) n
      go n (inl g) = gives_before (rows L (length buffer)) _ n g
      go n (inr (g, inl x)) = gives_after (rows L (length buffer)) _ n g (inl x)
      go n (inr (g, inr (x, inl y))) = gives_after (rows L (length buffer)) _ n g (inr (x, inr ((λ z. omega (arith, z.0)), inl (inl y.0, y.1))))
      go n (inr (g, inr (x, inr (y, z)))) = absurd z

  -- what a record asks for is refused as asking is
  asked_gives : {q : Asked} → Asks r buffer q → (n : ℕ) → Gives (ask_rows L (length buffer) q) n → Gives (turn_rows L r buffer) n
  asked_gives (the_first e) n g = go (parted (rows L (length buffer)) _ n g)
    where
      go : Gives (rows L (length buffer)) n ⊎ (GivesNone (rows L (length buffer)) × Gives (row 11 (NoneLeft (problem L) from_the_start) ∷ []) n) → Gives (turn_rows L r buffer) n
      go (inl x) = gives_before (rows L (length buffer)) _ n x
      go (inr (x, inl y)) =
          gives_after (rows L (length buffer)) _ n x (inr ((λ z. omega arith), inr ((λ z. omega (arith, z.0)), inl (inr (from_the_start, the_first e, y.0), y.1))))
      go (inr (x, inr (y, z))) = absurd z
  asked_gives (the_next e) n g = go (parted (rows L (length buffer)) _ n g)
    where
      P : APlan
      P = plan r.last buffer

      go : Gives (rows L (length buffer)) n
          ⊎ (GivesNone (rows L (length buffer)) × Gives (row 10 (¬ Sound (problem L) P) ∷ row 11 (NoneLeft (problem L) (after P)) ∷ []) n) → Gives (turn_rows L r buffer) n
      go (inl x) = gives_before (rows L (length buffer)) _ n x
      go (inr (x, inl y)) = gives_after (rows L (length buffer)) _ n x (inr ((λ z. omega arith), inl ((e, y.0), y.1)))
      go (inr (x, inr (y, inl z))) =
          gives_after (rows L (length buffer)) _ n x (inr ((λ w. omega arith), inr ((λ w. y w.1), inl (inr (after P, the_next e, z.0), z.1))))
      go (inr (x, inr (y, inr (z, w)))) = absurd w

  -- and where asking refuses nothing, neither does the turn
  asked_none_gives : {q : Asked} {P : APlan} → Asks r buffer q → GivesNone (ask_rows L (length buffer) q) → Least (problem L) q P → GivesNone (turn_rows L r buffer)
  asked_none_gives {q} {P} k g l = none_after (rows L (length buffer)) _ (sane_of k g) (no_nine k, (no_ten k g, (no_eleven, tt)))
    where
      sane_of : {u : Asked} → Asks r buffer u → GivesNone (ask_rows L (length buffer) u) → GivesNone (rows L (length buffer))
      sane_of (the_first e) x = (none_before (rows L (length buffer)) _ x).0
      sane_of (the_next e) x = (none_before (rows L (length buffer)) _ x).0

      no_nine : {u : Asked} → Asks r buffer u → ¬ (ended < r.stage)
      no_nine (the_first e) h = omega arith
      no_nine (the_next e) h = omega arith

      no_ten : {u : Asked} → Asks r buffer u → GivesNone (ask_rows L (length buffer) u) → ¬ ((r.stage ≡ running) × ¬ Sound (problem L) (plan r.last buffer))
      no_ten (the_first e) x h = omega (arith, h.0)
      no_ten (the_next e) x h = (none_before (rows L (length buffer)) _ x).1.0 h.1

      no_eleven : ¬ ((r.stage ≡ ended) ⊎ ((u : Asked) × Asks r buffer u × NoneLeft (problem L) u))
      no_eleven (inl e) = ended_asks_nothing r buffer e k
      no_eleven (inr x) = least_or_none_left (problem L) l (rw (asks_one r buffer x.1 k) at x.2)

  turned_asked : (q : Asked) → Asks r buffer q → (a : Answer) (buffer' : List ℕ) → Lists L q buffer a buffer' → (r' : ListingRecord) → MovesOn r a r'
      → Turns L r buffer a r' buffer'
  turned_asked q k a buffer' (ask_refused {r = f} g e b) r' m = refused (asked_gives k (refusal_number f) g) e (kept_of f (rw e at m)) b
  turned_asked q k a buffer' (ask_found g l e b) r' m = found (asked_none_gives k g l) k l e (moved_of _ (rw e at m)) b

  -- the answer of a turn, and the record moved on by it
  pub turned_on : (a : Answer) (buffer' : List ℕ) → TurnAnswers L r buffer a buffer' → (r' : ListingRecord) → MovesOn r a r' → Turns L r buffer a r' buffer'
  turned_on a buffer' (asked {q = q} k l) r' m = turned_asked q k a buffer' l r' m
  turned_on a buffer' (past_running {f = f} h c e b) r' m = rw (e, b) (turned_closed h f c r' (rw e at m))

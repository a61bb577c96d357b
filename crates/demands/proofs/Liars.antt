-- THE LIARS ARE CAUGHT: each wrong call answers something that its relation does not allow.
use mathlib.Core.Path.{◌≡◌, refl, ap, ◌∙◌}
use mathlib.Core.List.{List, [], ◌∷◌}
use mathlib.Core.Logic.{◌⊎◌, inl, inr}
use Prim.Native.Nat.{ℕ}
use native.Mathlib.Omega.{arith}
use lib.ListN.{length}
use Rattle.std.specs.Prelude.{Ok}
use Rattle.basis.specs.Rows.{GivesNone, number_of as refusal_number}
use Rattle.basis.proofs.Rows.{gives_not_none, none_after}
use Rattle.pacsolve.specs.declared.Cost.{Cost}
use Rattle.pacsolve.specs.Plan.{Plan as APlan, plan, faults}
use Rattle.pacsolve.specs.Listing.{Listing, Asked, NoneLeft}
use Rattle.pacsolve.proofs.Conditions.{sound_faultless}
use Rattle.pacsolve.proofs.Listing.{listing_one}
use Rattle.catalogue.specs.Refusals.{rows}
use Rattle.catalogue.specs.Gives.{cargo, problem}
use Rattle.plan.specs.Check.{Checks}
use Rattle.lister.specs.Answers.{Answer}
use Rattle.lister.specs.declared.ListingRecord.{ListingRecord}
use Rattle.lister.specs.Turns.{fresh, ended, Asks, the_first, the_next, turn_rows, Turns, refused, found}
use Rattle.demands.specs.Claims.{costs}
use Rattle.demands.specs.Bench.{box}
use Rattle.demands.specs.Excluded.{plug_in, with_plug_in, tie}
use Rattle.demands.specs.Liars.{Caught, Liars, eleven, plan_one, plan_two}
use Rattle.demands.proofs.Bench.{p_table}
use Rattle.demands.proofs.Excluded.{excluded}
use Rattle.demands.proofs.Demand2.{demand_2}
use Rattle.demands.proofs.Demand3.{demand_3}

tie_sane : (buffer : List ℕ) → length buffer ≡ 1 → GivesNone (rows tie (length buffer))
tie_sane buffer one = rw one excluded.tie_listed.unrefused

abbrev tie_plans : List APlan
tie_plans = plan 3 (1 ∷ []) ∷ plan 5 (2 ∷ []) ∷ []

module _ (answers : ℕ → Answer) where
  -- what a lister that is right answers on the tie
  record Right : Type 0 where
    pub first : answers 0 ≡ plan_one
    pub second : answers 1 ≡ plan_two
    pub third : answers 2 ≡ eleven

  -- a listing of the tie is those two plans
  those : {F : List APlan → Type 0} → (Ps : List APlan) × Listing (problem tie) Ps × F Ps → F tie_plans
  those {F} x = rw (listing_one (problem tie) x.1 excluded.tie_listed.listing) at x.2

  caught : ¬ Right → Caught answers
  caught wrong =
      record {
        asking = λ buffers one asking.
            let f = those (demand_3.asked tie answers buffers (tie_sane (buffers 0) one) asking) in
            wrong (record { first = f.0.answer; second = f.1.0.answer; third = f.1.1.answer });
        turning = λ records buffers one turning.
            let f = those (demand_3.turned tie answers records buffers (tie_sane (buffers 0) one) turning) in
            wrong (record { first = f.0.answer; second = f.1.0.answer; third = (f.1.1 2 (omega arith)).0.answer });
      }

module _ (r : ListingRecord) (buffer : List ℕ) (new : r.stage ≡ fresh) where
  -- a fresh record on the tie is not refused with 11
  not_over : ¬ ((r.stage ≡ ended) ⊎ ((q : Asked) × Asks r buffer q × NoneLeft (problem tie) q))
  not_over (inl e) = omega arith
  not_over (inr x) = asked x.1 x.2
    where
      asked : {q : Asked} → Asks r buffer q → ¬ NoneLeft (problem tie) q
      asked (the_first e) none = none (plan 3 (1 ∷ [])) (excluded.tie_listed.listing.good (plan 3 (1 ∷ [])) (inl refl)) tt
      asked (the_next e) none = omega arith

  moved : (buffer' : List ℕ) (a : Answer) → length buffer ≡ 1 → ¬ Turns tie r buffer a r buffer'
  moved buffer' a one (refused {f = f} g e k b) =
      gives_not_none (turn_rows tie r buffer) (refusal_number f) g
      (none_after (rows tie (length buffer)) _ (tie_sane buffer one) ((λ h. omega arith), ((λ h. omega (arith, h.0)), (not_over, tt))))
  moved buffer' a one (found none asks l e k b) = let stage : r.stage ≡ 1 = ap (λ (s : ListingRecord). s.stage) k in omega arith

-- the cost of plan 1 of the input is one only
plan_1_cost : (c : Cost) (table : List ℕ) → Checks (box cargo) 59 table (Ok c) → c ≡ costs 3 4 1
plan_1_cost c table x = demand_2.costed (box cargo) 59 table c x ∙ p_table.the_input.first_cost

pub liars : Liars
liars =
    record {
      always_eleven = caught _ (λ right. cc right.first);
      same_plan = λ l. caught _ (λ right. let never : ◌≡◌ {A = ℕ} 3 5 = cc in omega arith);
      moves_nothing = λ r buffer buffer' a new. moved r buffer new buffer' a;
      repeating = caught _ (λ right. cc right.third);
      ending = caught _ (λ right. cc right.second);
      always_sound = λ c x.
          let sound = ((demand_2.exactly plug_in with_plug_in.set with_plug_in.table (Ok c) x).0 (c, refl)).1 in
          gives_not_none (faults (problem plug_in) with_plug_in) 2 excluded.plug_in_unreached (sound_faultless (problem plug_in) with_plug_in sound);
      invented_by_check = λ c other x. other (plan_1_cost c _ x);
      invented_by_first = λ c buffer buffer' other x. other (plan_1_cost c buffer' (demand_2.by_first (box cargo) buffer buffer' (record { set = 59; cost = c }) x));
    }

-- What a survey, a judgement of the given plan and the search for the least plan together say is what asking may answer.
use mathlib.Core.Path.{◌≡◌, refl, sym, ap, ◌∙◌}
use mathlib.Core.List.{List}
use mathlib.Core.Logic.{inl, inr}
use Prim.Native.Nat.{ℕ, suc, ◌≤◌, ◌<◌}
use native.Mathlib.Omega.{arith}
use lib.ListN.{length, get_or}
use Rattle.std.specs.Option.{ok_or}
use Rattle.std.specs.Prelude.{Option, Some, None, Ok, Err}
use Rattle.basis.specs.declared.Refusal.{Refusal}
use Rattle.basis.specs.declared.Refusal.TheVariants.{Unsound, NoPlan}
use Rattle.basis.specs.Rows.{Gives, GivesNone, number_of as refusal_number}
use Rattle.basis.proofs.Rows.{gives_before, gives_after, gives_not_none}
use Rattle.bitset.specs.Bits.{Member}
use Rattle.pacsolve.specs.declared.Condition.{Condition}
use Rattle.pacsolve.specs.declared.Cost.{Cost}
use Rattle.pacsolve.specs.declared.Listed.{Listed}
use Rattle.pacsolve.specs.Problem.{Problem}
use Rattle.pacsolve.specs.Plan.{Plan as APlan, plan, Sound, faults, condition_number}
use Rattle.pacsolve.specs.Cost.{cost}
use Rattle.pacsolve.specs.Listing.{Asked, from_the_start, after}
use Rattle.pacsolve.proofs.Conditions.{sound_faultless}
use Rattle.pacsolve.proofs.Fixed.{least_or_none_left}
use Rattle.pacsolve.proofs.Refit.{refit_cost}
use Rattle.catalogue.specs.Tables.{Lent, entry_count, slot_count, owner_of}
use Rattle.catalogue.specs.Refusals.{rows}
use Rattle.catalogue.specs.Gives.{problem}
use Rattle.catalogue.specs.Survey.{Indexes, Surveys, refused as surveyed_refused, sane as surveyed_sane, indexed}
use Rattle.catalogue.proofs.Sane.{Sane, sane, few_entries, right_room}
use Rattle.catalogue.proofs.Indexed.{indexed_sound, indexed_least, indexed_none_left}
use Rattle.plan.specs.Judged.{Judges, broken, sound}
use Rattle.price.proofs.Worth.{different_codes}
use Rattle.node.specs.declared.Given.{Given}
use Rattle.node.specs.Sought.{asked_of, CostedGiven}
use Rattle.search.specs.Found.{Posed, Found, none_left, the_least}
use Rattle.lister.specs.Answers.{handed, Lists, refused, found}
use Rattle.lister.specs.Given.{asked_after, Backs, no_plan, sound_plan, unsound_plan}
use Rattle.lister.proofs.Asked.{Backed, ask_eleven, ask_none}

-- what a survey says: the rows give its refusal, or none of them applies
module _ (L : Lent) (room : ℕ) where
  pub survey_gives : {f : Refusal} → Surveys L room (Err f) → Gives (rows L room) (refusal_number f)
  survey_gives {f} (surveyed_refused {r = r} g e) = let same : f ≡ r = cc in rw same g
  survey_gives (surveyed_sane g e i) = absurd (cc)

  pub survey_sane : {fits : List ℕ} → Surveys L room (Ok fits) → GivesNone (rows L room) × Indexes L fits
  survey_sane (surveyed_refused g e) = absurd (cc)
  survey_sane {fits} (surveyed_sane {fits = sets} g e i) = let same : fits ≡ sets = cc in (g, rw same i)

-- what a judgement says
pub judged_sound : {p : Problem} {set : ℕ} {table : List ℕ} {c : Cost} → Judges p set table (Ok c) → Sound p (plan set table) × (c ≡ cost p set)
judged_sound (broken g e) = absurd (cc)
judged_sound (sound s e) = (s, cc)

pub judged_unsound : {p : Problem} {set : ℕ} {table : List ℕ} {k : Condition} → Judges p set table (Err k) → ¬ Sound p (plan set table)
judged_unsound {p} {set} {table} (broken {k = k} g e) s = gives_not_none (faults p (plan set table)) (condition_number k) g (sound_faultless p (plan set table) s)
judged_unsound (sound s e) t = cc

module _ (L : Lent) (buffer : List ℕ) where
  -- refused before anything is asked
  pub asked_refused : (q : Asked) {f : Refusal} → Surveys L (length buffer) (Err f) → Lists L q buffer (Err f) buffer
  asked_refused from_the_start {f} s = refused (gives_before (rows L (length buffer)) _ (refusal_number f) (survey_gives L (length buffer) s)) refl refl
  asked_refused (after P) {f} s = refused (gives_before (rows L (length buffer)) _ (refusal_number f) (survey_gives L (length buffer) s)) refl refl

  module _ (fits : List ℕ) (surveyed : Surveys L (length buffer) (Ok fits)) where
    unrefused : GivesNone (rows L (length buffer))
    unrefused = (survey_sane L (length buffer) surveyed).0

    right : Indexes L fits
    right = (survey_sane L (length buffer) surveyed).1

    pub few_bytes : length buffer ≤ 256
    few_bytes =
        let s = sane L (length buffer) unrefused in
        let few : ¬ (256 < slot_count L) = λ h. s.slots (inr h) in
        omega (arith, right_room L (length buffer) s)

    -- what is asked for by a set that is given or not
    module _ (set : Option ℕ) where
      -- 10: the given plan is not sound
      pub asked_unsound : {f : Refusal} → Backs (indexed L fits) set buffer (Err f) → Lists L (asked_after set buffer) buffer (Err f) buffer
      asked_unsound (no_plan e k) = absurd (cc)
      asked_unsound (sound_plan e s w c k) = absurd (cc)
      asked_unsound {f} (unsound_plan {set = its} e n k) =
          let same : f ≡ Unsound = cc in
          rw (e, same) (refused (gives_after (rows L (length buffer)) _ 10 unrefused (inl (λ s. n ((indexed_sound L fits right (plan its buffer)).1 s), refl))) refl refl)

      -- what is known of the given plan, where it is not refused
      record Stands (given : Option Given) : Type 0 where
        pub asked : asked_of given ≡ asked_after set buffer
        pub backed : Backed L (asked_after set buffer)
        pub costed : CostedGiven (indexed L fits) given

      stands : {given : Option Given} → Backs (indexed L fits) set buffer (Ok given) → Stands given
      stands {given} (no_plan e k) = let same : given ≡ None = cc in rw (e, same) (record { asked = refl; backed = tt; costed = tt })
      stands {given} (sound_plan {set = its} {g = g} e s w c k) =
          let same : given ≡ Some g = cc in
          rw (e, same) (record {
            asked = ap after w;
            backed = (indexed_sound L fits right (plan its buffer)).0 s;
            costed = c ∙ ap (λ (P : APlan). cost (indexed L fits) P.set) (sym w);
          })
      stands (unsound_plan e n k) = absurd (cc)

      module _ (given : Option Given) (backs : Backs (indexed L fits) set buffer (Ok given)) where
        -- what the search is handed
        pub posed : Posed (indexed L fits) given buffer
        posed =
            let s = sane L (length buffer) unrefused in
            record {
              entries = few_entries L (length buffer) s;
              slots = omega (arith, few_bytes, right_room L (length buffer) s);
              root = there s;
              apart = different_codes L.objectives s.once;
              rising = rising s;
              plan_sized = right_room L (length buffer) s;
              given_costed = (stands backs).costed;
            }
          where
            there : Sane L (length buffer) → L.settings.root < entry_count L
            there s = let here : ¬ (entry_count L ≤ L.settings.root) = s.root in omega arith

            rising : Sane L (length buffer) → (k : ℕ) → suc k < slot_count L → owner_of L k ≤ owner_of L (suc k)
            rising s k h =
                let here : k < slot_count L = omega arith in
                let no_fall : ¬ (owner_of L (suc k) < owner_of L k) = λ fall. s.rising (k, here, (h, fall)) in
                omega arith

        -- the least plan of those asked for, or 11
        pub asked_least : (r : Option Listed) (buffer' : List ℕ) → Found (indexed L fits) (asked_of given) buffer r buffer'
            → Lists L (asked_after set buffer) buffer (ok_or r NoPlan) buffer'
        asked_least r buffer' f = go (rw (stands backs).asked at f)
          where
            go : Found (indexed L fits) (asked_after set buffer) buffer r buffer' → Lists L (asked_after set buffer) buffer (ok_or r NoPlan) buffer'
            go (none_left e n k) =
                let none = (indexed_none_left L fits right (asked_after set buffer)).0 n in
                rw e (refused (ask_eleven L (length buffer) (asked_after set buffer) unrefused (stands backs).backed none) refl k)
            go (the_least {best = l} e least k) =
                let good = (indexed_least L fits right (asked_after set buffer) (plan l.set buffer')).0 least in
                let its : l.cost ≡ cost (problem L) l.set = k ∙ refit_cost (problem L) (λ s e. Member (get_or fits s 0) e) l.set in
                let rows_clear = ask_none L (length buffer) (asked_after set buffer) unrefused (stands backs).backed (least_or_none_left (problem L) good) in
                rw e (found rows_clear good (ap (handed l.set) its) refl)

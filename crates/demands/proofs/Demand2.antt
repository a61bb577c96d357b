-- DEMAND 2 HOLDS: a plan is called sound exactly if it meets the six conditions, at the cost that the objectives define, and nothing else is handed out.
use mathlib.Core.Path.{◌≡◌, refl}
use mathlib.Core.List.{List}
use Prim.Native.Nat.{ℕ}
use lib.ListN.{length}
use Rattle.std.specs.Prelude.{Result, Ok}
use Rattle.basis.specs.Rows.{GivesNone, number_of as refusal_number}
use Rattle.basis.proofs.Rows.{gives_not_none, none_before}
use Rattle.pacsolve.specs.declared.Cost.{Cost}
use Rattle.pacsolve.specs.declared.Listed.{Listed}
use Rattle.pacsolve.specs.Plan.{Plan as APlan, plan, faults, condition_number, Sound as IsSound}
use Rattle.pacsolve.specs.Cost.{cost}
use Rattle.pacsolve.specs.Listing.{Asked, from_the_start, after, Least}
use Rattle.pacsolve.proofs.Conditions.{sound_faultless}
use Rattle.catalogue.specs.Tables.{Lent}
use Rattle.catalogue.specs.Refusals.{rows}
use Rattle.catalogue.specs.Gives.{problem}
use Rattle.plan.specs.declared.Fault.{Fault}
use Rattle.plan.specs.Check.{Checks, refused, broken, sound}
use Rattle.lister.specs.declared.ListingRecord.{ListingRecord}
use Rattle.lister.specs.Answers.{given, Lists}
use Rattle.lister.specs.Turns.{Turns}
use Rattle.lister.proofs.Outcome.{ask_sane}
use Rattle.lister.proofs.Asked.{still_sane, given_back}
use Rattle.demands.specs.Demands.{Demand2}

module _ (L : Lent) (set : ℕ) (table : List ℕ) where
  -- nothing is refused, and the plan meets the six conditions
  abbrev Meets : Type 0
  Meets = GivesNone (rows L (length table)) × IsSound (problem L) (plan set table)

  called_sound : (a : Result Cost Fault) (c : Cost) → Checks L set table a → a ≡ Ok c → Meets × (c ≡ cost (problem L) set)
  called_sound a c (refused g e) s = absurd (cc)
  called_sound a c (broken h g e) s = absurd (cc)
  called_sound a c (sound h m e) s = ((h, m), cc)

  sound_called : (a : Result Cost Fault) → Checks L set table a → Meets → a ≡ Ok (cost (problem L) set)
  sound_called a (refused {r = r} g e) m = absurd (gives_not_none (rows L (length table)) (refusal_number r) g m.0)
  sound_called a (broken {k = k} h g e) m =
      absurd (gives_not_none (faults (problem L) (plan set table)) (condition_number k) g (sound_faultless (problem L) (plan set table) m.1))
  sound_called a (sound h s e) m = e

module _ (L : Lent) (buffer buffer' : List ℕ) (handed : Listed) where
  -- a least plan that is handed out passes a check, and the check gives the same cost
  handed_sound : {q : Asked} {P : APlan} → GivesNone (rows L (length buffer)) → Least (problem L) q P → Ok handed ≡ given L P → buffer' ≡ P.table
      → Checks L handed.set buffer' (Ok handed.cost)
  handed_sound {P = P} none l e b =
      let its : handed ≡ record { set = P.set; cost = cost (problem L) P.set } = cc in
      let its_set : handed.set ≡ P.set = cc in
      let its_cost : handed.cost ≡ cost (problem L) P.set = cc in
      let back : plan handed.set buffer' ≡ P = rw its_set (given_back L P buffer' b) in
      sound (still_sane L P buffer buffer' none l b) (rw back l.good.sound) (rw (its_cost, its_set) refl)

  lists_sound : (q : Asked) → Lists L q buffer (Ok handed) buffer' → Checks L handed.set buffer' (Ok handed.cost)
  lists_sound q (Lists.refused g e b) = absurd (cc)
  lists_sound q (Lists.found none l e b) = handed_sound (ask_sane L (length buffer) q none) l e b

  turns_sound : (r r' : ListingRecord) → Turns L r buffer (Ok handed) r' buffer' → Checks L handed.set buffer' (Ok handed.cost)
  turns_sound r r' (Turns.refused g e k b) = absurd (cc)
  turns_sound r r' (Turns.found none asks l e k b) = handed_sound (none_before (rows L (length buffer)) _ none).0 l e b

-- A check calls a plan sound exactly if nothing is refused and it meets the six conditions, and its cost is then the one that the objectives define.
-- Whatever first, next or turn hands out is sound by that same check, at the cost that is handed out with it.
pub demand_2 : Demand2
demand_2 =
    record {
      exactly = λ L set table a x. (
        λ s. (called_sound L set table a s.0 x s.1).0,
        λ m. (cost (problem L) set, sound_called L set table a x m),
      );
      costed = λ L set table c x. (called_sound L set table (Ok c) c x refl).1;
      by_first = λ L buffer buffer' l. lists_sound L buffer buffer' l from_the_start;
      by_next = λ L last buffer buffer' l. lists_sound L buffer buffer' l (after (plan last buffer));
      by_turn = λ L r r' buffer buffer' l. turns_sound L buffer buffer' l r r';
    }

-- DEMAND 3 HOLDS: asking over and over, and turning a fresh record over and over, walk through the listing, and 11 comes exactly when none is left.
use mathlib.Core.Path.{◌≡◌}
use mathlib.Core.List.{List, [], ◌∷◌}
use mathlib.Core.Logic.{inl, inr}
use Prim.Native.Nat.{ℕ}
use native.Mathlib.Omega.{arith}
use lib.ListN.{length}
use Rattle.basis.specs.Rows.{row, Gives, GivesNone, number_of as refusal_number}
use Rattle.basis.proofs.Rows.{gives_one, gives_last}
use Rattle.pacsolve.specs.Plan.{plan}
use Rattle.pacsolve.specs.Listing.{Asked, from_the_start, after, NoneLeft}
use Rattle.pacsolve.proofs.Fixed.{least_or_none_left}
use Rattle.pacsolve.proofs.Listing.{listing_one}
use Rattle.catalogue.specs.Tables.{Lent}
use Rattle.catalogue.specs.Refusals.{rows}
use Rattle.catalogue.specs.Gives.{problem}
use Rattle.lister.specs.Answers.{Answer, Lists, refused, found, ask_rows, number_of}
use Rattle.lister.proofs.Asked.{Backed, ask_eleven, asking_lists}
use Rattle.lister.proofs.TurnedOver.{turning_lists}
use Rattle.demands.specs.Demands.{Demand3}
use Rattle.demands.proofs.Asked.{asking_some, turning_some}

-- 11 is the last row's own, with no row before it and with 10 before it
last_row : {A : Type 0} → Gives (row 11 A ∷ []) 11 → A
last_row (inl x) = x.0
last_row (inr x) = absurd x.1

row_behind_ten : {A B : Type 0} → Gives (row 10 A ∷ row 11 B ∷ []) 11 → B
row_behind_ten (inl x) = absurd (omega (arith, x.1))
row_behind_ten (inr x) = last_row x.1

module _ (L : Lent) (buffer : List ℕ) (sane : GivesNone (rows L (length buffer))) where
  eleven_none_left : (q : Asked) → Gives (ask_rows L (length buffer) q) 11 → NoneLeft (problem L) q
  eleven_none_left from_the_start g = last_row (gives_last (rows L (length buffer)) _ 11 sane g)
  eleven_none_left (after P) g = row_behind_ten (gives_last (rows L (length buffer)) _ 11 sane g)

  module _ (q : Asked) (a : Answer) (buffer' : List ℕ) where
    says_none_left : Lists L q buffer a buffer' → number_of a ≡ 11 → NoneLeft (problem L) q
    says_none_left (refused {r = r} g e k) s = let same : refusal_number r ≡ 11 = rw e at s in eleven_none_left q (rw same at g)
    says_none_left (found none l e k) s = let never : ◌≡◌ {A = ℕ} 0 11 = rw e at s in absurd (omega arith)

    says_eleven : Backed L q → Lists L q buffer a buffer' → NoneLeft (problem L) q → number_of a ≡ 11
    says_eleven b (refused {r = r} g e k) none = rw e (gives_one (ask_rows L (length buffer) q) (refusal_number r) 11 g (ask_eleven L (length buffer) q sane b none))
    says_eleven b (found h l e k) none = absurd (least_or_none_left (problem L) l none)

-- For a sane catalogue, asking for the first plan and then for the next, or turning a fresh record, over and over, hands out the listing: every sound plan once, in
-- order, and then 11. 11 comes exactly when no sound plan is left, so straight away exactly if there is none.
pub demand_3 : Demand3
demand_3 =
    record {
      askable = asking_some;
      turnable = turning_some;
      asked = λ L answers buffers sane asking. asking_lists L answers buffers asking sane;
      turned = λ L answers records buffers sane turning. turning_lists L answers records buffers turning sane;
      one_listing = λ L Ps Qs. listing_one (problem L);
      none_at_all = λ L buffer a buffer' sane l. (
        λ s P good. says_none_left L buffer sane from_the_start a buffer' l s P good tt,
        λ none. says_eleven L buffer sane from_the_start a buffer' tt l (λ P good u. none P good),
      );
      none_after = λ L set buffer a buffer' sane sound l. (
        says_none_left L buffer sane (after (plan set buffer)) a buffer' l,
        says_eleven L buffer sane (after (plan set buffer)) a buffer' sound l,
      );
    }

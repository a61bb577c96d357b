-- The laws of a listing. There is at most one. Its head is the least plan, and what follows is a list of the same kind for the plans after the head: so asking for
-- the first plan and then for the next walks through it.
use mathlib.Core.Path.{◌≡◌, refl, sym, ◌∙◌}
use mathlib.Core.List.{List, [], ◌∷◌}
use mathlib.Core.Logic.{inl, inr}
use Rattle.basis.specs.Lists.{In}
use Rattle.basis.proofs.Lists.{all_in}
use Rattle.pacsolve.specs.Problem.{Problem}
use Rattle.pacsolve.specs.Plan.{Plan}
use Rattle.pacsolve.specs.Order.{Precedes}
use Rattle.pacsolve.specs.Listing.{Good, Rising, Listing, Asked, from_the_start, after, Wanted, Least, NoneLeft}
use Rattle.pacsolve.proofs.Order.{precedes_irrefl, precedes_trans, precedes_asym}

-- a rising list in which a plan stands exactly if it is good and asked for
pub record Onward (p : Problem) (a : Asked) (Ps : List Plan) : Type 0 where
  pub rising : Rising p Ps
  pub good : (P : Plan) → In P Ps → Good p P
  pub wanted : (P : Plan) → In P Ps → Wanted p a P
  pub complete : (P : Plan) → Good p P → Wanted p a P → In P Ps

module _ (p : Problem) where
  same_head : (P Q : Plan) (Ps Qs : List Plan) → Rising p (P ∷ Ps) → Rising p (Q ∷ Qs) → In P (Q ∷ Qs) → In Q (P ∷ Ps) → P ≡ Q
  same_head P Q Ps Qs r s (inl e) j = e
  same_head P Q Ps Qs r s (inr i) (inl e) = sym e
  same_head P Q Ps Qs r s (inr i) (inr j) = absurd (precedes_asym p (all_in (Precedes p P) Ps r.0 Q j) (all_in (Precedes p Q) Qs s.0 P i))

  -- what stands after the head is not the head
  after_head : (P : Plan) (Ps : List Plan) (R : Plan) → Rising p (P ∷ Ps) → In R Ps → ¬ (R ≡ P)
  after_head P Ps R r i e = precedes_irrefl p P (rw e at (all_in (Precedes p P) Ps r.0 R i))

  pub in_tail : (P R : Plan) (Ps : List Plan) → ¬ (R ≡ P) → In R (P ∷ Ps) → In R Ps
  in_tail P R Ps n (inl e) = absurd (n e)
  in_tail P R Ps n (inr i) = i

  rising_one : (Ps Qs : List Plan) → Rising p Ps → Rising p Qs → ((R : Plan) → In R Ps → In R Qs) → ((R : Plan) → In R Qs → In R Ps) → Ps ≡ Qs
  rising_one [] [] r s f g = refl
  rising_one [] (Q ∷ Qs) r s f g = absurd (g Q (inl refl))
  rising_one (P ∷ Ps) [] r s f g = absurd (f P (inl refl))
  rising_one (P ∷ Ps) (Q ∷ Qs) r s f g =
      let e : P ≡ Q = same_head P Q Ps Qs r s (f P (inl refl)) (g Q (inl refl)) in
      let t : Ps ≡ Qs =
      rising_one Ps Qs r.1 s.1 (λ R i. in_tail Q R Qs (λ h. after_head P Ps R r i (h ∙ sym e)) (f R (inr i)))
      (λ R i. in_tail P R Ps (λ h. after_head Q Qs R s i (h ∙ e)) (g R (inr i))) in
      cc

  -- there is at most one listing
  pub listing_one : {Ps Qs : List Plan} → Listing p Ps → Listing p Qs → Ps ≡ Qs
  listing_one {Ps} {Qs} x y =
      rising_one Ps Qs x.rising y.rising (λ R i. y.complete R (x.good R i)) (λ R i. x.complete R (y.good R i))

  pub onward_from_listing : {Ps : List Plan} → Listing p Ps → Onward p from_the_start Ps
  onward_from_listing l = record { rising = l.rising; good = l.good; wanted = λ P i. tt; complete = λ P g w. l.complete P g }

  -- a plan after one that is asked for is asked for
  later_wanted : (a : Asked) (P Q : Plan) → Wanted p a P → Precedes p P Q → Wanted p a Q
  later_wanted from_the_start P Q w h = tt
  later_wanted (after R) P Q w h = precedes_trans p w h

  pub head_least : (P : Plan) (Ps : List Plan) (Q : Plan) → Rising p (P ∷ Ps) → In Q (P ∷ Ps) → ¬ Precedes p Q P
  head_least P Ps Q r (inl e) h = precedes_irrefl p P (rw e at h)
  head_least P Ps Q r (inr i) h = precedes_asym p h (all_in (Precedes p P) Ps r.0 Q i)

  -- the head is the least
  pub onward_head : {a : Asked} {P : Plan} {Ps : List Plan} → Onward p a (P ∷ Ps) → Least p a P
  onward_head {a} {P} {Ps} l =
      record { good = l.good P (inl refl); wanted = l.wanted P (inl refl); least = λ Q g w. head_least P Ps Q l.rising (l.complete Q g w) }

  -- what follows is for the plans after it
  pub onward_tail : {a : Asked} {P : Plan} {Ps : List Plan} → Onward p a (P ∷ Ps) → Onward p (after P) Ps
  onward_tail {a} {P} {Ps} l =
      record {
        rising = l.rising.1;
        good = λ Q i. l.good Q (inr i);
        wanted = λ Q i. all_in (Precedes p P) Ps l.rising.0 Q i;
        complete = λ Q g w.
            in_tail P Q Ps (λ e. precedes_irrefl p P (rw e at w)) (l.complete Q g (later_wanted a P Q (l.wanted P (inl refl)) w));
      }

  -- at the end there is none
  pub onward_end : {a : Asked} → Onward p a [] → NoneLeft p a
  onward_end l Q g w = l.complete Q g w

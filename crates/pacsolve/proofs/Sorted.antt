-- Good plans put in order, each once: a list of good plans, in any order and with repetitions, has a rising list of the same plans.
use mathlib.Core.Path.{◌≡◌, refl, ◌∙◌}
use mathlib.Core.Bool.{Bool, true, false, ◌&&◌, ◌||◌}
use mathlib.Core.List.{List, [], ◌∷◌}
use mathlib.Core.Logic.{◌⊎◌, inl, inr, ⊎_elim}
use Prim.Native.Nat.{ℕ}
use lib.Dec.{eqb}
use Rattle.basis.specs.Bytes.{All}
use Rattle.basis.specs.Lists.{In}
use Rattle.basis.specs.Tests.{Decides}
use Rattle.basis.proofs.Decide.{decides_by, decides_then, decides_or, decides_eq}
use Rattle.basis.proofs.Lists.{all_in, all_by}
use Rattle.pacsolve.specs.declared.Cost.{Cost}
use Rattle.pacsolve.specs.Problem.{Problem}
use Rattle.pacsolve.specs.Plan.{Plan}
use Rattle.pacsolve.specs.Cost.{cost, numbers}
use Rattle.pacsolve.specs.Order.{Earlier, Precedes, cheaper, tied}
use Rattle.pacsolve.specs.Listing.{Good, Rising}
use Rattle.pacsolve.proofs.Order.{earlier?, earlier_decides, precedes_trans}
use Rattle.pacsolve.proofs.Fixed.{good_total}

abbrev same_cost? : Cost → Cost → Bool
same_cost? c d = eqb c.first d.first && (eqb c.second d.second && eqb c.third d.third)

same_cost_decides : (c d : Cost) → Decides (same_cost? c d) (c ≡ d)
same_cost_decides c d =
    decides_by
    (λ x. λ i. record { first = x.0 i; second = x.1.0 i; third = x.1.1 i })
    (λ e. (λ i. (e i).first, (λ i. (e i).second, λ i. (e i).third)))
    (decides_then (decides_eq c.first d.first) λ x. decides_then (decides_eq c.second d.second) λ y. decides_eq c.third d.third)

module _ (p : Problem) where
  abbrev pub precedes? : Plan → Plan → Bool
  precedes? P Q =
      let c = cost p P.set in
      let d = cost p Q.set in
      earlier? (numbers c) (numbers d) || (same_cost? c d && earlier? P.table Q.table)

  pub precedes_decides : (P Q : Plan) → Decides (precedes? P Q) (Precedes p P Q)
  precedes_decides P Q =
      decides_by joined taken
      (decides_or (earlier_decides (numbers (cost p P.set)) (numbers (cost p Q.set)))
      (decides_then (same_cost_decides (cost p P.set) (cost p Q.set)) (λ e. earlier_decides P.table Q.table)))
    where
      C : Plan → List ℕ
      C R = numbers (cost p R.set)

      joined : Earlier (C P) (C Q) ⊎ ((cost p P.set ≡ cost p Q.set) × Earlier P.table Q.table) → Precedes p P Q
      joined (inl h) = cheaper h
      joined (inr h) = tied h.0 h.1

      taken : Precedes p P Q → Earlier (C P) (C Q) ⊎ ((cost p P.set ≡ cost p Q.set) × Earlier P.table Q.table)
      taken (cheaper h) = inl h
      taken (tied e h) = inr (e, h)

  -- P before Q where it precedes Q, further on where Q precedes it, and not again where neither does
  abbrev settle : Bool → Bool → Plan → Plan → List Plan → List Plan → List Plan
  settle true b P Q Ps Qs = P ∷ Q ∷ Ps
  settle false true P Q Ps Qs = Q ∷ Qs
  settle false false P Q Ps Qs = Q ∷ Ps

  unfoldable pub insert : Plan → List Plan → List Plan
  insert P [] = P ∷ []
  insert P (Q ∷ Ps) = settle (precedes? P Q) (precedes? Q P) P Q Ps (insert P Ps)

  unfoldable pub sorted : List Plan → List Plan
  sorted [] = []
  sorted (P ∷ Ps) = insert P (sorted Ps)

  abbrev AllGood : List Plan → Type 0
  AllGood Ps = (P : Plan) → In P Ps → Good p P

  pub in_insert : (R P : Plan) (Ps : List Plan) → In R (insert P Ps) → (R ≡ P) ⊎ In R Ps
  unfolding insert
  in_insert R P [] i = i
  in_insert R P (Q ∷ Ps) i = go (precedes? P Q) (precedes? Q P) i (in_insert R P Ps)
    where
      go : (a b : Bool) → In R (settle a b P Q Ps (insert P Ps)) → (In R (insert P Ps) → (R ≡ P) ⊎ In R Ps) → (R ≡ P) ⊎ In R (Q ∷ Ps)
      go true b i r = i
      go false true (inl e) r = inr (inl e)
      go false true (inr i) r = ⊎_elim (λ e. inl e) (λ j. inr (inr j)) (r i)
      go false false i r = inr i

  neither_same : (P Q : Plan) → Good p P → Good p Q → ¬ Precedes p P Q → ¬ Precedes p Q P → P ≡ Q
  neither_same P Q g h n m = go (good_total p g h)
    where
      go : Precedes p P Q ⊎ ((P ≡ Q) ⊎ Precedes p Q P) → P ≡ Q
      go (inl x) = absurd (n x)
      go (inr (inl e)) = e
      go (inr (inr x)) = absurd (m x)

  pub insert_in : (R P : Plan) (Ps : List Plan) → Good p P → AllGood Ps → (R ≡ P) ⊎ In R Ps → In R (insert P Ps)
  unfolding insert
  insert_in R P [] g h i = i
  insert_in R P (Q ∷ Ps) g h i = go (precedes? P Q) (precedes? Q P) (precedes_decides P Q) (precedes_decides Q P) i (insert_in R P Ps g (λ S j. h S (inr j)))
    where
      go : (a b : Bool) → Decides a (Precedes p P Q) → Decides b (Precedes p Q P) → (R ≡ P) ⊎ In R (Q ∷ Ps) → ((R ≡ P) ⊎ In R Ps → In R (insert P Ps))
          → In R (settle a b P Q Ps (insert P Ps))
      go true b x y i r = i
      go false true x y (inl e) r = inr (r (inl e))
      go false true x y (inr (inl e)) r = inl e
      go false true x y (inr (inr j)) r = inr (r (inr j))
      go false false x y (inl e) r = inl (e ∙ neither_same P Q g (h Q (inl refl)) x.full y.full)
      go false false x y (inr j) r = j

  pub insert_rising : (P : Plan) (Ps : List Plan) → Good p P → AllGood Ps → Rising p Ps → Rising p (insert P Ps)
  unfolding insert
  insert_rising P [] g h r = (tt, tt)
  insert_rising P (Q ∷ Ps) g h r =
      go (precedes? P Q) (precedes? Q P) (precedes_decides P Q) (precedes_decides Q P) (insert_rising P Ps g (λ S j. h S (inr j)) r.1)
    where
      on_top : Precedes p P Q → All (Precedes p P) Ps
      on_top x = all_by (Precedes p P) Ps (λ S j. precedes_trans p x (all_in (Precedes p Q) Ps r.0 S j))

      under : Precedes p Q P → (S : Plan) → (S ≡ P) ⊎ In S Ps → Precedes p Q S
      under y S (inl e) = rw e y
      under y S (inr j) = all_in (Precedes p Q) Ps r.0 S j

      go : (a b : Bool) → Decides a (Precedes p P Q) → Decides b (Precedes p Q P) → Rising p (insert P Ps) → Rising p (settle a b P Q Ps (insert P Ps))
      go true b x y t = ((x.sure tt, on_top (x.sure tt)), r)
      go false true x y t = (all_by (Precedes p Q) (insert P Ps) (λ S j. under (y.sure tt) S (in_insert S P Ps j)), t)
      go false false x y t = r

  pub in_sorted : (R : Plan) (Ps : List Plan) → In R (sorted Ps) → In R Ps
  unfolding sorted
  in_sorted R [] i = i
  in_sorted R (P ∷ Ps) i = ⊎_elim (λ e. inl e) (λ j. inr (in_sorted R Ps j)) (in_insert R P (sorted Ps) i)

  sorted_good : (Ps : List Plan) → AllGood Ps → AllGood (sorted Ps)
  sorted_good Ps h R i = h R (in_sorted R Ps i)

  pub sorted_in : (R : Plan) (Ps : List Plan) → AllGood Ps → In R Ps → In R (sorted Ps)
  unfolding sorted
  sorted_in R [] h i = i
  sorted_in R (P ∷ Ps) h (inl e) = insert_in R P (sorted Ps) (h P (inl refl)) (sorted_good Ps (λ S j. h S (inr j))) (inl e)
  sorted_in R (P ∷ Ps) h (inr i) =
      insert_in R P (sorted Ps) (h P (inl refl)) (sorted_good Ps (λ S j. h S (inr j))) (inr (sorted_in R Ps (λ S j. h S (inr j)) i))

  pub sorted_rising : (Ps : List Plan) → AllGood Ps → Rising p (sorted Ps)
  unfolding sorted
  sorted_rising [] h = tt
  sorted_rising (P ∷ Ps) h =
      insert_rising P (sorted Ps) (h P (inl refl)) (sorted_good Ps (λ S j. h S (inr j))) (sorted_rising Ps (λ S j. h S (inr j)))

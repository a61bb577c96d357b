-- The order of plans is strict, and total on plans of one size: of two, one precedes the other, or they have the same cost and table.
use mathlib.Core.Path.{◌≡◌, refl, sym, ◌∙◌}
use mathlib.Core.Bool.{Bool, false, ◌&&◌, ◌||◌}
use mathlib.Core.List.{List, [], ◌∷◌, head-eq_of_cons-eq, tail-eq_of_cons-eq}
use mathlib.Core.Logic.{◌⊎◌, inl, inr}
use Prim.Native.Nat.{ℕ, ◌<◌}
use native.Mathlib.Nat.{lt_irrefl}
use native.Mathlib.Decide.{dec_lt}
use native.Mathlib.Omega.{arith}
use lib.ListN.{length}
use lib.Dec.{eqb, ltb}
use Rattle.basis.specs.Tests.{Decides}
use Rattle.basis.proofs.Decide.{decides_by, decides_or, decides_then, decides_eq, decides_lt, decides_never}
use Rattle.pacsolve.specs.declared.Cost.{Cost}
use Rattle.pacsolve.specs.Problem.{Problem}
use Rattle.pacsolve.specs.Plan.{Plan}
use Rattle.pacsolve.specs.Cost.{cost, numbers}
use Rattle.pacsolve.specs.Order.{Earlier, lower, alike, Precedes, cheaper, tied}

-- what an earlier list looks like
abbrev pub Cases : List ℕ → List ℕ → Type 0
Cases [] t = ⊥
Cases (a ∷ s) [] = ⊥
Cases (a ∷ s) (b ∷ t) = (a < b) ⊎ ((a ≡ b) × Earlier s t)

pub earlier_cases : {s t : List ℕ} → Earlier s t → Cases s t
earlier_cases (lower h) = inl h
earlier_cases (alike h) = inr (refl, h)

later : {a b : ℕ} {s t : List ℕ} → a ≡ b → Earlier s t → Earlier (a ∷ s) (b ∷ t)
later {a} {b} {s} {t} e h = rw e (alike h)

lower_same_higher : (a b : ℕ) → (a < b) ⊎ ((a ≡ b) ⊎ (b < a))
lower_same_higher a b = go (dec_lt a b) (dec_lt b a)
  where
    go : Dec (a < b) → Dec (b < a) → (a < b) ⊎ ((a ≡ b) ⊎ (b < a))
    go (yes h) k = inl h
    go (no h) (yes k) = inr (inr k)
    go (no h) (no k) = inr (inl (omega arith))

pub earlier_irrefl : (s : List ℕ) → ¬ Earlier s s
earlier_irrefl [] h = elim h [ ]
earlier_irrefl (a ∷ s) h = go (earlier_cases h) (earlier_irrefl s)
  where
    go : (a < a) ⊎ ((a ≡ a) × Earlier s s) → ¬ Earlier s s → ⊥
    go (inl l) n = lt_irrefl a l
    go (inr x) n = n x.1

pub earlier_trans : (s t u : List ℕ) → Earlier s t → Earlier t u → Earlier s u
earlier_trans [] t u h k = elim h [ ]
earlier_trans (a ∷ s) [] u h k = elim h [ ]
earlier_trans (a ∷ s) (b ∷ t) [] h k = elim k [ ]
earlier_trans (a ∷ s) (b ∷ t) (c ∷ u) h k = go (earlier_cases h) (earlier_cases k) (earlier_trans s t u)
  where
    go : (a < b) ⊎ ((a ≡ b) × Earlier s t) → (b < c) ⊎ ((b ≡ c) × Earlier t u) → (Earlier s t → Earlier t u → Earlier s u) → Earlier (a ∷ s) (c ∷ u)
    go (inl x) (inl y) r = lower {a = a} {b = c} (omega arith)
    go (inl x) (inr y) r = lower {a = a} {b = c} (omega (arith, y.0))
    go (inr x) (inl y) r = lower {a = a} {b = c} (omega (arith, x.0))
    go (inr x) (inr y) r = later (x.0 ∙ y.0) (r x.1 y.1)

pub earlier_total : (s t : List ℕ) → length s ≡ length t → Earlier s t ⊎ ((s ≡ t) ⊎ Earlier t s)
earlier_total [] [] e = inr (inl refl)
earlier_total [] (b ∷ t) e = absurd (omega arith)
earlier_total (a ∷ s) [] e = absurd (omega arith)
earlier_total (a ∷ s) (b ∷ t) e = go (lower_same_higher a b) (earlier_total s t (omega arith))
  where
    go : (a < b) ⊎ ((a ≡ b) ⊎ (b < a)) → Earlier s t ⊎ ((s ≡ t) ⊎ Earlier t s) → Earlier (a ∷ s) (b ∷ t) ⊎ ((a ∷ s ≡ b ∷ t) ⊎ Earlier (b ∷ t) (a ∷ s))
    go (inl x) r = inl (lower x)
    go (inr (inr x)) r = inr (inr (lower x))
    go (inr (inl x)) (inl r) = inl (later x r)
    go (inr (inl x)) (inr (inl r)) = inr (inl (cc))
    go (inr (inl x)) (inr (inr r)) = inr (inr (later (sym x) r))

-- costs are equal where their numbers are
pub same_numbers : (c d : Cost) → numbers c ≡ numbers d → c ≡ d
same_numbers c d e =
    let one = head-eq_of_cons-eq e in
    let two = head-eq_of_cons-eq (tail-eq_of_cons-eq e) in
    let three = head-eq_of_cons-eq (tail-eq_of_cons-eq (tail-eq_of_cons-eq e)) in
    λ i. record { first = one i; second = two i; third = three i }

module _ (p : Problem) where
  pub precedes_irrefl : (P : Plan) → ¬ Precedes p P P
  precedes_irrefl P (cheaper h) = earlier_irrefl _ h
  precedes_irrefl P (tied e h) = earlier_irrefl _ h

  pub precedes_trans : {P Q R : Plan} → Precedes p P Q → Precedes p Q R → Precedes p P R
  precedes_trans (cheaper h) (cheaper k) = cheaper (earlier_trans _ _ _ h k)
  precedes_trans {P} (cheaper h) (tied e k) = cheaper (rw (← e) h)
  precedes_trans (tied e h) (cheaper k) = cheaper (rw e k)
  precedes_trans (tied e h) (tied f k) = tied (e ∙ f) (earlier_trans _ _ _ h k)

  pub precedes_asym : {P Q : Plan} → Precedes p P Q → ¬ Precedes p Q P
  precedes_asym {P} h k = precedes_irrefl P (precedes_trans h k)

  pub precedes_total : (P Q : Plan) → length P.table ≡ length Q.table → Precedes p P Q ⊎ ((P.table ≡ Q.table) ⊎ Precedes p Q P)
  precedes_total P Q e = go (earlier_total (numbers (cost p P.set)) (numbers (cost p Q.set)) refl) (earlier_total P.table Q.table e)
    where
      C : Plan → List ℕ
      C R = numbers (cost p R.set)

      go : Earlier (C P) (C Q) ⊎ ((C P ≡ C Q) ⊎ Earlier (C Q) (C P)) → Earlier P.table Q.table ⊎ ((P.table ≡ Q.table) ⊎ Earlier Q.table P.table)
          → Precedes p P Q ⊎ ((P.table ≡ Q.table) ⊎ Precedes p Q P)
      go (inl x) r = inl (cheaper x)
      go (inr (inr x)) r = inr (inr (cheaper x))
      go (inr (inl x)) (inl r) = inl (tied (same_numbers _ _ x) r)
      go (inr (inl x)) (inr (inl r)) = inr (inl r)
      go (inr (inl x)) (inr (inr r)) = inr (inr (tied (sym (same_numbers _ _ x)) r))

-- the test of the order
abbrev pub earlier? : List ℕ → List ℕ → Bool
earlier? [] t = false
earlier? (a ∷ s) [] = false
earlier? (a ∷ s) (b ∷ t) = ltb a b || (eqb a b && earlier? s t)

pub earlier_decides : (s t : List ℕ) → Decides (earlier? s t) (Earlier s t)
earlier_decides [] t = decides_by (λ x. absurd x) earlier_cases decides_never
earlier_decides (a ∷ s) [] = decides_by (λ x. absurd x) earlier_cases decides_never
earlier_decides (a ∷ s) (b ∷ t) =
    decides_by joined earlier_cases (decides_or (decides_lt a b) (decides_then (decides_eq a b) (λ e. earlier_decides s t)))
  where
    joined : (a < b) ⊎ ((a ≡ b) × Earlier s t) → Earlier (a ∷ s) (b ∷ t)
    joined (inl h) = lower h
    joined (inr x) = later x.0 x.1

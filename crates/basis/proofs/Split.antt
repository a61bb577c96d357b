-- Lists of bytes cut in two: where each part's property holds or not, so does that of some cut.
use mathlib.Core.Path.{◌≡◌, refl, sym, ap}
use mathlib.Core.List.{List, [], ◌∷◌, ◌++◌, head-eq_of_cons-eq, tail-eq_of_cons-eq, nil≢cons, cons≢nil}
use mathlib.Core.Logic.{◌⊎◌, inl, inr, ⊎_elim}
use Prim.Native.Nat.{ℕ}
use native.Mathlib.Decide.{ℕ_discrete}

-- some cut of l has P before it and Q after it
pub record Cut (P Q : List ℕ → Type 0) (l : List ℕ) : Type 0 where
  pub before : List ℕ
  pub after : List ℕ
  pub first : P before
  pub second : Q after
  pub whole : l ≡ before ++ after

pub cut_or_not : {P Q : List ℕ → Type 0} → ((l : List ℕ) → Dec (P l)) → ((l : List ℕ) → Dec (Q l)) → (l : List ℕ) → Dec (Cut P Q l)
cut_or_not {P} {Q} p q [] = go (p []) (q [])
  where
    ends : (b a : List ℕ) → ◌≡◌ {A = List ℕ} [] (b ++ a) → (b ≡ []) × (a ≡ [])
    ends [] a e = (refl, sym e)
    ends (x ∷ b) a e = absurd (nil≢cons e)

    go : Dec (P []) → Dec (Q []) → Dec (Cut P Q [])
    go (yes x) (yes y) = yes (record { before = []; after = []; first = x; second = y; whole = refl })
    go (no n) y = no (λ c. n (rw (ends c.before c.after c.whole).0 at c.first))
    go (yes x) (no n) = no (λ c. n (rw (ends c.before c.after c.whole).1 at c.second))
cut_or_not {P} {Q} p q (a ∷ l) = go (p []) (q (a ∷ l)) (cut_or_not (λ b. p (a ∷ b)) q l)
  where
    Later : Type 0
    Later = Cut (λ b. P (a ∷ b)) Q l

    put : Later → Cut P Q (a ∷ l)
    put c = record { before = a ∷ c.before; after = c.after; first = c.first; second = c.second; whole = ap (λ (t : List ℕ). a ∷ t) c.whole }

    found : (b c : List ℕ) → P b → Q c → a ∷ l ≡ b ++ c → (P [] × Q (a ∷ l)) ⊎ Later
    found [] c x y e = inl (x, rw (← e) at y)
    found (b ∷ bs) c x y e =
        inr (record { before = bs; after = c; first = rw (← (head-eq_of_cons-eq e)) at x; second = y; whole = tail-eq_of_cons-eq e })

    no_cut : ¬ (P [] × Q (a ∷ l)) → ¬ Later → ¬ Cut P Q (a ∷ l)
    no_cut u v c = ⊎_elim u v (found c.before c.after c.first c.second c.whole)

    go : Dec (P []) → Dec (Q (a ∷ l)) → Dec Later → Dec (Cut P Q (a ∷ l))
    go (yes x) (yes y) r = yes (record { before = []; after = a ∷ l; first = x; second = y; whole = refl })
    go (yes x) (no n) (yes c) = yes (put c)
    go (no n) y (yes c) = yes (put c)
    go (yes x) (no n) (no m) = no (no_cut (λ z. n z.1) m)
    go (no n) y (no m) = no (no_cut (λ z. n z.0) m)

-- two lists of numbers are equal or not
pub equal_or_not : (l m : List ℕ) → Dec (l ≡ m)
equal_or_not [] [] = yes refl
equal_or_not [] (b ∷ m) = no (λ e. nil≢cons e)
equal_or_not (a ∷ l) [] = no (λ e. cons≢nil e)
equal_or_not (a ∷ l) (b ∷ m) = go (ℕ_discrete a b) (equal_or_not l m)
  where
    go : Dec (a ≡ b) → Dec (l ≡ m) → Dec (a ∷ l ≡ b ∷ m)
    go (yes e) (yes f) = yes (cc)
    go (yes e) (no n) = no (λ f. n (tail-eq_of_cons-eq f))
    go (no n) f = no (λ g. n (head-eq_of_cons-eq g))

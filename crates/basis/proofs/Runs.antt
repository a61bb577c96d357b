-- Runs of bytes of one kind: what holds of each byte of two lists holds of both joined, and a run that ends at a byte of another kind, or with the text,
-- is fixed by the whole.
use mathlib.Core.Path.{◌≡◌, refl}
use mathlib.Core.List.{List, [], ◌∷◌, ◌++◌, head-eq_of_cons-eq, tail-eq_of_cons-eq, nil≢cons, cons≢nil}
use Prim.Native.Nat.{ℕ}
use Rattle.basis.specs.Bytes.{All}

pub all_append : (P : ℕ → Type 0) (xs ys : List ℕ) → All P xs → All P ys → All P (xs ++ ys)
all_append P [] ys p q = q
all_append P (x ∷ xs) ys p q = (p.0, all_append P xs ys p.1 q)

pub all_weaken : (P Q : ℕ → Type 0) → ((b : ℕ) → P b → Q b) → (xs : List ℕ) → All P xs → All Q xs
all_weaken P Q f [] p = tt
all_weaken P Q f (x ∷ xs) p = (f x p.0, all_weaken P Q f xs p.1)

-- no byte with P stands here
abbrev pub Stops : (ℕ → Type 0) → List ℕ → Type 0
Stops P [] = Unit {0}
Stops P (a ∷ s) = ¬ P a

pub run_stops : (P : ℕ → Type 0) (xs ys s t : List ℕ) → All P xs → All P ys → Stops P s → Stops P t → xs ++ s ≡ ys ++ t → (xs ≡ ys) × (s ≡ t)
run_stops P [] [] s t p q u v e = (refl, e)
run_stops P [] (y ∷ ys) [] t p q u v e = absurd (nil≢cons e)
run_stops P [] (y ∷ ys) (a ∷ s) t p q u v e = absurd (u (rw (← (head-eq_of_cons-eq e)) at q.0))
run_stops P (x ∷ xs) [] s [] p q u v e = absurd (cons≢nil e)
run_stops P (x ∷ xs) [] s (b ∷ t) p q u v e = absurd (v (rw (head-eq_of_cons-eq e) at p.0))
run_stops P (x ∷ xs) (y ∷ ys) s t p q u v e =
    let r = run_stops P xs ys s t p.1 q.1 u v (tail-eq_of_cons-eq e) in (cc (head-eq_of_cons-eq e, r.0), r.1)

-- a run before a byte of another kind
pub run_ends : (P : ℕ → Type 0) (xs ys : List ℕ) {a b : ℕ} {s t : List ℕ} → All P xs → All P ys → ¬ P a → ¬ P b → xs ++ (a ∷ s) ≡ ys ++ (b ∷ t)
    → (xs ≡ ys) × (a ∷ s ≡ b ∷ t)
run_ends P xs ys {a} {b} {s} {t} p q na nb e = run_stops P xs ys (a ∷ s) (b ∷ t) p q na nb e

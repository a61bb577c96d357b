-- Tests that compute, and the propositions that they decide: one law for each way of putting tests together.
use mathlib.Core.Path.{◌≡◌, subst}
use mathlib.Core.Bool.{Bool, true, false, not, ◌&&◌, ◌||◌}
use mathlib.Core.Logic.{◌⊎◌, inl, inr, ⊎_elim}
use Prim.Native.Nat.{ℕ, zero, suc, ◌≤◌, ◌<◌}
use native.Mathlib.Nat.{not-suc-le-zero, le_refl}
use native.Mathlib.Omega.{arith}
use Rattle.basis.specs.Tests.{Decides}
use lib.Dec.{T, eqb, ltb, leb, eqb→eq, eqb_refl, ltb→lt, lt→ltb, leb→le, le→leb, T_not, not_T}

dec_bool : (b : Bool) → Dec (T b)
dec_bool true = yes tt
dec_bool false = no (λ t. t)

-- so the proposition holds or not
pub decided : {b : Bool} {A : Type 0} → Decides b A → Dec A
decided {b} {A} d = go (dec_bool b)
  where
    go : Dec (T b) → Dec A
    go (yes t) = yes (d.sure t)
    go (no n) = no (λ a. n (d.full a))

-- the test of a proposition that holds or not
pub as_test : {A : Type 0} → Dec A → Bool
as_test (yes a) = true
as_test (no n) = false

pub as_test_decides : {A : Type 0} (d : Dec A) → Decides (as_test d) A
unfolding as_test
as_test_decides (yes a) = record { sure = λ t. a; full = λ a'. tt }
as_test_decides (no n) = record { sure = λ t. absurd t; full = λ a. n a }

-- a proposition that holds exactly if another does has its test
pub decides_by : {b : Bool} {A B : Type 0} → (A → B) → (B → A) → Decides b A → Decides b B
decides_by f g d = record { sure = λ t. f (d.sure t); full = λ x. d.full (g x) }

pub decides_unit : Decides true (Unit {0})
decides_unit = record { sure = λ t. tt; full = λ u. tt }

pub decides_never : Decides false ⊥
decides_never = record { sure = λ t. t; full = λ x. x }

and_T : (a b : Bool) → T a → T b → T (a && b)
and_T true b x y = y
and_T false b x y = x

T_and : (a b : Bool) → T (a && b) → T a × T b
T_and true b t = (tt, t)
T_and false b t = absurd t

or_T : (a b : Bool) → T a ⊎ T b → T (a || b)
or_T true b x = tt
or_T false b (inl x) = absurd x
or_T false b (inr y) = y

T_or : (a b : Bool) → T (a || b) → T a ⊎ T b
T_or true b t = inl tt
T_or false b t = inr t

-- both, where the second matters only if the first holds
pub decides_then : {a b : Bool} {A B : Type 0} → Decides a A → (A → Decides b B) → Decides (a && b) (A × B)
decides_then {a} {b} d e =
    record {
      sure = λ t. let p = T_and a b t in let x = d.sure p.0 in (x, (e x).sure p.1);
      full = λ x. and_T a b (d.full x.0) ((e x.0).full x.1);
    }

pub decides_and : {a b : Bool} {A B : Type 0} → Decides a A → Decides b B → Decides (a && b) (A × B)
decides_and d e = decides_then d (λ a. e)

pub decides_or : {a b : Bool} {A B : Type 0} → Decides a A → Decides b B → Decides (a || b) (A ⊎ B)
decides_or {a} {b} {A} {B} d e = record { sure = λ t. in_A (T_or a b t); full = λ x. or_T a b (in_T x) }
  where
    in_A : T a ⊎ T b → A ⊎ B
    in_A (inl t) = inl (d.sure t)
    in_A (inr t) = inr (e.sure t)

    in_T : A ⊎ B → T a ⊎ T b
    in_T (inl x) = inl (d.full x)
    in_T (inr y) = inr (e.full y)

pub decides_not : {a : Bool} {A : Type 0} → Decides a A → Decides (not a) (¬ A)
decides_not {a} d = record { sure = λ t x. T_not a t (d.full x); full = λ n. not_T a (λ t. n (d.sure t)) }

-- an implication, whose conclusion matters only where the premise holds
pub decides_if : {a b : Bool} {A B : Type 0} → Decides a A → (A → Decides b B) → Decides (not a || b) (A → B)
decides_if {a} {b} {A} {B} d e = record { sure = λ t x. concluded (T_or (not a) b t) x; full = λ f. or_T (not a) b (by_cases (decided d) f) }
  where
    concluded : T (not a) ⊎ T b → A → B
    concluded (inl t) x = absurd (T_not a t (d.full x))
    concluded (inr t) x = (e x).sure t

    by_cases : Dec A → (A → B) → T (not a) ⊎ T b
    by_cases (yes x) f = inr ((e x).full (f x))
    by_cases (no n) f = inl (not_T a (λ t. n (d.sure t)))

pub decides_eq : (m n : ℕ) → Decides (eqb m n) (m ≡ n)
decides_eq m n = record { sure = eqb→eq m n; full = λ e. subst (λ (k : ℕ). T (eqb m k)) e (eqb_refl m) }

pub decides_lt : (m n : ℕ) → Decides (ltb m n) (m < n)
decides_lt m n = record { sure = ltb→lt m n; full = lt→ltb m n }

pub decides_le : (m n : ℕ) → Decides (leb m n) (m ≤ n)
decides_le m n = record { sure = leb→le m n; full = le→leb m n }

-- two propositions that hold or not, joined
pub both_or_not : {A B : Type 0} → Dec A → Dec B → Dec (A × B)
both_or_not (yes a) (yes b) = yes (a, b)
both_or_not (yes a) (no n) = no (λ p. n p.1)
both_or_not (no n) b = no (λ p. n p.0)

pub either_or_not : {A B : Type 0} → Dec A → Dec B → Dec (A ⊎ B)
either_or_not (yes a) b = yes (inl a)
either_or_not (no n) (yes b) = yes (inr b)
either_or_not (no n) (no m) = no (λ x. ⊎_elim n m x)

pub not_or_not : {A : Type 0} → Dec A → Dec (¬ A)
not_or_not (yes a) = no (λ n. n a)
not_or_not (no n) = yes n

-- a proposition that holds exactly if another does
pub or_not_by : {A B : Type 0} → (A → B) → (B → A) → Dec A → Dec B
or_not_by f g (yes a) = yes (f a)
or_not_by f g (no n) = no (λ b. n (g b))

-- a test at every number below n, and at some
abbrev pub every : (ℕ → Bool) → ℕ → Bool
every f zero = true
every f (suc n) = f n && every f n

abbrev pub some_of : (ℕ → Bool) → ℕ → Bool
some_of f zero = false
some_of f (suc n) = f n || some_of f n

pub below_suc : {k n : ℕ} → k < suc n → (k ≡ n) ⊎ (k < n)
below_suc {k} {n} h = go (decided (decides_lt k n))
  where
    go : Dec (k < n) → (k ≡ n) ⊎ (k < n)
    go (yes l) = inr l
    go (no m) = inl (omega arith)

pub decides_every : {f : ℕ → Bool} {A : ℕ → Type 0} (n : ℕ) → ((k : ℕ) → k < n → Decides (f k) (A k)) → Decides (every f n) ((k : ℕ) → k < n → A k)
decides_every zero d = record { sure = λ t k h. absurd (not-suc-le-zero h); full = λ a. tt }
decides_every {f} {A} (suc n) d =
    let rest = decides_every n (λ k h. d k (omega arith)) in
    record {
      sure = λ t k h. let p = T_and (f n) (every f n) t in at ((d n (le_refl (suc n))).sure p.0) (rest.sure p.1) k (below_suc h);
      full = λ a. and_T (f n) (every f n) ((d n (le_refl (suc n))).full (a n (le_refl (suc n)))) (rest.full (λ k h. a k (omega arith)));
    }
  where
    at : A n → ((k : ℕ) → k < n → A k) → (k : ℕ) → (k ≡ n) ⊎ (k < n) → A k
    at x r k (inl e) = rw e x
    at x r k (inr h) = r k h

pub decides_some : {f : ℕ → Bool} {A : ℕ → Type 0} (n : ℕ) → ((k : ℕ) → k < n → Decides (f k) (A k)) → Decides (some_of f n) ((k : ℕ) × (k < n) × A k)
decides_some zero d = record { sure = λ t. absurd t; full = λ x. not-suc-le-zero x.1 }
decides_some {f} {A} (suc n) d =
    let rest = decides_some n (λ k h. d k (omega arith)) in
    record {
      sure = λ t. found (λ s. (d n (le_refl (suc n))).sure s) (λ s. rest.sure s) (T_or (f n) (some_of f n) t);
      full = λ x. or_T (f n) (some_of f n) (kept (λ y. (d n (le_refl (suc n))).full y) (λ y. rest.full y) x.0 x.2 (below_suc x.1));
    }
  where
    found : (T (f n) → A n) → (T (some_of f n) → (k : ℕ) × (k < n) × A k) → T (f n) ⊎ T (some_of f n) → (k : ℕ) × (k < suc n) × A k
    found here there (inl t) = (n, le_refl (suc n), here t)
    found here there (inr t) = let x = there t in (x.0, omega (arith, x.1), x.2)

    kept : (A n → T (f n)) → ((k : ℕ) × (k < n) × A k → T (some_of f n)) → (k : ℕ) → A k → (k ≡ n) ⊎ (k < n) → T (f n) ⊎ T (some_of f n)
    kept here there k x (inl e) = inl (here (rw e at x))
    kept here there k x (inr h) = inr (there (k, h, x))

-- what holds or not of each number holds or not of some number below n
pub some_or_not : {A : ℕ → Type 0} (n : ℕ) → ((k : ℕ) → Dec (A k)) → Dec ((k : ℕ) × (k < n) × A k)
some_or_not n d = decided (decides_some n (λ k h. as_test_decides (d k)))

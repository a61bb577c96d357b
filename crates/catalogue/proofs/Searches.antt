-- What a search through numbers decides: true at the first that is found, false where none of those passed was it; and a list that is filled from the front.
use mathlib.Core.Path.{◌≡◌, refl, ◌∙◌}
use mathlib.Core.Bool.{Bool, true, false}
use mathlib.Core.List.{List, [], ◌∷◌}
use mathlib.Core.Logic.{◌⊎◌, inl, inr, ⊎_elim}
use Prim.Native.Nat.{ℕ, zero, suc, ◌+◌, ◌-◌, ◌≤◌, ◌<◌}
use native.Mathlib.Nat.{not-suc-le-zero}
use native.Mathlib.Omega.{arith}
use denote.Param.Members.{Mut}
use lib.Dec.{T}
use lib.ListN.{length, get_or, set, take, replicate}
use lib.Seq.{get_or-set_same, get_or-set_other}
use borrow.Author.Count.{below_more}
use Rattle.std.specs.Prelude.{Option, MatchOption, MatchBool}
use Rattle.std.specs.declared.ops.Range.{Range}
use Rattle.std.specs.Fn.{Called}
use Rattle.std.specs.Iterator.{YieldsThen}
use Rattle.std.specs.List.{FoldsTo, list_any, HoldsAt, AllWithin, range_with_len}
use Rattle.std.proofs.iter.Yields.{nat_range_steps}
use Rattle.std.proofs.lemmas.Iterator.{YieldsList-from_range, cases_from_any}
use Rattle.std.proofs.lemmas.List.FromFn.{length-range_with_len, get_or-range_with_len}
use Rattle.basis.specs.Tests.{Decides}
use Rattle.basis.proofs.Answers.{answer_yes, answer_no}
use Rattle.basis.proofs.Decide.{decides_by, decides_or}

-- none of two
pub neither : {A B : Type 0} → ¬ A → ¬ B → ¬ (A ⊎ B)
neither a b x = ⊎_elim a b x

-- what `any` over a range of numbers tells of its run: the numbers that were denied, and the one granted or the range's end
abbrev pub AnyRan : {F : Type 0} → Mut F (ℕ × Unit {0}) Bool → Range ℕ → Range ℕ → F → Bool → Type 0
AnyRan {F} g s u f r =
    (xs : List ℕ)
    × (o : Option ℕ)
    × (j : F)
    × YieldsThen nat_range_steps s xs o u
    × FoldsTo (λ p x q. Called g p (x, tt) false q) f xs j
    × MatchOption o (r ≡ false) (λ x. (r ≡ true) × ((h : F) × Called g j (x, tt) true h))

-- `any` over a range of numbers, by what its closure decides of each
pub some_in_range : {F : Type 0} {g : Mut F (ℕ × Unit {0}) Bool} (s u : Range ℕ) (f : F) (r : Bool) (P : ℕ → Type 0)
    → AnyRan g s u f r
    → ((x : ℕ) (q : F) → Called g f (x, tt) true q → P x) → ((x : ℕ) (q : F) → Called g f (x, tt) false q → (q ≡ f) × ¬ P x)
    → Decides r ((k : ℕ) × (s.start ≤ k) × (k < s.end) × P k)
some_in_range s u f r P d yes' no' = by r (cases_from_any u f r P (λ k. ¬ P k) d (YieldsList-from_range s.start s.end _ refl refl) yes' no')
  where
    n : ℕ
    n = s.end - s.start

    all : List ℕ
    all = range_with_len s.start n

    long : length all ≡ n
    long = length-range_with_len s.start n

    by : (b : Bool) → MatchBool b ((k : ℕ) × (k < length all) × HoldsAt P all k) (AllWithin (λ k. ¬ P k) all 0 (length all))
        → Decides b ((k : ℕ) × (s.start ≤ k) × (k < s.end) × P k)
    by true h =
        let i : h.0 < n = omega (arith, long, h.1) in
        answer_yes (s.start + h.0, omega arith, omega arith, rw (get_or-range_with_len s.start n h.0 0 i) at (h.2 0))
    by false h =
        answer_no (λ x. let i : x.0 - s.start < n = omega (arith, x.1, x.2) in
        let there : s.start + (x.0 - s.start) ≡ x.0 = omega (arith, x.1) in
        rw (get_or-range_with_len s.start n (x.0 - s.start) 0 i, there) at (h (x.0 - s.start) 0 (omega arith) (omega (arith, long))) x.3)

-- in particular over the numbers below one
pub some_below : {F : Type 0} {g : Mut F (ℕ × Unit {0}) Bool} {s u : Range ℕ} {f : F} {r : Bool} {P : ℕ → Type 0} → s.start ≡ 0
    → AnyRan g s u f r
    → ((x : ℕ) (q : F) → Called g f (x, tt) true q → P x) → ((x : ℕ) (q : F) → Called g f (x, tt) false q → (q ≡ f) × ¬ P x)
    → Decides r ((k : ℕ) × (k < s.end) × P k)
some_below {s = s} {u} {f} {r} {P} z d yes' no' =
    decides_by (λ x. (x.0, x.2, x.3)) (λ x. (x.0, omega (arith, z), x.1, x.2)) (some_in_range s u f r P d yes' no')

-- whether a test holds of an item before place i
pub some_before : {A : Type 0} (test : A → Bool) (xs : List A) (i : ℕ) → i ≤ length xs
    → Decides (list_any test (take i xs)) ((j : ℕ) × (j < i) × HoldsAt (λ x. T (test x)) xs j)
some_before test xs zero h = answer_no (λ x. not-suc-le-zero x.1)
some_before test [] (suc i) h = absurd (not-suc-le-zero h)
some_before {A} test (x ∷ xs) (suc i) h = decides_by from (λ y. into y.0 y.1 y.2) (decides_or here (some_before test xs i (omega (arith, h))))
  where
    here : Decides (test x) (T (test x))
    here = record { sure = λ t. t; full = λ t. t }

    from : T (test x) ⊎ ((j : ℕ) × (j < i) × HoldsAt (λ x. T (test x)) xs j) → (j : ℕ) × (j < suc i) × HoldsAt (λ x. T (test x)) (x ∷ xs) j
    from (inl t) = (0, omega arith, λ d. t)
    from (inr y) = (suc y.0, omega (arith, y.1), y.2)

    into : (j : ℕ) → j < suc i → HoldsAt (λ x. T (test x)) (x ∷ xs) j → T (test x) ⊎ ((j : ℕ) × (j < i) × HoldsAt (λ x. T (test x)) xs j)
    into zero l t = inl (t x)
    into (suc j) l t = inr (j, omega (arith, l), t)

-- a list that is filled from the front: with a store of f i at i, what held below i holds below i + 1
pub filled_more : (f : ℕ → ℕ) (l : List ℕ) (i v : ℕ) → i < length l → v ≡ f i → ((k : ℕ) → k < i → get_or l k 0 ≡ f k)
    → (k : ℕ) → k < i + 1 → get_or (set l i v) k 0 ≡ f k
filled_more f l i v h e below =
    below_more (λ k. get_or (set l i v) k 0 ≡ f k) i (λ k s. get_or-set_other l i k v 0 (λ q. omega arith) ∙ below k s) (get_or-set_same l i v 0 h ∙ e)

-- a list of zeros has 0 everywhere
pub zero_at : (n s : ℕ) → ◌≡◌ {A = ℕ} (get_or (replicate n 0) s 0) 0
zero_at zero s = refl
zero_at (suc n) zero = refl
zero_at (suc n) (suc s) = zero_at n s

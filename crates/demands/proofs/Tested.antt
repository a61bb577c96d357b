-- A test together with the proposition that it decides. The Boolean is read off the laws that decide, so no test is written beside its proof.
use mathlib.Core.Bool.{Bool, true, false}
use mathlib.Core.List.{List, [], ◌∷◌, head-eq_of_cons-eq, tail-eq_of_cons-eq, nil≢cons, cons≢nil}
use mathlib.Core.Path.{◌≡◌, refl}
use Prim.Native.Nat.{ℕ, ◌<◌}
use lib.Dec.{T}
use Rattle.basis.specs.Bytes.{All}
use Rattle.basis.specs.Tests.{Decides}
use Rattle.basis.proofs.Decide.{decides_by, decides_unit, decides_never, decides_and, decides_eq, every, decides_every}

abbrev pub Test : Type 0 → Type 0
Test A = (b : Bool) × Decides b A

-- what is tested of each element is tested of all of a list
abbrev pub all_tested : {A : Type 0} (P : A → Type 0) → ((a : A) → Test (P a)) → (l : List A) → Test (All P l)
all_tested P t [] = (true, decides_unit)
all_tested P t (a ∷ l) = (_, decides_and (t a).1 (all_tested P t l).1)

-- whether two lists of numbers are the same
abbrev pub same_tested : (l m : List ℕ) → Test (l ≡ m)
same_tested [] [] = (true, decides_by (λ u. refl) (λ e. tt) decides_unit)
same_tested [] (b ∷ m) = (false, decides_by (λ x. absurd x) (λ e. nil≢cons e) decides_never)
same_tested (a ∷ l) [] = (false, decides_by (λ x. absurd x) (λ e. cons≢nil e) decides_never)
same_tested (a ∷ l) (b ∷ m) =
    (_, decides_by (λ p i. p.0 i ∷ p.1 i) (λ e. (head-eq_of_cons-eq e, tail-eq_of_cons-eq e)) (decides_and (decides_eq a b) (same_tested l m).1))

-- a test that passes at every number below n passes at each
pub every_at : (f : ℕ → Bool) (n : ℕ) → T (every f n) → (k : ℕ) → k < n → T (f k)
every_at f n t = (decides_every n (λ k h. record { sure = λ u. u; full = λ u. u })).sure t

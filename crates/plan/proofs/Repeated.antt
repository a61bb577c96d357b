-- Whether an entry has an earlier member of its package is a term of the sum that duplicates come down to.
use mathlib.Core.Path.{◌≡◌, sym, ap, ap₂, ◌∙◌}
use mathlib.Core.Bool.{Bool, true, false}
use mathlib.Core.List.{List}
use Prim.Native.Nat.{ℕ, ◌*◌}
use native.Mathlib.Nat.{zero-mul, mul-zero}
use native.Mathlib.Omega.{arith}
use borrow.Author.Tests.{eq-eqb, ne_eqb}
use Rattle.std.specs.Int.{from_bool}
use Rattle.basis.specs.Tests.{Decides}
use Rattle.basis.specs.Sum.{sum, same, one_if}
use Rattle.basis.proofs.Sums.{sum_zero, term_le}
use Rattle.bitset.specs.Bits.{bit, Member}
use Rattle.bitset.proofs.Sets.{member_or_not, bit_of_none}
use Rattle.pacsolve.proofs.Duplicates.{some?}
use Rattle.plan.specs.Pairs.{field}
use Rattle.plan.specs.Repeats.{Repeated}

-- how many members before e are of its package
abbrev pub before : List ℕ → ℕ → ℕ → ℕ
before entries set e = sum (λ d. bit set d * same (field entries d 0) (field entries e 0)) e

-- 1 for an entry with an earlier member of its package
abbrev pub repeats : List ℕ → ℕ → ℕ → ℕ
repeats entries set e = some? (before entries set e)

module _ (entries : List ℕ) (set e : ℕ) where
  -- d counts, or does not
  counts : (d : ℕ) → Member set d → field entries d 0 ≡ field entries e 0 → bit set d * same (field entries d 0) (field entries e 0) ≡ 1
  counts d m k = ap₂ (λ (x y : ℕ). x * y) m (ap one_if (eq-eqb (field entries d 0) (field entries e 0) k))

  counts_not : (d : ℕ) → ¬ (Member set d × (field entries d 0 ≡ field entries e 0)) → bit set d * same (field entries d 0) (field entries e 0) ≡ 0
  counts_not d n = go (member_or_not set d)
    where
      go : Dec (Member set d) → bit set d * same (field entries d 0) (field entries e 0) ≡ 0
      go (yes m) = ap (λ (x : ℕ). bit set d * x) (ap one_if (ne_eqb (field entries d 0) (field entries e 0) (λ k. n (m, k)))) ∙ mul-zero (bit set d)
      go (no f) = ap (λ (x : ℕ). x * same (field entries d 0) (field entries e 0)) (bit_of_none set d f) ∙ zero-mul (same (field entries d 0) (field entries e 0))

  repeats_yes : Repeated entries set e → repeats entries set e ≡ 1
  repeats_yes f =
      let one : bit set f.0 * same (field entries f.0 0) (field entries e 0) ≡ 1 = counts f.0 f.2.0 f.2.1 in
      let term = term_le (λ d. bit set d * same (field entries d 0) (field entries e 0)) e f.0 f.1 in
      let above : same (before entries set e) 0 ≡ 0 = ap one_if (ne_eqb (before entries set e) 0 (λ z. omega (arith, term, one))) in
      omega (arith, above)

  repeats_no : ¬ Repeated entries set e → repeats entries set e ≡ 0
  repeats_no n =
      ap some? (sum_zero (λ d. bit set d * same (field entries d 0) (field entries e 0)) e (λ d h. counts_not d (λ p. n (d, h, p))))

  -- as a number
  pub repeats_counted : (b : Bool) (q r : ℕ) → Decides b (Repeated entries set e) → q ≡ from_bool b → r ≡ q → r ≡ repeats entries set e
  repeats_counted true q r d f g = g ∙ f ∙ sym (repeats_yes (d.sure tt))
  repeats_counted false q r d f g = g ∙ f ∙ sym (repeats_no (λ x. d.full x))

-- Duplicates, however computed, are each package's members less one, summed. Three ways agree: over the packages by their first entries, which is the definition;
-- over all package numbers below a bound; and over the members, counting those with an earlier member of their package.
use mathlib.Core.Path.{◌≡◌, refl, sym, ap, ◌∙◌}
use mathlib.Core.Logic.{◌⊎◌, inl, inr}
use Prim.Native.Nat.{ℕ, zero, suc, ◌+◌, ◌-◌, ◌*◌, ◌<◌}
use native.Mathlib.Decide.{ℕ_discrete}
use native.Mathlib.Nat.{zero-mul, mul-zero, one-mul, add-zero}
use native.Mathlib.Omega.{arith}
use borrow.Author.Tests.{eq-eqb, ne_eqb}
use Rattle.basis.specs.Sum.{sum, same, one_if}
use Rattle.basis.proofs.Sums.{sum_same, sum_changed, term_le, sum_zero}
use Rattle.bitset.specs.Bits.{bit}
use Rattle.bitset.proofs.Sets.{bit_cases}
use Rattle.pacsolve.specs.Problem.{Problem}
use Rattle.pacsolve.specs.Cost.{members_of, earlier, duplicates_of}

same_yes : (a b : ℕ) → a ≡ b → same a b ≡ 1
same_yes a b e = ap one_if (eq-eqb a b e)

same_no : (a b : ℕ) → ¬ (a ≡ b) → same a b ≡ 0
same_no a b n = ap one_if (ne_eqb a b n)

-- 1 where a number is above 0, else 0
abbrev pub some? : ℕ → ℕ
some? n = 1 - same n 0

some_zero : (n : ℕ) → n ≡ 0 → some? n ≡ 0
some_zero n e = omega (arith, same_yes n 0 e)

some_above : (n : ℕ) → 0 < n → some? n ≡ 1
some_above n h = omega (arith, same_no n 0 (λ e. omega arith))

-- g is counted once, at the first
counted_at_first : (t g : ℕ) → some? (t + 1) * g ≡ some? t * g + same t 0 * g
counted_at_first t g = go (ℕ_discrete t 0)
  where
    go : Dec (t ≡ 0) → some? (t + 1) * g ≡ some? t * g + same t 0 * g
    go (yes e) = rw (some_above (t + 1) (omega arith), some_zero t e, same_yes t 0 e) (omega arith)
    go (no n) = rw (some_above (t + 1) (omega arith), some_above t (omega arith), same_no t 0 n) (omega arith)

-- one more of t, less one, is t less one and one if there were any
less_one : (t : ℕ) → t + 1 - 1 ≡ t - 1 + some? t
less_one t = go (ℕ_discrete t 0)
  where
    go : Dec (t ≡ 0) → t + 1 - 1 ≡ t - 1 + some? t
    go (yes e) = omega (arith, some_zero t e)
    go (no n) = omega (arith, some_above t (omega arith))

module _ (kind : ℕ → ℕ) where
  -- how many numbers below n are of kind k
  tally : ℕ → ℕ → ℕ
  tally n k = sum (λ d. same (kind d) k) n

  -- what is counted at the first of each kind is counted once for each kind that occurs
  by_kinds : (g : ℕ → ℕ) (K n : ℕ) → ((e : ℕ) → e < n → kind e < K)
      → sum (λ e. same (tally e (kind e)) 0 * g (kind e)) n ≡ sum (λ k. some? (tally n k) * g k) K
  unfolding tally
  by_kinds g K zero h = sym (sum_zero (λ k. some? (tally 0 k) * g k) K (λ k l. zero-mul (g k)))
  by_kinds g K (suc n) h =
      let x : ℕ = same (tally n (kind n)) 0 * g (kind n) in
      let rest : sum (λ e. same (tally e (kind e)) 0 * g (kind e)) n ≡ sum (λ k. some? (tally n k) * g k) K = by_kinds g K n (λ e l. h e (omega arith)) in
      ap (λ (y : ℕ). y + x) rest
      ∙ sym (sum_changed (λ k. some? (tally (suc n) k) * g k) (λ k. some? (tally n k) * g k) K (kind n) x (h n (omega arith))
      (rw (same_yes (kind n) (kind n) refl) (counted_at_first (tally n (kind n)) (g (kind n))))
      (λ k o. rw (same_no (kind n) k (λ e. o (sym e)), add-zero) refl))

module _ (p : Problem) (set : ℕ) where
  -- how many of the members below n are of package k
  among : ℕ → ℕ → ℕ
  among n k = sum (λ d. bit set d * same (p.kind d) k) n

  -- a package without entries has no members
  no_entries_no_members : (n k : ℕ) → tally p.kind n k ≡ 0 → among n k ≡ 0
  unfolding tally among
  no_entries_no_members n k z =
      sum_zero (λ d. bit set d * same (p.kind d) k) n (λ e h.
      let none : same (p.kind e) k ≡ 0 = omega (arith, term_le (λ d. same (p.kind d) k) n e h) in rw none (mul-zero (bit set e)))

  -- over all package numbers below a bound
  pub duplicates_summed : (K : ℕ) → ((e : ℕ) → e < p.entries → p.kind e < K) → duplicates_of p set ≡ sum (λ k. members_of p set k - 1) K
  unfolding duplicates_of earlier members_of tally among
  duplicates_summed K h =
      by_kinds p.kind (λ k. members_of p set k - 1) K p.entries h
      ∙ sum_same (λ k. some? (tally p.kind p.entries k) * (members_of p set k - 1)) (λ k. members_of p set k - 1) K (λ k l. counted k (ℕ_discrete (tally p.kind p.entries k) 0))
    where
      counted : (k : ℕ) → Dec (tally p.kind p.entries k ≡ 0) → some? (tally p.kind p.entries k) * (members_of p set k - 1) ≡ members_of p set k - 1
      counted k (yes z) = rw (no_entries_no_members p.entries k z) (mul-zero (some? (tally p.kind p.entries k)))
      counted k (no n) = rw (some_above (tally p.kind p.entries k) (omega arith)) (omega arith)

  -- over the members: each that has an earlier one of its package adds one
  by_members : (K n : ℕ) → ((e : ℕ) → e < n → p.kind e < K) → sum (λ k. among n k - 1) K ≡ sum (λ e. bit set e * some? (among e (p.kind e))) n
  unfolding among
  by_members K zero h = sum_zero (λ k. among 0 k - 1) K (λ k l. refl)
  by_members K (suc n) h = go (bit_cases set n) (by_members K n (λ e l. h e (omega arith)))
    where
      go : (bit set n ≡ 0) ⊎ (bit set n ≡ 1) → sum (λ k. among n k - 1) K ≡ sum (λ e. bit set e * some? (among e (p.kind e))) n
          → sum (λ k. among (suc n) k - 1) K ≡ sum (λ e. bit set e * some? (among e (p.kind e))) (suc n)
      go (inl z) rest = rw z (simp (zero-mul, add-zero) rest)
      go (inr o) rest =
          rw o
          (simp one-mul
          (sum_changed (λ k. among n k + same (p.kind n) k - 1) (λ k. among n k - 1) K (p.kind n) (some? (among n (p.kind n))) (h n (omega arith))
          (rw (same_yes (p.kind n) (p.kind n) refl) (less_one (among n (p.kind n)))) (λ k d. rw (same_no (p.kind n) k (λ e. d (sym e)), add-zero) refl)
          ∙ ap (λ (x : ℕ). x + some? (among n (p.kind n))) rest))

  pub duplicates_repeated : duplicates_of p set ≡ sum (λ e. bit set e * some? (sum (λ d. bit set d * same (p.kind d) (p.kind e)) e)) p.entries
  unfolding members_of among
  duplicates_repeated =
      let K : ℕ = suc (sum p.kind p.entries) in
      let below : (e : ℕ) → e < p.entries → p.kind e < K = λ e h. omega (arith, term_le p.kind p.entries e h) in
      duplicates_summed K below ∙ by_members K p.entries below

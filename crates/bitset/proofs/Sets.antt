-- A set is fixed by its members. A number below 2 ^ n has its members below n, and the other way round; and every test of numbers has the number whose
-- members below n are those that pass it. Each law goes by a number's binary digits, lowest first: bit 0 is the remainder by 2, and bit e + 1 is bit e of
-- the half.
use mathlib.Core.Path.{◌≡◌, refl, sym, ap, ◌∙◌, subst}
use mathlib.Core.Bool.{Bool, true, false}
use mathlib.Core.Logic.{◌⊎◌, inl, inr}
use Prim.Native.Nat.{ℕ, zero, suc, ◌+◌, ◌*◌, ◌/◌, ◌%◌, ◌^◌, ◌≤◌, ◌<◌}
use native.Mathlib.Nat.{pow-succ', div-one, zero-div, div-div-eq-div-mul, div-eq_of_lt, add-mul-div_left, mul_assoc, not-suc-le-zero, lt_of_lt_of_le}
use native.Mathlib.Decide.{ℕ_discrete, dec_lt}
use native.Mathlib.Omega.{arith}
use lib.Arith.{bin_ind}
use lib.Dec.{T}
use lib.Pow.{pow_pos, pow_mono}
use Rattle.basis.specs.Sum.{one_if}
use Rattle.basis.proofs.Decide.{below_suc}
use Rattle.bitset.specs.Bits.{bit, Member}

-- a remainder by 2 is 0 or 1
pub digit_cases : (n : ℕ) → (n % 2 ≡ 0) ⊎ (n % 2 ≡ 1)
digit_cases n = go (n % 2) refl
  where
    go : (k : ℕ) → n % 2 ≡ k → (n % 2 ≡ 0) ⊎ (n % 2 ≡ 1)
    go zero e = inl e
    go (suc zero) e = inr e
    go (suc (suc k)) e = absurd (omega arith)

-- a bit is 0 or 1
pub bit_cases : (set e : ℕ) → (bit set e ≡ 0) ⊎ (bit set e ≡ 1)
bit_cases set e = digit_cases (set / 2 ^ e)

-- a number is a member of a set or not
pub member_or_not : (set e : ℕ) → Dec (Member set e)
member_or_not set e = ℕ_discrete (bit set e) 1

-- the bit of a number that is no member is 0
pub bit_of_none : (set e : ℕ) → ¬ Member set e → bit set e ≡ 0
bit_of_none set e n = omega arith

-- bit 0 is the remainder by 2
pub bit_first : (set : ℕ) → bit set 0 ≡ set % 2
bit_first set = ap (λ (n : ℕ). n % 2) (div-one set)

-- each further bit is a bit of the half
pub bit_next : (set e : ℕ) → bit set (suc e) ≡ bit (set / 2) e
bit_next set e = ap (λ (n : ℕ). n % 2) (ap (λ (n : ℕ). set / n) (pow-succ' 2 e) ∙ sym (div-div-eq-div-mul set 2 (2 ^ e)))

-- the empty set has no member
pub none_in_empty : (e : ℕ) → ¬ Member 0 e
none_in_empty e m = omega (arith, zero-div (2 ^ e))

-- a set with a member is not empty
pub not_empty : (set e : ℕ) → Member set e → ¬ (set ≡ 0)
not_empty set e m z = none_in_empty e (subst (λ (r : ℕ). Member r e) z m)

-- a set with no member is empty
pub empty_by_members : (set : ℕ) → ((e : ℕ) → ¬ Member set e) → set ≡ 0
empty_by_members = bin_ind (λ (set : ℕ). ((e : ℕ) → ¬ Member set e) → set ≡ 0) (λ n. refl) by_half
  where
    by_half : (set : ℕ) → (((e : ℕ) → ¬ Member (set / 2) e) → set / 2 ≡ 0) → ((e : ℕ) → ¬ Member set e) → set ≡ 0
    by_half set half n =
        let even : ¬ (set % 2 ≡ 1) = λ m. n 0 (bit_first set ∙ m) in
        let none : set / 2 ≡ 0 = half (λ e m. n (suc e) (bit_next set e ∙ m)) in
        omega arith

-- two sets with the same members are equal
pub same_members : (a b : ℕ) → ((e : ℕ) → Member a e → Member b e) → ((e : ℕ) → Member b e → Member a e) → a ≡ b
same_members = bin_ind Same (λ b f g. sym (empty_by_members b (λ e m. none_in_empty e (g e m)))) by_half
  where
    Same : ℕ → Type 0
    Same a = (b : ℕ) → ((e : ℕ) → Member a e → Member b e) → ((e : ℕ) → Member b e → Member a e) → a ≡ b

    halves : (a b : ℕ) → ((e : ℕ) → Member a e → Member b e) → (e : ℕ) → Member (a / 2) e → Member (b / 2) e
    halves a b f e m = sym (bit_next b e) ∙ f (suc e) (bit_next a e ∙ m)

    digits : (a b : ℕ) → ((e : ℕ) → Member a e → Member b e) → a % 2 ≡ 1 → b % 2 ≡ 1
    digits a b f m = sym (bit_first b) ∙ f 0 (bit_first a ∙ m)

    joined : (a b : ℕ) → a / 2 ≡ b / 2 → (a % 2 ≡ 1 → b % 2 ≡ 1) → (b % 2 ≡ 1 → a % 2 ≡ 1) → (a % 2 ≡ 0) ⊎ (a % 2 ≡ 1) → (b % 2 ≡ 0) ⊎ (b % 2 ≡ 1) → a ≡ b
    joined a b h f g (inl x) (inl y) = omega arith
    joined a b h f g (inl x) (inr y) = omega (arith, g y)
    joined a b h f g (inr x) y = omega (arith, f x)

    by_half : (a : ℕ) → Same (a / 2) → Same a
    by_half a half b f g = joined a b (half (b / 2) (halves a b f) (halves b a g)) (digits a b f) (digits b a g) (digit_cases a) (digit_cases b)

-- a set below 2 ^ n has its members below n
pub member_below : (n set e : ℕ) → set < 2 ^ n → Member set e → e < n
member_below n set e h m = go (dec_lt e n)
  where
    go : Dec (e < n) → e < n
    go (yes l) = l
    go (no f) =
        let high : n ≤ e = omega arith in
        let none : set / 2 ^ e ≡ 0 = div-eq_of_lt (lt_of_lt_of_le h (pow_mono high)) in
        absurd (omega arith)

-- a set whose members are below n is below 2 ^ n
pub below_by_members : (n set : ℕ) → ((e : ℕ) → Member set e → e < n) → set < 2 ^ n
below_by_members zero set h = omega (arith, empty_by_members set (λ e m. not-suc-le-zero (h e m)))
below_by_members (suc n) set h =
    let half : set / 2 < 2 ^ n = below_by_members n (set / 2) (λ e m. omega (arith, h (suc e) (bit_next set e ∙ m))) in
    omega (arith, pow-succ' 2 n)

-- a multiple of 2 ^ (n + 1) is twice one of 2 ^ n
twice : (n k : ℕ) → 2 ^ suc n * k ≡ 2 * (2 ^ n * k)
twice n k = ap (λ (p : ℕ). p * k) (pow-succ' 2 n) ∙ mul_assoc 2 (2 ^ n) k

-- a multiple of 2 ^ n changes no bit below n
pub bit_under : (n low high e : ℕ) → e < n → bit (low + 2 ^ n * high) e ≡ bit low e
bit_under zero low high e h = absurd (not-suc-le-zero h)
bit_under (suc n) low high zero h =
    let digit : (low + 2 ^ suc n * high) % 2 ≡ low % 2 = omega (arith, twice n high) in
    bit_first (low + 2 ^ suc n * high) ∙ digit ∙ sym (bit_first low)
bit_under (suc n) low high (suc e) h =
    let half : (low + 2 ^ suc n * high) / 2 ≡ low / 2 + 2 ^ n * high = omega (arith, twice n high) in
    bit_next (low + 2 ^ suc n * high) e ∙ ap (λ (k : ℕ). bit k e) half ∙ bit_under n (low / 2) high e (omega arith) ∙ sym (bit_next low e)

-- above a number below 2 ^ n, bit n is the lowest bit of the multiple of 2 ^ n
pub bit_at : (n low high : ℕ) → low < 2 ^ n → bit (low + 2 ^ n * high) n ≡ high % 2
bit_at n low high h = omega (arith, add-mul-div_left low high (pow_pos n), div-eq_of_lt h)

-- the set of the numbers below n that pass a test
abbrev pub gather : (ℕ → Bool) → ℕ → ℕ
gather f zero = 0
gather f (suc n) = gather f n + 2 ^ n * one_if (f n)

-- such a set is below 2 ^ n
pub gather_below : (f : ℕ → Bool) (n : ℕ) → gather f n < 2 ^ n
gather_below f zero = omega arith
gather_below f (suc n) = with_last (gather f n) (gather_below f n) (f n)
  where
    with_last : (low : ℕ) → low < 2 ^ n → (b : Bool) → low + 2 ^ n * one_if b < 2 ^ suc n
    with_last low h true = omega (arith, pow-succ' 2 n)
    with_last low h false = omega (arith, pow-succ' 2 n)

-- its members are below n and pass the test
pub gathered : (f : ℕ → Bool) (n e : ℕ) → Member (gather f n) e → (e < n) × T (f e)
gathered f zero e m = absurd (none_in_empty e m)
gathered f (suc n) e m = go (below_suc below) (gathered f n e)
  where
    below : e < suc n
    below = member_below (suc n) (gather f (suc n)) e (gather_below f (suc n)) m

    passes : (b : Bool) → one_if b % 2 ≡ 1 → T b
    passes true h = tt
    passes false h = omega arith

    go : (e ≡ n) ⊎ (e < n) → (Member (gather f n) e → (e < n) × T (f e)) → (e < suc n) × T (f e)
    go (inl h) rest = (below, rw h (passes (f n) (sym (bit_at n (gather f n) (one_if (f n)) (gather_below f n)) ∙ rw h at m)))
    go (inr h) rest = (below, (rest (sym (bit_under n (gather f n) (one_if (f n)) e h) ∙ m)).1)

-- each number below n that passes the test is a member
pub gathers : (f : ℕ → Bool) (n e : ℕ) → e < n → T (f e) → Member (gather f n) e
gathers f zero e h t = absurd (not-suc-le-zero h)
gathers f (suc n) e h t = go (below_suc h) (λ l. gathers f n e l t)
  where
    counts : (b : Bool) → T b → one_if b % 2 ≡ 1
    counts true x = refl
    counts false x = absurd x

    go : (e ≡ n) ⊎ (e < n) → (e < n → Member (gather f n) e) → Member (gather f (suc n)) e
    go (inl p) rest = rw p (bit_at n (gather f n) (one_if (f n)) (gather_below f n) ∙ counts (f n) (rw p at t))
    go (inr l) rest = bit_under n (gather f n) (one_if (f n)) e l ∙ rest l

-- Sets made of others, by their members: what two sets have in common, what either has, all but a set's, a set with one member more, and one with one less.
use mathlib.Core.Path.{◌≡◌, refl, sym, ap, ◌∙◌}
use mathlib.Core.Logic.{◌⊎◌, ◌↔◌, inl, inr}
use Prim.Native.Nat.{ℕ, zero, suc, ◌+◌, ◌-◌, ◌*◌, ◌/◌, ◌%◌, ◌^◌, ◌<◌, min, max}
use native.Mathlib.Nat.{pow-succ', zero-add, one-mul, add-div_right, not-suc-le-zero}
use native.Mathlib.Decide.{ℕ_discrete}
use native.Mathlib.Omega.{arith}
use lib.Bits.{bit_and, bit_or, and_step, or_step, and_shr, or_shr}
use lib.Dec.{lit<}
use lib.Pow.{pow_pos, pow-lt, ones_sub-lt, shl_exact}
use Rattle.bitset.specs.Bits.{bit, Member}
use Rattle.bitset.proofs.Sets.{bit_cases, bit_of_none, bit_first, bit_next, member_below, none_in_empty}

-- a bit of the bitwise and is the lesser of the two bits
pub bit_meet : (a b e : ℕ) → bit (bit_and a b) e ≡ min (bit a e) (bit b e)
bit_meet a b e = ap (λ (n : ℕ). n % 2) (and_shr a b e) ∙ digit (a / 2 ^ e) (b / 2 ^ e)
  where
    digit : (m n : ℕ) → bit_and m n % 2 ≡ min (m % 2) (n % 2)
    digit m n = ap (λ (k : ℕ). k % 2) (and_step m n) ∙ omega arith

-- a bit of the bitwise or is the greater of the two bits
pub bit_join : (a b e : ℕ) → bit (bit_or a b) e ≡ max (bit a e) (bit b e)
bit_join a b e = ap (λ (n : ℕ). n % 2) (or_shr a b e) ∙ digit (a / 2 ^ e) (b / 2 ^ e)
  where
    digit : (m n : ℕ) → bit_or m n % 2 ≡ max (m % 2) (n % 2)
    digit m n = ap (λ (k : ℕ). k % 2) (or_step m n) ∙ omega arith

-- the members of the bitwise and are those of both
pub meet_members : (a b e : ℕ) → Member (bit_and a b) e ↔ (Member a e × Member b e)
meet_members a b e = (λ m. omega (arith, sym (bit_meet a b e) ∙ m), λ m. bit_meet a b e ∙ omega arith)

-- the members of the bitwise or are those of either
pub join_members : (a b e : ℕ) → Member (bit_or a b) e ↔ (Member a e ⊎ Member b e)
join_members a b e = (λ m. from (bit_cases a e) (sym (bit_join a b e) ∙ m), λ m. bit_join a b e ∙ into m)
  where
    from : (bit a e ≡ 0) ⊎ (bit a e ≡ 1) → max (bit a e) (bit b e) ≡ 1 → Member a e ⊎ Member b e
    from (inl x) m = inr (omega arith)
    from (inr x) m = inl x

    into : Member a e ⊎ Member b e → max (bit a e) (bit b e) ≡ 1
    into (inl x) = omega arith
    into (inr y) = omega arith

-- below n, the bits of 2 ^ n - 1 - a are those of a turned over
pub bit_rest : (n a e : ℕ) → a < 2 ^ n → e < n → bit (2 ^ n - 1 - a) e ≡ 1 - bit a e
bit_rest zero a e h l = absurd (not-suc-le-zero l)
bit_rest (suc n) a zero h l =
    let digit : (2 ^ suc n - 1 - a) % 2 ≡ 1 - a % 2 = omega (arith, pow-succ' 2 n) in
    bit_first (2 ^ suc n - 1 - a) ∙ digit ∙ ap (λ (k : ℕ). 1 - k) (sym (bit_first a))
bit_rest (suc n) a (suc e) h l =
    let half : (2 ^ suc n - 1 - a) / 2 ≡ 2 ^ n - 1 - a / 2 = omega (arith, pow-succ' 2 n) in
    let low : a / 2 < 2 ^ n = omega (arith, pow-succ' 2 n) in
    bit_next (2 ^ suc n - 1 - a) e ∙ ap (λ (k : ℕ). bit k e) half ∙ bit_rest n (a / 2) e low (omega arith) ∙ ap (λ (k : ℕ). 1 - k) (sym (bit_next a e))

-- the members of 2 ^ n - 1 - a are the numbers below n that a has not
pub rest_members : (n a e : ℕ) → a < 2 ^ n → Member (2 ^ n - 1 - a) e ↔ ((e < n) × ¬ Member a e)
rest_members n a e h = (
  λ m. let l = member_below n (2 ^ n - 1 - a) e (ones_sub-lt n a) m in (l, λ k. omega (arith, sym (bit_rest n a e h l) ∙ m)),
  λ p. bit_rest n a e h p.0 ∙ ap (λ (k : ℕ). 1 - k) (bit_of_none a e p.1),
)

-- bit e of a set that 2 ^ e is added to, where it was 0
pub bit_added : (set e : ℕ) → bit set e ≡ 0 → bit (set + 2 ^ e) e ≡ 1
bit_added set e h = omega (arith, add-div_right set (pow_pos e))

-- every other bit of it is as it was
pub bit_kept : (set e d : ℕ) → bit set e ≡ 0 → ¬ (d ≡ e) → bit (set + 2 ^ e) d ≡ bit set d
bit_kept set zero zero h n = absurd (n refl)
bit_kept set zero (suc d) h n =
    let half : (set + 1) / 2 ≡ set / 2 = omega (arith, sym (bit_first set) ∙ h) in
    bit_next (set + 1) d ∙ ap (λ (k : ℕ). bit k d) half ∙ sym (bit_next set d)
bit_kept set (suc e) zero h n =
    let digit : (set + 2 ^ suc e) % 2 ≡ set % 2 = omega (arith, pow-succ' 2 e) in
    bit_first (set + 2 ^ suc e) ∙ digit ∙ sym (bit_first set)
bit_kept set (suc e) (suc d) h n =
    let half : (set + 2 ^ suc e) / 2 ≡ set / 2 + 2 ^ e = omega (arith, pow-succ' 2 e) in
    let kept : bit (set / 2 + 2 ^ e) d ≡ bit (set / 2) d = bit_kept (set / 2) e d (sym (bit_next set e) ∙ h) (λ p. n (ap suc p)) in
    bit_next (set + 2 ^ suc e) d ∙ ap (λ (k : ℕ). bit k d) half ∙ kept ∙ sym (bit_next set d)

-- a set that 2 ^ e is added to, where e was no member, has e as a member too
pub more_members : (set e d : ℕ) → ¬ Member set e → Member (set + 2 ^ e) d ↔ ((d ≡ e) ⊎ Member set d)
more_members set e d n = (λ m. from m (ℕ_discrete d e), into)
  where
    clear : bit set e ≡ 0
    clear = bit_of_none set e n

    from : Member (set + 2 ^ e) d → Dec (d ≡ e) → (d ≡ e) ⊎ Member set d
    from m (yes p) = inl p
    from m (no f) = inr (sym (bit_kept set e d clear f) ∙ m)

    into : (d ≡ e) ⊎ Member set d → Member (set + 2 ^ e) d
    into (inl p) = rw p (bit_added set e clear)
    into (inr m) = bit_kept set e d clear (λ p. n (rw p at m)) ∙ m

-- the only member of 2 ^ e is e
pub one_member : (e d : ℕ) → Member (2 ^ e) d ↔ (d ≡ e)
one_member e d = (λ m. from (more.0 (rw zero-add m)), λ p. rw zero-add at (more.1 (inl p)))
  where
    more : Member (0 + 2 ^ e) d ↔ ((d ≡ e) ⊎ Member 0 d)
    more = more_members 0 e d (none_in_empty e)

    from : (d ≡ e) ⊎ Member 0 d → d ≡ e
    from (inl p) = p
    from (inr m) = absurd (none_in_empty d m)

-- the bitwise or with 2 ^ e has e as a member too
pub or_one_members : (set e d : ℕ) → Member (bit_or set (2 ^ e)) d ↔ ((d ≡ e) ⊎ Member set d)
or_one_members set e d = (λ m. from (join.0 m), λ m. join.1 (into m))
  where
    join : Member (bit_or set (2 ^ e)) d ↔ (Member set d ⊎ Member (2 ^ e) d)
    join = join_members set (2 ^ e) d

    from : Member set d ⊎ Member (2 ^ e) d → (d ≡ e) ⊎ Member set d
    from (inl m) = inr m
    from (inr m) = inl ((one_member e d).0 m)

    into : (d ≡ e) ⊎ Member set d → Member set d ⊎ Member (2 ^ e) d
    into (inl p) = inr ((one_member e d).1 p)
    into (inr m) = inl m

-- the bitwise and with all of n bits but bit e takes e out of a set below 2 ^ n
pub and_rest_members : (n set e d : ℕ) → set < 2 ^ n → e < n → Member (bit_and set (2 ^ n - 1 - 2 ^ e)) d ↔ (Member set d × ¬ (d ≡ e))
and_rest_members n set e d h l = (from, into)
  where
    meet : Member (bit_and set (2 ^ n - 1 - 2 ^ e)) d ↔ (Member set d × Member (2 ^ n - 1 - 2 ^ e) d)
    meet = meet_members set (2 ^ n - 1 - 2 ^ e) d

    rest : Member (2 ^ n - 1 - 2 ^ e) d ↔ ((d < n) × ¬ Member (2 ^ e) d)
    rest = rest_members n (2 ^ e) d (pow-lt l)

    from : Member (bit_and set (2 ^ n - 1 - 2 ^ e)) d → Member set d × ¬ (d ≡ e)
    from m = ((meet.0 m).0, λ p. (rest.0 (meet.0 m).1).1 ((one_member e d).1 p))

    into : Member set d × ¬ (d ≡ e) → Member (bit_and set (2 ^ n - 1 - 2 ^ e)) d
    into p = meet.1 (p.0, rest.1 (member_below n set d h p.0, λ m. p.1 ((one_member e d).0 m)))

-- 1 shifted by e, in 64 bits, is 2 ^ e for each e below 64
pub one_shifted : (e : ℕ) → e < 64 → 1 * 2 ^ e % 2 ^ 64 ≡ 2 ^ e
one_shifted e h = shl_exact 1 e 64 (lit< tt) (omega arith) ∙ one-mul (2 ^ e)

-- Numbers read byte by byte: what one digit more makes of a number, and when no longer number can be read.
use mathlib.Core.Path.{◌≡◌, refl, sym, ap, ◌∙◌}
use mathlib.Core.List.{List, [], ◌∷◌, ◌++◌}
use mathlib.Core.Logic.{◌⊎◌, inl, inr}
use Rattle.std.specs.Prelude.{Option, None, Some, MatchOption}
use Prim.Native.Nat.{ℕ, zero, suc, ◌+◌, ◌*◌, ◌-◌, ◌≤◌, ◌<◌}
use native.Mathlib.Nat.{le_refl, not-suc-le-zero}
use native.Mathlib.Numerals.{add-one}
use native.Mathlib.Decide.{dec_le}
use native.Mathlib.Omega.{arith}
use lib.ListN.{length, get_or, take, drop}
use lib.Seq.{take-suc, take-add, length-take-le, get_or-take}
use Rattle.basis.specs.Bytes.{All}
use Rattle.basis.proofs.Runs.{all_append}
use Rattle.constraint.specs.Numeral.{Digit, value_from, value, Numeral}
use Rattle.constraint.specs.Reader.{so_far, Over, Grown, Longest, Unnumbered}
use Rattle.constraint.proofs.Texts.{all_at}

-- digits after digits go on from the number before them
value_append : (a : ℕ) (xs ys : List ℕ) → value_from a (xs ++ ys) ≡ value_from (value_from a xs) ys
value_append a [] ys = refl
value_append a (x ∷ xs) ys = value_append (a * 10 + (x - 48)) xs ys

-- digits make no number less
value_grows : (a : ℕ) (xs : List ℕ) → a ≤ value_from a xs
value_grows a [] = le_refl a
value_grows a (x ∷ xs) = omega (arith, value_grows (a * 10 + (x - 48)) xs)

-- a longer beginning is worth no less
value_longer : (text : List ℕ) (u k : ℕ) → u ≤ k → value (take u text) ≤ value (take k text)
value_longer text u k h =
    let cut : k ≡ u + (k - u) = omega arith in
    let more : List ℕ = take (k - u) (drop u text) in
    rw (cut, take-add u (k - u) text, value_append 0 (take u text) more) (value_grows (value (take u text)) more)

-- one digit more
value_more : (text : List ℕ) (u : ℕ) → u < length text → value (take (u + 1) text) ≡ value (take u text) * 10 + (get_or text u 0 - 48)
value_more text u h = rw (add-one, take-suc text u 0 h) (value_append 0 (take u text) (get_or text u 0 ∷ []))

-- the first u bytes of a text write the number, or there is none yet
pub record Begun (text : List ℕ) (number : Option ℕ) (u : ℕ) : Type 0 where
  pub within : u ≤ length text
  pub written : MatchOption number (u ≡ 0) (λ n. Numeral (take u text) n)

-- what those bytes are worth
begun_worth : {text : List ℕ} {u : ℕ} (number : Option ℕ) → Begun text number u → value (take u text) ≡ so_far number
begun_worth None g = rw g.written refl
begun_worth (Some n) g = g.written.worth

-- a number is written in one byte or more
some_bytes : (text : List ℕ) (u : ℕ) {n : ℕ} → u ≤ length text → Numeral (take u text) n → 0 < u
some_bytes text u h r = omega (arith, r.filled, length-take-le u text h)

-- a number of two bytes or more does not begin with 0
not_zero_first : (text : List ℕ) (k m : ℕ) → 1 < k → k ≤ length text → Numeral (take k text) m → ¬ (get_or text 0 0 ≡ 48)
not_zero_first text k m h l r = go r.plain
  where
    go : (length (take k text) ≡ 1) ⊎ (¬ (get_or (take k text) 0 0 ≡ 48)) → ¬ (get_or text 0 0 ≡ 48)
    go (inl e) z = omega (arith, length-take-le k text l)
    go (inr n) z = n (get_or-take k text 0 0 (omega arith) ∙ z)

-- a number that is 0 begins with 0
zero_first : (text : List ℕ) (u : ℕ) → 0 < u → u ≤ length text → All Digit (take u text) → value (take u text) ≡ 0 → get_or text 0 0 ≡ 48
zero_first [] u h l d e = omega arith
zero_first (b ∷ text) zero h l d e = absurd (not-suc-le-zero h)
zero_first (b ∷ text) (suc u) h l d e = omega (arith, d.0, value_grows (0 * 10 + (b - 48)) (take u text))

-- and one above 0 does not
above_zero_first : (text : List ℕ) (u n : ℕ) → 0 < u → u ≤ length text → Numeral (take u text) n → ¬ (n ≡ 0) → ¬ (get_or text 0 0 ≡ 48)
above_zero_first [] u n h l r above z = omega arith
above_zero_first (b ∷ text) zero n h l r above z = absurd (not-suc-le-zero h)
above_zero_first (b ∷ text) (suc zero) n h l r above z = above (omega (arith, r.worth))
above_zero_first (b ∷ text) (suc (suc u)) n h l r above z = not_zero_first (b ∷ text) (suc (suc u)) n (omega arith) l r z

-- a digit that may follow makes the number longer
pub begun_more : {text : List ℕ} {number : Option ℕ} {u n : ℕ} → Begun text number u → u < length text → Grown number (get_or text u 0) n
    → Begun text (Some n) (u + 1)
begun_more {text} {number} {u} {n} g h d = record { within = omega arith; written = numeral number g d }
  where
    b : ℕ
    b = get_or text u 0

    size : length (take (u + 1) text) ≡ u + 1
    size = length-take-le (u + 1) text (omega arith)

    digits : All Digit (take u text) → All Digit (take (u + 1) text)
    digits before = rw (add-one, take-suc text u 0 h) (all_append Digit (take u text) (b ∷ []) before (d.digit, tt))

    numeral : (number : Option ℕ) → Begun text number u → Grown number b n → Numeral (take (u + 1) text) n
    numeral None g d =
        let e : u ≡ 0 = g.written in
        let worth : value (take (u + 1) text) ≡ n = omega (arith, value_more text u h, begun_worth None g, d.worth) in
        record { digits = digits (rw e tt); filled = omega (arith, size); plain = inl (omega (arith, size)); worth = worth; small = d.small }
    numeral (Some m) g d =
        let r : Numeral (take u text) m = g.written in
        let first : ¬ (get_or text 0 0 ≡ 48) = above_zero_first text u m (some_bytes text u g.within r) g.within r (λ z. d.plain (ap Some z)) in
        let still : ¬ (get_or (take (u + 1) text) 0 0 ≡ 48) = λ e. first (sym (get_or-take (u + 1) text 0 0 (omega arith)) ∙ e) in
        let worth : value (take (u + 1) text) ≡ n = omega (arith, value_more text u h, r.worth, d.worth) in
        record { digits = digits r.digits; filled = omega (arith, size); plain = inr still; worth = worth; small = d.small }

-- the number is the longest that the text begins with, or there is none
abbrev pub Ends : List ℕ → Option ℕ → ℕ → Type 0
Ends text number u = MatchOption number (Unnumbered text) (λ n. Longest text n u)

-- a number is the longest if no longer one begins the text
ends_by : {text : List ℕ} {u : ℕ} (number : Option ℕ) → Begun text number u
    → ((k m : ℕ) → k ≤ length text → Numeral (take k text) m → k ≤ u) → Ends text number u
ends_by {text} {u} None g least = λ k m l r. omega (arith, g.written, least k m l r, some_bytes text k l r)
ends_by (Some n) g least = record { within = g.within; numeral = g.written; longest = least }

-- that is so where no digit more may follow
pub longest_over : {text : List ℕ} {number : Option ℕ} {u : ℕ} → Begun text number u → u < length text → Over number (get_or text u 0) → Ends text number u
longest_over {text} {number} {u} g h over = ends_by number g (λ k m l r. least k m l r (dec_le k u))
  where
    never : (k m : ℕ) → u < k → k ≤ length text → Numeral (take k text) m → Over number (get_or text u 0) → ⊥
    never k m p l r (inl no_digit) = no_digit (all_at Digit text k u r.digits p h)
    never k m p l r (inr (inl none)) =
        let begun : Begun text (Some 0) u = rw none at g in
        let above : 0 < u = some_bytes text u begun.within begun.written in
        not_zero_first text k m (omega arith) l r (zero_first text u above begun.within begun.written.digits begun.written.worth)
    never k m p l r (inr (inr big)) =
        omega (arith, value_longer text (u + 1) k (omega arith), value_more text u h, begun_worth number g, r.worth, r.small)

    least : (k m : ℕ) → k ≤ length text → Numeral (take k text) m → Dec (k ≤ u) → k ≤ u
    least k m l r (yes p) = p
    least k m l r (no p) = absurd (never k m (omega arith) l r over)

-- and at the text's end
pub longest_all : {text : List ℕ} {number : Option ℕ} {u : ℕ} → Begun text number u → length text ≤ u → Ends text number u
longest_all {number = number} g h = ends_by number g (λ k m l r. omega arith)

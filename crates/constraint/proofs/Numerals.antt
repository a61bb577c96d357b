-- The laws of written numbers: bytes write at most one number, and whether they write one is decided.
use mathlib.Core.Path.{◌≡◌, sym, ◌∙◌}
use mathlib.Core.List.{List}
use Prim.Native.Nat.{ℕ}
use native.Mathlib.Decide.{ℕ_discrete, dec_le, dec_lt}
use lib.ListN.{length, get_or}
use Rattle.basis.proofs.Decide.{both_or_not, either_or_not, not_or_not, or_not_by}
use Rattle.basis.proofs.Lists.{all_or_not}
use Rattle.constraint.specs.Numeral.{Digit, value, Numeral}

pub one_number : {bs : List ℕ} {m n : ℕ} → Numeral bs m → Numeral bs n → m ≡ n
one_number a b = sym a.worth ∙ b.worth

pub digit_or_not : (b : ℕ) → Dec (Digit b)
digit_or_not b = both_or_not (dec_le 48 b) (dec_le b 57)

pub numeral_or_not : (bs : List ℕ) (n : ℕ) → Dec (Numeral bs n)
numeral_or_not bs n =
    or_not_by
    (λ p. record { digits = p.0; filled = p.1.0; plain = p.1.1.0; worth = p.1.1.1.0; small = p.1.1.1.1 })
    (λ r. (r.digits, (r.filled, (r.plain, (r.worth, r.small)))))
    (both_or_not (all_or_not Digit digit_or_not bs)
    (both_or_not (dec_lt 0 (length bs))
    (both_or_not (either_or_not (ℕ_discrete (length bs) 1) (not_or_not (ℕ_discrete (get_or bs 0 0) 48)))
    (both_or_not (ℕ_discrete (value bs) n) (dec_le n 65535)))))

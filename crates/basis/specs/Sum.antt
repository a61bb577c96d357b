-- Sums over the numbers below a bound.
use Rattle.std.specs.Prelude.{Bool, true, false, ℕ, zero, suc, ◌+◌, eqb}

-- f 0 + .. + f (n - 1)
abbrev pub sum : (ℕ → ℕ) → ℕ → ℕ
sum f zero = 0
sum f (suc n) = sum f n + f n

-- 1 where a test holds, else 0
abbrev pub one_if : Bool → ℕ
one_if true = 1
one_if false = 0

-- 1 where two numbers are equal, else 0
abbrev pub same : ℕ → ℕ → ℕ
same a b = one_if (eqb a b)

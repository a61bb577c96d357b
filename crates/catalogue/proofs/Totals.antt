-- The weights of 64 entries, each below 2 ^ 16, come to at most 64 * 65535, far below 2 ^ 32.
use Prim.Native.Nat.{ℕ, ◌+◌, ◌*◌, ◌≤◌}
use native.Mathlib.Omega.{arith}
use Rattle.basis.specs.Sum.{sum}
use Rattle.basis.proofs.Sums.{sum_bound}
use Rattle.catalogue.specs.Tables.{Lent, weight_of}
use Rattle.catalogue.proofs.Names.{Numbers16}

-- the weights of the first n entries, with n at most 64
pub weights_fit : (L : Lent) (n : ℕ) → n ≤ 64 → Numbers16 L.entries → sum (weight_of L) n ≤ 4194240
weights_fit L n few small = omega (arith, sum_bound (weight_of L) n 65535 (λ e. omega (arith, small (e * 5 + 4))))

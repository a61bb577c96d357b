-- `plan::conditions::below` meets its contract: a set below 2 ^ n has its members below n, and the other way round.
use Prim.Native.Nat.{◌/◌, ◌^◌}
use native.Mathlib.Nat.{div-eq_of_lt, div-lt_iff_lt-mul}
use native.Mathlib.Omega.{arith}
use lib.Pow.{pow_pos}
use Rattle.basis.proofs.Decide.{decides_by, decides_eq, decides_le}
use Rattle.bitset.proofs.Sets.{member_below, below_by_members}
use Rattle.plan.proofs.conditions.below.Goals as goal

pub returns-then-n-ge64 : goal.returns-then-n-ge64
returns-then-n-ge64 c =
    decides_by (λ l e m. omega (arith, member_below 64 c.args.set e (omega arith) m)) (λ f. c.if-n-ge64.true) (decides_le 64 c.args.n)

pub returns-else-n-ge64 : goal.returns-else-n-ge64
returns-else-n-ge64 c =
    decides_by
    (λ z e m. member_below c.args.n c.args.set e (omega (arith, (div-lt_iff_lt-mul {k = 2 ^ c.args.n} {x = c.args.set} {y = 1} (pow_pos c.args.n)).0 (omega arith))) m)
    (λ f. div-eq_of_lt (below_by_members c.args.n c.args.set f))
    (decides_eq (c.args.set / 2 ^ c.args.n) 0)

-- `bitset::has` meets its contract: the test reads the bit, and a 64-bit set has no member of 64 and more.
use native.Mathlib.Omega.{arith}
use Rattle.basis.proofs.Decide.{decides_eq}
use Rattle.bitset.specs.Bits.{bit}
use Rattle.bitset.proofs.Sets.{member_below}
use Rattle.bitset.proofs.has.Goals as goal

pub returns-then-e-lt64 : goal.returns-then-e-lt64
returns-then-e-lt64 c = decides_eq (bit c.args.set c.args.e) 1

pub returns-else-e-lt64 : goal.returns-else-e-lt64
returns-else-e-lt64 c = record {
  sure = λ t. absurd t;
  full = λ m. absurd (omega (arith, member_below 64 c.args.set c.args.e (omega arith) m));
}

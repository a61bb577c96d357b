-- `bitset::without` meets its contract: all bits but bit e have every member but e, and a bitwise and has the members that both have.
use native.Mathlib.Omega.{arith}
use Rattle.bitset.proofs.Made.{and_rest_members, one_shifted}
use Rattle.bitset.proofs.without.Goals as goal

pub returns-then-e-lt64 : goal.returns-then-e-lt64
returns-then-e-lt64 c = record {
  members = λ h d. rw (one_shifted c.args.e h) (and_rest_members 64 c.args.set c.args.e d (omega arith) h);
  beyond = λ h. absurd (omega arith);
}

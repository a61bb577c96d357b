-- `bitset::with` meets its contract: the only member of 1 shifted by e is e, and a bitwise or has the members of both.
use mathlib.Core.Path.{refl}
use native.Mathlib.Omega.{arith}
use Rattle.bitset.proofs.Made.{or_one_members, one_shifted}
use Rattle.bitset.proofs.with.Goals as goal

pub returns-then-e-lt64 : goal.returns-then-e-lt64
returns-then-e-lt64 c = record {
  members = λ h d. rw (one_shifted c.args.e h) (or_one_members c.args.set c.args.e d);
  beyond = λ h. absurd (omega arith);
}

pub returns-else-e-lt64 : goal.returns-else-e-lt64
returns-else-e-lt64 c = record { members = λ h d. absurd (omega arith); beyond = λ h. refl }

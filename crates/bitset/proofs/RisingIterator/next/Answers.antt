-- A step of a walk over the members leaves fewer.
use native.Mathlib.Omega.{arith}
use Rattle.bitset.proofs.Subsets.{left_count}
use Rattle.bitset.proofs.RisingIterator.next.Goals as goal

pub returns-clause-goes : goal.returns-clause-goes
returns-clause-goes c =
    let less = left_count (omega arith) (c.lowest-e.ensures.some c.if-set-eq0.false) c.without-self.ensures in
    record { on = λ _. (tt, tt, less); keeps = tt; rests = λ _. tt }

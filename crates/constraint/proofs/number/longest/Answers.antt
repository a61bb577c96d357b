-- `constraint::number::longest` meets its contract. What a byte does is shown of the number so far, whatever term the call was given for it.
use native.Mathlib.Omega.{arith}
use lib.ListN.{get_or}
use Rattle.std.proofs.Common.{rules}
use Rattle.constraint.specs.Reader.{Over, Grown}
use Rattle.constraint.proofs.Numbers.{begun_more, longest_over}
use Rattle.constraint.proofs.number.longest.Goals as goal

pub returns-in_default : goal.returns-in_default
returns-in_default c =
    let over : Over c.loop-used.number (get_or c.args.rest.now c.loop-used.used-counter 0) = grind arith in
    let ended = longest_over c.loop-used.invariant c.loop-used-test.true over in
    search rules

pub loop-used-preserved : goal.loop-used-preserved
loop-used-preserved c =
    let grown : Grown c.loop-used.number (get_or c.args.rest.now c.loop-used.used-counter 0) c.in-Some.next = grind arith in
    begun_more c.loop-used.invariant c.loop-used-test.true grown

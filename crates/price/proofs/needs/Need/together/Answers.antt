-- Of each member passed the choices of a slot are in the union.
use native.Mathlib.Omega.{arith}
use Rattle.std.proofs.Common.{rules}
use Rattle.price.specs.Needed.{SlotOf}
use Rattle.price.proofs.Needed.{together_on, together_end}
use Rattle.price.proofs.needs.Need.together.Goals as goal

pub loop-e-preserved : goal.loop-e-preserved
loop-e-preserved c =
    let slot : SlotOf c.args.self.now c.in-Some.e c.in_ok-all.field-0 = search rules in
    together_on c.loop-e.invariant c.in-Some.ensures.steps slot

pub returns : goal.returns
returns c = together_end c.loop-e.invariant c.in-None.ensures.steps.0 (omega arith) c.requires

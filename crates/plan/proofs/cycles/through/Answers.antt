-- `plan::cycles::through` meets its contract: a bitwise or has the members of both.
use Rattle.basis.proofs.Answers.{holds}
use Rattle.plan.proofs.Closing.{through_yes}
use Rattle.plan.proofs.cycles.through.Goals as goal

pub returns-then-has : goal.returns-then-has
returns-then-has c = through_yes (holds c.has.ensures c.if-has.true)

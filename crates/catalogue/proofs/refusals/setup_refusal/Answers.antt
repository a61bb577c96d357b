-- `catalogue::refusals::setup_refusal` meets its contract: the last test comes out true after the others came out false.
use Rattle.catalogue.proofs.Order.{applies, passes}
use Rattle.catalogue.proofs.refusals.setup_refusal.Goals as goal

pub returns-then-weights_overflow : goal.returns-then-weights_overflow
returns-then-weights_overflow c =
    passes c.root_missing.ensures c.if-root_missing.false
    (passes c.mode_unknown.ensures c.if-mode_unknown.false
    (passes c.cycles_unknown.ensures c.if-cycles_unknown.false
    (passes c.objectives_misnumbered.ensures c.if-objectives_misnumbered.false
    (passes c.objective_unknown.ensures c.if-objective_unknown.false
    (passes c.objective_twice.ensures c.if-objective_twice.false
    (passes c.buffer_misfits.ensures c.if-buffer_misfits.false
    (applies (rw c.of.ensures at c.weights_overflow.ensures) c.if-weights_overflow.true)))))))

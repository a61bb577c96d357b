-- `catalogue::weights::weight_sum` meets its contract: the weights passed come to at most 65535 for each.
use Rattle.std.proofs.Common.{◌+◌, ◌*◌, arith}
use Rattle.catalogue.specs.Parts.{entries_alone}
use Rattle.catalogue.proofs.Totals.{weights_fit}
use Rattle.catalogue.proofs.weights.weight_sum.Goals as goal

pub overflow_add-total : goal.overflow_add-total
overflow_add-total c =
    omega (
      arith,
      weights_fit (entries_alone c.args.entries.numbers.now) c.loop-e.e (omega arith) c.args.entries.sized,
      c.args.entries.sized (c.loop-e.e * 5 + 4),
    )

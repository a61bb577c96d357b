-- `catalogue::weights::weight_sum` meets its contract. The loop's invariant: the total is the sum of the weights passed.
use Rattle.std.proofs.Common.{◌≡◌}
use Rattle.basis.specs.Sum.{sum}
use Rattle.catalogue.specs.Tables.{weight_of}
use Rattle.catalogue.specs.Parts.{entries_alone}
use Rattle.catalogue.proofs.weights.weight_sum.Given as goal

abbrev pub invariant-loop-e : goal.invariant-loop-e
invariant-loop-e l = l.total ≡ sum (weight_of (entries_alone l.entries.numbers.now)) l.e

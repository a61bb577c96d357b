-- `catalogue::index::of_package` meets its contract. The loop's invariant: the set has the entries of the package among those passed.
use Rattle.catalogue.specs.Parts.{entries_alone}
use Rattle.catalogue.specs.Steps.{OfPackage}
use Rattle.catalogue.proofs.index.of_package.Given as goal

abbrev pub invariant-loop-e : goal.invariant-loop-e
invariant-loop-e l = OfPackage (entries_alone l.entries.numbers.now) l.wanted l.e l.set

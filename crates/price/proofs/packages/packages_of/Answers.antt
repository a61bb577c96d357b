-- The packages of the members passed are named.
use native.Mathlib.Omega.{arith}
use Rattle.price.proofs.Filling.{naming_start, naming_on}
use Rattle.price.proofs.packages.packages_of.Goals as goal

pub loop-e-init : goal.loop-e-init
loop-e-init c =
    naming_start _ c.into_iter-e-iterator.ensures.into_iter_gives c.members-e-items.ensures (omega arith)

pub loop-e-preserved : goal.loop-e-preserved
loop-e-preserved c = naming_on c.loop-e.invariant c.in-Some.ensures.steps c.with_package-found.ensures

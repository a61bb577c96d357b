-- The prices below e are set.
use Prim.Native.Nat.{◌+◌, ◌*◌}
use lib.ListN.{get_or}
use Rattle.price.specs.Worth.{base_price_of}
use Rattle.price.proofs.Filling.{Filling}
use Rattle.price.proofs.packages.base_prices.Given as goal

abbrev pub invariant-loop-e : goal.invariant-loop-e
invariant-loop-e l = Filling (λ k. base_price_of l.objectives l.scale (get_or l.entries (k * 5 + 4) 0)) l.base l.e

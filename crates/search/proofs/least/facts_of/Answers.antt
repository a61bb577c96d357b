-- `search::least::facts_of` meets its contract.
use Prim.Native.Nat.{◌+◌, ◌*◌}
use native.Mathlib.Omega.{arith}
use Rattle.price.proofs.Worth.{scaled_small}
use Rattle.search.proofs.Rounds.{worked_out}
use Rattle.search.proofs.least.facts_of.Goals as goal

pub base_prices-requires-clause-small : goal.base_prices-requires-clause-small
base_prices-requires-clause-small c = scaled_small _ _ c.scale-scale.ensures c.requires.apart

pub returns : goal.returns
returns c =
    worked_out _ _ _ _ _ c.requires.few_entries c.requires.rising c.requires.apart (λ e. omega (arith, c.type_inv.entries (e * 5 + 4)))
    c.clashes.ensures c.alikes-alike.ensures c.scale-scale.ensures c.base_prices.ensures c.of.ensures

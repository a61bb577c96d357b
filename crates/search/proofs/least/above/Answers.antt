-- `search::least::above` meets its contract.
use mathlib.Core.List.{[]}
use Prim.Native.Nat.{ℕ, ◌+◌, ◌-◌, ◌*◌, ◌≤◌, ◌<◌, ◌^◌}
use lib.ListN.{get_or}
use native.Mathlib.Omega.{arith}
use Rattle.catalogue.specs.Survey.{tabled}
use Rattle.price.proofs.Worth.{light}
use Rattle.search.proofs.Rounds.{above_all}
use Rattle.search.proofs.least.above.Goals.{After-weight}
use Rattle.search.proofs.least.above.Goals as goal

light_each : (c : After-weight) (e : ℕ) → get_or c.args.entries.now (e * 5 + 4) 0 ≤ 65535
light_each c e = omega (arith, c.type_inv.entries (e * 5 + 4))

heavy : (c : After-weight) → c.weight.result < 4194304
heavy c =
    rw (c.weight.ensures [] [] [] (record { root = 0; mode = 0; cycles = 0 }))
    (light (tabled c.args.entries.now [] (record { root = 0; mode = 0; cycles = 0 }) [] []) (2 ^ 64 - 1) (record { entries = c.requires; weight = light_each c }))

pub overflow_add-result : goal.overflow_add-result
overflow_add-result c = omega (arith, heavy (goal.at.overflow_add-result c).After-weight)

pub returns-clause-most : goal.returns-clause-most
returns-clause-most c = omega (arith, heavy (goal.at.returns-clause-most c).After-weight)

pub returns-clause-above : goal.returns-clause-above
returns-clause-above c slots objectives fits settings =
    rw (c.weight.ensures slots objectives fits settings)
    (above_all (tabled c.args.entries.now slots settings objectives fits) (record { entries = c.requires; weight = light_each (goal.at.returns-clause-above c).After-weight }))

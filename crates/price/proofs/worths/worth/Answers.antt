-- `price::worths::worth` meets its contract.
use mathlib.Core.Path.{refl}
use Rattle.price.specs.Worth.{worth_of}
use Rattle.price.proofs.Units.{Digits, digits}
use native.Mathlib.Omega.{arith}
use Rattle.price.proofs.worths.worth.Goals as goal

pub overflow_mul-result : goal.overflow_mul-result
overflow_mul-result c =
    let each : Digits c.args.scale c.args.cost = digits _ _ c.requires (omega arith) (omega arith) (omega arith) in
    omega (arith, each.first)

pub overflow_mul-result-2 : goal.overflow_mul-result-2
overflow_mul-result-2 c =
    let each : Digits c.args.scale c.args.cost = digits _ _ c.requires (omega arith) (omega arith) (omega arith) in
    omega (arith, each.second)

pub overflow_mul-result-3 : goal.overflow_mul-result-3
overflow_mul-result-3 c =
    let each : Digits c.args.scale c.args.cost = digits _ _ c.requires (omega arith) (omega arith) (omega arith) in
    omega (arith, each.third)

pub overflow_add-result : goal.overflow_add-result
overflow_add-result c =
    let each : Digits c.args.scale c.args.cost = digits _ _ c.requires (omega arith) (omega arith) (omega arith) in
    omega (arith, each.second, each.third)

pub overflow_add-result-2 : goal.overflow_add-result-2
overflow_add-result-2 c =
    let each : Digits c.args.scale c.args.cost = digits _ _ c.requires (omega arith) (omega arith) (omega arith) in
    omega (arith, each.first, each.second, each.third)

pub returns : goal.returns
unfolding worth_of
returns c =
    let each : Digits c.args.scale c.args.cost = digits _ _ c.requires (omega arith) (omega arith) (omega arith) in
    (refl, omega (arith, each.first, each.second, each.third))

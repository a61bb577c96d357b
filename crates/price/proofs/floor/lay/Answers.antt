-- `price::floor::lay` meets its contract.
use Prim.Native.Nat.{◌+◌, ◌^◌, ◌<◌}
use native.Mathlib.Omega.{arith}
use Rattle.price.specs.Prices.{Low}
use Rattle.price.proofs.Bounds.{raised_low}
use Rattle.price.proofs.Drawing.{low_after}
use Rattle.price.proofs.Grounds.{laid}
use Rattle.price.proofs.floor.lay.Goals.{After-copy_from_slice, After-pay_needs-beyond}
use Rattle.price.proofs.floor.lay.Goals as goal

-- the prices are low to begin with, and stay low
raised_prices : (c : After-copy_from_slice) → Low c.copy_from_slice.new.self
raised_prices c =
    rw c.copy_from_slice.ensures.after (raised_low _ _ _ _ c.requires.moderate.each c.requires.moderate.small.double c.raised.ensures)

pub pay_all-fixed-requires : goal.pay_all-fixed-requires
pay_all-fixed-requires c = raised_prices (goal.at.pay_all-fixed-requires c).After-copy_from_slice

pub pay_slots-shared-requires : goal.pay_slots-shared-requires
pay_slots-shared-requires c =
    (low_after (raised_prices (goal.at.pay_slots-shared-requires c).After-copy_from_slice) c.pay_all-fixed.ensures).0

pub pay_needs-beyond-requires : goal.pay_needs-beyond-requires
pay_needs-beyond-requires c =
    (low_after (low_after (raised_prices (goal.at.pay_needs-beyond-requires c).After-copy_from_slice) c.pay_all-fixed.ensures).0 c.pay_slots-shared.ensures).0

-- all that is drawn is no more than they come to
drawn_fits : (c : After-pay_needs-beyond) → Low c.copy_from_slice.new.self → c.pay_all-fixed.result + c.pay_slots-shared.result + c.pay_needs-beyond.result < 2 ^ 62
drawn_fits c low = omega (arith, c.pay_all-fixed.ensures.whole, c.pay_slots-shared.ensures.whole, c.pay_needs-beyond.ensures.whole, low.1)

pub overflow_add-result : goal.overflow_add-result
overflow_add-result c =
    let at = goal.at.overflow_add-result c in
    omega (arith, drawn_fits at.After-pay_needs-beyond (raised_prices at.After-copy_from_slice))

pub overflow_add-result-2 : goal.overflow_add-result-2
overflow_add-result-2 c =
    let at = goal.at.overflow_add-result-2 c in
    omega (arith, drawn_fits at.After-pay_needs-beyond (raised_prices at.After-copy_from_slice))

pub returns : goal.returns
returns c =
    let known = c.packages_of-known.ensures in
    laid c.requires.moderate known.packaged known.few (rw c.copy_from_slice.ensures.after c.raised.ensures) c.pay_all-fixed.ensures c.pay_slots-shared.ensures c.pay_needs-beyond.ensures

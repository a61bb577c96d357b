-- `catalogue::slots::owners_fall` meets its contract: its closure decides of each slot past the first whether its owner is below the one before.
use Rattle.std.proofs.Common.{◌≡◌, suc, ◌-◌, ◌<◌, arith, rules, tests}
use Rattle.basis.proofs.Decide.{decides_by}
use Rattle.catalogue.specs.Tables.{owner_of}
use Rattle.catalogue.specs.Parts.{slots_alone}
use Rattle.catalogue.proofs.Searches.{some_in_range}
use Rattle.catalogue.proofs.slots.owners_fall.Goals as goal

pub returns : goal.returns
returns c =
    let L = slots_alone c.args.slots.now in
    decides_by
    (λ x. let e : suc (x.0 - 1) ≡ x.0 = omega (arith, x.1) in (x.0 - 1, omega (arith, x.1, x.2), (rw e x.2, rw e x.3)))
    (λ x. let e : suc x.0 - 1 ≡ x.0 = omega arith in (suc x.0, omega arith, x.2.0, rw e x.2.1))
    (some_in_range _ _ _ _ (λ s. owner_of L s < owner_of L (s - 1)) c.any.ensures.ran (λ s q k. search (rules, tests)) (λ s q k. search (rules, tests)))

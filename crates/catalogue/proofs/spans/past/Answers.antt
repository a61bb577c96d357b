-- `catalogue::spans::past` meets its contract: what is found is the first slot whose owner is `e` or above, and the slots passed have owners below it.
use Rattle.std.proofs.Common.{◌<◌, ◌≤◌, rules, tests}
use Rattle.std.proofs.lemmas.Iterator.{first_from_Range}
use Rattle.catalogue.specs.Spans.{owner_in}
use Rattle.catalogue.proofs.Spanned.{past_found}
use Rattle.catalogue.proofs.spans.past.Goals as goal

pub returns : goal.returns
returns c =
    let slots = c.args.slots.now in
    let e = c.args.e in
    rw c.unwrap_or.ensures
    (past_found slots c.args.from e c.find.result c.requires
    (first_from_Range _ _ _ _ (λ s. e ≤ owner_in slots s) (λ s. owner_in slots s < e) c.find.ensures.ran (λ s q k. search (rules, tests)) (λ s q k. search (rules, tests))))

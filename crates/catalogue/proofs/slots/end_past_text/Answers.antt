-- `catalogue::slots::end_past_text` meets its contract: its closure decides of each slot whether it has an end past the text.
use Rattle.std.proofs.Common.{refl, rules, tests}
use Rattle.catalogue.proofs.Searches.{some_below}
use Rattle.catalogue.proofs.slots.end_past_text.Goals as goal

pub returns : goal.returns
returns c = some_below refl c.any.ensures.ran (λ s q k. search (rules, tests)) (λ s q k. search (rules, tests))

-- `catalogue::slots::marks_cross` meets its contract: its closure decides of each slot whether it has a start after its end.
use Rattle.std.proofs.Common.{refl, rules, tests}
use Rattle.catalogue.proofs.Searches.{some_below}
use Rattle.catalogue.proofs.slots.marks_cross.Goals as goal

pub returns : goal.returns
returns c = some_below refl c.any.ensures.ran (λ s q k. search (rules, tests)) (λ s q k. search (rules, tests))

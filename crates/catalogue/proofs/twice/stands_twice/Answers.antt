-- `catalogue::twice::stands_twice` meets its contract: its closure decides of each place whether its item stands before it too.
use Rattle.std.proofs.Common.{refl, rules}
use Rattle.basis.proofs.Answers.{holds, fails}
use Rattle.catalogue.proofs.Searches.{some_below}
use Rattle.catalogue.proofs.twice.stands_twice.Goals as goal

pub returns : goal.returns
returns g c = some_below refl c.any.ensures.ran (λ i q k. search (rules, holds)) (λ i q k. search (rules, fails))

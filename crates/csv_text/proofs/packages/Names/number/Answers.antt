-- `csv_text::packages::Names::number` meets its contract: a name that is found is known, and one that is not is kept behind the others.
use mathlib.Core.Path.{◌≡◌, ◌∙◌}
use lib.ListN.{take}
use Rattle.std.proofs.Common.{rules, tests}
use Rattle.std.proofs.lemmas.Iterator.{IsFirst-from_position, YieldsList-from_slice}
use Rattle.std.proofs.lemmas.Iterator.Adapters.{serves_from_places}
use Rattle.csv_text.specs.Says.{place}
use Rattle.csv_text.specs.Numbering.{part, marked, known}
use Rattle.csv_text.proofs.Known.{lies_at, placed, number_known, number_new}
use Rattle.csv_text.proofs.packages.Names.number.Goals.{After-unwrap_or-place}
use Rattle.csv_text.proofs.packages.Names.number.Goals as goal

-- each mark that the search reads lies in the text
pub position-requires-clause-callable : goal.position-requires-clause-callable
position-requires-clause-callable c =
    serves_from_places (YieldsList-from_slice (take c.args.self.now.count c.args.self.now.seen) c.iter.ensures.rest) (λ x q k. search (rules, tests))
    (λ x k h e. let lies = lies_at c.args.text.now c.args.self.now c.requires.room x.now k h e in search rules)

-- where the search has found the name
found : (c : After-unwrap_or-place) → c.unwrap_or-place.result ≡ place (known c.args.text.now c.args.self.now) (part c.args.text.now c.args.start c.args.end)
found c =
    c.unwrap_or-place.ensures
    ∙ placed c.args.text.now c.args.self.now c.requires.room _ c.position.result
    (IsFirst-from_position _ _ _ (λ m. marked c.args.text.now m ≡ part c.args.text.now c.args.start c.args.end)
    (λ m. ¬ (marked c.args.text.now m ≡ part c.args.text.now c.args.start c.args.end)) c.position.ensures.ran (YieldsList-from_slice _ c.iter.ensures.rest)
    (λ x q k. search (rules, tests)) (λ x q k. search (rules, tests)))

pub returns-then-place-self-clause-numbered : goal.returns-then-place-self-clause-numbered
returns-then-place-self-clause-numbered c =
    let at = (goal.at.returns-then-place-self-clause-numbered c).After-unwrap_or-place in
    number_new c.args.text.now c.args.self.now c.requires.room (record { start = c.args.start; end = c.args.end }) (found at) c.if-place-self.true c.requires.few
    (record { order = c.requires.ordered; within = c.requires.within })

pub returns-else-place-self-clause-numbered : goal.returns-else-place-self-clause-numbered
returns-else-place-self-clause-numbered c =
    let at = (goal.at.returns-else-place-self-clause-numbered c).After-unwrap_or-place in
    number_known c.args.text.now c.args.self.now c.requires.room (record { start = c.args.start; end = c.args.end }) (found at) c.if-place-self.false

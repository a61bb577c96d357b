-- `search::least::least` meets its contract.
use mathlib.Core.Path.{refl}
use Rattle.plan.specs.Posing.{problem_by}
use Rattle.node.specs.Sought.{asked_of}
use Rattle.search.specs.Found.{Whole}
use Rattle.search.proofs.Foremost.{start_whole}
use Rattle.search.proofs.Rounds.{posed_rising, found_none}
use Rattle.search.proofs.least.least.Goals.{After-narrow}
use Rattle.search.proofs.least.least.Goals as goal

-- the node that narrowing leaves of the root alone
begun : (c : After-narrow) → Whole (problem_by c.args.problem.now) (asked_of c.args.given) c.narrow.result c.narrow.new.choices
begun c =
    start_whole _ _ _ c.requires _ _ c.under.ensures _ c.root_alone-root.ensures.must _ (λ s e h k m. m) c.root_alone-root.ensures.free _ refl
    (c.above-top.ensures.above _ _ _ _) _ _ (c.narrow.ensures _)

pub facts_of-facts-requires-clause-rising : goal.facts_of-facts-requires-clause-rising
facts_of-facts-requires-clause-rising c = posed_rising _ _ _ _ _ c.requires

pub returns-in_err-node : goal.returns-in_err-node
returns-in_err-node c = found_none _ (begun (goal.at.returns-in_err-node c).After-narrow) c.in_err-node.was c.from_residual.ensures

pub rounds-requires-clause-whole : goal.rounds-requires-clause-whole
rounds-requires-clause-whole c = rw (c.in_ok-node.was) at (begun (goal.at.rounds-requires-clause-whole c).After-narrow)

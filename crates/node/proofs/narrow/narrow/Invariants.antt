-- `node::narrow::narrow` meets its contract: the rounds so far have dropped nothing that a plan that is sought has.
use Rattle.std.specs.Prelude.{Some}
use Rattle.pacsolve.specs.Listing.{Asked}
use Rattle.plan.specs.Posing.{problem_by}
use Rattle.node.specs.Narrowing.{Narrowed}
use Rattle.node.specs.Sought.{limit_of}
use Rattle.node.proofs.narrow.narrow.Given as goal

abbrev pub invariant-loop : goal.invariant-loop
invariant-loop l = (q : Asked) → Narrowed (problem_by l.problem) q (limit_of l.limit l.plan) l.initial.at l.initial.choices (Some l.at) l.choices

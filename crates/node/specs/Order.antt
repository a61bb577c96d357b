-- Which of two plans comes first, by their costs and tables.
use Rattle.std.specs.Prelude.{◌≡◌, Option, Some, None, List, ◌⊎◌, ℕ}
use Rattle.pacsolve.specs.declared.Cost.{Cost}
use Rattle.pacsolve.specs.Cost.{numbers}
use Rattle.pacsolve.specs.Order.{Earlier}
use Rattle.node.specs.declared.Limit.{Limit}
use Rattle.node.specs.declared.Limit.TheVariants.{Under, Before}
use Rattle.node.specs.declared.Given.{Given}

-- a plan with cost a and table s comes before one with cost b and table t
abbrev pub Ahead : Cost → List ℕ → Cost → List ℕ → Type 0
Ahead a s b t = Earlier (numbers a) (numbers b) ⊎ ((a ≡ b) × Earlier s t)

-- a plan comes after the one that is given, where one is
abbrev pub AfterGiven : Option Given → Cost → List ℕ → Type 0
AfterGiven None a s = Unit {0}
AfterGiven (Some g) a s = Ahead g.cost g.plan.table.now a s

-- a plan comes before the limit's plan, whose table is t, or costs less than the limit's bound
abbrev pub Sooner : Limit → List ℕ → Cost → List ℕ → Type 0
Sooner (Under c) t a s = Earlier (numbers a) (numbers c)
Sooner (Before l) t a s = Ahead a s l.cost t

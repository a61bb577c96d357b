-- `plan::judging::first_fault` meets its contract: each condition is tested where those before it hold, and none looks at the objectives.
use mathlib.Core.List.{List}
use Prim.Native.Nat.{ℕ}
use Rattle.basis.specs.Tests.{Decides}
use Rattle.basis.proofs.Answers.{fails, holds}
use Rattle.catalogue.specs.Survey.{tabled}
use Rattle.pacsolve.specs.Plan.{plan_of, Rooted, Consistent}
use Rattle.pacsolve.specs.Problem.{Problem}
use Rattle.plan.specs.declared.Problem.{Problem as LentProblem}
use Rattle.plan.proofs.Faults.{fault_1, fault_2, fault_3, fault_4, fault_5, fault_6}
use Rattle.plan.proofs.judging.first_fault.Goals.{After-rooted, After-consistent}
use Rattle.plan.proofs.judging.first_fault.Goals as goal

-- the problem with any objectives
abbrev posed : LentProblem → List ℕ → Problem
posed q objectives = tabled q.entries.now q.slots.now q.settings objectives q.fits.now

-- the tests of the conditions that look neither at slots nor at the table besides
rooted_test : (c : After-rooted) (objectives : List ℕ) → Decides c.rooted.result (Rooted (posed c.args.problem.now objectives) (plan_of c.args.plan.now))
rooted_test c objectives = c.rooted.ensures c.args.problem.now.slots.now objectives c.args.problem.now.fits.now c.args.plan.now.table.now

consistent_test : (c : After-consistent) (objectives : List ℕ)
    → Decides c.consistent.result (Consistent (posed c.args.problem.now objectives) (plan_of c.args.plan.now))
consistent_test c objectives = c.consistent.ensures c.args.problem.now.slots.now objectives c.args.problem.now.fits.now c.args.plan.now.table.now

pub returns-then-not-rooted : goal.returns-then-not-rooted
returns-then-not-rooted c = λ objectives. fault_1 _ _ (fails (rooted_test (goal.at.returns-then-not-rooted c).After-rooted objectives) c.if-not-rooted.true)

pub returns-then-not-reached : goal.returns-then-not-reached
returns-then-not-reached c =
    λ objectives.
    fault_2 _ _
    (holds (rooted_test (goal.at.returns-then-not-reached c).After-rooted objectives) c.if-not-rooted.false)
    (fails (c.reached.ensures c.args.problem.now.entries.now objectives c.args.problem.now.fits.now) c.if-not-reached.true)

pub returns-then-not-named : goal.returns-then-not-named
returns-then-not-named c =
    λ objectives.
    fault_3 _ _
    (holds (rooted_test (goal.at.returns-then-not-named c).After-rooted objectives) c.if-not-rooted.false)
    (holds (c.reached.ensures c.args.problem.now.entries.now objectives c.args.problem.now.fits.now) c.if-not-reached.false)
    (fails (c.named.ensures c.args.problem.now.entries.now objectives c.args.problem.now.fits.now c.args.problem.now.settings) c.if-not-named.true)

pub returns-then-not-fitting : goal.returns-then-not-fitting
returns-then-not-fitting c =
    λ objectives.
    fault_4 _ _
    (holds (rooted_test (goal.at.returns-then-not-fitting c).After-rooted objectives) c.if-not-rooted.false)
    (holds (c.reached.ensures c.args.problem.now.entries.now objectives c.args.problem.now.fits.now) c.if-not-reached.false)
    (holds (c.named.ensures c.args.problem.now.entries.now objectives c.args.problem.now.fits.now c.args.problem.now.settings) c.if-not-named.false)
    (fails (c.fitting.ensures objectives c.args.problem.now.settings) c.if-not-fitting.true)

pub returns-then-not-consistent : goal.returns-then-not-consistent
returns-then-not-consistent c =
    λ objectives.
    fault_5 _ _
    (holds (rooted_test (goal.at.returns-then-not-consistent c).After-rooted objectives) c.if-not-rooted.false)
    (holds (c.reached.ensures c.args.problem.now.entries.now objectives c.args.problem.now.fits.now) c.if-not-reached.false)
    (holds (c.named.ensures c.args.problem.now.entries.now objectives c.args.problem.now.fits.now c.args.problem.now.settings) c.if-not-named.false)
    (holds (c.fitting.ensures objectives c.args.problem.now.settings) c.if-not-fitting.false)
    (fails (consistent_test (goal.at.returns-then-not-consistent c).After-consistent objectives) c.if-not-consistent.true)

pub returns-then-not-acyclic : goal.returns-then-not-acyclic
returns-then-not-acyclic c =
    λ objectives.
    fault_6 _ _
    (holds (rooted_test (goal.at.returns-then-not-acyclic c).After-rooted objectives) c.if-not-rooted.false)
    (holds (c.reached.ensures c.args.problem.now.entries.now objectives c.args.problem.now.fits.now) c.if-not-reached.false)
    (holds (c.named.ensures c.args.problem.now.entries.now objectives c.args.problem.now.fits.now c.args.problem.now.settings) c.if-not-named.false)
    (holds (c.fitting.ensures objectives c.args.problem.now.settings) c.if-not-fitting.false)
    (holds (consistent_test (goal.at.returns-then-not-acyclic c).After-consistent objectives) c.if-not-consistent.false)
    (fails (c.acyclic.ensures c.args.problem.now.entries.now objectives c.args.problem.now.fits.now) c.if-not-acyclic.true)

pub returns : goal.returns
returns c =
    λ objectives.
    record {
      rooted = holds (rooted_test (goal.at.returns c).After-rooted objectives) c.if-not-rooted.false;
      reached = holds (c.reached.ensures c.args.problem.now.entries.now objectives c.args.problem.now.fits.now) c.if-not-reached.false;
      named = holds (c.named.ensures c.args.problem.now.entries.now objectives c.args.problem.now.fits.now c.args.problem.now.settings) c.if-not-named.false;
      fitting = holds (c.fitting.ensures objectives c.args.problem.now.settings) c.if-not-fitting.false;
      consistent = holds (consistent_test (goal.at.returns c).After-consistent objectives) c.if-not-consistent.false;
      acyclic = holds (c.acyclic.ensures c.args.problem.now.entries.now objectives c.args.problem.now.fits.now) c.if-not-acyclic.false;
    }

-- The problem that is lent to code: tables, settings, objectives and the sets of the entries that fit the slots.
use Rattle.pacsolve.specs.Problem.{Problem}
use Rattle.catalogue.specs.Survey.{tabled}
use Rattle.plan.specs.declared.Problem.{Problem as LentProblem}

abbrev pub problem_by : LentProblem → Problem
problem_by q = tabled q.entries.now q.slots.now q.settings q.objectives.now q.fits.now

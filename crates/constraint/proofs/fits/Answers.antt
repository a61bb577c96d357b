-- `constraint::fits` meets its contract: the version's key is selected exactly if the version satisfies the constraint.
use mathlib.Core.Path.{refl}
use mathlib.Core.Logic.{inl}
use native.Mathlib.Omega.{arith}
use Rattle.constraint.specs.Reading.{Answers}
use Rattle.constraint.proofs.Selecting.{answers_by}
use Rattle.constraint.proofs.fits.Goals as goal

pub returns-in_default : goal.returns-in_default
returns-in_default c = Answers.refused (inl (c.in_default.ensures, refl)) refl

pub returns : goal.returns
returns c = answers_by c.in-Some.set (omega arith) c.pack.ensures c.in-Some.ensures c.has.ensures

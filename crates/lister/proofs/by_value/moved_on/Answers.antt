-- `lister::by_value::moved_on` meets its contract.
use mathlib.Core.Path.{refl}
use Rattle.basis.proofs.Refusals.{number_differs}
use Rattle.lister.specs.Turns.{closed, left, refused_with, given_plan}
use Rattle.lister.proofs.by_value.moved_on.Goals as goal

pub returns-in-Ok : goal.returns-in-Ok
returns-in-Ok c = given_plan c.in-Ok.is refl

pub returns-in-NoPlan : goal.returns-in-NoPlan
returns-in-NoPlan c = refused_with c.in-Err.is (closed (rw c.in-NoPlan.is refl) refl)

pub returns-in_default : goal.returns-in_default
returns-in_default c = refused_with c.in-Err.is (left (λ e. c.in_default.not-NoPlan (number_differs e)) refl)

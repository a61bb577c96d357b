-- `constraint::bound::bound` meets its contract: what opens a bound and what closes it make one, and the keys in its range are those that satisfy it.
use native.Mathlib.Omega.{arith}
use Rattle.constraint.specs.Meaning.{bound}
use Rattle.constraint.specs.Range.{bound_of}
use Rattle.constraint.proofs.Bounded.{bound_read, bound_not_opened, bound_not_closed}
use Rattle.constraint.proofs.Picked.{picks_bound}
use Rattle.constraint.proofs.Texts.{part_from}
use Rattle.constraint.proofs.bound.bound.Goals as goal

pub returns-in_err-sign : goal.returns-in_err-sign
returns-in_err-sign c = rw c.from_residual.ensures (bound_not_opened c.in_err-sign.ensures)

pub returns-in_err-version : goal.returns-in_err-version
returns-in_err-version c =
    rw c.from_residual-in_err-version.ensures
    (bound_not_closed (bound_of c.in_ok-sign.sign.value) c.in_ok-sign.ensures (simp part_from at c.in_err-version.ensures))

pub returns : goal.returns
returns c =
    record {
      what = bound (bound_of c.in_ok-sign.sign.value) c.in_ok-version.version.value;
      meant = tt;
      spelled = bound_read c.in_ok-sign.ensures (simp part_from at c.in_ok-version.ensures);
      picked = picks_bound (λ e. omega (arith, c.type_inv.keys e)) c.span.ensures c.chosen-value.ensures;
    }

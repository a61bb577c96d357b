-- `constraint::select` meets its contract: where more bytes follow what was read of the part, the part is read as no constraint.
use native.Mathlib.Omega.{arith}
use Rattle.constraint.proofs.Selecting.{unread_more}
use Rattle.constraint.proofs.select.Goals as goal

pub returns-then-found-part : goal.returns-then-found-part
returns-then-found-part c = unread_more c.in_ok-found.ensures (omega arith)

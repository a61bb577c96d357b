-- `plan::costs::sum_over` meets its contract. The loop walks through the members and adds up the numbers of those below n; each is below 2 ^ 16 and they are at most
-- 64, so that the sum fits.
use mathlib.Core.Path.{◌≡◌}
use Prim.Native.Nat.{ℕ, ◌<◌}
use Rattle.plan.proofs.Totals.{Adding}
use Rattle.plan.proofs.costs.sum_over.Given as goal

abbrev pub invariant-loop-e : goal.invariant-loop-e
invariant-loop-e g l = Adding (λ of. (e r : ℕ) → e < 64 → goal.F-post g l.number e r → r ≡ of e) l.set l.n l.total l.e-iterator.rest

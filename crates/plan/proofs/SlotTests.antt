-- What tells condition 3, by every slot, and that nothing stands for no choice.
use mathlib.Core.Bool.{Bool}
use Prim.Native.Nat.{ℕ, ◌^◌, ◌<◌}
use native.Mathlib.Omega.{arith}
use Rattle.basis.specs.Tests.{Decides}
use Rattle.basis.proofs.Decide.{decides_by}
use Rattle.bitset.specs.Bits.{Member}
use Rattle.bitset.proofs.Sets.{member_below}
use Rattle.pacsolve.specs.Problem.{Problem}
use Rattle.pacsolve.specs.Plan.{Plan, none, Named}
use Rattle.plan.specs.Slots.{NamedAt}

pub named_by_slots : {b : Bool} (p : Problem) (P : Plan) → Decides b ((s : ℕ) → s < p.slots → NamedAt p P s) → Decides b (Named p P)
named_by_slots p P d =
    decides_by
    (λ f. record { filled = λ s h. (f s h).filled; empty = λ s h. (f s h).empty })
    (λ n s h. record { filled = n.filled s h; empty = n.empty s h })
    d

-- a set has no place for what a slot holds that nothing is chosen for
pub none_no_member : (set : ℕ) → set < 2 ^ 64 → ¬ Member set none
none_no_member set h m = omega (arith, member_below 64 set none h m)

-- `abi::boxplan_turn` meets its contract.
use mathlib.Core.Path.{◌≡◌, refl}
use mathlib.Core.List.{List, [], ◌∷◌}
use Prim.Native.Nat.{ℕ}
use native.Mathlib.Omega.{arith}
use lib.ListN.{length, get_or}
use Rattle.abi.specs.Crossing.{answered}
use Rattle.abi.proofs.boxplan_turn.Goals as goal

-- what stands in a slice of one number
one_read : (xs : List ℕ) → length xs ≡ 1 → xs ≡ get_or xs 0 0 ∷ []
one_read [] h = absurd (omega (arith, h))
one_read (x ∷ []) h = refl
one_read (x ∷ y ∷ xs) h = absurd (omega (arith, h))

pub returns : goal.returns
returns c =
    answered (one_read c.args.stage.now c.if-stage-ne1.false) (one_read c.args.last.now c.if-last-ne1.false)
    c.if-set-ne1.false c.if-cost-ne3.false c.turned-turned.ensures c.hand_out.ensures.0
    c.hand_back.ensures.0 c.hand_back.ensures.1 c.hand_out.ensures.1.0 c.hand_out.ensures.1.1

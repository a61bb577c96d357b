-- What is reached from the root grows along the chosen slots: by one slot, by one round through the slots, and until a round adds nothing.
use Rattle.std.specs.Prelude.{◌≡◌, ◌⊎◌, ◌↔◌, ℕ}
use Rattle.bitset.specs.Bits.{Member}
use Rattle.pacsolve.specs.Problem.{Problem}
use Rattle.pacsolve.specs.Plan.{Plan, MemberOf, Step, Walk}

-- r is what is reached, with the entry that a slot names where its owner is reached and the entry is a member
pub record Joins (set reach owner choice r : ℕ) : Type 0 where
  pub members : (e : ℕ) → Member r e ↔ (Member reach e ⊎ (Member reach owner × (e ≡ choice) × Member set e))

-- r is what is reached after a round: what was reached before, all that is one step from it, and, where that was of members, nothing that no walk leads to
pub record Rounds (p : Problem) (P : Plan) (reach r : ℕ) : Type 0 where
  pub kept : (e : ℕ) → Member reach e → Member r e
  pub stepped : (d e : ℕ) → Member reach d → Step p P d e → Member r e
  pub led : ((e : ℕ) → Member reach e → MemberOf P e) → (e : ℕ) → Member r e → (d : ℕ) × Member reach d × Walk p P d e

-- r is all that is reached from the root, where that is a member
pub record Grown (p : Problem) (P : Plan) (r : ℕ) : Type 0 where
  pub sure : (e : ℕ) → Member r e → MemberOf P p.root × Walk p P p.root e
  pub full : MemberOf P p.root → (e : ℕ) → Walk p P p.root e → Member r e

-- The order of plans (document 01, "Order"): the lower cost first; at equal cost, tables compared byte by byte from slot 0.
use Rattle.std.specs.Prelude.{◌≡◌, List, ◌∷◌, ℕ, ◌<◌}
use Rattle.pacsolve.specs.Problem.{Problem}
use Rattle.pacsolve.specs.Plan.{Plan}
use Rattle.pacsolve.specs.Cost.{cost, numbers}

-- compared number by number from the first
pub data Earlier : List ℕ → List ℕ → Type 0 where
  lower : {a b : ℕ} {s t : List ℕ} → a < b → Earlier (a ∷ s) (b ∷ t)
  alike : {a : ℕ} {s t : List ℕ} → Earlier s t → Earlier (a ∷ s) (a ∷ t)

pub data Precedes (p : Problem) (P Q : Plan) : Type 0 where
  cheaper : Earlier (numbers (cost p P.set)) (numbers (cost p Q.set)) → Precedes p P Q
  tied : cost p P.set ≡ cost p Q.set → Earlier P.table Q.table → Precedes p P Q

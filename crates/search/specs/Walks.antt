-- What the walk promises: below its new limit nothing that is sought is left at the node.
use Rattle.std.specs.Prelude.{◌≡◌, List, ◌⊎◌, ℕ}
use Rattle.pacsolve.specs.Problem.{Problem}
use Rattle.pacsolve.specs.Plan.{Plan}
use Rattle.pacsolve.specs.Listing.{Good, Asked, Wanted}
use Rattle.pacsolve.specs.declared.Listed.{Listed}
use Rattle.node.specs.declared.Limit.{Limit as DeclaredLimit}
use Rattle.node.specs.declared.Limit.TheVariants.{Before}
use Rattle.node.specs.declared.Node.{Node}
use Rattle.node.specs.Sought.{Limit, before, Below, Sought, limit_of, CostedLimit}

-- nothing that is sought is left at a node
abbrev pub Spent : Problem → Asked → Limit → ℕ → ℕ → List ℕ → Type 0
Spent p q lim must ban choices = (P : Plan) → ¬ Sought p q lim must ban choices P

-- a limit after a search: the one before it, or a good plan that is asked for and lay below it
pub data Tightened (p : Problem) (q : Asked) (lim lim' : Limit) : Type 0 where
  same : lim' ≡ lim → Tightened p q lim lim'
  better : {P : Plan} → Good p P → Wanted p q P → Below p lim P → lim' ≡ before P → Tightened p q lim lim'

-- THE PROMISE of the walk: below the new limit nothing is left at the node
pub record Searched (p : Problem) (q : Asked) (lim : Limit) (must ban : ℕ) (choices : List ℕ) (lim' : Limit) : Type 0 where
  pub tightened : Tightened p q lim lim'
  pub spent : Spent p q lim' must ban choices

-- the buffer is written only with a plan
abbrev pub Written : DeclaredLimit → List ℕ → DeclaredLimit → List ℕ → Type 0
Written limit buffer limit' buffer' = ((best : Listed) × (limit' ≡ Before best)) ⊎ ((buffer' ≡ buffer) × (limit' ≡ limit))

-- the node is searched: below the new limit nothing is left of what was asked for
pub record Walked (p : Problem) (q : Asked) (node : Node) (choices : List ℕ) (limit : DeclaredLimit) (buffer : List ℕ) (limit' : DeclaredLimit) (buffer' : List ℕ) : Type 0 where
  pub searched : Searched p q (limit_of limit buffer) node.must node.ban choices (limit_of limit' buffer')
  pub costed : CostedLimit p limit'
  pub written : Written limit buffer limit' buffer'

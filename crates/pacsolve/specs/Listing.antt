-- The listing: every sound plan, each once, in order. It is defined by what it holds; that asking for the first plan and then for the next walks through it is a
-- theorem.
use Rattle.std.specs.Prelude.{◌≡◌, List, [], ◌∷◌, length}
use Rattle.basis.specs.Bytes.{All}
use Rattle.basis.specs.Lists.{In}
use Rattle.pacsolve.specs.Problem.{Problem}
use Rattle.pacsolve.specs.Plan.{Plan, Sound}
use Rattle.pacsolve.specs.Order.{Precedes}

-- a plan of the right size that is sound
pub record Good (p : Problem) (P : Plan) : Type 0 where
  pub sized : length P.table ≡ p.slots
  pub sound : Sound p P

-- each plan precedes all that come later in the list
abbrev pub Rising : Problem → List Plan → Type 0
Rising p [] = Unit {0}
Rising p (P ∷ Ps) = All (Precedes p P) Ps × Rising p Ps

-- rising, and a plan stands in it exactly if it is of the right size and sound
pub record Listing (p : Problem) (Ps : List Plan) : Type 0 where
  pub rising : Rising p Ps
  pub good : (P : Plan) → In P Ps → Good p P
  pub complete : (P : Plan) → Good p P → In P Ps

-- which plans are asked for: all, or those after a given one
pub data Asked : Type 0 where
  from_the_start : Asked
  after : Plan → Asked

abbrev pub Wanted : Problem → Asked → Plan → Type 0
Wanted p from_the_start Q = Unit {0}
Wanted p (after P) Q = Precedes p P Q

-- the least sound plan of those asked for
pub record Least (p : Problem) (a : Asked) (P : Plan) : Type 0 where
  pub good : Good p P
  pub wanted : Wanted p a P
  pub least : (Q : Plan) → Good p Q → Wanted p a Q → ¬ Precedes p Q P

-- there is none
abbrev pub NoneLeft : Problem → Asked → Type 0
NoneLeft p a = (Q : Plan) → Good p Q → ¬ Wanted p a Q

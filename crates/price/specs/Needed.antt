-- Needed sets that wait to be followed, and the sets that they lead to.
use Rattle.std.specs.Prelude.{◌≡◌, List, ◌⊎◌, ℕ, ◌+◌, ◌≤◌, ◌<◌, get_or, Option, MatchOption}
use Rattle.price.specs.declared.needs.Need.{Need}
use Rattle.price.specs.declared.queue.Queue.{Queue}
use Rattle.price.specs.Prices.{Meets, Has, Serves, Needs}

-- the choices of a slot of e, of which there are some
pub record SlotOf (need : Need) (e r : ℕ) : Type 0 where
  pub some : ¬ (r ≡ 0)
  pub slot : (s : ℕ) × (get_or need.spans.now.first e 0 ≤ s) × (s < get_or need.spans.now.first (e + 1) 0) × (r ≡ get_or need.choices.now s 0)

-- a set that meets one, and has a choice of each slot of its members, meets the other, which is not empty
pub record Leads (need : Need) (from to : ℕ) : Type 0 where
  pub some : ¬ (to ≡ 0)
  pub on : (set : ℕ) → Meets from set → Serves need.spans.now.first set need.choices.now set → Meets to set

-- the sets in a queue are those that were there, and maybe a new one
pub record Put (queue queue' : Queue) (new : ℕ) : Type 0 where
  pub first : queue'.first ≡ queue.first
  pub each : (i : ℕ) → i < queue'.count → ((¬ (new ≡ 0)) × (get_or queue'.sets i 0 ≡ new)) ⊎ ((i < queue.count) × (get_or queue'.sets i 0 ≡ get_or queue.sets i 0))

-- the first set that waits is taken, and there is one more that was followed
pub record TakenOne (queue queue' : Queue) (set : ℕ) : Type 0 where
  pub waits : queue.first < queue.count
  pub its : set ≡ get_or queue.sets queue.first 0
  pub left : queue' ≡ record queue { first = queue.first + 1 }

-- the first set that waits, and none where all were followed
abbrev pub Taken : Queue → Queue → Option ℕ → Type 0
Taken queue queue' r = MatchOption r (queue' ≡ queue) (λ set. TakenOne queue queue' set)

-- every set of a node meets n, which is not empty
pub record Needed (need : Need) (n : ℕ) : Type 0 where
  pub some : ¬ (n ≡ 0)
  pub meets : Needs need.spans.now.first need.must need.choices.now n

-- the sets in a queue are all needed
pub record Waiting (need : Need) (queue : Queue) : Type 0 where
  pub each : (i : ℕ) → i < queue.count → Needed need (get_or queue.sets i 0)

-- what every set of a node has: all of must, and a choice of each slot of its members
abbrev pub Closed : List ℕ → ℕ → List ℕ → ℕ → Type 0
Closed first must choices set = Has must set × Serves first set choices set

-- the same, by what needed sets go by
abbrev pub Inside : Need → ℕ → Type 0
Inside need set = Closed need.spans.now.first need.must need.choices.now set

-- Lower tables: a table that is nowhere above another comes before all that the other comes before, so a plan at the best's cost lies inside a node only if the
-- lowest table of the node comes before the best's.
use mathlib.Core.Path.{◌≡◌, sym, ap, ◌∙◌}
use mathlib.Core.List.{List, [], ◌∷◌}
use mathlib.Core.Logic.{◌⊎◌, inl, inr}
use Prim.Native.Nat.{ℕ, suc, ◌+◌, ◌≤◌, ◌<◌}
use native.Mathlib.Decide.{dec_lt}
use native.Mathlib.Omega.{arith}
use lib.ListN.{length, get_or, take}
use lib.Seq.{get_or-take, length-take-le}
use Rattle.bitset.specs.Bits.{Member}
use Rattle.bitset.specs.Search.{LowestOr64}
use Rattle.bitset.proofs.Sets.{member_or_not, not_empty}
use Rattle.pacsolve.specs.Problem.{Problem}
use Rattle.pacsolve.specs.Plan.{Plan, plan, chosen, MemberOf}
use Rattle.pacsolve.specs.declared.Cost.{Cost}
use Rattle.pacsolve.specs.declared.Listed.{Listed}
use Rattle.pacsolve.specs.Cost.{cost}
use Rattle.pacsolve.specs.Listing.{Good}
use Rattle.pacsolve.specs.Order.{Earlier, lower, alike, Precedes, cheaper, tied}
use Rattle.pacsolve.proofs.Order.{earlier_cases}
use Rattle.price.specs.declared.Scale.{Scale}
use Rattle.price.specs.Worth.{Scaled, worth_of}
use Rattle.price.proofs.Worth.{Modest, worth_less}
use Rattle.node.specs.declared.Node.{Node}
use Rattle.node.specs.Facts.{LowTable, Ceils}
use Rattle.node.specs.Sought.{under, before, Inside}
use Rattle.node.proofs.Slotted.{Slotted}

-- the lowest member is no higher than another
pub lowest_low : {set r : ℕ} → LowestOr64 set r → (e : ℕ) → Member set e → r ≤ e
lowest_low {set} {r} l e m = go (dec_lt e r)
  where
    go : Dec (e < r) → r ≤ e
    go (yes h) = absurd ((l.some (not_empty set e m)).least e h m)
    go (no n) = omega arith

-- a table that is nowhere above another
pub nowhere_above : (s t u : List ℕ) → length s ≡ length t → ((i : ℕ) → i < length t → get_or s i 255 ≤ get_or t i 255) → Earlier t u → Earlier s u
nowhere_above [] [] u l below h = h
nowhere_above (a ∷ s) [] u l below h = absurd (omega arith)
nowhere_above [] (b ∷ t) u l below h = absurd (omega arith)
nowhere_above (a ∷ s) (b ∷ t) [] l below h = absurd (earlier_cases h)
nowhere_above (a ∷ s) (b ∷ t) (c ∷ u) l below h =
    go (earlier_cases h) (dec_lt a c) (nowhere_above s t u (omega (arith, l)) (λ i k. below (suc i) (omega arith)))
  where
    first : a ≤ b
    first = below 0 (omega arith)

    go : (b < c) ⊎ ((b ≡ c) × Earlier t u) → Dec (a < c) → (Earlier t u → Earlier s u) → Earlier (a ∷ s) (c ∷ u)
    go x (yes k) rest = lower k
    go (inl x) (no n) rest = absurd (omega (arith, first))
    go (inr x) (no n) rest = let same : a ≡ c = omega (arith, first, x.0) in rw same (alike (rest x.1))

module _ (p : Problem) (slots : List ℕ) (slotted : Slotted p slots) (node : Node) (choices table : List ℕ) (low : LowTable slots node.ban choices table)
    (few : p.slots ≤ length table) where
  -- the node's lowest table is nowhere above that of a plan inside
  module _ (P : Plan) (good : Good p P) (inside : Inside p node.must node.ban choices P) where
    at : (s : ℕ) → s < p.slots → get_or table s 255 ≤ chosen P s
    at s h = go (member_or_not P.set (p.owner s))
      where
        go : Dec (MemberOf P (p.owner s)) → get_or table s 255 ≤ chosen P s
        go (yes o) = (low.low s (rw slotted.count at h)).due (λ b. inside.lacks (p.owner s) (rw (slotted.owner s h) b) o) (chosen P s) (inside.names s h o)
        go (no n) = omega (arith, (low.low s (rw slotted.count at h)).most, good.sound.named.empty s h n)

    pub before_too : (t : List ℕ) → Earlier P.table t → Earlier (take p.slots table) t
    before_too t h =
        nowhere_above (take p.slots table) P.table t (length-take-le p.slots table few ∙ sym good.sized) (λ i l.
        let small : i < p.slots = omega (arith, good.sized) in
        rw (get_or-take p.slots table i 255 small) (at i small)) h

module _ (p : Problem) (scale : Scale) (scaled : Scaled p.objectives scale) (modest : Modest p) (node : Node) (choices : List ℕ) where
  -- no plan is found: all that is sought costs less than the bound
  pub ceils_bound : (c : Cost) → Ceils p scale (under c) node choices (worth_of scale c)
  ceils_bound c = record { over = λ P good below inside. worth_less p scale scaled modest P.set c below }

  -- at the best's cost, where a lower table is to be had or not
  module _ (best : Listed) (costed : best.cost ≡ cost p best.set) (buffer : List ℕ) where
    worth_at : (P : Plan) → Precedes p P (plan best.set buffer)
        → (worth_of scale (cost p P.set) < worth_of scale best.cost) ⊎ ((worth_of scale (cost p P.set) ≡ worth_of scale best.cost) × Earlier P.table buffer)
    worth_at P (cheaper h) = inl (rw costed (worth_less p scale scaled modest P.set (cost p best.set) h))
    worth_at P (tied e t) = inr (ap (worth_of scale) (e ∙ sym costed), t)

    pub ceils_tied : Ceils p scale (before (plan best.set buffer)) node choices (worth_of scale best.cost + 1)
    ceils_tied = record { over = λ P good below inside. go (worth_at P below) }
      where
        go : {w : ℕ} {A : Type 0} → (w < worth_of scale best.cost) ⊎ ((w ≡ worth_of scale best.cost) × A) → w < worth_of scale best.cost + 1
        go (inl h) = omega arith
        go (inr h) = omega (arith, h.0)

    pub ceils_past : (slots : List ℕ) → Slotted p slots → (table : List ℕ) → LowTable slots node.ban choices table → p.slots ≤ length table
        → ¬ Earlier (take p.slots table) buffer → Ceils p scale (before (plan best.set buffer)) node choices (worth_of scale best.cost)
    ceils_past slots slotted table low few late = record { over = λ P good below inside. go P good inside (worth_at P below) }
      where
        go : (P : Plan) → Good p P → Inside p node.must node.ban choices P
            → (worth_of scale (cost p P.set) < worth_of scale best.cost) ⊎ ((worth_of scale (cost p P.set) ≡ worth_of scale best.cost) × Earlier P.table buffer)
            → worth_of scale (cost p P.set) < worth_of scale best.cost
        go P good inside (inl h) = h
        go P good inside (inr h) = absurd (late (before_too p slots slotted node choices table low few P good inside buffer h.1))

-- The walk's loop at a node: whatever is still sought at the node that the loop began with, below the limit as it now is, is inside the node as it now is. Each
-- thing that a turn of the loop does keeps that, and where it comes to an end the node is searched.
use mathlib.Core.Path.{◌≡◌, refl}
use mathlib.Core.List.{List}
use mathlib.Core.Logic.{◌⊎◌, inl, inr}
use Prim.Native.Nat.{ℕ, ◌<◌}
use lib.Bits.{bit_or}
use lib.ListN.{length, get_or, set}
use Rattle.std.specs.Prelude.{Option, Some, None}
use Rattle.bitset.specs.Bits.{Member}
use Rattle.bitset.proofs.Made.{join_members}
use Rattle.pacsolve.specs.Problem.{Problem}
use Rattle.pacsolve.specs.Plan.{Plan, chosen, MemberOf}
use Rattle.pacsolve.specs.Listing.{Good, Asked}
use Rattle.node.specs.declared.Node.{Node}
use Rattle.node.specs.Sought.{Limit, Inside, Sought}
use Rattle.node.specs.Steps.{Only}
use Rattle.node.specs.Narrowing.{Narrowed}
use Rattle.node.proofs.Slotted.{Slotted}
use Rattle.search.specs.Walks.{Spent, Tightened, same, Searched}
use Rattle.search.specs.Picks.{Due}
use Rattle.search.proofs.Search.{below_tightened, tightened_trans, split}

pub record Going (p : Problem) (q : Asked) (lim₀ : Limit) (must₀ ban₀ : ℕ) (choices₀ : List ℕ) (lim : Limit) (must ban : ℕ) (choices : List ℕ) : Type 0 where
  pub tightened : Tightened p q lim₀ lim
  pub keeps : (P : Plan) → Sought p q lim must₀ ban₀ choices₀ P → Inside p must ban choices P

pub going_start : (p : Problem) (q : Asked) (lim : Limit) (must ban : ℕ) (choices : List ℕ) → Going p q lim must ban choices lim must ban choices
going_start p q lim must ban choices = record { tightened = same refl; keeps = λ P s. s.inside }

module _ (p : Problem) (q : Asked) (lim₀ : Limit) (must₀ ban₀ : ℕ) (choices₀ : List ℕ) where
  -- a plan that is sought at the first node is sought at the present one
  now_sought : {lim : Limit} {must ban : ℕ} {choices : List ℕ} → Going p q lim₀ must₀ ban₀ choices₀ lim must ban choices → (P : Plan) → Sought p q lim must₀ ban₀ choices₀ P
      → Sought p q lim must ban choices P
  now_sought g P s = record { good = s.good; wanted = s.wanted; below = s.below; inside = g.keeps P s }

  -- the present node is searched
  pub going_end : {lim lim' : Limit} {must ban : ℕ} {choices : List ℕ} → Going p q lim₀ must₀ ban₀ choices₀ lim must ban choices → Searched p q lim must ban choices lim'
      → Searched p q lim₀ must₀ ban₀ choices₀ lim'
  going_end {lim} {lim'} {must} {ban} {choices} g s =
      record {
        tightened = tightened_trans p q g.tightened s.tightened;
        spent = λ P x.
            let earlier : Sought p q lim must₀ ban₀ choices₀ P =
            record { good = x.good; wanted = x.wanted; below = below_tightened p q lim lim' P s.tightened x.below; inside = x.inside } in
            s.spent P (record { good = x.good; wanted = x.wanted; below = x.below; inside = g.keeps P earlier });
      }

  -- nothing is sought at the present node
  pub going_spent : {lim : Limit} {must ban : ℕ} {choices : List ℕ} → Going p q lim₀ must₀ ban₀ choices₀ lim must ban choices → Spent p q lim must ban choices
      → Searched p q lim₀ must₀ ban₀ choices₀ lim
  going_spent g n = record { tightened = g.tightened; spent = λ P x. n P (now_sought g P x) }

  -- the only choice of a due slot becomes a must
  pub going_forced : {lim : Limit} {must ban : ℕ} {choices : List ℕ} (slots : List ℕ) → Slotted p slots → (s e : ℕ) → Due slots must s → Only (get_or choices s 0) e
      → Going p q lim₀ must₀ ban₀ choices₀ lim must ban choices → Going p q lim₀ must₀ ban₀ choices₀ lim (bit_or must (get_or choices s 0)) ban choices
  going_forced {lim} {must} {ban} {choices} slots slotted s e due only g =
      record { tightened = g.tightened; keeps = λ P x. widened P x.good (g.keeps P x) }
    where
      there : s < p.slots
      there = rw slotted.count due.there

      widened : (P : Plan) → Good p P → Inside p must ban choices P → Inside p (bit_or must (get_or choices s 0)) ban choices P
      widened P good i = record { has = λ d m. has d ((join_members must (get_or choices s 0) d).0 m); lacks = i.lacks; names = i.names }
        where
          owned : MemberOf P (p.owner s)
          owned = i.has (p.owner s) (rw (slotted.owner s there) due.owned)

          named : MemberOf P e
          named = rw ((only (chosen P s)).0 (i.names s there owned)) at (good.sound.named.filled s there owned)

          has : (d : ℕ) → Member must d ⊎ Member (get_or choices s 0) d → MemberOf P d
          has d (inl m) = i.has d m
          has d (inr m) = rw ((only d).0 m) named

  -- one choice of a slot is searched, and the others are left
  pub going_split : {lim lim' : Limit} {must ban : ℕ} {choices : List ℕ} (s e one rest : ℕ) → s < length choices → Member one e
      → ((d : ℕ) → Member (get_or choices s 0) d → ¬ (d ≡ e) → Member rest d) → Going p q lim₀ must₀ ban₀ choices₀ lim must ban choices
      → Searched p q lim must ban (set choices s one) lim' → Going p q lim₀ must₀ ban₀ choices₀ lim' must ban (set choices s rest)
  going_split {lim} {lim'} {must} {ban} {choices} s e one rest h is others g x =
      record { tightened = tightened_trans p q g.tightened x.tightened; keeps = λ P y. go P y (split p q must ban choices s e one rest h is others P (inside P y)) }
    where
      inside : (P : Plan) → Sought p q lim' must₀ ban₀ choices₀ P → Inside p must ban choices P
      inside P y =
          g.keeps P (record { good = y.good; wanted = y.wanted; below = below_tightened p q lim lim' P x.tightened y.below; inside = y.inside })

      go : (P : Plan) → Sought p q lim' must₀ ban₀ choices₀ P → Inside p must ban (set choices s one) P ⊎ Inside p must ban (set choices s rest) P
          → Inside p must ban (set choices s rest) P
      go P y (inl i) = absurd (x.spent P (record { good = y.good; wanted = y.wanted; below = y.below; inside = i }))
      go P y (inr i) = i

-- a narrowed node
module _ (p : Problem) (q : Asked) (lim₀ : Limit) (must₀ ban₀ : ℕ) (choices₀ : List ℕ) (lim : Limit) (node : Node) (after : Option Node) (choices choices' : List ℕ)
    (narrowed : Narrowed p q lim node choices after choices') (going : Going p q lim₀ must₀ ban₀ choices₀ lim node.must node.ban choices) where
  pub going_narrowed : (next : Node) → after ≡ Some next → Going p q lim₀ must₀ ban₀ choices₀ lim next.must next.ban choices'
  going_narrowed next e = record { tightened = going.tightened; keeps = λ P s. inside P (narrowed.keeps P (now_sought p q lim₀ must₀ ban₀ choices₀ going P s)) }
    where
      inside : (P : Plan) → (n : Node) × (after ≡ Some n) × Inside p n.must n.ban choices' P → Inside p next.must next.ban choices' P
      inside P (n, f, i) = let its : n ≡ next = cc in rw its at i

  pub going_dead : after ≡ None → Searched p q lim₀ must₀ ban₀ choices₀ lim
  going_dead e = going_spent p q lim₀ must₀ ban₀ choices₀ going (λ P s. let x = narrowed.keeps P s in let some : after ≡ Some x.0 = x.1 in cc)

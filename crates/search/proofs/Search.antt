-- The laws of a limit as a search tightens it, and of a node split at one choice of a slot.
use mathlib.Core.Path.{◌≡◌, ◌∙◌, subst}
use mathlib.Core.List.{List}
use mathlib.Core.Logic.{◌⊎◌, inl, inr}
use Prim.Native.Nat.{ℕ, ◌<◌}
use native.Mathlib.Decide.{ℕ_discrete}
use lib.ListN.{length, get_or, set}
use lib.Seq.{get_or-set_same, get_or-set_other}
use Rattle.bitset.specs.Bits.{Member}
use Rattle.pacsolve.specs.Problem.{Problem}
use Rattle.pacsolve.specs.Plan.{Plan, chosen, MemberOf}
use Rattle.pacsolve.specs.Cost.{cost, numbers}
use Rattle.pacsolve.specs.Order.{Precedes, cheaper, tied}
use Rattle.pacsolve.specs.Listing.{Asked}
use Rattle.pacsolve.proofs.Order.{earlier_trans, precedes_trans}
use Rattle.node.specs.Sought.{Limit, under, before, Below, Inside}
use Rattle.search.specs.Walks.{Tightened, same, better}

module _ (p : Problem) (q : Asked) where
  below_earlier : (lim : Limit) (P Q : Plan) → Precedes p P Q → Below p lim Q → Below p lim P
  below_earlier (under c) P Q (cheaper h) b = earlier_trans (numbers (cost p P.set)) (numbers (cost p Q.set)) (numbers c) h b
  below_earlier (under c) P Q (tied e t) b = rw e b
  below_earlier (before R) P Q h b = precedes_trans p h b

  -- what lies below a tightened limit lies below the one before
  pub below_tightened : (lim lim' : Limit) (P : Plan) → Tightened p q lim lim' → Below p lim' P → Below p lim P
  below_tightened lim lim' P (same e) b = rw e at b
  below_tightened lim lim' P (better {P = R} g w h e) b = below_earlier lim P R (subst (λ (l : Limit). Below p l P) e b) h

  pub tightened_trans : {lim one two : Limit} → Tightened p q lim one → Tightened p q one two → Tightened p q lim two
  tightened_trans (same e) (same f) = same (f ∙ e)
  tightened_trans (better g w h e) (same f) = better g w h (f ∙ e)
  tightened_trans {lim} {one} {two} t (better {P = R} g w h e) = better g w (below_tightened lim one R t h) e

  -- one choice of a slot, and the others
  pub split : (must ban : ℕ) (choices : List ℕ) (s e one rest : ℕ) → s < length choices
      → Member one e → ((d : ℕ) → Member (get_or choices s 0) d → ¬ (d ≡ e) → Member rest d)
      → (P : Plan) → Inside p must ban choices P → Inside p must ban (set choices s one) P ⊎ Inside p must ban (set choices s rest) P
  split must ban choices s e one rest h is others P i = go (ℕ_discrete (chosen P s) e)
    where
      with_slot : (x : ℕ) → (s < p.slots → MemberOf P (p.owner s) → Member x (chosen P s)) → Inside p must ban (set choices s x) P
      with_slot x m = record { has = i.has; lacks = i.lacks; names = λ t l o. at t l o (ℕ_discrete t s) }
        where
          at : (t : ℕ) → t < p.slots → MemberOf P (p.owner t) → Dec (t ≡ s) → Member (get_or (set choices s x) t 0) (chosen P t)
          at t l o (yes k) = rw (k, get_or-set_same choices s x 0 h) (m (rw k at l) (rw k at o))
          at t l o (no k) = rw (get_or-set_other choices s t x 0 k) (i.names t l o)

      go : Dec (chosen P s ≡ e) → Inside p must ban (set choices s one) P ⊎ Inside p must ban (set choices s rest) P
      go (yes k) = inl (with_slot one (λ l o. rw k is))
      go (no k) = inr (with_slot rest (λ l o. others (chosen P s) (i.names s l o) k))

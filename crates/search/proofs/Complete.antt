-- Where every slot of a must entry has one choice, and that is a must entry, the node holds one plan at most: its set is must, and its table has those choices. So
-- to look at that plan is to search the node.
use mathlib.Core.Path.{◌≡◌, refl, sym, ◌∙◌}
use mathlib.Core.List.{List}
use Prim.Native.Nat.{ℕ, ◌<◌, ◌≤◌}
use lib.ListN.{length, get_or, take}
use lib.Seq.{ext_get_or, get_or-take, length-take-le}
use Rattle.bitset.specs.Bits.{Member}
use Rattle.bitset.proofs.Sets.{same_members, member_or_not}
use Rattle.pacsolve.specs.Problem.{Problem}
use Rattle.pacsolve.specs.Plan.{Plan, plan, none, chosen, Walk, here, on}
use Rattle.pacsolve.specs.Listing.{Good, Asked, Wanted}
use Rattle.pacsolve.proofs.Order.{precedes_irrefl}
use Rattle.node.specs.Sought.{Limit, before, Below, Inside}
use Rattle.node.specs.Steps.{Only}
use Rattle.node.proofs.Slotted.{Slotted}
use Rattle.search.specs.Walks.{same, better, Searched}
use Rattle.search.specs.Picks.{Due, Tabled}

module _ (p : Problem) (slots : List ℕ) (slotted : Slotted p slots) (must ban : ℕ) (choices table : List ℕ)
    (root : Member must p.root) (settled : (s : ℕ) → Due slots must s → (e : ℕ) × Only (get_or choices s 0) e × Member must e)
    (tabled : Tabled slots must choices table) (long : p.slots ≤ length table) where
  -- the slot of a must entry is due
  due : (s : ℕ) → s < p.slots → Member must (p.owner s) → Due slots must s
  due s h m = record { there = rw slotted.count at h; owned = rw (slotted.owner s h) at m }

  module _ (P : Plan) (good : Good p P) (inside : Inside p must ban choices P) where
    named : (s : ℕ) → s < p.slots → Member must (p.owner s) → (e : ℕ) × (chosen P s ≡ e) × Member must e × (get_or table s none ≡ e)
    named s h m =
        let d = due s h m in
        let x = settled s d in
        (x.0, (x.1 (chosen P s)).0 (inside.names s h (inside.has (p.owner s) m)), x.2, tabled.due s x.0 d x.1)

    reached : {e : ℕ} → Walk p P p.root e → Member must e
    reached here = root
    reached (on {e = d} {f = e} w s) =
        let m : Member must (p.owner s.slot) = rw s.its (reached w) in
        let x = named s.slot s.there m in
        rw (sym x.1 ∙ s.names) at x.2

    its_set : P.set ≡ must
    its_set = same_members P.set must (λ e m. reached (good.sound.reached e m)) inside.has

    its_table : P.table ≡ take p.slots table
    its_table =
        ext_get_or none P.table (take p.slots table) (good.sized ∙ sym (length-take-le p.slots table long)) (λ s h.
        let l : s < p.slots = rw good.sized at h in
        at s l (member_or_not must (p.owner s)) ∙ sym (get_or-take p.slots table s none l))
      where
        at : (s : ℕ) → s < p.slots → Dec (Member must (p.owner s)) → chosen P s ≡ get_or table s none
        at s l (yes m) = let x = named s l m in x.1 ∙ sym x.3
        at s l (no n) =
            good.sound.named.empty s l (λ m. n (rw its_set at m)) ∙ sym (tabled.other s (rw slotted.count at l) (rw (slotted.owner s l) at n))

    its_plan : P ≡ plan must (take p.slots table)
    its_plan = λ i. record { set = its_set i; table = its_table i }

  abbrev pub Candidate : Plan
  Candidate = plan must (take p.slots table)

  module _ (q : Asked) (lim : Limit) where
    -- the plan is what is sought: it is the new limit
    pub searched_kept : Good p Candidate → Wanted p q Candidate → Below p lim Candidate → Searched p q lim must ban choices (before Candidate)
    searched_kept g w b =
        record {
          tightened = better g w b refl;
          spent = λ P s. precedes_irrefl p Candidate (rw (its_plan P s.good s.inside) at s.below);
        }

    -- it is not: nothing is
    pub searched_none : ¬ (Good p Candidate × (Wanted p q Candidate × Below p lim Candidate)) → Searched p q lim must ban choices lim
    searched_none n =
        record {
          tightened = same refl;
          spent = λ P s.
              let e = its_plan P s.good s.inside in n (rw e at s.good, (rw e at s.wanted, rw e at s.below));
        }

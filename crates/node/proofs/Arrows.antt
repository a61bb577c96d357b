-- Arrows that must be there: the rows that hold them, and why a plan without cycles names nothing that must lead back.
use mathlib.Core.Path.{◌≡◌, refl, ◌∙◌}
use mathlib.Core.List.{List}
use mathlib.Core.Logic.{◌⊎◌, inl, inr, ⊎_elim}
use Prim.Native.Nat.{ℕ, ◌+◌, ◌≤◌, ◌<◌}
use lib.ListN.{get_or, replicate, length-replicate}
use Rattle.bitset.specs.Bits.{Member}
use Rattle.bitset.specs.Changes.{With}
use Rattle.pacsolve.specs.Problem.{Problem}
use Rattle.pacsolve.specs.Plan.{Plan, chosen, MemberOf, Step, here, on}
use Rattle.pacsolve.specs.Listing.{Good}
use Rattle.pacsolve.proofs.Walks.{Trail, walk_on}
use Rattle.catalogue.specs.Spans.{Spans}
use Rattle.catalogue.proofs.Spanned.{span_owner}
use Rattle.plan.specs.Closure.{Holds, Passes}
use Rattle.plan.proofs.Reaching.{walk_member}
use Rattle.plan.proofs.Trails.{fresh_none}
use Rattle.node.specs.Arrows.{Leads, at_once, by_way, Sources, PointedAll, Followed, Loops, TakenBack, Returns, Unlooped}
use Rattle.node.specs.Sought.{Inside}
use Rattle.node.proofs.Slotted.{Slotted}
use Rattle.node.proofs.Settling.{with_only}

module _ {first choices : List ℕ} where
  pub sources_none : Sources first choices (replicate 64 0)
  sources_none = record { size = length-replicate {A = ℕ} 64 0; holds = λ e d m. absurd (fresh_none e d m) }

  -- one entry more
  pub sources_more : {owner : ℕ} {rows more : List ℕ} → owner < 64 → Sources first choices rows
      → PointedAll (get_or first owner 0) (get_or first (owner + 1) 0) owner choices rows more → Sources first choices more
  sources_more {owner} l was now =
      record { size = now.size; holds = λ e d m. ⊎_elim (λ x. was.holds e d x) (λ x. rw x.0 (at_once l x.1)) (now.holds e d m) }

  pub sources_passed : {k : ℕ} {rows more : List ℕ} → Sources first choices rows → Passes k rows more → Sources first choices more
  sources_passed {k} was now =
      record {
        size = now.size;
        holds = λ e d m. ⊎_elim (λ x. was.holds e d x) (λ x. by_way (was.holds k d x.1) (was.holds e k x.0)) ((now.holds e d).0 m);
      }

pub followed_pass : {k : ℕ} {rows more : List ℕ} → Passes k rows more → Followed rows more
followed_pass x = record { size = x.size; keeps = λ first choices was. sources_passed was x }

pub followed_more : {rows more most : List ℕ} → Followed rows more → Followed more most → Followed rows most
followed_more a b = record { size = b.size; keeps = λ first choices was. b.keeps first choices (a.keeps first choices was) }

module _ {first rows choices : List ℕ} where
  -- one entry more
  pub unlooped_more : {left less : List ℕ} {owner back : ℕ} → owner < 64 → Unlooped first rows choices left → With (get_or rows owner 0) owner back
      → TakenBack (get_or first owner 0) (get_or first (owner + 1) 0) back left less → Unlooped first rows choices less
  unlooped_more {left} {less} {owner} {back} l was with now =
      record {
        sized = now.sized ∙ was.sized;
        fewer = λ s e m. was.fewer s e (now.fewer s e m);
        kept = λ s e m. ⊎_elim (λ x. go s e (now.kept s e x)) (λ x. inr x) (was.kept s e m);
      }
    where
      go : (s e : ℕ) → Member (get_or less s 0) e ⊎ ((get_or first owner 0 ≤ s) × (s < get_or first (owner + 1) 0) × Member back e)
          → Member (get_or less s 0) e ⊎ Returns first rows s e
      go s e (inl x) = inl x
      go s e (inr x) = inr (record { owner = owner; below = l; low = x.0; high = x.1; back = with_only with e x.2 })

-- a good plan inside a node whose choices give the rows
module _ (p : Problem) {slots first choices rows : List ℕ} {must ban : ℕ} (slotted : Slotted p slots) (spans : Spans slots first) (forbidden : p.forbidden)
    (sources : Sources first choices rows) (P : Plan) (g : Good p P) (i : Inside p must ban choices P) where
  -- a slot of a member is a step
  slot_step : (s d e : ℕ) → s < p.slots → p.owner s ≡ d → chosen P s ≡ e → MemberOf P d → Step p P d e
  slot_step s d e there its names m = record { slot = s; there = there; its = its; names = names; from = m; to = rw (← names) (g.sound.named.filled s there (rw its m)) }

  -- a slot in the span of an entry is a slot of it
  of_span : (s d : ℕ) → d < 64 → get_or first d 0 ≤ s → s < get_or first (d + 1) 0 → (s < p.slots) × (p.owner s ≡ d)
  of_span s d l low high =
      let span = span_owner spans d s l low high in
      let there : s < p.slots = rw slotted.count span.0 in
      (there, slotted.owner s there ∙ span.1)

  -- what leads from a member is a walk
  leads_trail : {d e : ℕ} → Leads first choices d e → MemberOf P d → Trail p P d e
  leads_trail (at_once {d = d} {e = e} l h) m =
      let span = of_span h.slot d l h.low h.high in
      let names : chosen P h.slot ≡ e = (h.choice (chosen P h.slot)).0 (i.names h.slot span.0 (rw span.1 m)) in
      record { next = e; first = slot_step h.slot d e span.0 span.1 names m; rest = here }
  leads_trail (by_way a b) m =
      let one = leads_trail a m in
      let two = leads_trail b (walk_member p P one.first.to one.rest) in
      record { next = one.next; first = one.first; rest = walk_on p P (on one.rest two.first) two.rest }

  pub loops_unused : {out : ℕ} → Loops rows out → (e : ℕ) → Member out e → ¬ MemberOf P e
  loops_unused loops e m o =
      let t = leads_trail (sources.holds e e (loops.members e m)) o in
      g.sound.acyclic forbidden e t.next t.first t.rest

  pub names_unlooped : {left : List ℕ} → Unlooped first rows choices left → (s : ℕ) → s < p.slots → MemberOf P (p.owner s) → Member (get_or left s 0) (chosen P s)
  names_unlooped unlooped s there m = ⊎_elim (λ x. x) (λ x. absurd (returns x)) (unlooped.kept s (chosen P s) (i.names s there m))
    where
      step : Step p P (p.owner s) (chosen P s)
      step = slot_step s (p.owner s) (chosen P s) there refl refl m

      own : chosen P s ≡ p.owner s → ⊥
      own same = g.sound.acyclic forbidden (p.owner s) (chosen P s) step (rw same here)

      back : Holds rows (p.owner s) (chosen P s) → ⊥
      back x =
          let t = leads_trail (sources.holds (p.owner s) (chosen P s) x) step.to in
          g.sound.acyclic forbidden (p.owner s) (chosen P s) step (walk_on p P (on here t.first) t.rest)

      returns : Returns first rows s (chosen P s) → ⊥
      returns x =
          let its : p.owner s ≡ x.owner = (of_span s x.owner x.below x.low x.high).1 in
          ⊎_elim own back (rw its x.back)

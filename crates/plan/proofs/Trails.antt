-- The laws of a plan's steps and trails in rows: the steps slot by slot, and the closure by way of each member in turn. An entry that is no member is on no walk,
-- so that passing over it changes nothing.
use mathlib.Core.Path.{◌≡◌, sym}
use mathlib.Core.Bool.{Bool}
use mathlib.Core.List.{List}
use mathlib.Core.Logic.{◌⊎◌, ◌↔◌, inl, inr, ⊎_elim}
use Prim.Native.Nat.{ℕ, zero, suc, ◌+◌, ◌≤◌, ◌<◌, zero-le}
use native.Mathlib.Decide.{ℕ_discrete, dec_lt}
use native.Mathlib.Nat.{not-suc-le-zero}
use native.Mathlib.Numerals.{add-one}
use native.Mathlib.Omega.{arith}
use lib.ListN.{length, replicate, length-replicate, get_or-replicate}
use Rattle.basis.specs.Tests.{Decides}
use Rattle.basis.proofs.Decide.{below_suc, decides_by}
use Rattle.bitset.specs.Bits.{Member}
use Rattle.bitset.specs.Walk.{Parts}
use Rattle.bitset.proofs.Sets.{none_in_empty}
use Rattle.pacsolve.specs.Problem.{Problem}
use Rattle.pacsolve.specs.Plan.{Plan, chosen, MemberOf, Step, Walk, here, on, Acyclic}
use Rattle.pacsolve.proofs.Walks.{Trail, Hop, hop_trail, step_hop, hop_join}
use Rattle.plan.specs.Closure.{Holds, Links, Passes, Trails}
use Rattle.plan.proofs.Closing.{past_end}
use Rattle.plan.proofs.Reaching.{walk_member}

-- fresh rows hold nothing
pub fresh_none : (d e : ℕ) → ¬ Holds (replicate 64 0) d e
fresh_none d e m = go (dec_lt d 64)
  where
    go : Dec (d < 64) → ⊥
    go (yes l) = none_in_empty e (rw (get_or-replicate {A = ℕ} 64 d 0 0 l) at m)
    go (no n) = past_end (replicate 64 0) d e (omega (arith, length-replicate {A = ℕ} 64 0)) m

module _ (p : Problem) (P : Plan) where
  -- a slot before k steps from d to e
  pub record Linked (k d e : ℕ) : Type 0 where
    pub slot : ℕ
    pub before : slot < k
    pub its : p.owner slot ≡ d
    pub names : chosen P slot ≡ e
    pub from : MemberOf P d
    pub to : MemberOf P e

  -- the rows hold the steps of the slots before k
  pub record Linking (k : ℕ) (rows : List ℕ) : Type 0 where
    pub inside : k ≤ p.slots
    pub size : length rows ≡ 64
    pub holds : (d e : ℕ) → Holds rows d e ↔ Linked k d e

  pub link_start : Linking 0 (replicate 64 0)
  link_start =
      record {
        inside = zero-le;
        size = length-replicate {A = ℕ} 64 0;
        holds = λ d e. (λ m. absurd (fresh_none d e m), λ l. absurd (not-suc-le-zero l.before));
      }

  pub link_on : {k : ℕ} {rows more : List ℕ} → k < p.slots → Linking k rows → Links P.set (p.owner k) (chosen P k) rows more → Linking (k + 1) more
  link_on {k} {rows} {more} h g l =
      record { inside = omega arith; size = l.size; holds = λ d e. (λ m. to d e ((l.holds d e).0 m), λ x. (l.holds d e).1 (from d e x (below_suc (rw add-one at x.before)))) }
    where
      Added : ℕ → ℕ → Type 0
      Added d e = Holds rows d e ⊎ ((d ≡ p.owner k) × (e ≡ chosen P k) × (MemberOf P (p.owner k) × MemberOf P (chosen P k)))

      to : (d e : ℕ) → Added d e → Linked (k + 1) d e
      to d e (inl m) =
          let x = (g.holds d e).0 m in
          record { slot = x.slot; before = omega (arith, x.before); its = x.its; names = x.names; from = x.from; to = x.to }
      to d e (inr x) =
          record { slot = k; before = omega arith; its = sym x.0; names = sym x.1; from = rw x.0 x.2.0; to = rw x.1 x.2.1 }

      from : (d e : ℕ) (x : Linked (k + 1) d e) → (x.slot ≡ k) ⊎ (x.slot < k) → Added d e
      from d e x (inl q) =
          let its : p.owner k ≡ d = rw q at x.its in
          let names : chosen P k ≡ e = rw q at x.names in
          inr (sym its, sym names, (rw its x.from, rw names x.to))
      from d e x (inr q) = inl ((g.holds d e).1 (record { slot = x.slot; before = q; its = x.its; names = x.names; from = x.from; to = x.to }))

  -- a trail ends at a member
  trail_member : {d e : ℕ} → Trail p P d e → MemberOf P e
  trail_member t = walk_member p P t.first.to t.rest

  -- where no member stands from b to k, nothing is gained by way of the entries there
  hop_skip : (b k d e : ℕ) → b ≤ k → ((j : ℕ) → b ≤ j → j < k → ¬ MemberOf P j) → Hop p P k d e ↔ Hop p P b d e
  hop_skip b zero d e h n = let z : b ≡ 0 = omega arith in rw z (λ x. x, λ x. x)
  hop_skip b (suc k) d e h n = go (ℕ_discrete b (suc k)) (hop_skip b k d e)
    where
      go : Dec (b ≡ suc k) → (b ≤ k → ((j : ℕ) → b ≤ j → j < k → ¬ MemberOf P j) → Hop p P k d e ↔ Hop p P b d e) → Hop p P (suc k) d e ↔ Hop p P b d e
      go (yes q) rest = rw q (λ x. x, λ x. x)
      go (no f) rest =
          let same = rest (omega arith) (λ j l m. n j l (omega arith)) in
          (λ x. ⊎_elim (λ y. same.0 y) (λ y. absurd (n k (omega arith) (omega arith) (trail_member (hop_trail p P k d k y.0)))) x, λ y. inl (same.1 y))

  -- the rows hold the walks whose inner entries are below the bound, and what is left of the set starts there
  pub record Closing (rest : ℕ) (rows : List ℕ) : Type 0 where
    pub size : length rows ≡ 64
    pub bound : ℕ
    pub holds : (d e : ℕ) → Holds rows d e ↔ Hop p P bound d e
    pub passed : (e : ℕ) → MemberOf P e → (e < bound) ⊎ Member rest e
    pub left : (e : ℕ) → Member rest e → bound ≤ e

  pub close_end : {rest : ℕ} {rows : List ℕ} → Closing rest rows → rest ≡ 0 → Trails p P rows
  close_end {rest} {rows} g z = record { size = g.size; holds = λ d e. (λ m. trail d e (hop_trail p P g.bound d e ((g.holds d e).0 m)), λ t. (g.holds d e).1 (hop t.1 t.2)) }
    where
      trail : (d e : ℕ) → Trail p P d e → (v : ℕ) × Step p P d v × Walk p P v e
      trail d e t = (t.next, t.first, t.rest)

      below : (e : ℕ) → MemberOf P e → e < g.bound
      below e m = ⊎_elim (λ l. l) (λ r. absurd (none_in_empty e (rw z at r))) (g.passed e m)

      hop : {d v e : ℕ} → Step p P d v → Walk p P v e → Hop p P g.bound d e
      hop {d} {v} s here = step_hop p P g.bound d v s
      hop {d} s (on {e = e} {f = f} w t) = hop_join p P g.bound d e f (below e t.from) (hop s w) (step_hop p P g.bound e f t)

  module _ {rest k less : ℕ} {rows more : List ℕ} (parts : Parts rest k less) (fits : k < 64) where
    pub close_on : Closing rest rows → Passes k rows more → Closing less more
    close_on g x =
        record {
          size = x.size;
          bound = suc k;
          holds = λ d e. (λ m. to d e ((x.holds d e).0 m), λ h. (x.holds d e).1 (from d e h));
          passed = λ e m. at e (g.passed e m) (ℕ_discrete e k);
          left = λ e m. above e ((parts.rest.members fits e).0 m);
        }
      where
        start : g.bound ≤ k
        start = g.left k parts.lowest.member

        none : (j : ℕ) → g.bound ≤ j → j < k → ¬ MemberOf P j
        none j l h m = ⊎_elim (λ b. omega (arith, b)) (λ r. parts.lowest.least j h r) (g.passed j m)

        is : (d e : ℕ) → Holds rows d e → Hop p P k d e
        is d e m = (hop_skip g.bound k d e start none).1 ((g.holds d e).0 m)

        was : (d e : ℕ) → Hop p P k d e → Holds rows d e
        was d e h = (g.holds d e).1 ((hop_skip g.bound k d e start none).0 h)

        to : (d e : ℕ) → Holds rows d e ⊎ (Holds rows d k × Holds rows k e) → Hop p P (suc k) d e
        to d e (inl m) = inl (is d e m)
        to d e (inr m) = inr (is d k m.0, is k e m.1)

        from : (d e : ℕ) → Hop p P k d e ⊎ (Hop p P k d k × Hop p P k k e) → Holds rows d e ⊎ (Holds rows d k × Holds rows k e)
        from d e (inl h) = inl (was d e h)
        from d e (inr h) = inr (was d k h.0, was k e h.1)

        at : (e : ℕ) → (e < g.bound) ⊎ Member rest e → Dec (e ≡ k) → (e < suc k) ⊎ Member less e
        at e y (yes q) = inl (omega arith)
        at e (inl l) (no n) = inl (omega (arith, start))
        at e (inr m) (no n) = inr ((parts.rest.members fits e).1 (m, n))

        above : (e : ℕ) → Member rest e × ¬ (e ≡ k) → suc k ≤ e
        above e m = go (dec_lt e k)
          where
            go : Dec (e < k) → suc k ≤ e
            go (yes l) = absurd (parts.lowest.least e l m.0)
            go (no n) = omega (arith, m.1)

  -- no walk of one step or more returns exactly if no row holds its own entry
  pub acyclic_by_rows : {b : Bool} {rows : List ℕ} → p.forbidden → Trails p P rows → Decides b ((d : ℕ) → d < 64 → ¬ Holds rows d d) → Decides b (Acyclic p P)
  acyclic_by_rows {b} {rows} forbidden t d =
      decides_by
      (λ none x d e s w. back (λ m. none d (row d d m) m) (e, s, w))
      (λ a d h m. let x = (t.holds d d).0 m in a forbidden d x.0 x.1 x.2)
      d
    where
      row : (d e : ℕ) → Holds rows d e → d < 64
      row d e m = go (dec_lt d 64)
        where
          go : Dec (d < 64) → d < 64
          go (yes l) = l
          go (no n) = absurd (past_end rows d e (omega (arith, t.size)) m)

      back : {d : ℕ} → ¬ Holds rows d d → ¬ ((v : ℕ) × Step p P d v × Walk p P v d)
      back {d} n x = n ((t.holds d d).1 x)

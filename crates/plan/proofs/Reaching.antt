-- The laws of what is reached from the root: what one slot adds, what a round adds, and that what a round adds nothing to is all that is reached.
use mathlib.Core.Path.{◌≡◌, refl, sym}
use mathlib.Core.Logic.{◌⊎◌, inl, inr}
use Prim.Native.Nat.{ℕ, ◌+◌, ◌<◌}
use native.Mathlib.Nat.{not-suc-le-zero}
use native.Mathlib.Numerals.{add-one}
use lib.Dec.{eqb}
use Rattle.basis.specs.Tests.{Decides}
use Rattle.basis.proofs.Decide.{below_suc, decides_by, decides_eq}
use Rattle.bitset.specs.Bits.{Member}
use Rattle.bitset.specs.Changes.{With}
use Rattle.bitset.proofs.Sets.{same_members, none_in_empty}
use Rattle.pacsolve.specs.Problem.{Problem}
use Rattle.pacsolve.specs.Plan.{Plan, chosen, MemberOf, Step, Walk, here, on, Reached}
use Rattle.pacsolve.proofs.Walks.{Trail, walk_cases, walk_on}
use Rattle.plan.specs.Growth.{Joins, Rounds, Grown}

-- a slot whose owner is not reached, or that names no member, adds nothing; any other adds the entry that it names
module _ {set reach owner choice : ℕ} where
  pub joins_none : ¬ (Member reach owner × Member set choice) → Joins set reach owner choice reach
  joins_none n = record { members = λ e. (λ m. inl m, from e) }
    where
      from : (e : ℕ) → Member reach e ⊎ (Member reach owner × (e ≡ choice) × Member set e) → Member reach e
      from e (inl m) = m
      from e (inr x) = absurd (n (x.0, rw x.1 at x.2))

  pub joins_one : {r : ℕ} → choice < 64 → Member reach owner → Member set choice → With reach choice r → Joins set reach owner choice r
  joins_one {r} h o m w = record { members = λ e. (λ x. to e ((w.members h e).0 x), λ x. (w.members h e).1 (from e x)) }
    where
      to : (e : ℕ) → (e ≡ choice) ⊎ Member reach e → Member reach e ⊎ (Member reach owner × (e ≡ choice) × Member set e)
      to e (inl p) = inr (o, p, rw p m)
      to e (inr x) = inl x

      from : (e : ℕ) → Member reach e ⊎ (Member reach owner × (e ≡ choice) × Member set e) → (e ≡ choice) ⊎ Member reach e
      from e (inl x) = inr x
      from e (inr x) = inl x.1

module _ (p : Problem) (P : Plan) where
  -- a walk from a member ends at a member
  pub walk_member : {d e : ℕ} → MemberOf P d → Walk p P d e → MemberOf P e
  walk_member m here = m
  walk_member m (on w s) = s.to

  -- a round at its slot k
  pub record Rounding (reach k next : ℕ) : Type 0 where
    pub kept : (e : ℕ) → Member reach e → Member next e
    pub passed : (s : ℕ) → s < k → Member reach (p.owner s) → MemberOf P (chosen P s) → Member next (chosen P s)
    pub led : ((e : ℕ) → Member reach e → MemberOf P e) → (e : ℕ) → Member next e → (d : ℕ) × Member reach d × Walk p P d e

  pub round_start : (reach : ℕ) → Rounding reach 0 reach
  round_start reach = record { kept = λ e m. m; passed = λ s h. absurd (not-suc-le-zero h); led = λ w e m. (e, m, here) }

  pub round_on : {reach k next r : ℕ} → k < p.slots → Rounding reach k next → Joins P.set next (p.owner k) (chosen P k) r → Rounding reach (k + 1) r
  round_on {reach} {k} {next} {r} h g j =
      record {
        kept = λ e m. (j.members e).1 (inl (g.kept e m));
        passed = λ s l o m. at s o m (below_suc (rw add-one at l));
        led = λ w e m. from w e ((j.members e).0 m);
      }
    where
      at : (s : ℕ) → Member reach (p.owner s) → MemberOf P (chosen P s) → (s ≡ k) ⊎ (s < k) → Member r (chosen P s)
      at s o m (inl e) = (j.members (chosen P s)).1 (inr (g.kept (p.owner k) (rw e at o), rw e refl, m))
      at s o m (inr l) = (j.members (chosen P s)).1 (inl (g.passed s l o m))

      from : ((e : ℕ) → Member reach e → MemberOf P e) → (e : ℕ) → Member next e ⊎ (Member next (p.owner k) × (e ≡ chosen P k) × MemberOf P e) → (d : ℕ) × Member reach d × Walk p P d e
      from w e (inl m) = g.led w e m
      from w e (inr x) =
          let led = g.led w (p.owner k) x.0 in
          let step : Step p P (p.owner k) e =
          record { slot = k; there = h; its = refl; names = sym x.1; from = walk_member (w led.0 led.1) led.2; to = x.2 } in
          (led.0, led.1, on led.2 step)

  -- what is reached so far: the root, a member, and nothing that no walk leads to
  pub record Reaching (reach : ℕ) : Type 0 where
    pub root : Member reach p.root
    pub led : (e : ℕ) → Member reach e → Walk p P p.root e

  pub reach_start : {r : ℕ} → p.root < 64 → With 0 p.root r → Reaching r
  reach_start {r} h w = record { root = (w.members h p.root).1 (inl refl); led = λ e m. from e ((w.members h e).0 m) }
    where
      from : (e : ℕ) → (e ≡ p.root) ⊎ Member 0 e → Walk p P p.root e
      from e (inl q) = rw q here
      from e (inr m) = absurd (none_in_empty e m)

  module _ (rooted : MemberOf P p.root) where
    pub reach_on : {reach next : ℕ} → Reaching reach → Rounds p P reach next → Reaching next
    reach_on {reach} {next} g r =
        record { root = r.kept p.root g.root; led = λ e m. let x = r.led (λ d l. walk_member rooted (g.led d l)) e m in walk_on p P (g.led x.0 x.1) x.2 }

    pub reach_end : {reach : ℕ} → Reaching reach → Rounds p P reach reach → Grown p P reach
    reach_end {reach} g r = record { sure = λ e m. (rooted, g.led e m); full = λ m e w. all w }
      where
        all : {e : ℕ} → Walk p P p.root e → Member reach e
        all here = g.root
        all (on {e = d} {f = e} w s) = r.stepped d e (all w) s

  -- every member is reached exactly if what is reached is the whole set
  pub reached_by_grown : (r : ℕ) → Grown p P r → Decides (eqb r P.set) (Reached p P)
  reached_by_grown r g =
      decides_by
      (λ same e m. (g.sure e (rw same m)).1)
      (λ f. same_members r P.set (λ e m. walk_member (g.sure e m).0 (g.sure e m).1) (λ e m. g.full (starts e m (walk_cases p P (f e m))) e (f e m)))
      (decides_eq r P.set)
    where
      starts : (e : ℕ) → MemberOf P e → (p.root ≡ e) ⊎ Trail p P p.root e → MemberOf P p.root
      starts e m (inl q) = rw q m
      starts e m (inr t) = t.first.from

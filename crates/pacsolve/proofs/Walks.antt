-- Whether a walk leads from one entry to another is decided: by the walks that pass only through entries below k, for k from 0 to the number of entries.
use mathlib.Core.Path.{◌≡◌, refl}
use mathlib.Core.Bool.{Bool, true, false, ◌&&◌, ◌||◌}
use mathlib.Core.Logic.{◌⊎◌, inl, inr}
use Prim.Native.Nat.{ℕ, zero, suc, ◌<◌}
use native.Mathlib.Nat.{not-suc-le-zero}
use lib.Dec.{eqb}
use Rattle.basis.specs.Tests.{Decides}
use Rattle.basis.proofs.Decide.{decides_by, decides_then, decides_or, decides_eq, decides_some, some_of, below_suc}
use Rattle.bitset.specs.Bits.{bit}
use Rattle.pacsolve.specs.Problem.{Problem}
use Rattle.pacsolve.specs.Plan.{Plan, chosen, MemberOf, Step, Walk, here, on, Rooted}

abbrev pub member? : Plan → ℕ → Bool
member? P e = eqb (bit P.set e) 1

pub member_decides : (P : Plan) (e : ℕ) → Decides (member? P e) (MemberOf P e)
member_decides P e = decides_eq (bit P.set e) 1

-- slot s of d names e
abbrev names? : Problem → Plan → ℕ → ℕ → ℕ → Bool
names? p P d e s = eqb (p.owner s) d && eqb (chosen P s) e

abbrev pub step? : Problem → Plan → ℕ → ℕ → Bool
step? p P d e = member? P d && (member? P e && some_of (names? p P d e) p.slots)

-- a walk of one step or more
pub record Trail (p : Problem) (P : Plan) (d e : ℕ) : Type 0 where
  pub next : ℕ
  pub first : Step p P d next
  pub rest : Walk p P next e

-- a walk of one step or more whose inner entries are all below k
abbrev pub Hop : Problem → Plan → ℕ → ℕ → ℕ → Type 0
Hop p P zero d e = Step p P d e
Hop p P (suc k) d e = Hop p P k d e ⊎ (Hop p P k d k × Hop p P k k e)

-- its test, which looks no further than it must
unfoldable pub hop? : Problem → Plan → ℕ → ℕ → ℕ → Bool
hop? p P zero d e = step? p P d e
hop? p P (suc k) d e = elim (hop? p P k d e) [ true ↦ true | false ↦ elim (hop? p P k d k) [ true ↦ hop? p P k k e | false ↦ false ] ]

looks : (a b c : Bool) → elim a [ true ↦ true | false ↦ elim b [ true ↦ c | false ↦ false ] ] ≡ (a || (b && c))
looks true b c = refl
looks false true c = refl
looks false false c = refl

module _ (p : Problem) (P : Plan) where
  pub step_decides : (d e : ℕ) → Decides (step? p P d e) (Step p P d e)
  step_decides d e =
      decides_by
      (λ x. record { slot = x.1.1.0; there = x.1.1.1; its = x.1.1.2.0; names = x.1.1.2.1; from = x.0; to = x.1.0 })
      (λ s. (s.from, (s.to, (s.slot, s.there, (s.its, s.names)))))
      (decides_then (member_decides P d) λ m. decides_then (member_decides P e) λ n.
      decides_some p.slots (λ s h. decides_then (decides_eq (p.owner s) d) (λ o. decides_eq (chosen P s) e)))

  hop_suc : (k d e : ℕ) → hop? p P (suc k) d e ≡ (hop? p P k d e || (hop? p P k d k && hop? p P k k e))
  unfolding hop?
  hop_suc k d e = looks (hop? p P k d e) (hop? p P k d k) (hop? p P k k e)

  hop_decides : (k d e : ℕ) → Decides (hop? p P k d e) (Hop p P k d e)
  unfolding hop?
  hop_decides zero d e = step_decides d e
  hop_decides (suc k) d e =
      rw (hop_suc k d e) (decides_or (hop_decides k d e) (decides_then (hop_decides k d k) (λ h. hop_decides k k e)))

  pub walk_on : {d e f : ℕ} → Walk p P d e → Walk p P e f → Walk p P d f
  walk_on w here = w
  walk_on w (on v s) = on (walk_on w v) s

  trail_walk : {d e : ℕ} → Trail p P d e → Walk p P d e
  trail_walk t = walk_on (on here t.first) t.rest

  -- a walk stays where it is or is a trail
  pub walk_cases : {d e : ℕ} → Walk p P d e → (d ≡ e) ⊎ Trail p P d e
  walk_cases here = inl refl
  walk_cases {d} (on {e = e} {f = f} w s) = go (walk_cases w)
    where
      go : (d ≡ e) ⊎ Trail p P d e → (d ≡ f) ⊎ Trail p P d f
      go (inl h) = inr (record { next = f; first = rw h s; rest = here })
      go (inr t) = inr (record { next = t.next; first = t.first; rest = on t.rest s })

  pub hop_trail : (k d e : ℕ) → Hop p P k d e → Trail p P d e
  hop_trail zero d e s = record { next = e; first = s; rest = here }
  hop_trail (suc k) d e (inl h) = hop_trail k d e h
  hop_trail (suc k) d e (inr h) =
      let one = hop_trail k d k h.0 in
      record { next = one.next; first = one.first; rest = walk_on one.rest (trail_walk (hop_trail k k e h.1)) }

  pub step_hop : (k d e : ℕ) → Step p P d e → Hop p P k d e
  step_hop zero d e s = s
  step_hop (suc k) d e s = inl (step_hop k d e s)

  -- to k and from k, nothing is gained by passing through k
  pub to_last : (k d : ℕ) → Hop p P (suc k) d k → Hop p P k d k
  to_last k d (inl h) = h
  to_last k d (inr h) = h.0

  pub from_last : (k e : ℕ) → Hop p P (suc k) k e → Hop p P k k e
  from_last k e (inl h) = h
  from_last k e (inr h) = h.1

  -- two walks that meet below k are one
  pub hop_join : (k d v e : ℕ) → v < k → Hop p P k d v → Hop p P k v e → Hop p P k d e
  hop_join zero d v e h x y = absurd (not-suc-le-zero h)
  hop_join (suc k) d v e h x y = go (below_suc h) (hop_join k)
    where
      Join : Type 0
      Join = (a b c : ℕ) → b < k → Hop p P k a b → Hop p P k b c → Hop p P k a c

      below : v < k → Join → Hop p P k d v ⊎ (Hop p P k d k × Hop p P k k v) → Hop p P k v e ⊎ (Hop p P k v k × Hop p P k k e) → Hop p P (suc k) d e
      below l join (inl a) (inl b) = inl (join d v e l a b)
      below l join (inl a) (inr b) = inr (join d v k l a b.0, b.1)
      below l join (inr a) (inl b) = inr (a.0, join k v e l a.1 b)
      below l join (inr a) (inr b) = inr (a.0, b.1)

      go : (v ≡ k) ⊎ (v < k) → Join → Hop p P (suc k) d e
      go (inl m) join = inr (to_last k d (rw m at x), from_last k e (rw m at y))
      go (inr l) join = below l join x y

  module _ (rooted : Rooted p P) where
    walk_hop : {d v e : ℕ} → Step p P d v → Walk p P v e → Hop p P p.entries d e
    walk_hop {d} {v} s here = step_hop p.entries d v s
    walk_hop {d} s (on {e = e} {f = f} w t) =
        hop_join p.entries d e f (rooted.existing e t.from) (walk_hop s w) (step_hop p.entries e f t)

    pub trail_decides : (d e : ℕ) → Decides (hop? p P p.entries d e) (Trail p P d e)
    trail_decides d e = decides_by (hop_trail p.entries d e) (λ t. walk_hop t.first t.rest) (hop_decides p.entries d e)

    pub walk_decides : (d e : ℕ) → Decides (eqb d e || hop? p P p.entries d e) (Walk p P d e)
    walk_decides d e = decides_by joined walk_cases (decides_or (decides_eq d e) (trail_decides d e))
      where
        joined : (d ≡ e) ⊎ Trail p P d e → Walk p P d e
        joined (inl h) = rw (← h) here
        joined (inr t) = trail_walk t

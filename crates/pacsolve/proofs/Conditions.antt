-- The six conditions as tests that compute, where what the problem asks of entries and slots computes: so each condition holds or not.
use mathlib.Core.Bool.{Bool, not, ◌&&◌, ◌||◌}
use Prim.Native.Nat.{ℕ, ◌^◌, ◌≤◌, ◌<◌}
use lib.Dec.{eqb, ltb}
use Rattle.basis.specs.Tests.{Decides}
use Rattle.basis.specs.Rows.{GivesNone}
use Rattle.basis.proofs.Decide.{decided, decides_by, decides_then, decides_not, decides_if, decides_eq, decides_lt, decides_every, every, not_or_not}
use Rattle.basis.proofs.Rows.{Settled}
use Rattle.bitset.proofs.Sets.{member_below, below_by_members}
use Rattle.pacsolve.specs.Problem.{Problem}
use Rattle.pacsolve.specs.Plan.{Plan, none, chosen, Rooted, Reached, Named, Fitting, Consistent, Acyclic, Sound, faults}
use Rattle.pacsolve.proofs.Walks.{member?, member_decides, hop?, trail_decides, walk_decides}

-- a problem that computes: tests of what it asks, and few enough entries that 255 is none of them
pub record Computes (p : Problem) : Type 0 where
  pub few : p.entries ≤ 255
  pub fits? : ℕ → ℕ → Bool
  pub fits_right : (s e : ℕ) → s < p.slots → e < p.entries → Decides (fits? s e) (p.fits s e)
  pub together? : ℕ → ℕ → Bool
  pub together_right : (d e : ℕ) → d < p.entries → e < p.entries → Decides (together? d e) (p.together d e)
  pub forbidden? : Bool
  pub forbidden_right : Decides forbidden? p.forbidden

module _ (p : Problem) (P : Plan) where
  abbrev rooted? : Bool
  rooted? = ltb P.set (2 ^ p.entries) && member? P p.root

  pub rooted_decides : Decides rooted? (Rooted p P)
  rooted_decides =
      decides_by
      (λ x. record { existing = λ e m. member_below p.entries P.set e x.0 m; root = x.1 })
      (λ r. (below_by_members p.entries P.set r.existing, r.root))
      (decides_then (decides_lt P.set (2 ^ p.entries)) (λ h. member_decides P p.root))

  abbrev reached? : Bool
  reached? = every (λ e. not (member? P e) || (eqb p.root e || hop? p P p.entries p.root e)) p.entries

  pub reached_decides : Rooted p P → Decides reached? (Reached p P)
  reached_decides r =
      decides_by
      (λ f e m. f e (r.existing e m) m)
      (λ f e h m. f e m)
      (decides_every p.entries (λ e h. decides_if (member_decides P e) (λ m. walk_decides p P r p.root e)))

  abbrev named? : Bool
  named? =
      every (λ s. (not (member? P (p.owner s)) || member? P (chosen P s)) && (not (not (member? P (p.owner s))) || eqb (chosen P s) none)) p.slots

  pub named_decides : Decides named? (Named p P)
  named_decides =
      decides_by
      (λ f. record { filled = λ s h. (f s h).0; empty = λ s h. (f s h).1 })
      (λ n s h. (n.filled s h, n.empty s h))
      (decides_every p.slots (λ s h.
      decides_then (decides_if (member_decides P (p.owner s)) (λ m. member_decides P (chosen P s)))
      (λ f. decides_if (decides_not (member_decides P (p.owner s))) (λ m. decides_eq (chosen P s) none))))

module _ (p : Problem) (c : Computes p) (P : Plan) where
  abbrev fitting? : Bool
  fitting? = every (λ s. not (member? P (p.owner s)) || (ltb (chosen P s) p.entries && c.fits? s (chosen P s))) p.slots

  pub fitting_decides : Decides fitting? (Fitting p P)
  fitting_decides =
      decides_every p.slots (λ s h.
      decides_if (member_decides P (p.owner s)) (λ m.
      decides_then (decides_lt (chosen P s) p.entries) (λ l. c.fits_right s (chosen P s) h l)))

  abbrev consistent? : Bool
  consistent? =
      every (λ d. every (λ e.
      not (member? P d) || (not (member? P e) || (not (not (eqb d e)) || (not (eqb (p.kind d) (p.kind e)) || c.together? d e)))) p.entries) p.entries

  pub consistent_decides : Rooted p P → Decides consistent? (Consistent p P)
  consistent_decides r =
      decides_by
      (λ f d e m n. f d (r.existing d m) e (r.existing e n) m n)
      (λ f d h e k m n. f d e m n)
      (decides_every p.entries (λ d h. decides_every p.entries (λ e k.
      decides_if (member_decides P d) (λ m. decides_if (member_decides P e) (λ n. decides_if (decides_not (decides_eq d e)) (λ o.
      decides_if (decides_eq (p.kind d) (p.kind e)) (λ q. c.together_right d e h k)))))))

  abbrev acyclic? : Bool
  acyclic? = not c.forbidden? || every (λ d. not (hop? p P p.entries d d)) p.entries

  pub acyclic_decides : Rooted p P → Decides acyclic? (Acyclic p P)
  acyclic_decides r =
      decides_by
      (λ f x d e s w. f x d (r.existing d s.from) (record { next = e; first = s; rest = w }))
      (λ f x d h t. f x d t.next t.first t.rest)
      (decides_if c.forbidden_right (λ x. decides_every p.entries (λ d h. decides_not (trail_decides p P r d d))))

  -- the cheap tests before the walks
  unfoldable pub sound? : Bool
  sound? = rooted? p P && (named? p P && (fitting? && (consistent? && (reached? p P && acyclic?))))

  pub sound_decides : Decides sound? (Sound p P)
  unfolding sound?
  sound_decides =
      decides_by
      (λ x.
      record {
        rooted = x.0;
        reached = x.1.1.1.1.0;
        named = x.1.0;
        fitting = x.1.1.0;
        consistent = x.1.1.1.0;
        acyclic = x.1.1.1.1.1;
      })
      (λ s. (s.rooted, (s.named, (s.fitting, (s.consistent, (s.reached, s.acyclic))))))
      (decides_then (rooted_decides p P) λ r. decides_then (named_decides p P) λ n. decides_then fitting_decides λ f.
      decides_then (consistent_decides r) λ o. decides_then (reached_decides p P r) λ w. acyclic_decides r)

  -- where a condition holds or not, to break it and not to hold are one
  stable : {A : Type 0} → Dec A → ¬ ¬ A → A
  stable (yes a) n = a
  stable (no m) n = absurd (n m)

  -- each fault is there or not, where those before it are not
  pub faults_settled : Settled (faults p P)
  faults_settled =
      let one = decided (rooted_decides p P) in (
        not_or_not one,
        λ a.
            let r = stable one a in (
              not_or_not (decided (reached_decides p P r)),
              λ b. (
                not_or_not (decided (named_decides p P)),
                λ d. (
                  not_or_not (decided fitting_decides),
                  λ e. (
                    not_or_not (decided (consistent_decides r)),
                    λ f.
                        (not_or_not (decided (acyclic_decides r)), λ g. tt),
                  ),
                ),
              ),
            ),
      )

  -- a plan with no fault is sound
  pub faultless_sound : GivesNone (faults p P) → Sound p P
  faultless_sound g =
      let r = stable (decided (rooted_decides p P)) g.0 in
      record {
        rooted = r;
        reached = stable (decided (reached_decides p P r)) g.1.0;
        named = stable (decided (named_decides p P)) g.1.1.0;
        fitting = stable (decided fitting_decides) g.1.1.1.0;
        consistent = stable (decided (consistent_decides r)) g.1.1.1.1.0;
        acyclic = stable (decided (acyclic_decides r)) g.1.1.1.1.1.0;
      }

-- and a sound plan has no fault
pub sound_faultless : (p : Problem) (P : Plan) → Sound p P → GivesNone (faults p P)
sound_faultless p P s =
    (λ n. n s.rooted, (λ n. n s.reached, (λ n. n s.named, (λ n. n s.fitting, (λ n. n s.consistent, (λ n. n s.acyclic, tt))))))

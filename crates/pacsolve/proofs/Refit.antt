-- Two problems that differ only in how they say which entries fit have the same sound plans, costs, order and listing.
use mathlib.Core.Path.{◌≡◌, refl, ap, fun_ext}
use mathlib.Core.List.{map}
use mathlib.Core.Logic.{◌↔◌}
use Prim.Native.Nat.{ℕ, zero, suc, ◌<◌}
use lib.ListN.{get_or}
use Rattle.pacsolve.specs.Problem.{Problem}
use Rattle.pacsolve.specs.Plan.{Plan, chosen, Step, Walk, here, on, Rooted, Reached, Named, Fitting, Acyclic, Sound}
use Rattle.pacsolve.specs.Cost.{weight_of, members_of, earlier, duplicates_of, amount, cost}
use Rattle.pacsolve.specs.Order.{Precedes, cheaper, tied}
use Rattle.pacsolve.specs.Listing.{Good, Asked, from_the_start, after, Wanted, Least, NoneLeft}

-- the problem with other fits
abbrev pub refit : Problem → (ℕ → ℕ → Type 0) → Problem
refit p fits =
    record {
      entries = p.entries;
      slots = p.slots;
      root = p.root;
      owner = p.owner;
      fits = fits;
      kind = p.kind;
      weight = p.weight;
      together = p.together;
      forbidden = p.forbidden;
      objectives = p.objectives;
    }

-- the cost looks at no fits
refit_amount : (p : Problem) (fits : ℕ → ℕ → Type 0) (set code : ℕ) → amount (refit p fits) set code ≡ amount p set code
unfolding amount weight_of members_of earlier duplicates_of
refit_amount p fits set zero = refl
refit_amount p fits set (suc zero) = refl
refit_amount p fits set (suc (suc zero)) = refl
refit_amount p fits set (suc (suc (suc code))) = refl

pub refit_cost : (p : Problem) (fits : ℕ → ℕ → Type 0) (set : ℕ) → cost (refit p fits) set ≡ cost p set
unfolding cost
refit_cost p fits set =
    ap (λ (f : ℕ → ℕ). let xs = map f p.objectives in record { first = get_or xs 0 0; second = get_or xs 1 0; third = get_or xs 2 0 }) (fun_ext (refit_amount p fits set))

pub refit_precedes : (p : Problem) (fits : ℕ → ℕ → Type 0) {P Q : Plan} → Precedes (refit p fits) P Q ↔ Precedes p P Q
refit_precedes p fits {P} {Q} = (to, back)
  where
    to : Precedes (refit p fits) P Q → Precedes p P Q
    to (cheaper h) = cheaper (rw (refit_cost p fits P.set, refit_cost p fits Q.set) at h)
    to (tied e h) = tied (rw (refit_cost p fits P.set, refit_cost p fits Q.set) at e) h

    back : Precedes p P Q → Precedes (refit p fits) P Q
    back (cheaper h) = cheaper (rw (refit_cost p fits P.set, refit_cost p fits Q.set) h)
    back (tied e h) = tied (rw (refit_cost p fits P.set, refit_cost p fits Q.set) e) h

-- the walks are the same
module _ (p : Problem) (fits : ℕ → ℕ → Type 0) (P : Plan) where
  step_to : {d e : ℕ} → Step p P d e → Step (refit p fits) P d e
  step_to s = record { slot = s.slot; there = s.there; its = s.its; names = s.names; from = s.from; to = s.to }

  step_back : {d e : ℕ} → Step (refit p fits) P d e → Step p P d e
  step_back s = record { slot = s.slot; there = s.there; its = s.its; names = s.names; from = s.from; to = s.to }

  walk_to : {d e : ℕ} → Walk p P d e → Walk (refit p fits) P d e
  walk_to here = here
  walk_to (on w s) = on (walk_to w) (step_to s)

  walk_back : {d e : ℕ} → Walk (refit p fits) P d e → Walk p P d e
  walk_back here = here
  walk_back (on w s) = on (walk_back w) (step_back s)

  pub refit_rooted : Rooted (refit p fits) P ↔ Rooted p P
  refit_rooted = (λ r. record { existing = r.existing; root = r.root }, λ r. record { existing = r.existing; root = r.root })

  pub refit_reached : Reached (refit p fits) P ↔ Reached p P
  refit_reached = (λ f e m. walk_back (f e m), λ f e m. walk_to (f e m))

  pub refit_named : Named (refit p fits) P ↔ Named p P
  refit_named = (λ n. record { filled = n.filled; empty = n.empty }, λ n. record { filled = n.filled; empty = n.empty })

  pub refit_acyclic : Acyclic (refit p fits) P ↔ Acyclic p P
  refit_acyclic = (λ f x d e s w. f x d e (step_to s) (walk_to w), λ f x d e s w. f x d e (step_back s) (walk_back w))

-- the fits agree wherever there is a slot and an entry
module _ (p : Problem) (fits : ℕ → ℕ → Type 0) (agree : (s e : ℕ) → s < p.slots → e < p.entries → fits s e ↔ p.fits s e) where
  pub refit_fitting : (P : Plan) → Fitting (refit p fits) P ↔ Fitting p P
  refit_fitting P = (
    λ f s h m. let x = f s h m in (x.0, (agree s (chosen P s) h x.0).0 x.1),
    λ f s h m. let x = f s h m in (x.0, (agree s (chosen P s) h x.0).1 x.1),
  )

  pub refit_sound : (P : Plan) → Sound (refit p fits) P ↔ Sound p P
  refit_sound P = (
    λ s.
        record {
          rooted = (refit_rooted p fits P).0 s.rooted;
          reached = (refit_reached p fits P).0 s.reached;
          named = (refit_named p fits P).0 s.named;
          fitting = (refit_fitting P).0 s.fitting;
          consistent = s.consistent;
          acyclic = (refit_acyclic p fits P).0 s.acyclic;
        },
    λ s.
        record {
          rooted = (refit_rooted p fits P).1 s.rooted;
          reached = (refit_reached p fits P).1 s.reached;
          named = (refit_named p fits P).1 s.named;
          fitting = (refit_fitting P).1 s.fitting;
          consistent = s.consistent;
          acyclic = (refit_acyclic p fits P).1 s.acyclic;
        },
  )

  pub refit_good : (P : Plan) → Good (refit p fits) P ↔ Good p P
  refit_good P = (
    λ g. record { sized = g.sized; sound = (refit_sound P).0 g.sound },
    λ g. record { sized = g.sized; sound = (refit_sound P).1 g.sound },
  )

  pub refit_wanted : (q : Asked) (P : Plan) → Wanted (refit p fits) q P ↔ Wanted p q P
  refit_wanted from_the_start P = (λ w. w, λ w. w)
  refit_wanted (after Q) P = refit_precedes p fits

  pub refit_least : (q : Asked) (P : Plan) → Least (refit p fits) q P ↔ Least p q P
  refit_least q P = (
    λ l.
        record {
          good = (refit_good P).0 l.good;
          wanted = (refit_wanted q P).0 l.wanted;
          least = λ Q g w h. l.least Q ((refit_good Q).1 g) ((refit_wanted q Q).1 w) ((refit_precedes p fits).1 h);
        },
    λ l.
        record {
          good = (refit_good P).1 l.good;
          wanted = (refit_wanted q P).1 l.wanted;
          least = λ Q g w h. l.least Q ((refit_good Q).0 g) ((refit_wanted q Q).0 w) ((refit_precedes p fits).0 h);
        },
  )

  pub refit_none_left : (q : Asked) → NoneLeft (refit p fits) q ↔ NoneLeft p q
  refit_none_left q = (
    λ n Q g w. n Q ((refit_good Q).1 g) ((refit_wanted q Q).1 w),
    λ n Q g w. n Q ((refit_good Q).0 g) ((refit_wanted q Q).0 w),
  )

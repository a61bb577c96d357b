-- What conditions do not look at: problems that differ in that alone have the same plans for them. So an answer about the problem that is lent holds of each.
use mathlib.Core.Bool.{Bool}
use Prim.Native.Nat.{ℕ}
use Rattle.basis.specs.Tests.{Decides}
use Rattle.pacsolve.specs.Problem.{Problem}
use Rattle.pacsolve.specs.Plan.{Plan, Step, Walk, here, on, Reached, Named, Acyclic}

-- a problem with the slots of p alone, and one with its root and its ban on cycles too; all else is of q
abbrev pub slots_of : Problem → Problem → Problem
slots_of p q =
    record {
      entries = q.entries;
      slots = p.slots;
      root = q.root;
      owner = p.owner;
      fits = q.fits;
      kind = q.kind;
      weight = q.weight;
      together = q.together;
      forbidden = q.forbidden;
      objectives = q.objectives;
    }

abbrev pub walks_of : Problem → Problem → Problem
walks_of p q =
    record {
      entries = q.entries;
      slots = p.slots;
      root = p.root;
      owner = p.owner;
      fits = q.fits;
      kind = q.kind;
      weight = q.weight;
      together = q.together;
      forbidden = p.forbidden;
      objectives = q.objectives;
    }

-- condition 3 looks at slots alone
pub named_of_any : (p q : Problem) (P : Plan) {b : Bool} → Decides b (Named p P) → Decides b (Named (slots_of p q) P)
named_of_any p q P d =
    record {
      sure = λ t. let n = d.sure t in record { filled = n.filled; empty = n.empty };
      full = λ n. d.full (record { filled = n.filled; empty = n.empty });
    }

-- walks are along slots
module _ (p q : Problem) (P : Plan) where
  step_to : {d e : ℕ} → Step p P d e → Step (walks_of p q) P d e
  step_to s = record { slot = s.slot; there = s.there; its = s.its; names = s.names; from = s.from; to = s.to }

  step_back : {d e : ℕ} → Step (walks_of p q) P d e → Step p P d e
  step_back s = record { slot = s.slot; there = s.there; its = s.its; names = s.names; from = s.from; to = s.to }

  walk_to : {d e : ℕ} → Walk p P d e → Walk (walks_of p q) P d e
  walk_to here = here
  walk_to (on w s) = on (walk_to w) (step_to s)

  walk_back : {d e : ℕ} → Walk (walks_of p q) P d e → Walk p P d e
  walk_back here = here
  walk_back (on w s) = on (walk_back w) (step_back s)

  -- so conditions 2 and 6 look at nothing else
  pub reached_of_any : {b : Bool} → Decides b (Reached p P) → Decides b (Reached (walks_of p q) P)
  reached_of_any d = record { sure = λ t e m. walk_to (d.sure t e m); full = λ r. d.full (λ e m. walk_back (r e m)) }

  pub acyclic_of_any : {b : Bool} → Decides b (Acyclic p P) → Decides b (Acyclic (walks_of p q) P)
  acyclic_of_any d =
      record {
        sure = λ t f x y s w. d.sure t f x y (step_back s) (walk_back w);
        full = λ a. d.full (λ f x y s w. a f x y (step_to s) (walk_to w));
      }

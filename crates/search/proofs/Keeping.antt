-- What becomes of the one plan of a complete node.
use mathlib.Core.Path.{◌≡◌, refl, ap}
use mathlib.Core.List.{List}
use mathlib.Core.Logic.{inl, inr, ◌↔◌}
use Prim.Native.Nat.{ℕ, ◌≤◌}
use native.Mathlib.Omega.{arith}
use lib.ListN.{length, take}
use lib.Seq.{length-take-le}
use Rattle.std.specs.Prelude.{Option, Some, None, Result, Ok, Err}
use Rattle.basis.proofs.Rows.{gives_not_none}
use Rattle.pacsolve.specs.declared.Condition.{Condition}
use Rattle.pacsolve.specs.declared.Cost.{Cost}
use Rattle.pacsolve.specs.Problem.{Problem}
use Rattle.pacsolve.specs.Plan.{Plan, plan, plan_of, Sound, faults, condition_number}
use Rattle.pacsolve.specs.Cost.{cost}
use Rattle.pacsolve.specs.Listing.{Good, Wanted}
use Rattle.pacsolve.proofs.Conditions.{sound_faultless}
use Rattle.plan.specs.Judged.{Judges, broken, sound}
use Rattle.node.specs.declared.Given.{Given}
use Rattle.node.specs.declared.Limit.{Limit}
use Rattle.node.specs.declared.Limit.TheVariants.{Under, Before}
use Rattle.node.specs.declared.Node.{Node}
use Rattle.node.specs.Sought.{Below, limit_of, asked_of, CostedGiven, CostedLimit}
use Rattle.node.specs.Order.{AfterGiven, Sooner}
use Rattle.node.specs.Narrowing.{Ready}
use Rattle.node.proofs.Slotted.{Slotted}
use Rattle.node.proofs.Preceding.{ahead_precedes}
use Rattle.search.specs.Walks.{Searched, Walked}
use Rattle.search.specs.Picks.{Settles, Tabled}
use Rattle.search.proofs.Complete.{searched_kept, searched_none}

-- a plan is asked for, and lies below the limit, where its cost and table are ahead as they must be
wanted_by : (p : Problem) (given : Option Given) (Q : Plan) (c : Cost) → CostedGiven p given → c ≡ cost p Q.set → AfterGiven given c Q.table ↔ Wanted p (asked_of given) Q
wanted_by p (Some g) Q c e f = ahead_precedes p (plan_of g.plan) Q g.cost c g.plan.table.now Q.table e refl f refl
wanted_by p None Q c e f = (λ x. x, λ x. x)

below_by : (p : Problem) (limit : Limit) (buffer : List ℕ) (P : Plan) (c : Cost) → CostedLimit p limit → c ≡ cost p P.set
    → Sooner limit buffer c P.table ↔ Below p (limit_of limit buffer) P
below_by p (Before l) buffer P c e f = ahead_precedes p P (plan l.set buffer) c l.cost P.table buffer f refl e refl
below_by p (Under d) buffer P c e f = (λ x. rw (← f) x, λ x. rw f x)

-- a node whose slots are all decided, with its table
pub record Leaf (p : Problem) (slots : List ℕ) (given : Option Given) (node : Node) (choices : List ℕ) (limit : Limit) (buffer table : List ℕ) : Type 0 where
  pub slotted : Slotted p slots
  pub ready : Ready p node limit buffer
  pub given_costed : CostedGiven p given
  pub settles : Settles slots node.must choices
  pub tabled : Tabled slots node.must choices table
  pub long : length table ≡ 256

module _ {p : Problem} {slots : List ℕ} {given : Option Given} {node : Node} {choices : List ℕ} {limit : Limit} {buffer table : List ℕ}
    (leaf : Leaf p slots given node choices limit buffer table) where
  enough : p.slots ≤ length table
  enough = omega (arith, leaf.ready.slots, leaf.long)

  K : Plan
  K = plan node.must (take p.slots table)

  sized : length (take p.slots table) ≡ p.slots
  sized = length-take-le p.slots table enough

  left_alone : Searched p (asked_of given) (limit_of limit buffer) node.must node.ban choices (limit_of limit buffer)
      → Walked p (asked_of given) node choices limit buffer limit buffer
  left_alone s = record { searched = s; costed = leaf.ready.costed; written = inr (refl, refl) }

  none : ¬ (Good p K × (Wanted p (asked_of given) K × Below p (limit_of limit buffer) K))
      → Searched p (asked_of given) (limit_of limit buffer) node.must node.ban choices (limit_of limit buffer)
  unfolding K
  none n =
      searched_none p slots leaf.slotted node.must node.ban choices table leaf.ready.rooted leaf.settles leaf.tabled enough (asked_of given) (limit_of limit buffer) n

  -- the plan that is looked at, its table cut to the buffer's length
  cut : take (length buffer) table ≡ take p.slots table
  cut = ap (λ (n : ℕ). take n table) leaf.ready.plan_sized

  pub kept_unsound : ¬ Sound p (plan node.must (take (length buffer) table)) → Walked p (asked_of given) node choices limit buffer limit buffer
  unfolding K
  kept_unsound n = left_alone (none (λ x. n (rw cut x.0.sound)))

  module _ {c : Cost} (its : c ≡ cost p node.must) where
    pub kept_other : ¬ (AfterGiven given c (take (length buffer) table) × Sooner limit buffer c (take (length buffer) table))
        → Walked p (asked_of given) node choices limit buffer limit buffer
    unfolding K
    kept_other n =
        left_alone (none (λ x. n (rw cut ((wanted_by p given K c leaf.given_costed its).1 x.1.0), rw cut ((below_by p limit buffer K c leaf.ready.costed its).1 x.1.1))))

    pub kept_new : Sound p (plan node.must (take (length buffer) table)) → AfterGiven given c (take (length buffer) table) × Sooner limit buffer c (take (length buffer) table)
        → {buffer' : List ℕ} → buffer' ≡ take (length buffer) table
        → Walked p (asked_of given) node choices limit buffer (Before (record { set = node.must; cost = c })) buffer'
    unfolding K
    kept_new s w {buffer'} e =
        record {
          searched =
              rw (e, cut)
              (searched_kept p slots leaf.slotted node.must node.ban choices table leaf.ready.rooted leaf.settles leaf.tabled enough (asked_of given) (limit_of limit buffer)
              (record { sized = sized; sound = rw cut at s }) ((wanted_by p given K c leaf.given_costed its).0 (rw cut at w.0))
              ((below_by p limit buffer K c leaf.ready.costed its).0 (rw cut at w.1)));
          costed = its;
          written = inl (_, refl);
        }

-- a judgement that is no fault is that of a sound plan
pub only_sound : (a : Result Cost Condition) → ((k : Condition) → ¬ (a ≡ Err k)) → (c : Cost) × (a ≡ Ok c)
only_sound (Err k) n = absurd (n k refl)
only_sound (Ok c) n = (c, refl)

-- what a judgement says, by its case
module _ {p : Problem} {set : ℕ} {table : List ℕ} {a : Result Cost Condition} where
  pub judged_unsound : {k : Condition} → Judges p set table a → a ≡ Err k → ¬ Sound p (plan set table)
  judged_unsound {k} (broken {k = j} g e) f s = gives_not_none (faults p (plan set table)) (condition_number j) g (sound_faultless p (plan set table) s)
  judged_unsound {k} (sound s e) f t = cc

  pub judged_sound : {c : Cost} → Judges p set table a → a ≡ Ok c → Sound p (plan set table) × (c ≡ cost p set)
  judged_sound {c} (broken g e) f = cc
  judged_sound {c} (sound s e) f = (s, cc)

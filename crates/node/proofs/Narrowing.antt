-- Steps one after the other: what each keeps all keep. And what a step promises of all good plans, as a promise about those that are sought.
use mathlib.Core.Path.{◌≡◌, refl}
use mathlib.Core.List.{List}
use Rattle.std.specs.Prelude.{Option, Some}
use Prim.Native.Nat.{ℕ}
use Rattle.bitset.specs.Bits.{Member}
use Rattle.pacsolve.specs.Problem.{Problem}
use Rattle.pacsolve.specs.Listing.{Asked}
use Rattle.catalogue.specs.declared.Settings.{Settings}
use Rattle.catalogue.specs.Survey.{tabled}
use Rattle.node.specs.declared.Limit.{Limit as ALimit}
use Rattle.node.specs.declared.Node.{Node}
use Rattle.node.specs.Settling.{SettledBy}
use Rattle.node.specs.Sought.{Limit, Inside}
use Rattle.node.specs.Steps.{Settled}
use Rattle.node.specs.Narrowing.{Ready, Narrowed}
use Rattle.node.proofs.Left.{gained_none, gained_then, fewer_then, fewer_left, at_left}
use Rattle.node.proofs.Slotted.{tabled_slotted}
use Rattle.node.proofs.Settling.{settled_for}

pub settled_then : {p : Problem} {a b : Node} {c : Option Node} {x y z : List ℕ} → Settled p a (Some b) x y → Settled p b c y z → Settled p a c x z
settled_then {p} {b = b} {y = y} f g =
    record {
      less = gained_then f.less g.less;
      fewer = λ n e. fewer_then (f.fewer b refl) (g.fewer n e);
      keeps = λ P good i. g.keeps P good (at_left (λ n. Inside p n.must n.ban y P) (f.keeps P good i));
    }

-- the slots of a catalogue's tables
pub settled_tabled : (entries slots : List ℕ) (settings : Settings) (objectives fits : List ℕ) {before : Node} {after : Option Node} {choices choices' : List ℕ}
    → SettledBy slots before after choices choices' → Settled (tabled entries slots settings objectives fits) before after choices choices'
settled_tabled entries slots settings objectives fits s =
    let slotted = tabled_slotted entries slots settings objectives fits in
    settled_for slots (tabled entries slots settings objectives fits) slotted.count slotted.owner s

module _ {p : Problem} {q : Asked} {lim : Limit} where
  pub narrowed_by : {a : Node} {b : Option Node} {x y : List ℕ} → Settled p a b x y → Narrowed p q lim a x b y
  narrowed_by s = record { less = s.less; fewer = s.fewer; keeps = λ P sought. s.keeps P sought.good sought.inside }

  -- nothing is dropped
  pub narrowed_none : {a b : Node} {x : List ℕ} → b.must ≡ a.must → b.ban ≡ a.ban → Narrowed p q lim a x (Some b) x
  narrowed_none {a} {b} m n =
      record {
        less = gained_none;
        fewer = fewer_left (record { more = λ e k. rw m k; fewer = λ s e k. k; sized = refl });
        keeps = λ P s. (b, refl, record { has = λ e k. s.inside.has e (rw m at k); lacks = λ e k. s.inside.lacks e (rw n at k); names = s.inside.names });
      }

  pub narrowed_then : {a b : Node} {c : Option Node} {x y z : List ℕ} → Narrowed p q lim a x (Some b) y → Narrowed p q lim b y c z → Narrowed p q lim a x c z
  narrowed_then {b = b} {y = y} f g =
      record {
        less = gained_then f.less g.less;
        fewer = λ n e. fewer_then (f.fewer b refl) (g.fewer n e);
        keeps = λ P s.
            let inside = at_left (λ n. Inside p n.must n.ban y P) (f.keeps P s) in
            g.keeps P (record { good = s.good; wanted = s.wanted; below = s.below; inside = inside });
      }

-- a node of the same plans, with as much or more in must
pub ready_more : {p : Problem} {limit : ALimit} {plan : List ℕ} {a b : Node} → Ready p a limit plan → ((e : ℕ) → Member a.must e → Member b.must e) → Ready p b limit plan
ready_more {p} r more =
    record { entries = r.entries; slots = r.slots; plan_sized = r.plan_sized; costed = r.costed; rooted = more p.root r.rooted }

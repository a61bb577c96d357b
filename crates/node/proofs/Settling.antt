-- Why settling loses no plan: what a slot with no choice or one tells, one slot after the other, and what it comes to for a problem that the slots belong to.
use mathlib.Core.Path.{◌≡◌, refl, subst, ◌∙◌}
use mathlib.Core.List.{List}
use mathlib.Core.Logic.{◌⊎◌, inr, ⊎_elim}
use Rattle.std.specs.Prelude.{Option, Some}
use Prim.Native.Nat.{ℕ, ◌/◌, ◌<◌}
use native.Mathlib.Decide.{dec_lt}
use native.Mathlib.Omega.{arith}
use lib.ListN.{length, get_or, set, length-set}
use Rattle.bitset.specs.Bits.{Member}
use Rattle.bitset.specs.Changes.{With}
use Rattle.bitset.proofs.Sets.{none_in_empty}
use Rattle.pacsolve.specs.Problem.{Problem}
use Rattle.pacsolve.specs.Plan.{Plan, chosen, MemberOf}
use Rattle.pacsolve.specs.Listing.{Good}
use Rattle.catalogue.specs.Spans.{owner_in}
use Rattle.node.specs.declared.Node.{Node}
use Rattle.node.specs.Banning.{Bans, none_left, some_left}
use Rattle.node.specs.Sought.{Inside}
use Rattle.node.specs.Steps.{NoneGained, Fewer, Settled}
use Rattle.node.specs.Settling.{Less, SlotSettled, Filled, InsideBy, SettledBy}
use Rattle.node.proofs.Banning.{banned_fewer}
use Rattle.node.proofs.Left.{gained_none, fewer_then, at_left}
use Rattle.node.proofs.Stores.{stored_fewer, stored_keeps}

-- a set with one member more has all that it had, and nothing else but that member
pub with_more : {set e r : ℕ} → With set e r → (d : ℕ) → Member set d → Member r d
with_more {set} {e} {r} w d m = go (dec_lt e 64)
  where
    go : Dec (e < 64) → Member r d
    go (yes l) = (w.members l d).1 (inr m)
    go (no n) = rw (w.beyond (omega arith)) m

pub with_only : {set e r : ℕ} → With set e r → (d : ℕ) → Member r d → (d ≡ e) ⊎ Member set d
with_only {set} {e} {r} w d m = go (dec_lt e 64)
  where
    go : Dec (e < 64) → (d ≡ e) ⊎ Member set d
    go (yes l) = (w.members l d).0 m
    go (no n) = inr (subst (λ (k : ℕ). Member k d) (w.beyond (omega arith)) m)

module _ (slots : List ℕ) where
  module _ {before known : Node} {old choices : List ℕ} (was : SettledBy slots before (Some known) old choices) where
    known_inside : (P : Plan) → Filled slots P → InsideBy slots before.must before.ban old P → InsideBy slots known.must known.ban choices P
    known_inside P f i = at_left (λ n. InsideBy slots n.must n.ban choices P) (was.keeps P f i)

    -- one slot more
    pub settled_more : {s left : ℕ} {r : Option Node} → s < length slots / 4 → Less (get_or choices s 0) known.ban left
        → SlotSettled known (owner_in slots s) left r → SettledBy slots before r old (set choices s left)
    settled_more {s} {left} {r} there less slot = record { less = gained; fewer = fewer; keeps = keeps }
      where
        gained : NoneGained old (set choices s left)
        gained =
            record {
              fewer = λ t e m. was.less.fewer t e (stored_fewer choices s left (λ d x. ((less d).0 x).0) t e m);
              sized = length-set choices s left ∙ was.less.sized;
            }

        fewer : (n : Node) → r ≡ Some n → Fewer before.must old n.must (set choices s left)
        fewer n same =
            record { more = λ e m. slot.more n same e ((was.fewer known refl).more e m); fewer = gained.fewer; sized = gained.sized }

        keeps : (P : Plan) → Filled slots P → InsideBy slots before.must before.ban old P → (n : Node) × (r ≡ Some n) × InsideBy slots n.must n.ban (set choices s left) P
        keeps P f i =
            let j = known_inside P f i in
            let names : MemberOf P (owner_in slots s) → Member left (chosen P s) = λ o. (less (chosen P s)).1 (j.names s there o, λ b. j.lacks (chosen P s) b (f s there o)) in
            let k = slot.keeps P.set (chosen P s) (f s there) names (record { has = j.has; lacks = j.lacks }) in (
              k.0,
              k.1,
              record {
                has = k.2.has;
                lacks = k.2.lacks;
                names = λ t n o. stored_keeps choices s left t (chosen P t) (j.names t n o) (λ same. rw same (names (rw same at o)));
              },
            )

    -- where something must be there that must not, no plan is left
    pub settled_apart : {r : Option Node} → Bans known 0 r → SettledBy slots before r old choices
    settled_apart {r} bans = record { less = was.less; fewer = fewer bans; keeps = keeps bans }
      where
        fewer : Bans known 0 r → (n : Node) → r ≡ Some n → Fewer before.must old n.must choices
        fewer bans n same = fewer_then (was.fewer known refl) (banned_fewer bans gained_none n same)

        keeps : Bans known 0 r → (P : Plan) → Filled slots P → InsideBy slots before.must before.ban old P → (n : Node) × (r ≡ Some n) × InsideBy slots n.must n.ban choices P
        keeps (none_left e m b same) P f i =
            let j = known_inside P f i in absurd (⊎_elim (λ x. j.lacks e x (j.has e m)) (none_in_empty e) b)
        keeps (some_left {n = n} b same) P f i =
            let j = known_inside P f i in
            (n, same, record { has = λ e m. j.has e (rw b.must at m); lacks = λ e m. ⊎_elim (j.lacks e) (λ x. absurd (none_in_empty e x)) ((b.ban e).0 m); names = j.names })

  -- the problem that the slots belong to
  module _ (p : Problem) (counted : p.slots ≡ length slots / 4) (owned : (s : ℕ) → s < p.slots → p.owner s ≡ owner_in slots s) where
    pub inside_by : {must ban : ℕ} {choices : List ℕ} {P : Plan} → Inside p must ban choices P → InsideBy slots must ban choices P
    inside_by {P = P} i =
        record {
          has = i.has;
          lacks = i.lacks;
          names = λ s l o. let there : s < p.slots = omega arith in i.names s there (rw (← owned s there) at o);
        }

    pub inside_of : {must ban : ℕ} {choices : List ℕ} {P : Plan} → InsideBy slots must ban choices P → Inside p must ban choices P
    inside_of i = record { has = i.has; lacks = i.lacks; names = λ s l o. i.names s (omega arith) (rw (owned s l) at o) }

    pub settled_for : {before : Node} {after : Option Node} {choices left : List ℕ} → SettledBy slots before after choices left → Settled p before after choices left
    settled_for a =
        record {
          less = a.less;
          fewer = a.fewer;
          keeps = λ P g i. let k = a.keeps P (filled P g) (inside_by i) in (k.0, k.1, inside_of k.2);
        }
      where
        filled : (P : Plan) → Good p P → Filled slots P
        filled P g s l o = let there : s < p.slots = omega arith in g.sound.named.filled s there (rw (← owned s there) at o)

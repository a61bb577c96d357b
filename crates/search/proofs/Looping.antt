-- What holds whenever the walk's loop comes round, and that each thing that a turn does keeps it or ends the walk.
use mathlib.Core.Path.{◌≡◌, refl, ◌∙◌}
use mathlib.Core.List.{List}
use mathlib.Core.Logic.{inl, inr}
use Prim.Native.Nat.{ℕ, ◌^◌, ◌≤◌, ◌<◌}
use native.Mathlib.Nat.{le_refl}
use native.Mathlib.Omega.{arith}
use lib.Bits.{bit_or}
use lib.ListN.{length, get_or, set, length-set}
use Rattle.std.specs.Prelude.{Option, Some, None}
use Rattle.bitset.specs.Bits.{Member}
use Rattle.bitset.proofs.Made.{join_members}
use Rattle.bitset.proofs.Sets.{none_in_empty, member_below}
use Rattle.pacsolve.specs.Problem.{Problem}
use Rattle.pacsolve.specs.Plan.{Plan, chosen, MemberOf}
use Rattle.pacsolve.specs.Listing.{Asked}
use Rattle.node.specs.declared.Limit.{Limit}
use Rattle.node.specs.declared.Node.{Node}
use Rattle.node.specs.Sought.{Sought, limit_of}
use Rattle.node.specs.Steps.{Only}
use Rattle.node.specs.Narrowing.{Ready, Narrowed}
use Rattle.node.proofs.Narrowing.{ready_more}
use Rattle.node.proofs.Slotted.{Slotted}
use Rattle.search.specs.Picks.{Halved, Due}
use Rattle.search.specs.Walks.{Written, Walked}
use Rattle.search.proofs.Falls.{remaining, remaining_fewer, remaining_less, remaining_forced}
use Rattle.search.proofs.Going.{Going, going_start, going_end, going_spent, going_forced, going_split, going_narrowed, going_dead}

pub record Looping (p : Problem) (q : Asked) (node₀ : Node) (choices₀ : List ℕ) (limit₀ : Limit) (plan₀ : List ℕ) (node : Node) (choices : List ℕ) (limit : Limit)
    (plan : List ℕ) : Type 0 where
  pub going : Going p q (limit_of limit₀ plan₀) node₀.must node₀.ban choices₀ (limit_of limit plan) node.must node.ban choices
  pub ready : Ready p node limit plan
  pub written : Written limit₀ plan₀ limit plan
  pub sized : length choices ≡ 256
  pub falling : remaining node.must choices ≤ remaining node₀.must choices₀

-- the buffer after two searches
written_then : (limit₀ limit r : Limit) (plan₀ plan plan' : List ℕ) → Written limit₀ plan₀ limit plan → Written limit plan r plan' → Written limit₀ plan₀ r plan'
written_then limit₀ limit r plan₀ plan plan' x (inl y) = inl y
written_then limit₀ limit r plan₀ plan plan' (inl x) (inr y) = inl (x.0, y.1 ∙ x.1)
written_then limit₀ limit r plan₀ plan plan' (inr x) (inr y) = inr (y.0 ∙ x.0, y.1 ∙ x.1)

pub loop_start : {p : Problem} {q : Asked} {node : Node} {choices : List ℕ} {limit : Limit} {plan : List ℕ} → Ready p node limit plan → length choices ≡ 256
    → Looping p q node choices limit plan node choices limit plan
loop_start {p} {q} {node} {choices} {limit} {plan} r l =
    record {
      going = going_start p q (limit_of limit plan) node.must node.ban choices;
      ready = r;
      written = inr (refl, refl);
      sized = l;
      falling = le_refl (remaining node.must choices);
    }

module _ {p : Problem} {q : Asked} {node₀ : Node} {choices₀ : List ℕ} {limit₀ : Limit} {plan₀ : List ℕ} {node : Node} {choices : List ℕ} {limit : Limit} {plan : List ℕ}
    (l : Looping p q node₀ choices₀ limit₀ plan₀ node choices limit plan) where
  pub loop_narrowed : {after : Option Node} {choices' : List ℕ} {next : Node} → Narrowed p q (limit_of limit plan) node choices after choices' → after ≡ Some next
      → Looping p q node₀ choices₀ limit₀ plan₀ next choices' limit plan
  loop_narrowed {after} {choices'} {next} n e =
      let f = n.fewer next e in
      record {
        going = going_narrowed p q (limit_of limit₀ plan₀) node₀.must node₀.ban choices₀ (limit_of limit plan) node after choices choices' n l.going next e;
        ready = ready_more l.ready f.more;
        written = l.written;
        sized = f.sized ∙ l.sized;
        falling = omega (arith, remaining_fewer f, l.falling);
      }

  pub loop_dead : {after : Option Node} {choices' : List ℕ} → Narrowed p q (limit_of limit plan) node choices after choices' → after ≡ None
      → Walked p q node₀ choices₀ limit₀ plan₀ limit plan
  loop_dead {after} {choices'} n e =
      record {
        searched = going_dead p q (limit_of limit₀ plan₀) node₀.must node₀.ban choices₀ (limit_of limit plan) node after choices choices' n l.going e;
        costed = l.ready.costed;
        written = l.written;
      }

  -- a due slot without a choice: no plan is left
  pub loop_stuck : (slots : List ℕ) → Slotted p slots → (s : ℕ) → Due slots node.must s → get_or choices s 0 ≡ 0 → Walked p q node₀ choices₀ limit₀ plan₀ limit plan
  loop_stuck slots slotted s due none =
      record { searched = going_spent p q (limit_of limit₀ plan₀) node₀.must node₀.ban choices₀ l.going empty; costed = l.ready.costed; written = l.written }
    where
      empty : (P : Plan) → ¬ Sought p q (limit_of limit plan) node.must node.ban choices P
      empty P x =
          let there : s < p.slots = rw slotted.count due.there in
          let owned : MemberOf P (p.owner s) = x.inside.has (p.owner s) (rw (slotted.owner s there) due.owned) in
          none_in_empty (chosen P s) (rw none at (x.inside.names s there owned))

  -- the present node is searched by what is called
  pub loop_kept : {r : Limit} {plan' : List ℕ} → Walked p q node choices limit plan r plan' → Walked p q node₀ choices₀ limit₀ plan₀ r plan'
  loop_kept {r} {plan'} w =
      record {
        searched = going_end p q (limit_of limit₀ plan₀) node₀.must node₀.ban choices₀ l.going w.searched;
        costed = w.costed;
        written = written_then limit₀ limit r plan₀ plan plan' l.written w.written;
      }

  module _ (slots : List ℕ) (slotted : Slotted p slots) (s : ℕ) (due : Due slots node.must s) (small : get_or choices s 0 < 2 ^ 64) where
    s_small : s < 256
    s_small = let there : s < p.slots = rw slotted.count due.there in omega (arith, l.ready.slots)

    -- the only choice of a due slot as a must
    pub loop_forced : (e : ℕ) → Only (get_or choices s 0) e → ¬ Member node.must e
        → Looping p q node₀ choices₀ limit₀ plan₀ (record { must = bit_or node.must (get_or choices s 0); ban = node.ban }) choices limit plan
        × (remaining (bit_or node.must (get_or choices s 0)) choices < remaining node.must choices)
    loop_forced e only lacks =
        let more : (d : ℕ) → Member node.must d → Member (bit_or node.must (get_or choices s 0)) d = λ d x. (join_members node.must (get_or choices s 0) d).1 (inl x) in
        let its : Member (get_or choices s 0) e = (only e).1 refl in
        let less : remaining (bit_or node.must (get_or choices s 0)) choices < remaining node.must choices =
        remaining_forced node.must (bit_or node.must (get_or choices s 0)) e choices more (member_below 64 (get_or choices s 0) e small its)
        ((join_members node.must (get_or choices s 0) e).1 (inr its)) lacks in (
          record {
            going = going_forced p q (limit_of limit₀ plan₀) node₀.must node₀.ban choices₀ slots slotted s e due only l.going;
            ready = ready_more l.ready more;
            written = l.written;
            sized = l.sized;
            falling = omega (arith, less, l.falling);
          },
          less,
        )

    module _ {one rest e : ℕ} (halved : Halved (get_or choices s 0) one rest e) where
      -- the child: this choice alone, another being left
      pub child_less : (d : ℕ) → Member (get_or choices s 0) d → ¬ (d ≡ e) → remaining node.must (set choices s one) < remaining node.must choices
      child_less d m n =
          remaining_less node.must choices s one d s_small (omega (arith, s_small, l.sized)) (λ x k. rw ((halved.alone x).0 k) halved.is)
          (member_below 64 (get_or choices s 0) d small m) m (λ k. n ((halved.alone d).0 k))

      -- after the child: the other choices
      pub loop_split : {r : Limit} {plan' : List ℕ} → length plan' ≡ length plan → Walked p q node (set choices s one) limit plan r plan'
          → Looping p q node₀ choices₀ limit₀ plan₀ node (set choices s rest) r plan' × (remaining node.must (set choices s rest) < remaining node.must choices)
      loop_split {r} {plan'} same_length w =
          let room : s < length choices = omega (arith, s_small, l.sized) in
          let less : remaining node.must (set choices s rest) < remaining node.must choices =
          remaining_less node.must choices s rest e s_small room (λ x k. ((halved.others x).0 k).0) halved.small halved.is (λ k. ((halved.others e).0 k).1 refl) in
          let old = l.ready in (
            record {
              going =
                  going_split p q (limit_of limit₀ plan₀) node₀.must node₀.ban choices₀ s e one rest room ((halved.alone e).1 refl) (λ d m n. (halved.others d).1 (m, n))
                  l.going w.searched;
              ready = record { entries = old.entries; slots = old.slots; plan_sized = same_length ∙ old.plan_sized; costed = w.costed; rooted = old.rooted };
              written = written_then limit₀ limit r plan₀ plan plan' l.written w.written;
              sized = length-set choices s rest ∙ l.sized;
              falling = omega (arith, less, l.falling);
            },
            less,
          )

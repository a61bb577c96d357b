-- What needed sets come to: a queue of them with one more, and the sets that they lead to.
use mathlib.Core.Path.{◌≡◌}
use mathlib.Core.Logic.{◌⊎◌, inl, inr}
use Prim.Native.Nat.{ℕ, ◌+◌, ◌^◌, ◌≤◌, ◌<◌}
use lib.Bits.{bit_or}
use lib.ListN.{get_or}
use Rattle.bitset.specs.Bits.{Member}
use Rattle.bitset.specs.Walk.{Parts}
use Rattle.bitset.proofs.Least.{some_member}
use Rattle.bitset.proofs.Sets.{member_below, none_in_empty}
use Rattle.bitset.proofs.Made.{join_members}
use Rattle.bitset.proofs.MemberWalk.{Walked, walk_on, walk_end}
use Rattle.price.specs.declared.needs.Need.{Need}
use Rattle.price.specs.declared.queue.Queue.{Queue}
use Rattle.price.specs.Prices.{Meets, Has}
use Rattle.price.specs.Needed.{SlotOf, Leads, Put, Needed, Waiting}
use Rattle.price.proofs.Drawing.{walk_weaker}

module _ {need : Need} where
  pub waiting_more : {queue queue' : Queue} {new : ℕ} → Waiting need queue → Put queue queue' new → (¬ (new ≡ 0) → Needed need new) → Waiting need queue'
  waiting_more {queue} {queue'} {new} w p needed = record { each = λ i l. at i (p.each i l) }
    where
      at : (i : ℕ) → ((¬ (new ≡ 0)) × (get_or queue'.sets i 0 ≡ new)) ⊎ ((i < queue.count) × (get_or queue'.sets i 0 ≡ get_or queue.sets i 0))
          → Needed need (get_or queue'.sets i 0)
      at i (inl x) = rw x.1 (needed x.0)
      at i (inr x) = rw x.1 (w.each i x.0)

  -- the choices of a slot of what must be there are needed
  pub needed_slot : {e s its : ℕ} → e < 64 → Member need.must e → get_or need.spans.now.first e 0 ≤ s → s < get_or need.spans.now.first (e + 1) 0
      → its ≡ get_or need.choices.now s 0 → ¬ (its ≡ 0) → Needed need its
  needed_slot {e} {s} small m low high is some = record { some = some; meets = λ set has serves. rw is (serves e s small (has e m) low high) }

has_some : {its all : ℕ} → Has its all → ¬ (its ≡ 0) → ¬ (all ≡ 0)
has_some {its} h some none = let e = some_member its some in none_in_empty e.0 (rw none at (h e.0 e.1))

-- all choices of some slot of e, of which there are some, are in a set
pub record Holds (need : Need) (all e : ℕ) : Type 0 where
  pub its : ℕ
  pub slot : SlotOf need e its
  pub within : Has its all

holds_more : {need : Need} {all e : ℕ} (its : ℕ) → Holds need all e → Holds need (bit_or all its) e
holds_more {all = all} its h =
    record { its = h.its; slot = h.slot; within = λ d m. (join_members all its d).1 (inl (h.within d m)) }

-- a slot of each member passed is in the set, and of one member more
pub together_on : {need : Need} {group rest d less all its : ℕ} → Walked group rest (Holds need all) → Parts rest d less → SlotOf need d its
    → Walked group less (Holds need (bit_or all its))
together_on {need} {d = d} {all = all} {its = its} w p slot =
    walk_on (walk_weaker w (λ e h. holds_more its h)) p (record { its = its; slot = slot; within = λ e m. (join_members all its e).1 (inr m) })

pub together_end : {need : Need} {group rest all : ℕ} → Walked group rest (Holds need all) → rest ≡ 0 → group < 2 ^ 64 → ¬ (group ≡ 0) → Leads need group all
together_end {need} {group} {rest} {all} w z h some = record { some = is_some; on = λ S meets serves. at S meets (serves meets.0) }
  where
    is_some : ¬ (all ≡ 0)
    is_some = let e = some_member group some in let held = walk_end w z e.0 e.1 in has_some held.within held.slot.some

    at : (S : ℕ) (meets : Meets group S)
        → ((s : ℕ) → meets.0 < 64 → Member S meets.0 → get_or need.spans.now.first meets.0 0 ≤ s → s < get_or need.spans.now.first (meets.0 + 1) 0
        → Meets (get_or need.choices.now s 0) S)
        → Meets all S
    at S meets serves =
        let held = walk_end w z meets.0 meets.1 in
        let slot = held.slot.slot in
        let met = serves slot.0 (member_below 64 group meets.0 h meets.1) meets.2 slot.1 slot.2 in
        (met.0, held.within met.0 (rw slot.3 met.1), met.2)

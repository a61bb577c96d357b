-- Why what the choices do not lead to is in no plan: a member is reached from the root, and each step on the way goes by a slot of a member, to one of its choices.
use mathlib.Core.Path.{◌≡◌, refl, sym, ◌∙◌}
use mathlib.Core.List.{List}
use mathlib.Core.Logic.{inl, inr, ⊎_elim}
use Prim.Native.Nat.{ℕ, ◌+◌, ◌-◌, ◌^◌, ◌≤◌, ◌<◌}
use native.Mathlib.Omega.{arith}
use lib.Bits.{bit_and, bit_or}
use lib.ListN.{get_or}
use Rattle.basis.proofs.Decide.{below_suc}
use Rattle.bitset.specs.Bits.{Member, count}
use Rattle.bitset.specs.Changes.{With}
use Rattle.bitset.specs.Search.{LowestOr64}
use Rattle.bitset.proofs.Counts.{count_le, count_less}
use Rattle.bitset.proofs.Made.{meet_members, join_members, rest_members}
use Rattle.bitset.proofs.Sets.{member_below, member_or_not, not_empty}
use Rattle.pacsolve.specs.Problem.{Problem}
use Rattle.pacsolve.specs.Plan.{Plan, MemberOf, Walk, here, on}
use Rattle.pacsolve.specs.Listing.{Good}
use Rattle.catalogue.specs.Spans.{Spans, owner_in}
use Rattle.catalogue.proofs.Spanned.{span_of}
use Rattle.node.specs.Reaching.{InReach, at_once, onward, Closed, Taken, OutOfReach}
use Rattle.node.specs.Sought.{Inside}
use Rattle.node.proofs.Slotted.{Slotted}
use Rattle.node.proofs.Settling.{with_only}

-- the slots of a span, one after the other
module _ {start : ℕ} {choices : List ℕ} {reach : ℕ} where
  pub taken_more : {s found : ℕ} → Taken start s choices reach found → Taken start (s + 1) choices reach (bit_or found (get_or choices s 0))
  taken_more {s} {found} was =
      record {
        more = λ e m. (join_members found (get_or choices s 0) e).1 (inl (was.more e m));
        choice = λ t low high e m.
            (join_members found (get_or choices s 0) e).1 (⊎_elim (λ same. inr (rw same at m)) (λ h. inl (was.choice t low h e m)) (below_suc (omega arith)));
      }

-- a reach with all of must, and with the choices of the slots of each entry passed
pub record Grown (first choices : List ℕ) (must reach passed : ℕ) : Type 0 where
  pub fits : (reach < 2 ^ 64) × (passed < 2 ^ 64)
  pub start : (e : ℕ) → Member must e → Member reach e
  pub choice : (d s : ℕ) → Member passed d → get_or first d 0 ≤ s → s < get_or first (d + 1) 0 → (e : ℕ) → Member (get_or choices s 0) e → Member reach e

module _ {first choices : List ℕ} {must reach passed d : ℕ} (was : Grown first choices must reach passed) where
  -- one entry more
  pub grown_more : {r more : ℕ} → (r < 2 ^ 64) × (more < 2 ^ 64) → With passed d more → Taken (get_or first d 0) (get_or first (d + 1) 0) choices reach r
      → Grown first choices must r more
  grown_more fits also now =
      record {
        fits = fits;
        start = λ e m. now.more e (was.start e m);
        choice = λ d s m low high e c.
            ⊎_elim (λ same. now.choice s (rw same at low) (rw same at high) e c) (λ x. now.more e (was.choice d s x low high e c)) (with_only also d m);
      }

  -- the lowest entry of the reach that is not passed
  module _ (some : ¬ (bit_and reach (2 ^ 64 - 1 - passed) ≡ 0)) (low : LowestOr64 (bit_and reach (2 ^ 64 - 1 - passed)) d) where
    left_over : (d < 64) × ¬ Member passed d
    left_over = (rest_members 64 passed d was.fits.1).0 ((meet_members reach (2 ^ 64 - 1 - passed) d).0 (low.some some).member).1

    pub left_below : d < 64
    left_below = left_over.0

    -- with it, fewer are left
    pub left_less : {more : ℕ} → With passed d more → 64 - count more < 64 - count passed
    left_less {more} also =
        let members = also.members left_below in
        omega (arith, count_le more, count_less passed more d (λ e m. (members e).1 (inr m)) left_below ((members d).1 (inl refl)) left_over.1)

module _ {slots choices : List ℕ} where
  -- a closed set with all of must has all that is reached
  within : {must e : ℕ} (reach : ℕ) → ((d : ℕ) → Member must d → Member reach d) → Closed slots choices reach → InReach slots choices must e → Member reach e
  within {e = e} reach start closed (at_once m) = start e m
  within {e = e} reach start closed (onward {s = s} l w m) = closed s l (within reach start closed w) e m

  -- once every entry of the reach is passed, all that is outside is out of reach
  pub out_rest : {first : List ℕ} {must reach passed : ℕ} → Grown first choices must reach passed → bit_and reach (2 ^ 64 - 1 - passed) ≡ 0
      → Spans slots first → OutOfReach slots choices must (2 ^ 64 - 1 - reach)
  out_rest {first} {must} {reach} {passed} grown z spans =
      record { members = λ e m w. ((rest_members 64 reach e grown.fits.0).0 m).1 (within reach grown.start closed w) }
    where
      below : (d : ℕ) → Member reach d → d < 64
      below d m = member_below 64 reach d grown.fits.0 m

      all : (d : ℕ) → Member reach d → Dec (Member passed d) → Member passed d
      all d m (yes x) = x
      all d m (no n) = absurd (not_empty _ d ((meet_members reach _ d).1 (m, (rest_members 64 passed d grown.fits.1).1 (below d m, n))) z)

      closed : Closed slots choices reach
      closed s l o =
          let span = span_of spans (owner_in slots s) s (below (owner_in slots s) o) l refl in
          grown.choice (owner_in slots s) s (all (owner_in slots s) o (member_or_not passed (owner_in slots s))) span.0 span.1

-- a member of a plan inside the node is reached
pub out_unused : (p : Problem) {slots choices : List ℕ} {must ban out : ℕ} → Slotted p slots → Member must p.root → OutOfReach slots choices must out
    → (P : Plan) → Good p P → Inside p must ban choices P → (e : ℕ) → Member out e → ¬ MemberOf P e
out_unused p {slots} {choices} {must} slotted root out P g i e m o = out.members e m (reached (g.sound.reached e o))
  where
    reached : {d : ℕ} → Walk p P p.root d → InReach slots choices must d
    reached here = at_once root
    reached (on w s) =
        let its : owner_in slots s.slot ≡ _ = sym (slotted.owner s.slot s.there) ∙ s.its in
        let owned : MemberOf P (p.owner s.slot) = rw s.its s.from in
        onward (rw slotted.count at s.there) (rw its (reached w)) (rw s.names at (i.names s.slot s.there owned))

-- Why what is not in the footing is in no plan: each of it has a slot that can only name one of it again, so a plan with one of them would never come to an end.
use mathlib.Core.Path.{◌≡◌, refl, ap, ◌∙◌}
use mathlib.Core.Bool.{Bool}
use mathlib.Core.List.{List}
use mathlib.Core.Logic.{◌⊎◌, inl, inr, ⊎_elim}
use Prim.Native.Nat.{ℕ, ◌+◌, ◌-◌, ◌*◌, ◌^◌, ◌<◌}
use native.Mathlib.Nat.{pow-succ'}
use native.Mathlib.Omega.{arith}
use lib.Bits.{bit_and}
use lib.Count.{count_leading_zeros, leading_top}
use lib.ListN.{get_or}
use Rattle.basis.specs.Tests.{Decides}
use Rattle.basis.proofs.Decide.{decides_by}
use Rattle.bitset.specs.Bits.{bit, Member, count}
use Rattle.bitset.specs.Changes.{With, Without}
use Rattle.bitset.proofs.Counts.{count_less}
use Rattle.bitset.proofs.Made.{meet_members, rest_members}
use Rattle.bitset.proofs.Sets.{below_by_members, empty_by_members, bit_at, member_below, member_or_not, not_empty}
use Rattle.pacsolve.specs.Problem.{Problem}
use Rattle.pacsolve.specs.Plan.{Plan, chosen, MemberOf, Step}
use Rattle.pacsolve.specs.Listing.{Good}
use Rattle.pacsolve.proofs.Descent.{none_onward}
use Rattle.catalogue.specs.Spans.{Spans}
use Rattle.catalogue.proofs.Spanned.{span_owner}
use Rattle.node.specs.Grounding.{Apart, HasSlot, HeldUp, Risen, Hangs}
use Rattle.node.specs.Sought.{Inside}
use Rattle.node.proofs.Slotted.{Slotted}

-- nothing in common with the footing
pub apart_decides : (choices footing : ℕ) → choices < 2 ^ 64 → {b : Bool} → Decides b (bit_and choices footing ≡ 0) → Decides b (Apart choices footing)
apart_decides choices footing h =
    decides_by
    (λ z e m. (member_below 64 choices e h m, λ g. not_empty (bit_and choices footing) e ((meet_members choices footing e).1 (m, g)) z))
    (λ x. empty_by_members (bit_and choices footing) (λ e m. let both = (meet_members choices footing e).0 m in (x e both.0).1 both.1))

-- the machine's count of the zeros above a set's highest bit that is 1 gives a member
module _ (set : ℕ) (some : ¬ (set ≡ 0)) (h : set < 2 ^ 64) where
  pub highest_member : Member set (63 - count_leading_zeros 64 set)
  highest_member =
      let top = leading_top 64 set (omega arith) h in
      let j = top.0 in
      let place : 63 - count_leading_zeros 64 set ≡ j = omega (arith, top.1) in
      let low : set - 2 ^ j < 2 ^ j = omega (arith, top.2, top.3, pow-succ' 2 j) in
      let parts : set ≡ set - 2 ^ j + 2 ^ j * 1 = omega (arith, top.2) in
      rw place (ap (λ (x : ℕ). bit x j) parts ∙ bit_at j (set - 2 ^ j) 1 low)

-- what is left of the entries neither banned nor in the footing; unless something is found, the others are held up
pub record Rising (first choices : List ℕ) (ban footing found rest : ℕ) : Type 0 where
  pub fits : rest < 2 ^ 64
  pub outside : (o : ℕ) → Member rest o → ¬ Member footing o
  pub passed : found ≡ footing → (o : ℕ) → o < 64 → ¬ Member ban o → ¬ Member footing o → Member rest o ⊎ HeldUp first choices footing o

pub rising_none : {first choices : List ℕ} {ban footing : ℕ} → ban < 2 ^ 64 → footing < 2 ^ 64
    → Rising first choices ban footing footing (bit_and (2 ^ 64 - 1 - ban) (2 ^ 64 - 1 - footing))
rising_none {ban = ban} {footing = footing} hb hg =
    record {
      fits = below_by_members 64 _ (λ o m. (apart_from o m).0);
      outside = λ o m. (apart_from o m).1;
      passed = λ same o l b g. inl ((meet_members (2 ^ 64 - 1 - ban) _ o).1 ((rest_members 64 ban o hb).1 (l, b), (rest_members 64 footing o hg).1 (l, g)));
    }
  where
    apart_from : (o : ℕ) → Member (bit_and (2 ^ 64 - 1 - ban) (2 ^ 64 - 1 - footing)) o → (o < 64) × ¬ Member footing o
    apart_from o m = (rest_members 64 footing o hg).0 ((meet_members (2 ^ 64 - 1 - ban) (2 ^ 64 - 1 - footing) o).0 m).1

-- one entry of what is left
module _ {first choices : List ℕ} {ban footing found rest d : ℕ} (was : Rising first choices ban footing found rest) (m : Member rest d) where
  pub left_below : d < 64
  left_below = member_below 64 rest d was.fits m

  module _ {less : ℕ} (x : Without rest d less) where
    within : (o : ℕ) → Member less o → Member rest o
    within o y = ((x.members left_below o).0 y).0

    pub left_less : count less < count rest
    left_less = count_less less rest d within left_below m (λ y. ((x.members left_below d).0 y).1 refl)

    fits : less < 2 ^ 64
    fits = below_by_members 64 less (λ o y. member_below 64 rest o was.fits (within o y))

    pub rising_found : {r : ℕ} → With found d r → Rising first choices ban footing r less
    rising_found w =
        record { fits = fits; outside = λ o y. was.outside o (within o y); passed = λ same. absurd (was.outside d m (rw same at ((w.members left_below d).1 (inl refl)))) }

-- what is neither banned nor in a footing that has gained nothing
pub hangs_held : {first choices : List ℕ} {ban footing r : ℕ} → ban < 2 ^ 64 → footing < 2 ^ 64 → r ≡ footing → Risen first choices ban footing r
    → Hangs first choices ban (bit_and (2 ^ 64 - 1 - footing) (2 ^ 64 - 1 - ban))
hangs_held {first} {choices} {ban} {footing} hb hg same up = record { below = λ o m. (outside o m).0; members = hung }
  where
    outside : (o : ℕ) → Member (bit_and (2 ^ 64 - 1 - footing) (2 ^ 64 - 1 - ban)) o → (o < 64) × ¬ Member footing o
    outside o m = (rest_members 64 footing o hg).0 ((meet_members (2 ^ 64 - 1 - footing) (2 ^ 64 - 1 - ban) o).0 m).0

    again : (e : ℕ) → (e < 64) × ¬ Member footing e → Dec (Member ban e) → Member ban e ⊎ Member (bit_and (2 ^ 64 - 1 - footing) (2 ^ 64 - 1 - ban)) e
    again e x (yes b) = inl b
    again e x (no n) = inr ((meet_members (2 ^ 64 - 1 - footing) _ e).1 ((rest_members 64 footing e hg).1 x, (rest_members 64 ban e hb).1 (x.0, n)))

    hung : (o : ℕ) → Member (bit_and (2 ^ 64 - 1 - footing) (2 ^ 64 - 1 - ban)) o
        → HasSlot (get_or first o 0) (get_or first (o + 1) 0) choices (λ set. (e : ℕ) → Member set e → Member ban e ⊎ Member (bit_and (2 ^ 64 - 1 - footing) (2 ^ 64 - 1 - ban)) e)
    hung o m =
        let not_banned = ((rest_members 64 ban o hb).0 ((meet_members (2 ^ 64 - 1 - footing) (2 ^ 64 - 1 - ban) o).0 m).1).1 in
        let h = up.held same o (outside o m).0 not_banned (outside o m).1 in
        record { slot = h.slot; low = h.low; high = h.high; choice = λ e x. again e (h.choice e x) (member_or_not ban e) }

-- a plan with one of them would step from one to the next for ever
pub hangs_unused : (p : Problem) {slots first choices : List ℕ} {must ban out : ℕ} → Slotted p slots → Spans slots first → p.forbidden → Hangs first choices ban out
    → (P : Plan) → Good p P → Inside p must ban choices P → (e : ℕ) → Member out e → ¬ MemberOf P e
hangs_unused p {slots} {first} {choices} {must} {ban} {out} slotted spans forbidden hangs P g i e m o =
    none_onward p P g.sound.rooted g.sound.acyclic forbidden (λ d. Member out d × MemberOf P d) onward e (m, o)
  where
    onward : (d : ℕ) → Member out d × MemberOf P d → (c : ℕ) × Step p P d c × (Member out c × MemberOf P c)
    onward d x =
        let h = hangs.members d x.0 in
        let span = span_owner spans d h.slot (hangs.below d x.0) h.low h.high in
        let there : h.slot < p.slots = rw slotted.count span.0 in
        let its : p.owner h.slot ≡ d = slotted.owner h.slot there ∙ span.1 in
        let owned : MemberOf P (p.owner h.slot) = rw its x.1 in
        let named : MemberOf P (chosen P h.slot) = g.sound.named.filled h.slot there owned in
        let again = h.choice (chosen P h.slot) (i.names h.slot there owned) in (
          chosen P h.slot,
          record { slot = h.slot; there = there; its = its; names = refl; from = x.1; to = named },
          (⊎_elim (λ b. absurd (i.lacks (chosen P h.slot) b named)) (λ y. y) again, named),
        )

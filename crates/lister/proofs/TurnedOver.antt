-- A fresh record turned over and over hands out the listing, each plan once and in order, and then says 11 each time.
use mathlib.Core.Path.{◌≡◌, refl, ap}
use mathlib.Core.List.{List, [], ◌∷◌}
use mathlib.Core.Logic.{◌⊎◌, inl, inr}
use Prim.Native.Nat.{ℕ, suc, ◌≤◌, ◌<◌}
use native.Mathlib.Decide.{ℕ_discrete, le_ind}
use native.Mathlib.Omega.{arith}
use lib.ListN.{length}
use Rattle.std.specs.Prelude.{Err}
use Rattle.basis.specs.declared.Refusal.TheVariants.{NoPlan}
use Rattle.basis.specs.Rows.{GivesNone, number_of as refusal_number}
use Rattle.basis.proofs.Refusals.{number_differs}
use Rattle.basis.proofs.Rows.{gives_one, gives_not_none, gives_after, none_after}
use Rattle.pacsolve.specs.Plan.{Plan as APlan, plan, Sound}
use Rattle.pacsolve.specs.Listing.{Listing, Asked, from_the_start, after, Least, NoneLeft}
use Rattle.pacsolve.proofs.Fixed.{least_is_one, least_or_none_left}
use Rattle.pacsolve.proofs.Listing.{Onward, onward_from_listing, onward_head, onward_tail, onward_end}
use Rattle.pacsolve.proofs.Enumerated.{listed, listing_exists}
use Rattle.catalogue.specs.Tables.{Lent}
use Rattle.catalogue.specs.Refusals.{rows}
use Rattle.catalogue.specs.Gives.{problem}
use Rattle.lister.specs.declared.ListingRecord.{ListingRecord}
use Rattle.lister.specs.Answers.{Answer, given}
use Rattle.lister.specs.Turns.{running, ended, listing, Asks, the_first, the_next, turn_rows, Kept, closed, left, Turns, refused, found}
use Rattle.lister.specs.Asking.{Turning, Closes, Follow, EndedFrom, FollowedBy11s}
use Rattle.lister.proofs.Outcome.{computed}
use Rattle.lister.proofs.Asked.{Backed, still_sane, given_back}
use Rattle.lister.proofs.TurnOutcome.{asks_one, ended_asks_nothing}

module _ (L : Lent) (r : ListingRecord) (buffer : List ℕ) where
  -- a record that asks for something is no further than running, and what it asks after is sound
  no_nine : {q : Asked} → Asks r buffer q → ¬ (ended < r.stage)
  no_nine (the_first e) h = omega arith
  no_nine (the_next e) h = omega arith

  no_ten : {q : Asked} → Asks r buffer q → Backed L q → ¬ ((r.stage ≡ running) × ¬ Sound (problem L) (plan r.last buffer))
  no_ten (the_first e) b h = omega (arith, h.0)
  no_ten (the_next e) b h = h.1 b

  no_eleven : {q : Asked} → Asks r buffer q → ¬ NoneLeft (problem L) q → ¬ ((r.stage ≡ ended) ⊎ ((u : Asked) × Asks r buffer u × NoneLeft (problem L) u))
  no_eleven k n (inl e) = ended_asks_nothing r buffer e k
  no_eleven k n (inr x) = n (rw (asks_one r buffer x.1 k) at x.2)

  module _ (g : GivesNone (rows L (length buffer))) (a : Answer) (s : ListingRecord) (x : List ℕ) where
    -- the turn hands out the least plan that the record asks for
    turns_least : (q : Asked) (P : APlan) → Asks r buffer q → Backed L q → Least (problem L) q P → Turns L r buffer a s x
        → (a ≡ given L P) × (s ≡ listing running P.set) × (x ≡ P.table)
    turns_least q P k b l (refused {f = f} h e t u) =
        absurd (gives_not_none (turn_rows L r buffer) (refusal_number f) h (none_after (rows L (length buffer)) _ g
        (no_nine k, (no_ten k b, (no_eleven k (least_or_none_left (problem L) l), tt)))))
    turns_least q P k b l (found {P = Q} h c m e w u) =
        let same : Q ≡ P = least_is_one (problem L) (rw (asks_one r buffer c k) at m) l in (cc, cc, cc)

    -- 11 it is, where that row applies and neither 9 nor 10 does
    turns_over : ¬ (ended < r.stage) → ¬ ((r.stage ≡ running) × ¬ Sound (problem L) (plan r.last buffer))
        → (r.stage ≡ ended) ⊎ ((q : Asked) × Asks r buffer q × NoneLeft (problem L) q) → Turns L r buffer a s x
        → (a ≡ Err NoPlan) × (s.stage ≡ ended) × (x ≡ buffer)
    turns_over nine ten over (refused {f = f} h e t u) =
        let eleven = gives_one (turn_rows L r buffer) (refusal_number f) 11 h (gives_after (rows L (length buffer)) _ 11 g (inr (nine, inr (ten, inl (over, refl))))) in
        let same : f ≡ NoPlan = number_differs eleven in
        (cc, staged eleven t, u)
      where
        staged : refusal_number f ≡ 11 → Kept r (refusal_number f) s → s.stage ≡ ended
        staged same (closed c d) = ap (λ (v : ListingRecord). v.stage) d
        staged same (left c d) = absurd (c same)
    turns_over nine ten over (found h c m e w u) = absurd (none_over c m over)
      where
        none_over : {q : Asked} {P : APlan} → Asks r buffer q → Least (problem L) q P → ¬ ((r.stage ≡ ended) ⊎ ((v : Asked) × Asks r buffer v × NoneLeft (problem L) v))
        none_over k l = no_eleven k (least_or_none_left (problem L) l)

module _ (L : Lent) (answers : ℕ → Answer) (records : ℕ → ListingRecord) (buffers : ℕ → List ℕ) (turning : Turning L answers records buffers) where
  -- once ended, every turn closes and the record stays ended
  Still : ℕ → Type 0
  Still k = ((records k).stage ≡ ended) × GivesNone (rows L (length (buffers k)))

  ended_turn : (k : ℕ) → Still k → Closes answers buffers k × Still (suc k)
  unfolding Still
  ended_turn k st =
      let z =
      turns_over L (records k) (buffers k) st.1 (answers k) (records (suc k)) (buffers (suc k)) (omega (arith, st.0)) (λ h. omega (arith, st.0, h.0)) (inl st.0)
      (turning.turn k) in
      (record { answer = z.0; buffer = z.2 }, (z.1, rw z.2 st.1))

  -- from a turn that closes, all do
  ended_from : (i : ℕ) → Closes answers buffers i × Still (suc i) → EndedFrom answers records buffers i
  unfolding Still
  ended_from i z k h = go (ℕ_discrete k i)
    where
      go : Dec (k ≡ i) → Closes answers buffers k × ((records (suc k)).stage ≡ ended)
      go (yes e) = rw e (z.0, z.1.0)
      go (no n) =
          let later : suc i ≤ k = omega arith in
          let t = ended_turn k (le_ind Still z.1 (λ m l st. (ended_turn m st).1) k later) in
          (t.0, t.1.0)

  follow : (Ps : List APlan) (q : Asked) (i : ℕ) → Onward (problem L) q Ps → Backed L q → Asks (records i) (buffers i) q → GivesNone (rows L (length (buffers i)))
      → Follow L answers buffers (EndedFrom answers records buffers) i Ps
  unfolding Still
  follow [] q i o b k g =
      let z =
      turns_over L (records i) (buffers i) g (answers i) (records (suc i)) (buffers (suc i)) (no_nine L (records i) (buffers i) k) (no_ten L (records i) (buffers i) k b)
      (inr (q, k, onward_end (problem L) o)) (turning.turn i) in
      ended_from i (record { answer = z.0; buffer = z.2 }, (z.1, rw z.2 g))
  follow (P ∷ Ps) q i o b k g =
      let least : Least (problem L) q P = onward_head (problem L) o in
      let z = turns_least L (records i) (buffers i) g (answers i) (records (suc i)) (buffers (suc i)) q P k b least (turning.turn i) in
      let stage : (records (suc i)).stage ≡ running = ap (λ (v : ListingRecord). v.stage) z.1 in
      let last : (records (suc i)).last ≡ P.set = ap (λ (v : ListingRecord). v.last) z.1 in
      let back : plan (records (suc i)).last (buffers (suc i)) ≡ P = rw last (given_back L P (buffers (suc i)) z.2) in
      let asks : Asks (records (suc i)) (buffers (suc i)) (after (plan (records (suc i)).last (buffers (suc i)))) = the_next stage in (
        record { answer = z.0; buffer = z.2 },
        follow Ps (after P) (suc i) (onward_tail (problem L) o) least.good.sound (rw back at asks) (still_sane L P (buffers i) (buffers (suc i)) g least z.2),
      )

  -- DEMAND 3 for turn: the answers are the listing's plans in turn, then 11 each time
  pub turning_lists : GivesNone (rows L (length (buffers 0))) → (Ps : List APlan) × Listing (problem L) Ps × FollowedBy11s L answers records buffers Ps
  turning_lists g =
      let c = computed L (length (buffers 0)) g in
      let l = listing_exists (problem L) c in
      (listed (problem L) c, l, follow (listed (problem L) c) from_the_start 0 (onward_from_listing (problem L) l) tt (the_first turning.new) g)

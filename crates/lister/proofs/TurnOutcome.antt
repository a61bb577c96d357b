-- A turn has exactly one outcome: answer, record and buffer.
use mathlib.Core.Path.{◌≡◌, refl, sym, ◌∙◌}
use mathlib.Core.List.{List}
use mathlib.Core.Logic.{◌⊎◌, inl, inr}
use Prim.Native.Nat.{ℕ, ◌<◌}
use native.Mathlib.Decide.{ℕ_discrete, dec_lt}
use native.Mathlib.Omega.{arith}
use lib.ListN.{length}
use Rattle.std.specs.Prelude.{Err}
use Rattle.basis.specs.declared.Refusal.{Refusal}
use Rattle.basis.specs.Rows.{Gives, GivesNone, number_of as refusal_number}
use Rattle.basis.proofs.Decide.{decided, both_or_not, not_or_not}
use Rattle.basis.proofs.Refusals.{number_differs, gives_refusal}
use Rattle.basis.proofs.Rows.{Settled, gives_one, gives_not_none, none_before, settled_append}
use Rattle.pacsolve.specs.Plan.{plan}
use Rattle.pacsolve.specs.Listing.{Asked, from_the_start, after, NoneLeft}
use Rattle.pacsolve.proofs.Conditions.{Computes, sound_decides}
use Rattle.pacsolve.proofs.Fixed.{least_is_one}
use Rattle.catalogue.specs.Tables.{Lent}
use Rattle.catalogue.specs.Refusals.{rows}
use Rattle.catalogue.specs.Gives.{problem}
use Rattle.catalogue.proofs.Settled.{rows_settled}
use Rattle.lister.specs.declared.ListingRecord.{ListingRecord}
use Rattle.lister.specs.Answers.{Answer, given}
use Rattle.lister.specs.Turns.{fresh, running, ended, listing, Asks, the_first, the_next, turn_rows, Kept, closed, left, Turns, refused, found}
use Rattle.lister.proofs.Numbered.{turn_numbered}
use Rattle.lister.proofs.Outcome.{computed, none_left_or_not, some_left}

kept_one : {r : ListingRecord} {n : ℕ} {s t : ListingRecord} → Kept r n s → Kept r n t → s ≡ t
kept_one (closed e f) (closed g h) = f ∙ sym h
kept_one (closed e f) (left g h) = absurd (g e)
kept_one (left e f) (closed g h) = absurd (e g)
kept_one (left e f) (left g h) = f ∙ sym h

kept_some : (r : ListingRecord) (n : ℕ) → (s : ListingRecord) × Kept r n s
kept_some r n = go (ℕ_discrete n 11)
  where
    go : Dec (n ≡ 11) → (s : ListingRecord) × Kept r n s
    go (yes e) = (listing ended r.last, closed e refl)
    go (no m) = (r, left m refl)

module _ (r : ListingRecord) (buffer : List ℕ) where
  -- a record asks for one thing at most, an ended one for nothing, and any other up to stage 2 for something
  pub asks_one : {q u : Asked} → Asks r buffer q → Asks r buffer u → q ≡ u
  asks_one (the_first e) (the_first f) = refl
  asks_one (the_first e) (the_next f) = absurd (omega arith)
  asks_one (the_next e) (the_first f) = absurd (omega arith)
  asks_one (the_next e) (the_next f) = refl

  pub ended_asks_nothing : {q : Asked} → r.stage ≡ ended → ¬ Asks r buffer q
  ended_asks_nothing e (the_first f) = omega arith
  ended_asks_nothing e (the_next f) = omega arith

  pub ended_or_asks : ¬ (ended < r.stage) → (r.stage ≡ ended) ⊎ ((q : Asked) × Asks r buffer q)
  ended_or_asks n = go (ℕ_discrete r.stage fresh) (ℕ_discrete r.stage running)
    where
      go : Dec (r.stage ≡ fresh) → Dec (r.stage ≡ running) → (r.stage ≡ ended) ⊎ ((q : Asked) × Asks r buffer q)
      go (yes e) f = inr (from_the_start, the_first e)
      go (no m) (yes f) = inr (after (plan r.last buffer), the_next f)
      go (no m) (no k) = inl (omega arith)

module _ (L : Lent) (r : ListingRecord) (buffer : List ℕ) where
  -- what row 11 says
  pub Over : Type 0
  Over = (r.stage ≡ ended) ⊎ ((q : Asked) × Asks r buffer q × NoneLeft (problem L) q)

  over_or_not : Computes (problem L) → ¬ (ended < r.stage) → Dec Over
  unfolding Over
  over_or_not c n = go (ended_or_asks r buffer n)
    where
      other : {q : Asked} → Asks r buffer q → ¬ NoneLeft (problem L) q → ¬ Over
      other k m (inl e) = ended_asks_nothing r buffer e k
      other k m (inr x) = m (rw (asks_one r buffer x.1 k) at x.2)

      asked : (q : Asked) → Asks r buffer q → Dec (NoneLeft (problem L) q) → Dec Over
      asked q k (yes m) = yes (inr (q, k, m))
      asked q k (no m) = no (other k m)

      go : (r.stage ≡ ended) ⊎ ((q : Asked) × Asks r buffer q) → Dec Over
      go (inl e) = yes (inl e)
      go (inr x) = asked x.0 x.1 (none_left_or_not (problem L) c x.0)

  turn_settled : Settled (turn_rows L r buffer)
  unfolding Over
  turn_settled =
      settled_append (rows L (length buffer)) _ (rows_settled L (length buffer)) (λ g.
      let c = computed L (length buffer) g in (
        dec_lt ended r.stage,
        λ n. (
          both_or_not (ℕ_discrete r.stage running) (not_or_not (decided (sound_decides (problem L) c (plan r.last buffer)))),
          λ m.
              (over_or_not c n, λ k. tt),
        ),
      ))

  pub turn_one : (a b : Answer) (s t : ListingRecord) (x y : List ℕ) → Turns L r buffer a s x → Turns L r buffer b t y → (a ≡ b) × (s ≡ t) × (x ≡ y)
  turn_one a b s t x y (refused {f = m} g e k u) (refused {f = n} h f l v) =
      let same : m ≡ n = number_differs (gives_one (turn_rows L r buffer) (refusal_number m) (refusal_number n) g h) in (cc, kept_one (rw same at k) l, cc)
  turn_one a b s t x y (refused {f = m} g e k u) (found h c l f w v) = absurd (gives_not_none (turn_rows L r buffer) (refusal_number m) g h)
  turn_one a b s t x y (found g c l e w u) (refused {f = n} h f k v) = absurd (gives_not_none (turn_rows L r buffer) (refusal_number n) h g)
  turn_one a b s t x y (found {q = q} {P = P} g c l e w u) (found {P = Q} h d m f z v) =
      let same : P ≡ Q = least_is_one (problem L) l (rw (asks_one r buffer d c) at m) in (cc, cc, cc)

  pub turn_some : (a : Answer) × (s : ListingRecord) × (x : List ℕ) × Turns L r buffer a s x
  unfolding Over
  turn_some = go (gives_refusal (turn_rows L r buffer) (turn_numbered L r buffer) turn_settled)
    where
      Outcome : Type 0
      Outcome = (a : Answer) × (s : ListingRecord) × (x : List ℕ) × Turns L r buffer a s x

      asked : GivesNone (turn_rows L r buffer) → Computes (problem L) → ¬ Over → (r.stage ≡ ended) ⊎ ((q : Asked) × Asks r buffer q) → Outcome
      asked g c n (inl e) = absurd (n (inl e))
      asked g c n (inr k) =
          let l = some_left (problem L) c k.0 (λ m. n (inr (k.0, k.1, m))) in
          (given L l.0, listing running l.0.set, l.0.table, found g k.1 l.1 refl refl refl)

      go : ((f : Refusal) × Gives (turn_rows L r buffer) (refusal_number f)) ⊎ GivesNone (turn_rows L r buffer) → Outcome
      go (inl z) = let k = kept_some r (refusal_number z.0) in (Err z.0, k.0, buffer, refused z.1 refl k.1 refl)
      go (inr g) =
          let parts = none_before (rows L (length buffer)) _ g in
          asked g (computed L (length buffer) parts.0) parts.1.1.1.0 (ended_or_asks r buffer parts.1.0)

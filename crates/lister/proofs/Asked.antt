-- Asking for the first plan and then for the next, over and over, hands out the listing, each plan once and in order, and then says 11: whatever the calls answer, as
-- long as each answer fits its relation.
use mathlib.Core.Path.{◌≡◌, refl, sym, ap, ◌∙◌}
use mathlib.Core.List.{List, [], ◌∷◌}
use mathlib.Core.Logic.{inl, inr}
use Prim.Native.Nat.{ℕ, suc}
use lib.ListN.{length}
use Rattle.std.specs.Prelude.{Err}
use Rattle.basis.specs.declared.Refusal.TheVariants.{NoPlan}
use Rattle.basis.specs.Rows.{Gives, GivesNone, number_of as refusal_number}
use Rattle.basis.proofs.Refusals.{number_differs}
use Rattle.basis.proofs.Rows.{gives_one, gives_not_none, gives_after, none_after}
use Rattle.pacsolve.specs.Plan.{Plan as APlan, plan, Sound}
use Rattle.pacsolve.specs.Cost.{cost}
use Rattle.pacsolve.specs.Listing.{Listing, Asked, from_the_start, after, Least, NoneLeft}
use Rattle.pacsolve.proofs.Fixed.{least_is_one, least_or_none_left}
use Rattle.pacsolve.proofs.Listing.{Onward, onward_from_listing, onward_head, onward_tail, onward_end}
use Rattle.pacsolve.proofs.Enumerated.{listed, listing_exists}
use Rattle.catalogue.specs.Tables.{Lent, slot_count}
use Rattle.catalogue.specs.Refusals.{rows}
use Rattle.catalogue.specs.Gives.{problem}
use Rattle.catalogue.proofs.Sane.{sane, right_room}
use Rattle.lister.specs.Answers.{Answer, given, ask_rows, Lists, refused, found}
use Rattle.lister.specs.Asking.{Asking, Closes, Follow, FollowedBy11}
use Rattle.lister.proofs.Outcome.{computed}

module _ (L : Lent) where
  -- a plan that is asked after is sound
  abbrev pub Backed : Asked → Type 0
  Backed from_the_start = Unit {0}
  Backed (after P) = Sound (problem L) P

  pub ask_eleven : (room : ℕ) (q : Asked) → GivesNone (rows L room) → Backed q → NoneLeft (problem L) q → Gives (ask_rows L room q) 11
  ask_eleven room from_the_start g b n = gives_after (rows L room) _ 11 g (inl (n, refl))
  ask_eleven room (after P) g b n = gives_after (rows L room) _ 11 g (inr (λ m. m b, inl (n, refl)))

  pub ask_none : (room : ℕ) (q : Asked) → GivesNone (rows L room) → Backed q → ¬ NoneLeft (problem L) q → GivesNone (ask_rows L room q)
  ask_none room from_the_start g b n = none_after (rows L room) _ g (n, tt)
  ask_none room (after P) g b n = none_after (rows L room) _ g (λ m. m b, (n, tt))

  module _ (q : Asked) (buffer : List ℕ) (g : GivesNone (rows L (length buffer))) (b : Backed q) (a : Answer) (x : List ℕ) where
    -- where a plan is left, the answer is the least
    pub answers_least : (P : APlan) → Least (problem L) q P → Lists L q buffer a x → (a ≡ given L P) × (x ≡ P.table)
    answers_least P l (refused {r = r} h e k) =
        absurd (gives_not_none (ask_rows L (length buffer) q) (refusal_number r) h (ask_none (length buffer) q g b (least_or_none_left (problem L) l)))
    answers_least P l (found {P = Q} h m e k) = let same : Q ≡ P = least_is_one (problem L) m l in (cc, cc)

    -- where none is left, it is 11
    pub answers_none : NoneLeft (problem L) q → Lists L q buffer a x → (a ≡ Err NoPlan) × (x ≡ buffer)
    answers_none n (refused {r = r} h e k) =
        let same : r ≡ NoPlan = number_differs (gives_one (ask_rows L (length buffer) q) (refusal_number r) 11 h (ask_eleven (length buffer) q g b n)) in (cc, k)
    answers_none n (found h m e k) = absurd (least_or_none_left (problem L) m n)

  -- the buffer that a plan overwrote has the right size for the next call
  pub still_sane : {q : Asked} (P : APlan) (x y : List ℕ) → GivesNone (rows L (length x)) → Least (problem L) q P → y ≡ P.table → GivesNone (rows L (length y))
  still_sane P x y g l e =
      let room : length x ≡ slot_count L = right_room L (length x) (sane L (length x) g) in
      let size : length y ≡ length x = ap length e ∙ l.good.sized ∙ sym room in
      rw size g

  -- a plan that was handed out, given back
  pub given_back : (P : APlan) (x : List ℕ) → x ≡ P.table → plan P.set x ≡ P
  given_back P x e = λ i. record { set = P.set; table = e i }

  module _ (answers : ℕ → Answer) (buffers : ℕ → List ℕ) (asking : Asking L answers buffers) where
    follow : (Ps : List APlan) (q : Asked) (i : ℕ) → Onward (problem L) q Ps → Backed q → GivesNone (rows L (length (buffers i)))
        → Lists L q (buffers i) (answers i) (buffers (suc i)) → Follow L answers buffers (Closes answers buffers) i Ps
    follow [] q i o b g l =
        let z = answers_none q (buffers i) g b (answers i) (buffers (suc i)) (onward_end (problem L) o) l in record { answer = z.0; buffer = z.1 }
    follow (P ∷ Ps) q i o b g l =
        let least : Least (problem L) q P = onward_head (problem L) o in
        let z = answers_least q (buffers i) g b (answers i) (buffers (suc i)) P least l in
        let next = rw (given_back P (buffers (suc i)) z.1) at (asking.next i (record { set = P.set; cost = cost (problem L) P.set }) z.0) in (
          record { answer = z.0; buffer = z.1 },
          follow Ps (after P) (suc i) (onward_tail (problem L) o) least.good.sound (still_sane P (buffers i) (buffers (suc i)) g least z.1) next,
        )

    -- DEMAND 3 for first and next: the answers are the listing's plans in turn, then 11
    pub asking_lists : GivesNone (rows L (length (buffers 0))) → (Ps : List APlan) × Listing (problem L) Ps × FollowedBy11 L answers buffers Ps
    asking_lists g =
        let c = computed L (length (buffers 0)) g in
        let l = listing_exists (problem L) c in
        (listed (problem L) c, l, follow (listed (problem L) c) from_the_start 0 (onward_from_listing (problem L) l) tt g asking.first)

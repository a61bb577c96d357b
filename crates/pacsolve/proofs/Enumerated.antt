-- The sound plans are finitely many, and a definition that computes lists them: every table whose slots hold a fitting entry or 255, with the set that the table
-- fixes, kept where the six conditions hold, in order. So a listing exists, and so does a least plan, or there is none.
use mathlib.Core.Path.{◌≡◌, refl, sym, ap, ◌∙◌, subst}
use mathlib.Core.Bool.{Bool, ◌||◌}
use mathlib.Core.List.{List, [], ◌∷◌, ◌++◌, map}
use mathlib.Core.Logic.{◌⊎◌, inl, inr, ⊎_elim}
use Prim.Native.Nat.{ℕ, zero, suc, ◌+◌, ◌≤◌, ◌<◌}
use native.Mathlib.Nat.{add-zero, not-suc-le-zero, zero-lt-suc, zero-add}
use native.Mathlib.Omega.{arith}
use lib.ListN.{length, get_or}
use lib.Dec.{eqb}
use Rattle.basis.specs.Lists.{In}
use Rattle.basis.specs.Tests.{Decides}
use Rattle.basis.proofs.Decide.{decided, decides_or, decides_eq, decides_some, some_of, below_suc}
use Rattle.basis.proofs.Lists.{in_left, in_right, in_append, in_map, map_in, passing, passing_in, in_passing}
use Rattle.bitset.specs.Bits.{Member}
use Rattle.bitset.proofs.Sets.{same_members, member_or_not, gather, gathered, gathers}
use Rattle.pacsolve.specs.Problem.{Problem}
use Rattle.pacsolve.specs.Plan.{Plan, plan, none, chosen, MemberOf, Walk, here, on, Sound}
use Rattle.pacsolve.specs.Listing.{Good, Rising, Listing, Asked, from_the_start, after, Wanted, Least, NoneLeft}
use Rattle.pacsolve.proofs.Conditions.{Computes, sound?, sound_decides}
use Rattle.pacsolve.proofs.Listing.{head_least, in_tail}
use Rattle.pacsolve.proofs.Sorted.{sorted, in_sorted, sorted_in, sorted_rising, precedes_decides}

-- the root, and the entries that a table names
abbrev named? : Problem → List ℕ → ℕ → Bool
named? p t e = eqb e p.root || some_of (λ s. eqb (get_or t s none) e) p.slots

named_decides : (p : Problem) (t : List ℕ) (e : ℕ) → Decides (named? p t e) ((e ≡ p.root) ⊎ ((s : ℕ) × (s < p.slots) × (get_or t s none ≡ e)))
named_decides p t e = decides_or (decides_eq e p.root) (decides_some p.slots (λ s h. decides_eq (get_or t s none) e))

unfoldable pub set_of : Problem → List ℕ → ℕ
set_of p t = gather (named? p t) p.entries

-- a walk ends where it began or at an entry that a slot names
walk_named : (p : Problem) (P : Plan) {d e : ℕ} → Walk p P d e → (e ≡ d) ⊎ ((s : ℕ) × (s < p.slots) × (chosen P s ≡ e))
walk_named p P here = inl refl
walk_named p P (on w s) = inr (s.slot, s.there, s.names)

-- the table of a sound plan gives its set
pub set_of_sound : (p : Problem) → p.entries ≤ 255 → {P : Plan} → Sound p P → P.set ≡ set_of p P.table
unfolding set_of
set_of_sound p few {P} sound = same_members P.set (gather (named? p P.table) p.entries) into back
  where
    into : (e : ℕ) → MemberOf P e → Member (gather (named? p P.table) p.entries) e
    into e m = gathers (named? p P.table) p.entries e (sound.rooted.existing e m) ((named_decides p P.table e).full (walk_named p P (sound.reached e m)))

    named : (e s : ℕ) → e < p.entries → s < p.slots → chosen P s ≡ e → Dec (MemberOf P (p.owner s)) → MemberOf P e
    named e s l h c (yes m) = rw c at (sound.named.filled s h m)
    named e s l h c (no n) = absurd (omega (arith, sound.named.empty s h n))

    from_test : (e : ℕ) → e < p.entries → (e ≡ p.root) ⊎ ((s : ℕ) × (s < p.slots) × (chosen P s ≡ e)) → MemberOf P e
    from_test e l (inl r) = rw r sound.rooted.root
    from_test e l (inr x) = named e x.0 l x.1 x.2 (member_or_not P.set (p.owner x.0))

    back : (e : ℕ) → Member (gather (named? p P.table) p.entries) e → MemberOf P e
    back e m = let g = gathered (named? p P.table) p.entries e m in from_test e g.0 ((named_decides p P.table e).sure g.1)

-- the numbers below n
abbrev upto : ℕ → List ℕ
upto zero = []
upto (suc n) = n ∷ upto n

in_upto : (n e : ℕ) → e < n → In e (upto n)
in_upto zero e h = not-suc-le-zero h
in_upto (suc n) e h = ⊎_elim (λ x. inl x) (λ l. inr (in_upto n e l)) (below_suc h)

-- each of some numbers in front of each of some tables
abbrev in_front : List ℕ → List (List ℕ) → List (List ℕ)
in_front [] ts = []
in_front (o ∷ os) ts = map (λ t. o ∷ t) ts ++ in_front os ts

in_front_in : (o : ℕ) (t : List ℕ) (os : List ℕ) (ts : List (List ℕ)) → In o os → In t ts → In (o ∷ t) (in_front os ts)
in_front_in o t (x ∷ os) ts (inl e) j = in_left (o ∷ t) (map (λ u. x ∷ u) ts) (in_front os ts) (rw e (map_in (λ u. x ∷ u) ts t j))
in_front_in o t (x ∷ os) ts (inr i) j = in_right (o ∷ t) (map (λ u. x ∷ u) ts) (in_front os ts) (in_front_in o t os ts i j)
in_front_in o t [] ts i j = i

in_in_front : (u : List ℕ) (os : List ℕ) (ts : List (List ℕ)) → In u (in_front os ts) → (o : ℕ) × (t : List ℕ) × In t ts × (u ≡ o ∷ t)
in_in_front u [] ts i = absurd i
in_in_front u (x ∷ os) ts i = go (in_append u (map (λ t. x ∷ t) ts) (in_front os ts) i) (in_in_front u os ts)
  where
    Found : Type 0
    Found = (o : ℕ) × (t : List ℕ) × In t ts × (u ≡ o ∷ t)

    go : In u (map (λ t. x ∷ t) ts) ⊎ In u (in_front os ts) → (In u (in_front os ts) → Found) → Found
    go (inl j) r = let m = in_map (λ t. x ∷ t) ts u j in (x, m.0, m.1, m.2)
    go (inr j) r = r j

module _ (p : Problem) (c : Computes p) where
  -- what a slot may hold: the entries that fit, and 255
  abbrev options : ℕ → List ℕ
  options s = none ∷ passing (c.fits? s) (upto p.entries)

  -- the tables for m slots from slot s on
  unfoldable pub tables : ℕ → ℕ → List (List ℕ)
  tables s zero = [] ∷ []
  tables s (suc m) = in_front (options s) (tables (suc s) m)

  tables_sized : (s m : ℕ) (t : List ℕ) → In t (tables s m) → length t ≡ m
  unfolding tables
  tables_sized s zero t (inl e) = ap length e
  tables_sized s zero t (inr i) = elim i [ ]
  tables_sized s (suc m) t i =
      let f = in_in_front t (options s) (tables (suc s) m) i in
      ap length f.3 ∙ ap suc (tables_sized (suc s) m f.1 f.2)

  tables_complete : (s m : ℕ) (t : List ℕ) → length t ≡ m → ((i : ℕ) → i < m → In (get_or t i none) (options (s + i))) → In t (tables s m)
  unfolding tables
  tables_complete s zero [] e f = inl refl
  tables_complete s zero (o ∷ t) e f = absurd (omega arith)
  tables_complete s (suc m) [] e f = absurd (omega arith)
  tables_complete s (suc m) (o ∷ t) e f =
      in_front_in o t (options s) (tables (suc s) m) (subst (λ (k : ℕ). In o (options k)) (add-zero s) (f 0 (zero-lt-suc m)))
      (tables_complete (suc s) m t (omega arith) (λ i h.
      let shift : s + suc i ≡ suc s + i = omega arith in subst (λ (k : ℕ). In (get_or t i none) (options k)) shift (f (suc i) (omega arith))))

  -- every table that is worth a look, as a plan
  unfoldable pub candidates : List Plan
  candidates = map (λ t. plan (set_of p t) t) (tables 0 p.slots)

  -- the sound ones, in order
  unfoldable pub listed : List Plan
  listed = sorted p (passing (sound? p c) candidates)

  good_option : {P : Plan} → Good p P → (s : ℕ) → s < p.slots → In (chosen P s) (options s)
  good_option {P} g s h = go (member_or_not P.set (p.owner s))
    where
      go : Dec (MemberOf P (p.owner s)) → In (chosen P s) (options s)
      go (yes m) =
          let f = g.sound.fitting s h m in
          inr (in_passing (c.fits? s) (upto p.entries) (chosen P s) (in_upto p.entries (chosen P s) f.0) ((c.fits_right s (chosen P s) h f.0).full f.1))
      go (no n) = inl (g.sound.named.empty s h n)

  good_candidate : {P : Plan} → Good p P → In P candidates
  unfolding candidates
  good_candidate {P} g =
      let t = P.table in
      let s : P.set ≡ set_of p t = set_of_sound p c.few g.sound in
      let same : P ≡ plan (set_of p t) t = λ i. record { set = s i; table = t } in
      let i = tables_complete 0 p.slots t g.sized (λ i h. subst (λ (k : ℕ). In (get_or t i none) (options k)) (sym (zero-add i)) (good_option g i h)) in
      rw same (map_in (λ u. plan (set_of p u) u) (tables 0 p.slots) t i)

  kept_good : (P : Plan) → In P (passing (sound? p c) candidates) → Good p P
  unfolding candidates
  kept_good P i =
      let k = passing_in (sound? p c) candidates P i in
      let m = in_map (λ t. plan (set_of p t) t) (tables 0 p.slots) P k.0 in
      record {
        sized = ap (λ (Q : Plan). length Q.table) m.2 ∙ tables_sized 0 p.slots m.0 m.1;
        sound = (sound_decides p c P).sure k.1;
      }

  -- a listing exists
  pub listing_exists : Listing p listed
  unfolding listed
  listing_exists =
      record {
        rising = sorted_rising p (passing (sound? p c) candidates) kept_good;
        good = λ P i. kept_good P (in_sorted p P (passing (sound? p c) candidates) i);
        complete = λ P g.
            sorted_in p P (passing (sound? p c) candidates) kept_good
            (in_passing (sound? p c) candidates P (good_candidate g) ((sound_decides p c P).full g.sound));
      }

  wanted_or_not : (a : Asked) (P : Plan) → Dec (Wanted p a P)
  wanted_or_not from_the_start P = yes tt
  wanted_or_not (after Q) P = decided (precedes_decides p Q P)

  -- the first plan that is asked for, of a rising list that holds all such plans
  first_wanted : (a : Asked) (Ps : List Plan) → Rising p Ps → ((P : Plan) → In P Ps → Good p P) → ((P : Plan) → Good p P → Wanted p a P → In P Ps)
      → ((P : Plan) × Least p a P) ⊎ NoneLeft p a
  first_wanted a [] r g f = inr f
  first_wanted a (P ∷ Ps) r g f = go (wanted_or_not a P) (first_wanted a Ps r.1 (λ Q i. g Q (inr i)))
    where
      Found : Type 0
      Found = ((Q : Plan) × Least p a Q) ⊎ NoneLeft p a

      go : Dec (Wanted p a P) → (((Q : Plan) → Good p Q → Wanted p a Q → In Q Ps) → Found) → Found
      go (yes w) rest = inl (P, record { good = g P (inl refl); wanted = w; least = λ Q h v. head_least p P Ps Q r (f Q h v) })
      go (no n) rest = rest (λ Q h v. in_tail p P Q Ps (λ e. n (rw e at v)) (f Q h v))

  -- there is a least plan of those asked for, or none is left
  pub least_or_none : (a : Asked) → ((P : Plan) × Least p a P) ⊎ NoneLeft p a
  least_or_none a = first_wanted a listed listing_exists.rising listing_exists.good (λ P g w. listing_exists.complete P g)

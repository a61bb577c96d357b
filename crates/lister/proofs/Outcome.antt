-- First and next have exactly one outcome each: no two fit one input, and some outcome fits every input.
use mathlib.Core.Path.{◌≡◌, refl}
use mathlib.Core.List.{List}
use mathlib.Core.Logic.{◌⊎◌, inl, inr}
use Prim.Native.Nat.{ℕ}
use lib.ListN.{length}
use Rattle.std.specs.Prelude.{Err}
use Rattle.basis.specs.declared.Refusal.{Refusal}
use Rattle.basis.specs.Rows.{Gives, GivesNone, number_of as refusal_number}
use Rattle.basis.proofs.Decide.{decided, not_or_not}
use Rattle.basis.proofs.Refusals.{number_differs, gives_refusal}
use Rattle.basis.proofs.Rows.{Settled, gives_one, gives_not_none, none_before, settled_append}
use Rattle.pacsolve.specs.Problem.{Problem}
use Rattle.pacsolve.specs.Plan.{Plan as APlan, plan}
use Rattle.pacsolve.specs.Listing.{Asked, from_the_start, after, Least, NoneLeft}
use Rattle.pacsolve.proofs.Conditions.{Computes, sound_decides}
use Rattle.pacsolve.proofs.Fixed.{least_is_one, least_or_none_left}
use Rattle.pacsolve.proofs.Enumerated.{least_or_none}
use Rattle.catalogue.specs.Tables.{Lent}
use Rattle.catalogue.specs.Refusals.{rows}
use Rattle.catalogue.specs.Gives.{problem}
use Rattle.catalogue.proofs.Settled.{rows_settled}
use Rattle.catalogue.proofs.Sane.{sane}
use Rattle.catalogue.proofs.Computed.{computes}
use Rattle.lister.specs.Answers.{Answer, given, ask_rows, Lists, refused, found, Firsts, Nexts}
use Rattle.lister.proofs.Numbered.{ask_numbered}

-- a catalogue that is not refused computes
pub computed : (L : Lent) (room : ℕ) → GivesNone (rows L room) → Computes (problem L)
computed L room g = computes L room (sane L room g)

pub none_left_or_not : (p : Problem) → Computes p → (q : Asked) → Dec (NoneLeft p q)
none_left_or_not p c q = go (least_or_none p c q)
  where
    go : ((P : APlan) × Least p q P) ⊎ NoneLeft p q → Dec (NoneLeft p q)
    go (inl x) = no (least_or_none_left p x.1)
    go (inr n) = yes n

-- where it is not so that none is left, there is a least plan
pub some_left : (p : Problem) → Computes p → (q : Asked) → ¬ NoneLeft p q → (P : APlan) × Least p q P
some_left p c q n = go (least_or_none p c q)
  where
    go : ((P : APlan) × Least p q P) ⊎ NoneLeft p q → (P : APlan) × Least p q P
    go (inl x) = x
    go (inr m) = absurd (n m)

module _ (L : Lent) (room : ℕ) where
  ask_settled : (q : Asked) → Settled (ask_rows L room q)
  ask_settled from_the_start =
      settled_append (rows L room) _ (rows_settled L room) (λ g. (none_left_or_not (problem L) (computed L room g) from_the_start, λ n. tt))
  ask_settled (after P) =
      settled_append (rows L room) _ (rows_settled L room) (λ g.
      let c = computed L room g in
      (not_or_not (decided (sound_decides (problem L) c P)), λ n. (none_left_or_not (problem L) c (after P), λ m. tt)))

  -- what no refusal says: the catalogue is sane, and a plan is left
  pub ask_sane : (q : Asked) → GivesNone (ask_rows L room q) → GivesNone (rows L room)
  ask_sane from_the_start g = (none_before (rows L room) _ g).0
  ask_sane (after P) g = (none_before (rows L room) _ g).0

  pub ask_left : (q : Asked) → GivesNone (ask_rows L room q) → ¬ NoneLeft (problem L) q
  ask_left from_the_start g = (none_before (rows L room) _ g).1.0
  ask_left (after P) g = (none_before (rows L room) _ g).1.1.0

module _ (L : Lent) (q : Asked) (buffer : List ℕ) where
  lists_one : (a b : Answer) (x y : List ℕ) → Lists L q buffer a x → Lists L q buffer b y → (a ≡ b) × (x ≡ y)
  lists_one a b x y (refused {r = r} g e k) (refused {r = s} h f l) =
      let same : r ≡ s = number_differs (gives_one (ask_rows L (length buffer) q) (refusal_number r) (refusal_number s) g h) in (cc, cc)
  lists_one a b x y (refused {r = r} g e k) (found h s f l) = absurd (gives_not_none (ask_rows L (length buffer) q) (refusal_number r) g h)
  lists_one a b x y (found g s e k) (refused {r = r} h f l) = absurd (gives_not_none (ask_rows L (length buffer) q) (refusal_number r) h g)
  lists_one a b x y (found g s e k) (found h t f l) = let same = least_is_one (problem L) s t in (cc, cc)

  lists_some : (a : Answer) × (x : List ℕ) × Lists L q buffer a x
  lists_some = go (gives_refusal (ask_rows L (length buffer) q) (ask_numbered L (length buffer) q) (ask_settled L (length buffer) q))
    where
      go : ((r : Refusal) × Gives (ask_rows L (length buffer) q) (refusal_number r)) ⊎ GivesNone (ask_rows L (length buffer) q) → (a : Answer) × (x : List ℕ) × Lists L q buffer a x
      go (inl r) = (Err r.0, buffer, refused r.1 refl refl)
      go (inr g) =
          let c = computed L (length buffer) (ask_sane L (length buffer) q g) in
          let l = some_left (problem L) c q (ask_left L (length buffer) q g) in
          (given L l.0, l.0.table, found g l.1 refl refl)

pub first_one : (L : Lent) (buffer : List ℕ) (a b : Answer) (x y : List ℕ) → Firsts L buffer a x → Firsts L buffer b y → (a ≡ b) × (x ≡ y)
first_one L buffer = lists_one L from_the_start buffer

pub first_some : (L : Lent) (buffer : List ℕ) → (a : Answer) × (x : List ℕ) × Firsts L buffer a x
first_some L buffer = lists_some L from_the_start buffer

pub next_one : (L : Lent) (set : ℕ) (buffer : List ℕ) (a b : Answer) (x y : List ℕ) → Nexts L set buffer a x → Nexts L set buffer b y → (a ≡ b) × (x ≡ y)
next_one L set buffer = lists_one L (after (plan set buffer)) buffer

pub next_some : (L : Lent) (set : ℕ) (buffer : List ℕ) → (a : Answer) × (x : List ℕ) × Nexts L set buffer a x
next_some L set buffer = lists_some L (after (plan set buffer)) buffer

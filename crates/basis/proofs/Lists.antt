-- The laws of standing in a list, and of what holds of all that stands in it.
use mathlib.Core.Path.{◌≡◌, refl, ap}
use mathlib.Core.Bool.{Bool, true, false}
use mathlib.Core.List.{List, [], ◌∷◌, ◌++◌, map}
use mathlib.Core.Logic.{◌⊎◌, inl, inr, ⊎_elim}
use lib.Dec.{T}
use Rattle.basis.specs.Bytes.{All}
use Rattle.basis.specs.Lists.{In}

pub all_in : {A : Type 0} (P : A → Type 0) (l : List A) → All P l → (a : A) → In a l → P a
all_in P [] h a i = absurd i
all_in P (b ∷ l) h a (inl e) = rw e h.0
all_in P (b ∷ l) h a (inr i) = all_in P l h.1 a i

pub all_by : {A : Type 0} (P : A → Type 0) (l : List A) → ((a : A) → In a l → P a) → All P l
all_by P [] h = tt
all_by P (b ∷ l) h = (h b (inl refl), all_by P l (λ a i. h a (inr i)))

pub in_left : {A : Type 0} (a : A) (l m : List A) → In a l → In a (l ++ m)
in_left a [] m i = absurd i
in_left a (b ∷ l) m (inl e) = inl e
in_left a (b ∷ l) m (inr i) = inr (in_left a l m i)

pub in_right : {A : Type 0} (a : A) (l m : List A) → In a m → In a (l ++ m)
in_right a [] m i = i
in_right a (b ∷ l) m i = inr (in_right a l m i)

pub in_append : {A : Type 0} (a : A) (l m : List A) → In a (l ++ m) → In a l ⊎ In a m
in_append a [] m i = inr i
in_append a (b ∷ l) m (inl e) = inl (inl e)
in_append a (b ∷ l) m (inr i) = ⊎_elim (λ x. inl (inr x)) (λ x. inr x) (in_append a l m i)

pub in_map : {A B : Type 0} (f : A → B) (l : List A) (b : B) → In b (map f l) → (a : A) × In a l × (b ≡ f a)
in_map f [] b i = absurd i
in_map f (x ∷ l) b (inl e) = (x, inl refl, e)
in_map f (x ∷ l) b (inr i) = let r = in_map f l b i in (r.0, inr r.1, r.2)

pub map_in : {A B : Type 0} (f : A → B) (l : List A) (a : A) → In a l → In (f a) (map f l)
map_in f (x ∷ l) a (inl e) = inl (ap f e)
map_in f (x ∷ l) a (inr i) = inr (map_in f l a i)
map_in f [] a i = absurd i

-- those of a list that pass a test
abbrev pub put : {A : Type 0} → Bool → A → List A → List A
put true a l = a ∷ l
put false a l = l

abbrev pub passing : {A : Type 0} → (A → Bool) → List A → List A
passing f [] = []
passing f (a ∷ l) = put (f a) a (passing f l)

put_in : {A : Type 0} (b : Bool) (a x : A) (l : List A) → In x (put b a l) → (T b × (x ≡ a)) ⊎ In x l
put_in true a x l (inl e) = inl (tt, e)
put_in true a x l (inr i) = inr i
put_in false a x l i = inr i

in_put : {A : Type 0} (b : Bool) (a x : A) (l : List A) → In x l → In x (put b a l)
in_put true a x l i = inr i
in_put false a x l i = i

in_put_first : {A : Type 0} (b : Bool) (a x : A) (l : List A) → x ≡ a → T b → In x (put b a l)
in_put_first true a x l e t = inl e
in_put_first false a x l e t = absurd t

pub passing_in : {A : Type 0} (f : A → Bool) (l : List A) (x : A) → In x (passing f l) → In x l × T (f x)
passing_in f [] x i = absurd i
passing_in f (a ∷ l) x i = go (put_in (f a) a x (passing f l) i) (passing_in f l x)
  where
    go : (T (f a) × (x ≡ a)) ⊎ In x (passing f l) → (In x (passing f l) → In x l × T (f x)) → In x (a ∷ l) × T (f x)
    go (inl h) r = (inl h.1, rw h.1 h.0)
    go (inr h) r = let q = r h in (inr q.0, q.1)

pub in_passing : {A : Type 0} (f : A → Bool) (l : List A) (x : A) → In x l → T (f x) → In x (passing f l)
in_passing f (a ∷ l) x (inl e) t = in_put_first (f a) a x (passing f l) e (rw e at t)
in_passing f (a ∷ l) x (inr i) t = in_put (f a) a x (passing f l) (in_passing f l x i t)
in_passing f [] x i t = absurd i

-- a property that holds or not of each element does so of all of a list
pub all_or_not {ℓ} : {A : Type ℓ} (P : A → Type 0) → ((a : A) → Dec (P a)) → (l : List A) → Dec (All P l)
all_or_not P d [] = yes tt
all_or_not P d (a ∷ l) = go (d a) (all_or_not P d l)
  where
    go : Dec (P a) → Dec (All P l) → Dec (P a × All P l)
    go (yes x) (yes y) = yes (x, y)
    go (yes x) (no n) = no (λ p. n p.1)
    go (no n) y = no (λ p. n p.0)

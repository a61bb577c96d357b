-- Names in the order of first appearance: a name's place among those seen so far is its place among all, and a further name stands last unless it is
-- among them already.
use mathlib.Core.Path.{◌≡◌, refl, sym, ap, ◌∙◌}
use mathlib.Core.Bool.{Bool, true, false, ◌&&◌}
use mathlib.Core.List.{List, [], ◌∷◌, ◌++◌, append_assoc, append-nil}
use Prim.Native.Nat.{ℕ, suc, ◌+◌, ◌≤◌, ◌<◌}
use native.Mathlib.Nat.{not-suc-le-zero}
use native.Mathlib.Omega.{arith}
use lib.Dec.{T, eqb, eqb_refl}
use lib.ListN.{length}
use borrow.Author.Tests.{eqb-true}
use Rattle.csv_text.specs.Says.{same_name, keep, without, distinct, onward, place}
use Rattle.csv_text.specs.Numbering.{otherwise, grow}

-- whether two names are the same is decided by their bytes
is_true : (b : Bool) → T b → b ≡ true
is_true true t = refl
is_true false t = absurd t

same_self : (n : List ℕ) → same_name n n ≡ true
same_self [] = refl
same_self (a ∷ n) = rw (is_true (eqb a a) (eqb_refl a)) (same_self n)

both_true : (a b : Bool) → (a && b) ≡ true → (a ≡ true) × (b ≡ true)
both_true true b e = (refl, e)
both_true false b e = let z : true ≡ false = sym e in (cc, cc)

pub same_is : (m n : List ℕ) → same_name m n ≡ true → m ≡ n
same_is [] [] e = refl
same_is [] (b ∷ n) e = cc
same_is (a ∷ m) [] e = cc
same_is (a ∷ m) (b ∷ n) e =
    let p = both_true (eqb a b) (same_name m n) e in
    let first : a ≡ b = eqb-true a b p.0 in
    let rest : m ≡ n = same_is m n p.1 in
    cc

pub same_yes : (m n : List ℕ) → m ≡ n → true ≡ same_name m n
same_yes m n e = sym (rw e (same_self n))

pub same_not : (m n : List ℕ) → ¬ (m ≡ n) → false ≡ same_name m n
same_not m n d = go (same_name m n) refl
  where
    go : (b : Bool) → same_name m n ≡ b → false ≡ b
    go true e = absurd (d (same_is m n e))
    go false e = refl

-- a name's place
pub place_within : (ks : List (List ℕ)) (n : List ℕ) → place ks n ≤ length ks
place_within [] n = omega arith
place_within (m ∷ ks) n = go (same_name m n) (place_within ks n)
  where
    go : (b : Bool) → place ks n ≤ length ks → onward b (place ks n) ≤ suc (length ks)
    go true h = omega arith
    go false h = omega arith

-- more names behind do not change it
pub place_kept : (ks ms : List (List ℕ)) (n : List ℕ) → place ks n < length ks → place (ks ++ ms) n ≡ place ks n
place_kept [] ms n h = absurd (not-suc-le-zero h)
place_kept (m ∷ ks) ms n h = go (same_name m n) h (place_kept ks ms n)
  where
    go : (b : Bool) → onward b (place ks n) < suc (length ks) → (place ks n < length ks → place (ks ++ ms) n ≡ place ks n)
        → onward b (place (ks ++ ms) n) ≡ onward b (place ks n)
    go true l r = refl
    go false l r = ap suc (r (omega arith))

-- and a new name is numbered behind them
pub place_new : (ks : List (List ℕ)) (m n : List ℕ) → place ks n ≡ length ks → place (ks ++ (m ∷ [])) n ≡ length ks + onward (same_name m n) 0
place_new [] m n e = omega arith
place_new (k ∷ ks) m n e = go (same_name k n) e (place_new ks m n)
  where
    go : (b : Bool) → onward b (place ks n) ≡ suc (length ks) → (place ks n ≡ length ks → place (ks ++ (m ∷ [])) n ≡ length ks + onward (same_name m n) 0)
        → onward b (place (ks ++ (m ∷ [])) n) ≡ suc (length ks) + onward (same_name m n) 0
    go true f r = absurd (omega arith)
    go false f r = omega (arith, r (omega arith))

-- names with a further one
pub grow_known : (ks : List (List ℕ)) (n : List ℕ) → place ks n < length ks → grow ks n ≡ ks
grow_known [] n h = absurd (not-suc-le-zero h)
grow_known (m ∷ ks) n h = ap (λ (l : List (List ℕ)). m ∷ l) (go (same_name m n) h (grow_known ks n))
  where
    go : (b : Bool) → onward b (place ks n) < suc (length ks) → (place ks n < length ks → grow ks n ≡ ks) → otherwise b ks (grow ks n) ≡ ks
    go true l r = refl
    go false l r = r (omega arith)

pub grow_new : (ks : List (List ℕ)) (n : List ℕ) → place ks n ≡ length ks → grow ks n ≡ ks ++ (n ∷ [])
grow_new [] n h = refl
grow_new (m ∷ ks) n h = ap (λ (l : List (List ℕ)). m ∷ l) (go (same_name m n) h (grow_new ks n))
  where
    go : (b : Bool) → onward b (place ks n) ≡ suc (length ks) → (place ks n ≡ length ks → grow ks n ≡ ks ++ (n ∷ [])) → otherwise b ks (grow ks n) ≡ ks ++ (n ∷ [])
    go true l r = absurd (omega arith)
    go false l r = r (omega arith)

-- taken out of the others, a further name changes nothing, or stands last
without_same : (a n : List ℕ) (ks : List (List ℕ)) → same_name a n ≡ true → without a (grow ks n) ≡ without a ks
without_same a n [] e = ap (λ (b : Bool). keep b n []) e
without_same a n (m ∷ ks) e = ap (λ (l : List (List ℕ)). keep (same_name a m) m l) (go (same_name m n) (without_same a n ks e))
  where
    go : (b : Bool) → without a (grow ks n) ≡ without a ks → without a (otherwise b ks (grow ks n)) ≡ without a ks
    go true r = refl
    go false r = r

without_other : (a n : List ℕ) (ks : List (List ℕ)) → same_name a n ≡ false → without a (grow ks n) ≡ grow (without a ks) n
without_other a n [] e = ap (λ (b : Bool). keep b n []) e
without_other a n (m ∷ ks) e = go (same_name a m) refl (same_name m n) refl (without_other a n ks e)
  where
    go : (p : Bool) → same_name a m ≡ p → (q : Bool) → same_name m n ≡ q → without a (grow ks n) ≡ grow (without a ks) n
        → keep p m (without a (otherwise q ks (grow ks n))) ≡ grow (keep p m (without a ks)) n
    go true f true g r = let same : same_name a n ≡ true = rw (same_is a m f) g in let z : true ≡ false = sym same ∙ e in cc
    go true f false g r = r
    go false f true g r = rw g refl
    go false f false g r = rw g (ap (λ (l : List (List ℕ)). m ∷ l) r)

pub distinct_then : (ns : List (List ℕ)) (n : List ℕ) → distinct (ns ++ (n ∷ [])) ≡ grow (distinct ns) n
distinct_then [] n = refl
distinct_then (a ∷ ns) n = ap (λ (l : List (List ℕ)). a ∷ l) (ap (without a) (distinct_then ns n) ∙ go (same_name a n) refl)
  where
    go : (b : Bool) → same_name a n ≡ b → without a (grow (distinct ns) n) ≡ otherwise b (without a (distinct ns)) (grow (without a (distinct ns)) n)
    go true e = without_same a n (distinct ns) e
    go false e = without_other a n (distinct ns) e

-- a further name's place is what it was, and is among the names
grow_place : (ks : List (List ℕ)) (n : List ℕ) → (place (grow ks n) n ≡ place ks n) × (place ks n < length (grow ks n))
grow_place [] n = (rw (same_self n) refl, omega arith)
grow_place (m ∷ ks) n = go (same_name m n) (grow_place ks n)
  where
    go : (b : Bool) → (place (grow ks n) n ≡ place ks n) × (place ks n < length (grow ks n))
        → (onward b (place (otherwise b ks (grow ks n)) n) ≡ onward b (place ks n)) × (onward b (place ks n) < suc (length (otherwise b ks (grow ks n))))
    go true r = (refl, omega arith)
    go false r = (ap suc r.0, omega arith)

-- a name that is among them keeps its place
grow_keeps : (ks : List (List ℕ)) (m n : List ℕ) → place ks n < length ks → (place (grow ks m) n ≡ place ks n) × (place ks n < length (grow ks m))
grow_keeps [] m n h = absurd (not-suc-le-zero h)
grow_keeps (k ∷ ks) m n h = go (same_name k n) (same_name k m) h (grow_keeps ks m n)
  where
    go : (b d : Bool) → onward b (place ks n) < suc (length ks) → (place ks n < length ks → (place (grow ks m) n ≡ place ks n) × (place ks n < length (grow ks m)))
        → (onward b (place (otherwise d ks (grow ks m)) n) ≡ onward b (place ks n)) × (onward b (place ks n) < suc (length (otherwise d ks (grow ks m))))
    go true d l r = (refl, omega arith)
    go false true l r = (refl, l)
    go false false l r = let q = r (omega arith) in (ap suc q.0, omega arith)

-- a name once seen keeps its place to the end
place_final : (ns ms : List (List ℕ)) (n : List ℕ) → place (distinct ns) n < length (distinct ns) → place (distinct (ns ++ ms)) n ≡ place (distinct ns) n
place_final ns [] n h = ap (λ (l : List (List ℕ)). place (distinct l) n) (append-nil ns)
place_final ns (m ∷ ms) n h =
    let g = grow_keeps (distinct ns) m n h in
    let same = distinct_then ns m in
    let rest = place_final (ns ++ (m ∷ [])) ms n (rw (same, g.0) g.1) in
    ap (λ (l : List (List ℕ)). place (distinct l) n) (sym (append_assoc ns (m ∷ []) ms)) ∙ rest ∙ ap (λ (l : List (List ℕ)). place l n) same ∙ g.0

pub place_seen : (ns ms : List (List ℕ)) (n : List ℕ) → place (distinct (ns ++ (n ∷ ms))) n ≡ place (distinct ns) n
place_seen ns ms n =
    let g = grow_place (distinct ns) n in
    let same = distinct_then ns n in
    let rest = place_final (ns ++ (n ∷ [])) ms n (rw (same, g.0) g.1) in
    ap (λ (l : List (List ℕ)). place (distinct l) n) (sym (append_assoc ns (n ∷ []) ms)) ∙ rest ∙ ap (λ (l : List (List ℕ)). place l n) same ∙ g.0

-- no more names than lines
without_few : (n : List ℕ) (ks : List (List ℕ)) → length (without n ks) ≤ length ks
without_few n [] = omega arith
without_few n (m ∷ ks) = go (same_name n m) (without_few n ks)
  where
    go : (b : Bool) → length (without n ks) ≤ length ks → length (keep b m (without n ks)) ≤ suc (length ks)
    go true h = omega arith
    go false h = omega arith

pub distinct_few : (ns : List (List ℕ)) → length (distinct ns) ≤ length ns
distinct_few [] = omega arith
distinct_few (n ∷ ns) = omega (arith, without_few n (distinct ns), distinct_few ns)

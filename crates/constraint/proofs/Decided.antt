-- Whether a part is read as a constraint is decided. No parser is needed: the part is cut in two in every way, and the sides of a pair are decided by
-- recursion on the depth that is left to them.
use mathlib.Core.Path.{◌≡◌, refl}
use mathlib.Core.List.{List, [], ◌∷◌, ◌++◌}
use mathlib.Core.Logic.{◌⊎◌, inl, inr}
use Prim.Native.Nat.{ℕ, zero, suc, max, ◌≤◌}
use native.Mathlib.Decide.{dec_le}
use native.Mathlib.Omega.{arith}
use lib.ListN.{length}
use Rattle.basis.specs.Bytes.{bytes, All}
use Rattle.basis.proofs.Decide.{both_or_not, either_or_not, or_not_by}
use Rattle.basis.proofs.Split.{Cut, cut_or_not, equal_or_not}
use Rattle.constraint.specs.declared.Version.{Version}
use Rattle.constraint.specs.Meaning.{Bound, equal, at_most, no_less, caret, Constraint, any, bound, both, either, depth}
use Rattle.constraint.specs.Numeral.{value, Numeral}
use Rattle.constraint.specs.Spelling.{sign, Bounded, Paired, Spells, Readable}
use Rattle.constraint.proofs.Numerals.{numeral_or_not}

-- each of the properties holds or not of every text
abbrev Settled : List (List ℕ → Type 0) → Type 0
Settled Ps = All (λ (P : List ℕ → Type 0). (l : List ℕ) → Dec (P l)) Ps

-- a text that goes on with parts, a space before each, and then `)`
abbrev Parts : List (List ℕ → Type 0) → List ℕ → Type 0
Parts [] = λ l. l ≡ bytes ")"
Parts (P ∷ Ps) = Cut (λ b. b ≡ bytes " ") (Cut P (Parts Ps))

parts_or_not : (Ps : List (List ℕ → Type 0)) → Settled Ps → (l : List ℕ) → Dec (Parts Ps l)
parts_or_not [] d l = equal_or_not l (bytes ")")
parts_or_not (P ∷ Ps) d l = cut_or_not (λ b. equal_or_not b (bytes " ")) (cut_or_not d.0 (parts_or_not Ps d.1)) l

-- a text of `(`, a word and parts
abbrev Opened : List ℕ → List (List ℕ → Type 0) → List ℕ → Type 0
Opened word Ps = Cut (λ b. b ≡ bytes "(" ++ word) (Parts Ps)

opened_or_not : (word : List ℕ) (Ps : List (List ℕ → Type 0)) → Settled Ps → (l : List ℕ) → Dec (Opened word Ps l)
opened_or_not word Ps d l = cut_or_not (λ b. equal_or_not b (bytes "(" ++ word)) (parts_or_not Ps d) l

-- one more part in front
next : {P : List ℕ → Type 0} (Ps : List (List ℕ → Type 0)) (b a : List ℕ) → P b → Parts Ps a → Parts (P ∷ Ps) (bytes " " ++ (b ++ a))
next Ps b a x y =
    record { before = bytes " "; after = b ++ a; first = refl; second = record { before = b; after = a; first = x; second = y; whole = refl }; whole = refl }

-- and the word before all parts
open_with : (word : List ℕ) (Ps : List (List ℕ → Type 0)) (a : List ℕ) → Parts Ps a → Opened word Ps (bytes "(" ++ (word ++ a))
open_with word Ps a y = record { before = bytes "(" ++ word; after = a; first = refl; second = y; whole = refl }

pair_or_not : {L R : List ℕ → Type 0} (word : List ℕ) → ((l : List ℕ) → Dec (L l)) → ((l : List ℕ) → Dec (R l)) → (l : List ℕ) → Dec (Paired word L R l)
pair_or_not {L} {R} word lefts rights l = or_not_by put cut (opened_or_not word (L ∷ R ∷ []) (lefts, (rights, tt)) l)
  where
    put : Opened word (L ∷ R ∷ []) l → Paired word L R l
    put c =
        record {
          l = c.second.second.before;
          r = c.second.second.second.second.before;
          left = c.second.second.first;
          right = c.second.second.second.second.first;
          whole = cc;
        }

    cut : Paired word L R l → Opened word (L ∷ R ∷ []) l
    cut p = rw p.whole (open_with word (L ∷ R ∷ []) _ (next (R ∷ []) p.l _ p.left (next [] p.r _ p.right refl)))

-- the bytes write a number, which can only be their value
abbrev Number : List ℕ → Type 0
Number bs = Numeral bs (value bs)

-- the three numbers of a version
abbrev Numbers : List (List ℕ → Type 0)
Numbers = Number ∷ Number ∷ Number ∷ []

number : {bs : List ℕ} {n : ℕ} → Numeral bs n → Number bs
number r = rw r.worth r

bound_or_not : (o : Bound) (l : List ℕ) → Dec ((b : Version) × Bounded o b l)
bound_or_not o l = or_not_by put cut (opened_or_not (sign o) Numbers (numbers, (numbers, (numbers, tt))) l)
  where
    numbers : (bs : List ℕ) → Dec (Number bs)
    numbers bs = numeral_or_not bs (value bs)

    put : Opened (sign o) Numbers l → (b : Version) × Bounded o b l
    put c =
        let first = c.second.second in
        let second = first.second.second in
        let third = second.second.second in (
          record { major = value first.before; minor = value second.before; patch = value third.before },
          record {
            x = first.before;
            y = second.before;
            z = third.before;
            major = first.first;
            minor = second.first;
            patch = third.first;
            whole = cc;
          },
        )

    cut : (b : Version) × Bounded o b l → Opened (sign o) Numbers l
    cut p =
        let r = p.1 in
        rw r.whole
        (open_with (sign o) Numbers _
        (next (Number ∷ Number ∷ []) r.x _ (number r.major)
        (next (Number ∷ []) r.y _ (number r.minor)
        (next [] r.z _ (number r.patch) refl))))

-- what holds or not of each bound does so of some bound
some_bound_or_not : {A : Bound → Type 0} → ((o : Bound) → Dec (A o)) → Dec ((o : Bound) × A o)
some_bound_or_not {A} d = or_not_by put (λ p. of p.0 p.1) (either_or_not (d equal) (either_or_not (d at_most) (either_or_not (d no_less) (d caret))))
  where
    put : A equal ⊎ (A at_most ⊎ (A no_less ⊎ A caret)) → (o : Bound) × A o
    put (inl a) = (equal, a)
    put (inr (inl a)) = (at_most, a)
    put (inr (inr (inl a))) = (no_less, a)
    put (inr (inr (inr a))) = (caret, a)

    of : (o : Bound) → A o → A equal ⊎ (A at_most ⊎ (A no_less ⊎ A caret))
    of equal a = inl a
    of at_most a = inr (inl a)
    of no_less a = inr (inr (inl a))
    of caret a = inr (inr (inr a))

-- the part spells some constraint of depth at most k
abbrev Within : ℕ → List ℕ → Type 0
Within k part = (c : Constraint) × Spells c part × (depth c ≤ k)

-- the four forms of a constraint of depth at most k + 1
abbrev Formed : ℕ → List ℕ → Type 0
Formed k part =
    (part ≡ bytes "*")
    ⊎ (((o : Bound) × ((b : Version) × Bounded o b part)) ⊎ (Paired (bytes "and") (Within k) (Within k) part ⊎ Paired (bytes "or") (Within k) (Within k) part))

within_sides : {k : ℕ} {word part : List ℕ} (c d : Constraint) → max (depth c) (depth d) ≤ k → Paired word (Spells c) (Spells d) part
    → Paired word (Within k) (Within k) part
within_sides c d h p = record { l = p.l; r = p.r; left = (c, p.left, omega arith); right = (d, p.right, omega arith); whole = p.whole }

sides_within : {k : ℕ} {word part : List ℕ} (p : Paired word (Within k) (Within k) part)
    → Paired word (Spells p.left.0) (Spells p.right.0) part × (max (depth p.left.0) (depth p.right.0) ≤ k)
sides_within p =
    (record { l = p.l; r = p.r; left = p.left.1; right = p.right.1; whole = p.whole }, omega (arith, p.left.2, p.right.2))

within : (k : ℕ) (part : List ℕ) → Formed k part → Within (suc k) part
within k part (inl e) = (any, e, omega arith)
within k part (inr (inl p)) = (bound p.0 p.1.0, p.1.1, omega arith)
within k part (inr (inr (inl p))) = let q = sides_within p in (both p.left.0 p.right.0, q.0, omega arith)
within k part (inr (inr (inr p))) = let q = sides_within p in (either p.left.0 p.right.0, q.0, omega arith)

formed : (k : ℕ) (part : List ℕ) (c : Constraint) → Spells c part → depth c ≤ suc k → Formed k part
formed k part any p h = inl p
formed k part (bound o b) p h = inr (inl (o, (b, p)))
formed k part (both c d) p h = inr (inr (inl (within_sides c d (omega arith) p)))
formed k part (either c d) p h = inr (inr (inr (within_sides c d (omega arith) p)))

pub depth_above_zero : (c : Constraint) → ¬ (depth c ≤ 0)
depth_above_zero any = omega arith
depth_above_zero (bound o b) = omega arith
depth_above_zero (both c d) = omega arith
depth_above_zero (either c d) = omega arith

within_or_not : (k : ℕ) (part : List ℕ) → Dec (Within k part)
within_or_not zero part = no (λ w. depth_above_zero w.0 w.2)
within_or_not (suc k) part =
    or_not_by (within k part) (λ w. formed k part w.0 w.1 w.2)
    (either_or_not (equal_or_not part (bytes "*"))
    (either_or_not (some_bound_or_not (λ o. bound_or_not o part))
    (either_or_not (pair_or_not (bytes "and") (within_or_not k) (within_or_not k) part) (pair_or_not (bytes "or") (within_or_not k) (within_or_not k) part))))

pub readable_or_not : (part : List ℕ) → Dec (Readable part)
readable_or_not part =
    or_not_by
    (λ p. (p.0.0, record { spelled = p.0.1; shallow = p.0.2; short = p.1 }))
    (λ r. ((r.0, r.1.spelled, r.1.shallow), r.1.short))
    (both_or_not (within_or_not 16 part) (dec_le (length part) 255))

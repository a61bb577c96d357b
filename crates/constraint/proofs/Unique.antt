-- A part spells at most one constraint. More is true: two spellings that begin one text are the same, so no spelling goes on to a longer one. The first
-- two bytes tell the form; within a form, a number ends at the first byte that is no digit, and a pair's sides are fixed one after the other.
use mathlib.Core.Path.{◌≡◌, refl, sym, ◌∙◌, ap}
use mathlib.Core.Bool.{cond}
use mathlib.Core.List.{List, [], ◌∷◌, ◌++◌, append_assoc, append_cancel_left, append_cancel_right, tail-eq_of_cons-eq}
use Prim.Native.Nat.{ℕ}
use native.Mathlib.Omega.{arith}
use lib.Dec.{eqb}
use lib.ListN.{get_or}
use Rattle.basis.specs.Bytes.{bytes}
use Rattle.basis.proofs.Runs.{run_ends}
use Rattle.constraint.specs.declared.Version.{Version}
use Rattle.constraint.specs.Meaning.{Bound, equal, at_most, no_less, caret, Constraint, any, bound, both, either}
use Rattle.constraint.specs.Numeral.{Digit, Numeral}
use Rattle.constraint.specs.Spelling.{sign, Bounded, Paired, Spells, ReadAs}
use Rattle.constraint.proofs.Numerals.{one_number}

-- the form of a constraint, without its parts
pub data Form : Type 0 where
  anything joined chosen : Form
  bounded : Bound → Form

abbrev pub form : Constraint → Form
form any = anything
form (bound o b) = bounded o
form (both c d) = joined
form (either c d) = chosen

-- the form that a text's first two bytes tell: `*`, or what stands after `(`, one of `a`, `o`, `=`, `<`, `>` and `^`
unfoldable pub told : List ℕ → Form
told bs =
    cond (eqb (get_or bs 0 0) 42) anything
    (cond (eqb (get_or bs 1 0) 97) joined
    (cond (eqb (get_or bs 1 0) 111) chosen
    (bounded (cond (eqb (get_or bs 1 0) 61) equal (cond (eqb (get_or bs 1 0) 60) at_most (cond (eqb (get_or bs 1 0) 62) no_less caret))))))

told_sign : (o : Bound) (r s : List ℕ) → told (40 ∷ (sign o ++ r ++ s)) ≡ bounded o
unfolding told
told_sign equal r s = refl
told_sign at_most r s = refl
told_sign no_less r s = refl
told_sign caret r s = refl

pub told_form : (c : Constraint) (x s : List ℕ) → Spells c x → told (x ++ s) ≡ form c
unfolding told
told_form any x s p = rw p
told_form (bound o b) x s p = rw p.whole (told_sign o _ s)
told_form (both c d) x s p = rw p.whole
told_form (either c d) x s p = rw p.whole

-- where one text begins with an x that has P and with a y that has Q, the two are the same, and C holds
abbrev Fixes : (List ℕ → Type 0) → (List ℕ → Type 0) → Type 0 → Type 0
Fixes P Q C = (x y s t : List ℕ) → P x → Q y → x ++ s ≡ y ++ t → C × (x ≡ y) × (s ≡ t)

-- where two texts open with one word, what follows the word is the same
after_word : (word p q x y s t : List ℕ) → x ≡ bytes "(" ++ (word ++ (bytes " " ++ p)) → y ≡ bytes "(" ++ (word ++ (bytes " " ++ q)) → x ++ s ≡ y ++ t
    → p ++ s ≡ q ++ t
after_word word p q x y s t f g e = tail-eq_of_cons-eq (append_cancel_left (bytes "(" ++ word) (32 ∷ (p ++ s)) (32 ∷ (q ++ t)) (simp (f, g, append_assoc) at e))

-- a number ends where its digits end
number_ends : {x y : List ℕ} {m n : ℕ} (a : ℕ) (s t : List ℕ) → ¬ Digit a → Numeral x m → Numeral y n → x ++ (a ∷ s) ≡ y ++ (a ∷ t)
    → (m ≡ n) × (s ≡ t)
number_ends {x} {y} {m} {n} a s t none p q e =
    let r = run_ends Digit x y p.digits q.digits none none e in
    (one_number (rw r.0 at p) q, tail-eq_of_cons-eq r.1)

bound_prefix : (o : Bound) (b d : Version) → Fixes (Bounded o b) (Bounded o d) (b ≡ d)
bound_prefix o b d x y s t p q e =
    let f = simp append_assoc at (after_word (sign o) _ _ x y s t p.whole q.whole e) in
    let major = number_ends 32 _ _ (omega arith) p.major q.major f in
    let minor = number_ends 32 _ _ (omega arith) p.minor q.minor major.1 in
    let patch = number_ends 41 s t (omega arith) p.patch q.patch minor.1 in
    (λ i. record { major = major.0 i; minor = minor.0 i; patch = patch.0 i }, append_cancel_right x y t (rw patch.1 at e), patch.1)

pair_prefix : {L R L' R' : List ℕ → Type 0} {C D : Type 0} (word : List ℕ) → Fixes L L' C → Fixes R R' D → Fixes (Paired word L R) (Paired word L' R') (C × D)
pair_prefix word lefts rights x y s t p q e =
    let f = simp append_assoc at (after_word word _ _ x y s t p.whole q.whole e) in
    let left = lefts p.l q.l _ _ p.left q.left f in
    let right = rights p.r q.r _ _ p.right q.right (tail-eq_of_cons-eq left.2) in
    let rest = tail-eq_of_cons-eq right.2 in
    ((left.0, right.0), append_cancel_right x y t (rw rest at e), rest)

-- two spellings that begin one text have one form
by_form : (c d : Constraint) → (form c ≡ form d → Fixes (Spells c) (Spells d) (c ≡ d)) → Fixes (Spells c) (Spells d) (c ≡ d)
by_form c d fixed x y s t p q e = fixed (sym (told_form c x s p) ∙ ap told e ∙ told_form d y t q) x y s t p q e

-- with two forms that differ every equation follows; with one form the parts are compared
of_form : (c d : Constraint) → form c ≡ form d → Fixes (Spells c) (Spells d) (c ≡ d)
of_form any any f x y s t p q e = let r : x ≡ y = p ∙ sym q in (refl, r, append_cancel_left y s t (rw r at e))
of_form any (bound o b) f x y s t p q e = (cc, cc, cc)
of_form any (both c d) f x y s t p q e = (cc, cc, cc)
of_form any (either c d) f x y s t p q e = (cc, cc, cc)
of_form (bound o b) any f x y s t p q e = (cc, cc, cc)
of_form (bound o b) (bound o' b') f x y s t p q e =
    let g : o ≡ o' = cc in
    let r = bound_prefix o' b b' x y s t (rw g at p) q e in
    (cc, r.1, r.2)
of_form (bound o b) (both c d) f x y s t p q e = (cc, cc, cc)
of_form (bound o b) (either c d) f x y s t p q e = (cc, cc, cc)
of_form (both c d) any f x y s t p q e = (cc, cc, cc)
of_form (both c d) (bound o b) f x y s t p q e = (cc, cc, cc)
of_form (both c d) (both c' d') f x y s t p q e =
    let r = pair_prefix (bytes "and") (by_form c c' (of_form c c')) (by_form d d' (of_form d d')) x y s t p q e in
    (cc, r.1, r.2)
of_form (both c d) (either c' d') f x y s t p q e = (cc, cc, cc)
of_form (either c d) any f x y s t p q e = (cc, cc, cc)
of_form (either c d) (bound o b) f x y s t p q e = (cc, cc, cc)
of_form (either c d) (both c' d') f x y s t p q e = (cc, cc, cc)
of_form (either c d) (either c' d') f x y s t p q e =
    let r = pair_prefix (bytes "or") (by_form c c' (of_form c c')) (by_form d d' (of_form d d')) x y s t p q e in
    (cc, r.1, r.2)

-- two spellings that begin one text are the same
pub spelled_prefix : (c d : Constraint) {x y s t : List ℕ} → Spells c x → Spells d y → x ++ s ≡ y ++ t → (c ≡ d) × (x ≡ y) × (s ≡ t)
spelled_prefix c d {x} {y} {s} {t} p q e = by_form c d (of_form c d) x y s t p q e

-- a part spells at most one constraint
pub one_constraint : (c d : Constraint) (part : List ℕ) → Spells c part → Spells d part → c ≡ d
one_constraint c d part p q = (spelled_prefix c d {x = part} {y = part} {s = []} {t = []} p q refl).0

pub read_once : {part : List ℕ} {c d : Constraint} → ReadAs part c → ReadAs part d → c ≡ d
read_once {part} {c} {d} a b = one_constraint c d part a.spelled b.spelled

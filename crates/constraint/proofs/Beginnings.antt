-- What texts begin with: a beginning and another after it, and when there can be none. A reader that goes from part to part supposes nothing of what it
-- has not read: where the first part is fixed by the text, a text begins with two parts only if the second stands right after the first.
use mathlib.Core.Path.{◌≡◌, sym, ap, ◌∙◌}
use mathlib.Core.Bool.{Bool, false}
use mathlib.Core.List.{List, ◌++◌, append_assoc, append_cancel_left}
use Prim.Native.Nat.{ℕ, ◌+◌, ◌≤◌, ◌<◌}
use native.Mathlib.Decide.{ℕ_discrete}
use native.Mathlib.Nat.{add_assoc}
use native.Mathlib.Omega.{arith}
use lib.ListN.{length, get_or, take, drop, length-append, length-drop, take-append-drop}
use lib.Seq.{take-add, take-append_seam, take-length, length-take-le, get_or-take, drop-drop}
use Rattle.basis.specs.Tests.{Decides}
use Rattle.basis.proofs.Answers.{fails}
use Rattle.basis.proofs.Split.{Cut}
use Rattle.constraint.specs.Reader.{Agrees, Begins, Never, Is}

-- where one text begins with an x that has P and with a y that has Q, the two are the same, and so is what follows
abbrev pub Fixes : (List ℕ → Type 0) → (List ℕ → Type 0) → Type 0
Fixes P Q = (x y s t : List ℕ) → P x → Q y → x ++ s ≡ y ++ t → (x ≡ y) × (s ≡ t)

-- a text that goes on after x begins with x
pub begins_by : {P : List ℕ → Type 0} {text : List ℕ} (x s : List ℕ) → text ≡ x ++ s → P x → Begins P text (length x)
begins_by {P} {text} x s e p = rw e (record { within = rw length-append (omega arith); holds = rw take-append_seam p })

-- what holds of a beginning by another property of it
pub begins_as : {P Q : List ℕ → Type 0} {text : List ℕ} {u : ℕ} → ((bs : List ℕ) → P bs → Q bs) → Begins P text u → Begins Q text u
begins_as f b = record { within = b.within; holds = f _ b.holds }

pub never_as : {P Q : List ℕ → Type 0} {text : List ℕ} → ((bs : List ℕ) → Q bs → P bs) → Never P text → Never Q text
never_as f n u b = n u (begins_as f b)

-- a beginning, and another right after it
pub begins_then : {P Q : List ℕ → Type 0} {text : List ℕ} {u w : ℕ} → Begins P text u → Begins Q (drop u text) w → Begins (Cut P Q) text (u + w)
begins_then {P} {Q} {text} {u} {w} p q =
    record {
      within = omega (arith, p.within, rw length-drop at q.within);
      holds = record { before = take u text; after = take w (drop u text); first = p.holds; second = q.holds; whole = take-add u w text };
    }

-- a beginning of what follows k bytes lies within the text
pub begins_fits : {P : List ℕ → Type 0} (text : List ℕ) {k u : ℕ} → k ≤ length text → Begins P (drop k text) u → k + u ≤ length text
begins_fits text h b = omega (arith, rw length-drop at b.within)

-- two beginnings, and another right after them
pub begins_third : {P Q R : List ℕ → Type 0} {text : List ℕ} {u v w : ℕ} → Begins P text u → Begins Q (drop u text) v → Begins R (drop (u + v) text) w
    → Begins (Cut P (Cut Q R)) text (u + v + w)
begins_third {text = text} {u = u} {v = v} {w = w} p q r = rw (add_assoc u v w) (begins_then p (begins_then q (rw (← (drop-drop v u text)) at r)))

-- without the first part there are no two
pub never_first : {P Q : List ℕ → Type 0} {text : List ℕ} → Never P text → Never (Cut P Q) text
never_first {P} {Q} {text} n u b = n _ (begins_by c.before (c.after ++ drop u text) whole c.first)
  where
    c : Cut P Q (take u text)
    c = b.holds

    whole : text ≡ c.before ++ (c.after ++ drop u text)
    whole = sym (take-append-drop u text) ∙ ap (λ (l : List ℕ). l ++ drop u text) c.whole ∙ append_assoc c.before c.after (drop u text)

-- after a first part that the text fixes, without the second part there are no two
pub never_then : {P P' Q : List ℕ → Type 0} {text : List ℕ} {w : ℕ} → Fixes P P' → Begins P text w → Never Q (drop w text) → Never (Cut P' Q) text
never_then {P} {P'} {Q} {text} {w} fixed p n u b =
    n _ (begins_by c.after (drop u text) (fixed _ c.before (drop w text) (c.after ++ drop u text) p.holds c.first whole).1 c.second)
  where
    c : Cut P' Q (take u text)
    c = b.holds

    whole : take w text ++ drop w text ≡ c.before ++ (c.after ++ drop u text)
    whole =
        take-append-drop w text
        ∙ sym (take-append-drop u text)
        ∙ ap (λ (l : List ℕ). l ++ drop u text) c.whole
        ∙ append_assoc c.before c.after (drop u text)

-- and after two such parts, without the third there are no three
pub never_third : {P P' Q Q' R : List ℕ → Type 0} {text : List ℕ} {u v : ℕ} → Fixes P P' → Fixes Q Q' → Begins P text u → Begins Q (drop u text) v
    → Never R (drop (u + v) text) → Never (Cut P' (Cut Q' R)) text
never_third {text = text} {u = u} {v = v} f g p q n = never_then f p (never_then g q (rw (drop-drop v u text) n))

-- a word is fixed by the text
pub word_fixes : (word : List ℕ) → Fixes (Is word) (Is word)
word_fixes word x y s t p q e = (p ∙ sym q, append_cancel_left word s t (cc))

-- a text that agrees with all of a word begins with it
pub agreed_word : {text word : List ℕ} {r : ℕ} → Agrees text word r → r ≡ length word → Begins (Is word) text (length word)
agreed_word {text} {word} {r} a e = rw e at begun
  where
    begun : Begins (Is word) text r
    begun = record { within = a.within_text; holds = a.same ∙ rw e (take-length word) }

-- and one that does not agree with all of it does not
pub agreed_less : {text word : List ℕ} {r : ℕ} → Agrees text word r → ¬ (r ≡ length word) → Never (Is word) text
agreed_less {text} {word} {r} a f u b =
    let size : length word ≡ u = ap length (sym b.holds) ∙ length-take-le u text b.within in
    let short : r < u = omega arith in
    a.stops (omega arith) (omega arith) (sym (get_or-take u text r 0 short) ∙ ap (λ (l : List ℕ). get_or l r 0) b.holds)

-- so a text that begins with a word agrees with all of it
pub agreed_all : {text word : List ℕ} {r : ℕ} → Agrees text word r → Begins (Is word) text (length word) → r ≡ length word
agreed_all {text} {word} {r} a b = by (ℕ_discrete r (length word))
  where
    by : Dec (r ≡ length word) → r ≡ length word
    by (yes e) = e
    by (no f) = absurd (agreed_less a f (length word) b)

-- a text that a test found not to begin with a word does not begin with it in any length
pub never_word : {text word : List ℕ} {b : Bool} → Decides b (Begins (Is word) text (length word)) → b ≡ false → Never (Is word) text
never_word {text} {word} d e u b =
    let size : length word ≡ u = ap length (sym b.holds) ∙ length-take-le u text b.within in
    fails d e (rw size b)

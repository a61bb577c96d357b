-- The forms of a constraint, by the word that a text begins with: which constraint is read after it, and when there is none.
use mathlib.Core.Path.{◌≡◌, refl, sym, ap, ◌∙◌}
use mathlib.Core.List.{List, ◌++◌, append_assoc}
use Prim.Native.Nat.{ℕ, ◌+◌, ◌-◌, ◌≤◌}
use native.Mathlib.Nat.{add_comm}
use native.Mathlib.Omega.{arith}
use lib.Bits.{bit_and, bit_or}
use lib.ListN.{drop, take-append-drop}
use Rattle.std.specs.Prelude.{Option, None, Some}
use Rattle.basis.specs.Bytes.{bytes}
use Rattle.basis.proofs.Split.{Cut}
use Rattle.constraint.specs.Meaning.{Constraint, any, bound, both, either, depth}
use Rattle.constraint.specs.declared.Spelled.{Spelled}
use Rattle.constraint.specs.Reader.{Begins, Never, Is, IsBound, Shallow, Parses, Coupled, Found, FoundPair}
use Rattle.constraint.specs.Selection.{Picks}
use Rattle.constraint.specs.Spelling.{Paired, Spells}
use Rattle.constraint.proofs.Beginnings.{begins_as, begins_then, never_as, never_first, never_then, word_fixes}
use Rattle.constraint.proofs.Decided.{depth_above_zero}
use Rattle.constraint.proofs.Picked.{picks_both, picks_either}
use Rattle.constraint.proofs.Unique.{Form, joined, chosen, form, told, told_form}

-- the two ways in which a pair joins its sides
pub data Join : Type 0 where
  meet join : Join

-- the pair, the word that opens it, and its form
abbrev pub pair_of : Join → Constraint → Constraint → Constraint
pair_of meet c d = both c d
pair_of join c d = either c d

abbrev pub word_of : Join → List ℕ
word_of meet = bytes "and"
word_of join = bytes "or"

abbrev form_of : Join → Form
form_of meet = joined
form_of join = chosen

-- `(`, the word and a space
abbrev pub opening_of : Join → List ℕ
opening_of j = bytes "(" ++ (word_of j ++ bytes " ")

-- the set of a pair, of its sides' sets
abbrev pub set_joined : Join → ℕ → ℕ → ℕ
set_joined meet a b = bit_and a b
set_joined join a b = bit_or a b

-- a pair is what opens it and its two sides
paired_by : (word : List ℕ) (c d : Constraint) (bs : List ℕ)
    → Cut (Is (bytes "(" ++ (word ++ bytes " "))) (Coupled c d) bs → Paired word (Spells c) (Spells d) bs
paired_by word c d bs p =
    let s = p.second in
    record { l = s.l; r = s.r; left = s.left; right = s.right; whole = simp (p.whole, p.first, s.whole, append_assoc) }

halves_of : (word : List ℕ) (c d : Constraint) (bs : List ℕ)
    → Paired word (Spells c) (Spells d) bs → Cut (Is (bytes "(" ++ (word ++ bytes " "))) (Coupled c d) bs
halves_of word c d bs p =
    record {
      before = bytes "(" ++ (word ++ bytes " ");
      after = p.l ++ (bytes " " ++ (p.r ++ bytes ")"));
      first = refl;
      second = record { l = p.l; r = p.r; left = p.left; right = p.right; whole = refl };
      whole = simp (p.whole, append_assoc);
    }

-- a text tells the form of the constraint that it begins with
told_begins : (c : Constraint) {text : List ℕ} {u : ℕ} → Begins (Spells c) text u → told text ≡ form c
told_begins c {text} {u} b = ap told (sym (take-append-drop u text)) ∙ told_form c _ _ b.holds

told_opening : (j : Join) (s : List ℕ) → told (opening_of j ++ s) ≡ form_of j
unfolding told
told_opening meet s = refl
told_opening join s = refl

told_pair : (j : Join) {text : List ℕ} {u : ℕ} → Begins (Is (opening_of j)) text u → told text ≡ form_of j
told_pair j {text} {u} b = ap told (sym (take-append-drop u text) ∙ ap (λ (l : List ℕ). l ++ drop u text) b.holds) ∙ told_opening j (drop u text)

module _ {text : List ℕ} where
  -- a pair was read
  pair_spelled : (j : Join) (c d : Constraint) {u w : ℕ} → Begins (Is (opening_of j)) text u → Begins (Coupled c d) (drop u text) w
      → Begins (Spells (pair_of j c d)) text (w + u)
  pair_spelled meet c d {u} {w} p q = rw (add_comm w u) (begins_as (paired_by (bytes "and") c d) (begins_then p q))
  pair_spelled join c d {u} {w} p q = rw (add_comm w u) (begins_as (paired_by (bytes "or") c d) (begins_then p q))

  -- a pair was opened, and its sides were not read: the text begins with no other form either
  pair_stopped_at : (j : Join) (k : ℕ) {u : ℕ} → Begins (Is (opening_of j)) text u
      → ((c d : Constraint) → depth c ≤ k → depth d ≤ k → Never (Coupled c d) (drop u text)) → (c : Constraint) → depth c ≤ k + 1 → Never (Spells c) text
  pair_stopped_at j k p none c h v b = of j c (sym (told_begins c b) ∙ told_pair j p) p none h b
    where
      of : (j : Join) (c : Constraint) → form c ≡ form_of j → {u : ℕ} → Begins (Is (opening_of j)) text u
          → ((c d : Constraint) → depth c ≤ k → depth d ≤ k → Never (Coupled c d) (drop u text)) → depth c ≤ k + 1 → ¬ Begins (Spells c) text v
      of meet any f p none h b = let z : ◌≡◌ {A = ℕ} 0 1 = cc in omega arith
      of meet (bound o w) f p none h b = let z : ◌≡◌ {A = ℕ} 0 1 = cc in omega arith
      of meet (both c d) f p none h b =
          never_as (halves_of (bytes "and") c d) (never_then (word_fixes (opening_of meet)) p (none c d (omega arith) (omega arith))) v b
      of meet (either c d) f p none h b = let z : ◌≡◌ {A = ℕ} 0 1 = cc in omega arith
      of join any f p none h b = let z : ◌≡◌ {A = ℕ} 0 1 = cc in omega arith
      of join (bound o w) f p none h b = let z : ◌≡◌ {A = ℕ} 0 1 = cc in omega arith
      of join (both c d) f p none h b = let z : ◌≡◌ {A = ℕ} 0 1 = cc in omega arith
      of join (either c d) f p none h b =
          never_as (halves_of (bytes "or") c d) (never_then (word_fixes (opening_of join)) p (none c d (omega arith) (omega arith))) v b

  -- no word opens the text, and no bound stands there
  nothing_spelled : Never (Is (bytes "*")) text → Never (Is (opening_of meet)) text → Never (Is (opening_of join)) text
      → ((c : Constraint) → IsBound c → Never (Spells c) text) → (c : Constraint) → Never (Spells c) text
  nothing_spelled star and or none any = star
  nothing_spelled star and or none (bound o b) = none (bound o b) tt
  nothing_spelled star and or none (both c d) = never_as (halves_of (bytes "and") c d) (never_first and)
  nothing_spelled star and or none (either c d) = never_as (halves_of (bytes "or") c d) (never_first or)

-- no constraint has depth 0
pub parses_none : {text : List ℕ} (left : ℕ) → left ≡ 0 → (c : Constraint) → Shallow left c → Never (Spells c) text
parses_none left e c h = absurd (depth_above_zero c (rw e at h))

-- a pair was read, or only opened
pub parses_pair : (j : Join) {text keys : List ℕ} {one other u w : ℕ} (left : ℕ) → ¬ (left ≡ 0) → Begins (Is (opening_of j)) text u
    → FoundPair (left - 1) (drop u text) keys one other w → Found (Shallow left) text keys (set_joined j one other) (w + u)
parses_pair j {keys = keys} {one = one} {other = other} left some p f =
    let c = f.one in
    let d = f.other in
    record {
      what = pair_of j c d;
      meant = shallow j c d f.one_shallow f.other_shallow;
      spelled = pair_spelled j c d p f.spelled;
      picked = picks j c d f.one_picked f.other_picked;
    }
  where
    shallow : (j : Join) (c d : Constraint) → depth c ≤ left - 1 → depth d ≤ left - 1 → depth (pair_of j c d) ≤ left
    shallow meet c d h l = omega arith
    shallow join c d h l = omega arith

    picks : (j : Join) (c d : Constraint) → Picks keys c one → Picks keys d other → Picks keys (pair_of j c d) (set_joined j one other)
    picks meet c d p q = picks_both keys c d one other p q
    picks join c d p q = picks_either keys c d one other p q

pub parses_no_pair : (j : Join) {text : List ℕ} {u : ℕ} (left : ℕ) → ¬ (left ≡ 0) → Begins (Is (opening_of j)) text u
    → ((c d : Constraint) → depth c ≤ left - 1 → depth d ≤ left - 1 → Never (Coupled c d) (drop u text)) → (c : Constraint) → Shallow left c
    → Never (Spells c) text
parses_no_pair j left some p none c h = pair_stopped_at j (left - 1) p none c (omega arith)

-- a bound was read, or nothing
pub parses_bound : {text : List ℕ} (keys : List ℕ) (r : Option (Spelled ℕ)) (left : ℕ) → ¬ (left ≡ 0) → Never (Is (bytes "*")) text → Never (Is (opening_of meet)) text
    → Never (Is (opening_of join)) text → Parses IsBound text keys r → Parses (Shallow left) text keys r
parses_bound keys None left some star and or none = λ c h. nothing_spelled star and or none c
parses_bound keys (Some p) left some star and or f =
    record { what = f.what; meant = bound_depth f.what f.meant; spelled = f.spelled; picked = f.picked }
  where
    bound_depth : (c : Constraint) → IsBound c → depth c ≤ left
    bound_depth any m = absurd m
    bound_depth (bound o b) m = omega arith
    bound_depth (both c d) m = absurd m
    bound_depth (either c d) m = absurd m

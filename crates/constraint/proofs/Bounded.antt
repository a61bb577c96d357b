-- Bounds, part by part: what opens one, then three numbers, each with the byte that ends it.
use mathlib.Core.Path.{◌≡◌, refl, sym, ap, ◌∙◌}
use mathlib.Core.List.{List, [], ◌∷◌, ◌++◌, append_assoc}
use Prim.Native.Nat.{ℕ, ◌+◌, ◌<◌}
use native.Mathlib.Omega.{arith}
use lib.ListN.{get_or, drop}
use Rattle.std.specs.List.{AllWithin}
use Rattle.basis.specs.Bytes.{bytes}
use Rattle.basis.proofs.Split.{Cut}
use Rattle.constraint.specs.declared.Version.{Version}
use Rattle.constraint.specs.declared.range.Sign.{Sign}
use Rattle.constraint.specs.declared.range.Sign.TheVariants.{Equal, AtMost, AtLeast, Caret}
use Rattle.constraint.specs.Range.{bound_of}
use Rattle.constraint.specs.Meaning.{Bound, equal, at_most, no_less, caret, Constraint, any, bound, both, either}
use Rattle.constraint.specs.Spelling.{Bounded, Spells}
use Rattle.constraint.specs.Reader.{Begins, Never, Is, Ended, opened, Closed, IsBound}
use Rattle.constraint.proofs.Beginnings.{Fixes, begins_as, begins_then, begins_third, never_as, never_first, never_then, never_third, word_fixes}
use Rattle.constraint.proofs.Fields.{ended_fixes}
use Rattle.constraint.proofs.Unique.{bounded, told}

-- three numbers, one after the other
abbrev Parts : Version → List ℕ → Type 0
Parts b = Cut (Ended 32 b.major) (Cut (Ended 32 b.minor) (Ended 41 b.patch))

closed_by : (b : Version) (bs : List ℕ) → Parts b bs → Closed b bs
closed_by b bs c =
    let rest = c.second in
    record {
      x = c.first.digits;
      y = rest.first.digits;
      z = rest.second.digits;
      major = c.first.numeral;
      minor = rest.first.numeral;
      patch = rest.second.numeral;
      whole = simp (c.whole, c.first.whole, rest.whole, rest.first.whole, rest.second.whole, append_assoc);
    }

parts_of : (b : Version) (bs : List ℕ) → Closed b bs → Parts b bs
parts_of b bs c =
    record {
      before = c.x ++ (32 ∷ []);
      after = (c.y ++ (32 ∷ [])) ++ (c.z ++ (41 ∷ []));
      first = record { digits = c.x; numeral = c.major; whole = refl };
      second =
          record {
            before = c.y ++ (32 ∷ []);
            after = c.z ++ (41 ∷ []);
            first = record { digits = c.y; numeral = c.minor; whole = refl };
            second = record { digits = c.z; numeral = c.patch; whole = refl };
            whole = refl;
          };
      whole = c.whole ∙ simp append_assoc;
    }

module _ {text : List ℕ} where
  -- the three numbers were read
  pub closed_read : {x y z u v w : ℕ} → Begins (Ended 32 x) text u → Begins (Ended 32 y) (drop u text) v → Begins (Ended 41 z) (drop (u + v) text) w
      → Begins (Closed (record { major = x; minor = y; patch = z })) text (u + v + w)
  closed_read p q r = begins_as (closed_by _) (begins_third p q r)

  -- the first, the second or the third was not
  pub closed_no_first : ((n : ℕ) → Never (Ended 32 n) text) → (b : Version) → Never (Closed b) text
  closed_no_first none b = never_as (parts_of b) (never_first (none b.major))

  pub closed_no_second : {x u : ℕ} → Begins (Ended 32 x) text u → ((n : ℕ) → Never (Ended 32 n) (drop u text)) → (b : Version) → Never (Closed b) text
  closed_no_second {x = x} p none b = never_as (parts_of b) (never_then (ended_fixes 32 x b.major (omega arith)) p (never_first (none b.minor)))

  pub closed_no_third : {x y u v : ℕ} → Begins (Ended 32 x) text u → Begins (Ended 32 y) (drop u text) v → ((n : ℕ) → Never (Ended 41 n) (drop (u + v) text))
      → (b : Version) → Never (Closed b) text
  closed_no_third {x = x} {y = y} p q none b =
      never_as (parts_of b) (never_third (ended_fixes 32 x b.major (omega arith)) (ended_fixes 32 y b.minor (omega arith)) p q (none b.patch))

-- none of the four signs opens a bound
pub opened_none : {text : List ℕ} → Never (Is (opened equal)) text → Never (Is (opened at_most)) text → Never (Is (opened no_less)) text
    → Never (Is (opened caret)) text → (o : Bound) → Never (Is (opened o)) text
opened_none a b c d equal = a
opened_none a b c d at_most = b
opened_none a b c d no_less = c
opened_none a b c d caret = d

-- the signs, in the order in which a text is compared with what opens a bound of each
abbrev pub signs : List Sign
signs = Equal ∷ AtMost ∷ AtLeast ∷ Caret ∷ []

-- a search among them that finds none has passed over each
pub signs_passed : {text : List ℕ} → AllWithin (λ (s : Sign). Never (Is (opened (bound_of s))) text) signs 0 4
    → (s : Sign) → Never (Is (opened (bound_of s))) text
signs_passed {text} none s = opened_none (passed 0 (omega arith)) (passed 1 (omega arith)) (passed 2 (omega arith)) (passed 3 (omega arith)) (bound_of s)
  where
    passed : (i : ℕ) → i < 4 → Never (Is (opened (bound_of (get_or signs i Equal)))) text
    passed i h = none i Equal (omega arith) h

-- each bound is a sign's
of_signs : (P : Bound → Type 0) → ((s : Sign) → P (bound_of s)) → (o : Bound) → P o
of_signs P f equal = f Equal
of_signs P f at_most = f AtMost
of_signs P f no_less = f AtLeast
of_signs P f caret = f Caret

-- a bound is what opens it and what closes it
bounded_by : (o : Bound) (b : Version) (bs : List ℕ) → Cut (Is (opened o)) (Closed b) bs → Bounded o b bs
bounded_by o b bs c =
    let r = c.second in
    record {
      x = r.x;
      y = r.y;
      z = r.z;
      major = r.major;
      minor = r.minor;
      patch = r.patch;
      whole = simp (c.whole, c.first, r.whole, append_assoc);
    }

halves_of : (o : Bound) (b : Version) (bs : List ℕ) → Bounded o b bs → Cut (Is (opened o)) (Closed b) bs
halves_of o b bs r =
    record {
      before = opened o;
      after = r.x ++ (bytes " " ++ (r.y ++ (bytes " " ++ (r.z ++ bytes ")"))));
      first = refl;
      second = record { x = r.x; y = r.y; z = r.z; major = r.major; minor = r.minor; patch = r.patch; whole = refl };
      whole = simp (r.whole, append_assoc);
    }

-- a text that a bound opens tells the bound
opened_told : (o : Bound) (s : List ℕ) → told (opened o ++ s) ≡ bounded o
unfolding told
opened_told equal s = refl
opened_told at_most s = refl
opened_told no_less s = refl
opened_told caret s = refl

opened_fixes : (o d : Bound) → Fixes (Is (opened o)) (Is (opened d))
opened_fixes o d x y s t p q e =
    let whole : opened o ++ s ≡ opened d ++ t = cc in
    let told_same : bounded o ≡ bounded d = sym (opened_told o s) ∙ ap told whole ∙ opened_told d t in
    let same : o ≡ d = cc in
    word_fixes (opened d) x y s t (rw same at p) q e

module _ {text : List ℕ} where
  -- a bound was read
  pub bound_read : {o : Bound} {b : Version} {u w : ℕ} → Begins (Is (opened o)) text u → Begins (Closed b) (drop u text) w → Begins (Bounded o b) text (u + w)
  bound_read p q = begins_as (bounded_by _ _) (begins_then p q)

  -- none was opened, or the one that was is not closed
  pub bound_not_opened : ((s : Sign) → Never (Is (opened (bound_of s))) text) → (c : Constraint) → IsBound c → Never (Spells c) text
  bound_not_opened none any m = absurd m
  bound_not_opened none (bound o b) m = never_as (halves_of o b) (never_first (of_signs (λ d. Never (Is (opened d)) text) none o))
  bound_not_opened none (both c d) m = absurd m
  bound_not_opened none (either c d) m = absurd m

  pub bound_not_closed : (o : Bound) {u : ℕ} → Begins (Is (opened o)) text u → ((b : Version) → Never (Closed b) (drop u text))
      → (c : Constraint) → IsBound c → Never (Spells c) text
  bound_not_closed o p none any m = absurd m
  bound_not_closed o p none (bound d b) m = never_as (halves_of d b) (never_then (opened_fixes o d) p (none b))
  bound_not_closed o p none (both c d) m = absurd m
  bound_not_closed o p none (either c d) m = absurd m

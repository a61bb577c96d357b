-- Pairs, part by part: the word that opens one, then its two sides and what stands between and after them.
use mathlib.Core.Path.{◌≡◌, refl, sym, ap, ◌∙◌}
use mathlib.Core.List.{List, ◌++◌}
use Prim.Native.Nat.{ℕ, ◌+◌, ◌≤◌}
use native.Mathlib.Nat.{add_assoc}
use native.Mathlib.Omega.{arith}
use lib.ListN.{drop}
use lib.Seq.{drop-drop}
use Rattle.basis.specs.Bytes.{bytes}
use Rattle.basis.proofs.Split.{Cut}
use Rattle.constraint.specs.Meaning.{Constraint, depth}
use Rattle.constraint.specs.Reader.{Begins, Never, Is, Shallow, Coupled, Found, FoundPair}
use Rattle.constraint.specs.Spelling.{Spells}
use Rattle.constraint.proofs.Beginnings.{Fixes, begins_as, begins_then, begins_third, never_as, never_first, never_then, never_third, word_fixes}
use Rattle.constraint.proofs.Unique.{spelled_prefix}

-- the two sides, the space between them and the bracket, one after the other
abbrev Parts : Constraint → Constraint → List ℕ → Type 0
Parts c d = Cut (Spells c) (Cut (Is (bytes " ")) (Cut (Spells d) (Is (bytes ")"))))

coupled_by : (c d : Constraint) (bs : List ℕ) → Parts c d bs → Coupled c d bs
coupled_by c d bs p =
    let gap = p.second in
    let rest = gap.second in
    record {
      l = p.before;
      r = rest.before;
      left = p.first;
      right = rest.first;
      whole = simp (p.whole, gap.whole, gap.first, rest.whole, rest.second);
    }

parts_of : (c d : Constraint) (bs : List ℕ) → Coupled c d bs → Parts c d bs
parts_of c d bs p =
    record {
      before = p.l;
      after = bytes " " ++ (p.r ++ bytes ")");
      first = p.left;
      second =
          record {
            before = bytes " ";
            after = p.r ++ bytes ")";
            first = refl;
            second = record { before = p.r; after = bytes ")"; first = p.right; second = refl; whole = refl };
            whole = refl;
          };
      whole = p.whole;
    }

-- the spelling of a constraint is fixed by the text
spells_fixes : (c d : Constraint) → Fixes (Spells c) (Spells d)
spells_fixes c d x y s t p q e = let r = spelled_prefix c d p q e in (r.1, r.2)

module _ {text : List ℕ} (c d : Constraint) {u w : ℕ} (one : Begins (Spells c) text u) (gap : Begins (Is (bytes " ")) (drop u text) 1)
    (other : Begins (Spells d) (drop (u + 1) text) w) where
  -- the second side, as what follows the first
  after_one : Begins (Spells d) (drop 1 (drop u text)) w
  after_one = rw (drop-drop 1 u text) other

  after_other : drop (1 + w) (drop u text) ≡ drop (u + 1 + w) text
  after_other = drop-drop (1 + w) u text ∙ ap (λ (n : ℕ). drop n text) (sym (add_assoc u 1 w))

  -- both sides were read
  pair_read_all : Begins (Is (bytes ")")) (drop (u + 1 + w) text) 1 → Begins (Coupled c d) text (u + 1 + w + 1)
  pair_read_all close =
      let sum : u + 1 + w + 1 ≡ u + (1 + w + 1) = omega arith in
      rw sum (begins_as (coupled_by c d) (begins_then one (begins_third gap after_one (rw after_other close))))

  -- the bracket was not
  pair_no_close : Never (Is (bytes ")")) (drop (u + 1 + w) text) → (a b : Constraint) → Never (Coupled a b) text
  pair_no_close none a b =
      never_as (parts_of a b)
      (never_then (spells_fixes c a) one (never_third (word_fixes (bytes " ")) (spells_fixes d b) gap after_one (rw after_other none)))

-- both sides were read
pub reads_both : {text keys : List ℕ} {k one other u w : ℕ} → Found (Shallow k) text keys one u → Begins (Is (bytes " ")) (drop u text) 1
    → Found (Shallow k) (drop (u + 1) text) keys other w → Begins (Is (bytes ")")) (drop (u + 1 + w) text) 1
    → FoundPair k text keys one other (u + 1 + w + 1)
reads_both f gap g close =
    record {
      one = f.what;
      other = g.what;
      one_shallow = f.meant;
      other_shallow = g.meant;
      spelled = pair_read_all f.what g.what f.spelled gap g.spelled close;
      one_picked = f.picked;
      other_picked = g.picked;
    }

-- a text begins with no pair of so much depth
abbrev Unpaired : ℕ → List ℕ → Type 0
Unpaired k text = (a b : Constraint) → depth a ≤ k → depth b ≤ k → Never (Coupled a b) text

-- the first side was not read, or the space after it, or the second side, or the bracket
pub reads_no_one : {text : List ℕ} {k : ℕ} → ((c : Constraint) → Shallow k c → Never (Spells c) text) → Unpaired k text
reads_no_one none a b h l = never_as (parts_of a b) (never_first (none a h))

pub reads_no_gap : {text keys : List ℕ} {k one u : ℕ} → Found (Shallow k) text keys one u → Never (Is (bytes " ")) (drop u text) → Unpaired k text
reads_no_gap f none a b h l = never_as (parts_of a b) (never_then (spells_fixes f.what a) f.spelled (never_first none))

pub reads_no_other : {text keys : List ℕ} {k one u : ℕ} → Found (Shallow k) text keys one u → Begins (Is (bytes " ")) (drop u text) 1
    → ((d : Constraint) → Shallow k d → Never (Spells d) (drop (u + 1) text)) → Unpaired k text
reads_no_other f gap none a b h l =
    never_as (parts_of a b) (never_third (spells_fixes f.what a) (word_fixes (bytes " ")) f.spelled gap (never_first (none b l)))

pub reads_no_close : {text keys : List ℕ} {k one other u w : ℕ} → Found (Shallow k) text keys one u → Begins (Is (bytes " ")) (drop u text) 1
    → Found (Shallow k) (drop (u + 1) text) keys other w → Never (Is (bytes ")")) (drop (u + 1 + w) text) → Unpaired k text
reads_no_close f gap g none a b h l = pair_no_close f.what g.what f.spelled gap g.spelled none a b

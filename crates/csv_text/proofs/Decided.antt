-- Whether a text is in the layout is decided. A record's bytes are cut into its fields, what follows the header into a first record and the rest; at most
-- one list of lines comes of it, so a further condition on the lines is decided too.
use mathlib.Core.Path.{◌≡◌, refl, ap}
use mathlib.Core.List.{List, [], ◌∷◌, ◌++◌, append-nil}
use mathlib.Core.Logic.{◌⊎◌, inl, inr, ⊎_elim}
use Prim.Native.Nat.{ℕ, zero, suc, ◌≤◌}
use native.Mathlib.Nat.{not-suc-le-zero}
use native.Mathlib.Decide.{ℕ_discrete, dec_le}
use native.Mathlib.Omega.{arith}
use lib.ListN.{length, length-append}
use Rattle.basis.specs.Bytes.{bytes, All}
use Rattle.basis.proofs.Decide.{both_or_not, either_or_not, not_or_not, or_not_by}
use Rattle.basis.proofs.Split.{Cut, cut_or_not, equal_or_not}
use Rattle.basis.proofs.Lists.{all_or_not}
use Rattle.constraint.specs.Numeral.{value}
use Rattle.constraint.proofs.Numerals.{numeral_or_not}
use Rattle.csv_text.specs.Layout.{header, crlf, Line, entry, slot, written, NameByte, Name, FieldByte, Number, LineOk, EntryFirst, body, Lays}
use Rattle.csv_text.proofs.Unique.{Ending, body_first, Spelled, ended, one_spelled}

name_byte_or_not : (b : ℕ) → Dec (NameByte b)
name_byte_or_not b = either_or_not (both_or_not (dec_le 97 b) (dec_le b 122)) (either_or_not (both_or_not (dec_le 48 b) (dec_le b 57)) (ℕ_discrete b 45))

name_or_not : (bs : List ℕ) → Dec (Name bs)
name_or_not bs =
    or_not_by
    (λ p. record { filled = p.0; short = p.1.0; plain = p.1.1 })
    (λ r. (r.filled, (r.short, r.plain)))
    (both_or_not (dec_le 1 (length bs)) (both_or_not (dec_le (length bs) 32) (all_or_not NameByte name_byte_or_not bs)))

number_or_not : (bs : List ℕ) → Dec (Number bs)
number_or_not bs = numeral_or_not bs (value bs)

field_byte_or_not : (b : ℕ) → Dec (FieldByte b)
field_byte_or_not b =
    or_not_by
    (λ p. record { no_comma = p.0; no_quote = p.1.0; no_cr = p.1.1.0; no_lf = p.1.1.1 })
    (λ r. (r.no_comma, (r.no_quote, (r.no_cr, r.no_lf))))
    (both_or_not (not_or_not (ℕ_discrete b 44))
    (both_or_not (not_or_not (ℕ_discrete b 34))
    (both_or_not (not_or_not (ℕ_discrete b 13)) (not_or_not (ℕ_discrete b 10)))))

-- a constraint field
abbrev Field : List ℕ → Type 0
Field bs = (1 ≤ length bs) × All FieldByte bs

field_or_not : (bs : List ℕ) → Dec (Field bs)
field_or_not bs = both_or_not (dec_le 1 (length bs)) (all_or_not FieldByte field_byte_or_not bs)

-- the word, and after it what Q asks
record After (word : List ℕ) (Q : List ℕ → Type 0) (bs : List ℕ) : Type 0 where
  rest : List ℕ
  kept : Q rest
  whole : bs ≡ word ++ rest

after_or_not : {Q : List ℕ → Type 0} (word : List ℕ) → ((l : List ℕ) → Dec (Q l)) → (bs : List ℕ) → Dec (After word Q bs)
after_or_not word q bs =
    or_not_by
    (λ c. record { rest = c.after; kept = c.second; whole = cc (c.first, c.whole) })
    (λ a. record { before = word; after = a.rest; first = refl; second = a.kept; whole = a.whole })
    (cut_or_not (λ l. equal_or_not l word) q bs)

-- an entry's record, cut after each field and each part of one
abbrev EntryBytes : List ℕ → Type 0
EntryBytes =
    Cut Name (After (bytes ",") (Cut Number
    (After (bytes ".") (Cut Number
    (After (bytes ".") (Cut Number
    (After (bytes ",") (Cut Number (λ l. l ≡ bytes ",,")))))))))

entry_bytes_or_not : (bs : List ℕ) → Dec (EntryBytes bs)
entry_bytes_or_not =
    cut_or_not name_or_not
    (after_or_not (bytes ",") (cut_or_not number_or_not
    (after_or_not (bytes ".") (cut_or_not number_or_not
    (after_or_not (bytes ".") (cut_or_not number_or_not
    (after_or_not (bytes ",") (cut_or_not number_or_not (λ l. equal_or_not l (bytes ",,"))))))))))

abbrev SlotBytes : List ℕ → Type 0
SlotBytes = After (bytes ",,,") (Cut Name (After (bytes ",") Field))

slot_bytes_or_not : (bs : List ℕ) → Dec (SlotBytes bs)
slot_bytes_or_not = after_or_not (bytes ",,,") (cut_or_not name_or_not (after_or_not (bytes ",") field_or_not))

-- the bytes are those of some record
record LineBytes (bs : List ℕ) : Type 0 where
  line : Line
  ok : LineOk line
  spelled : bs ≡ written line

entry_read : (bs : List ℕ) → EntryBytes bs → LineBytes bs
entry_read bs n =
    let x = n.second.kept in
    let y = x.second.kept in
    let z = y.second.kept in
    let w = z.second.kept in
    record {
      line = entry n.before x.before y.before z.before w.before;
      ok = record { named = n.first; major = x.first; minor = y.first; patch = z.first; weighed = w.first };
      spelled =
          cc (n.whole, n.second.whole, x.whole, x.second.whole, y.whole, y.second.whole, z.whole, z.second.whole, w.whole, w.second);
    }

slot_read : (bs : List ℕ) → SlotBytes bs → LineBytes bs
slot_read bs a =
    let n = a.kept in
    record {
      line = slot n.before n.second.rest;
      ok = record { named = n.first; filled = n.second.kept.0; plain = n.second.kept.1 };
      spelled = cc (a.whole, n.whole, n.second.whole);
    }

joined : {P Q : List ℕ → Type 0} (b a : List ℕ) → P b → Q a → Cut P Q (b ++ a)
joined b a p q = record { before = b; after = a; first = p; second = q; whole = refl }

followed : {Q : List ℕ → Type 0} (word r : List ℕ) → Q r → After word Q (word ++ r)
followed word r q = record { rest = r; kept = q; whole = refl }

line_cut : (line : Line) → LineOk line → EntryBytes (written line) ⊎ SlotBytes (written line)
line_cut (entry name x y z weight) ok =
    inl (joined name _ ok.named
    (followed (bytes ",") _ (joined x _ ok.major
    (followed (bytes ".") _ (joined y _ ok.minor
    (followed (bytes ".") _ (joined z _ ok.patch
    (followed (bytes ",") _ (joined weight _ ok.weighed refl)))))))))
line_cut (slot name constraint) ok =
    inr (followed (bytes ",,,") _ (joined name _ ok.named (followed (bytes ",") constraint (ok.filled, ok.plain))))

line_bytes_or_not : (bs : List ℕ) → Dec (LineBytes bs)
line_bytes_or_not bs =
    or_not_by
    (λ c. ⊎_elim (entry_read bs) (slot_read bs) c)
    (λ l. rw l.spelled (line_cut l.line l.ok))
    (either_or_not (entry_bytes_or_not bs) (slot_bytes_or_not bs))

-- the bytes are those of at most n lines, each with CR LF before it, and an ending
record LinesBytes (n : ℕ) (bs : List ℕ) : Type 0 where
  lines : List Line
  few : length lines ≤ n
  each : All LineOk lines
  ending : List ℕ
  ends : Ending ending
  spelled : bs ≡ body lines ++ ending

no_lines : (n : ℕ) (bs : List ℕ) → Ending bs → LinesBytes n bs
no_lines n bs e = record { lines = []; few = omega arith; each = tt; ending = bs; ends = e; spelled = refl }

-- a first line and the rest
abbrev FirstLine : ℕ → List ℕ → Type 0
FirstLine n = After crlf (Cut LineBytes (LinesBytes n))

first_read : (n : ℕ) (bs : List ℕ) → FirstLine n bs → LinesBytes (suc n) bs
first_read n bs f =
    let l = f.kept.first in
    let r = f.kept.second in
    record {
      lines = l.line ∷ r.lines;
      few = omega (arith, r.few);
      each = (l.ok, r.each);
      ending = r.ending;
      ends = r.ends;
      spelled = rw (body_first l.line r.lines r.ending) (cc (f.whole, f.kept.whole, l.spelled, r.spelled));
    }

first_cut : (n : ℕ) (lines : List Line) (ending : List ℕ) → length lines ≤ suc n → All LineOk lines → Ending ending
    → Ending (body lines ++ ending) ⊎ FirstLine n (body lines ++ ending)
first_cut n [] ending few each ends = inl ends
first_cut n (line ∷ lines) ending few each ends =
    inr (rw (body_first line lines ending) (followed crlf _ (joined (written line) _
    (record { line = line; ok = each.0; spelled = refl })
    (record { lines = lines; few = omega arith; each = each.1; ending = ending; ends = ends; spelled = refl }))))

no_lines_cut : (lines : List Line) (ending : List ℕ) → length lines ≤ 0 → Ending ending → Ending (body lines ++ ending)
no_lines_cut [] ending few ends = ends
no_lines_cut (line ∷ lines) ending few ends = absurd (not-suc-le-zero few)

ending_or_not : (bs : List ℕ) → Dec (Ending bs)
ending_or_not bs = either_or_not (equal_or_not bs []) (equal_or_not bs crlf)

lines_bytes_or_not : (n : ℕ) (bs : List ℕ) → Dec (LinesBytes n bs)
lines_bytes_or_not zero bs = or_not_by (no_lines 0 bs) (λ r. rw r.spelled (no_lines_cut r.lines r.ending r.few r.ends)) (ending_or_not bs)
lines_bytes_or_not (suc n) bs =
    or_not_by
    (λ c. ⊎_elim (no_lines (suc n) bs) (first_read n bs) c)
    (λ r. rw r.spelled (first_cut n r.lines r.ending r.few r.each r.ends))
    (either_or_not (ending_or_not bs) (after_or_not crlf (cut_or_not line_bytes_or_not (lines_bytes_or_not n)) bs))

pub spelled_with : (text : List ℕ) (lines : List Line) (s : List ℕ) → All LineOk lines → Ending s → text ≡ header ++ (body lines ++ s) → Spelled text lines
spelled_with text lines s each (inl e) f = (each, inl (cc (append-nil (body lines))))
spelled_with text lines s each (inr e) f = (each, inr (cc))

-- no more lines than bytes
pub lines_few : (lines : List Line) → length lines ≤ length (body lines)
lines_few [] = omega arith
lines_few (line ∷ lines) = simp length-append (omega (arith, lines_few lines))

spelled_or_not : (text : List ℕ) → Dec ((lines : List Line) × Spelled text lines)
spelled_or_not text = or_not_by read cut (after_or_not header (lines_bytes_or_not (length text)) text)
  where
    read : After header (LinesBytes (length text)) text → (lines : List Line) × Spelled text lines
    read a =
        let r = a.kept in
        (r.lines, spelled_with text r.lines r.ending r.each r.ends (cc (a.whole, r.spelled)))

    cut : (lines : List Line) × Spelled text lines → After header (LinesBytes (length text)) text
    cut l =
        let u = ended text l.0 l.1 in
        record {
          rest = body l.0 ++ u.0;
          kept =
              record {
                lines = l.0;
                few = omega (arith, lines_few l.0, simp length-append at (ap length u.2));
                each = l.1.0;
                ending = u.0;
                ends = u.1;
                spelled = refl;
              };
          whole = u.2;
        }

-- where at most one thing has P, whether it has Q too is decided
pub only_or_not : {A : Type 0} {P Q : A → Type 0} → ((a b : A) → P a → P b → a ≡ b) → Dec ((a : A) × P a) → ((a : A) → Dec (Q a)) → Dec ((a : A) × P a × Q a)
only_or_not one (no n) d = no (λ x. n (x.0, x.1))
only_or_not {A} {P} {Q} one (yes x) d = go (d x.0)
  where
    go : Dec (Q x.0) → Dec ((a : A) × P a × Q a)
    go (yes q) = yes (x.0, x.1, q)
    go (no n) = no (λ y. n (rw (one y.0 x.0 y.1 x.1) at y.2))

first_or_not : (lines : List Line) → Dec (EntryFirst lines)
first_or_not [] = yes tt
first_or_not (entry name x y z weight ∷ lines) = yes tt
first_or_not (slot name constraint ∷ lines) = no (λ e. e)

pub lays_or_not : (text : List ℕ) → Dec ((lines : List Line) × Lays text lines)
lays_or_not text =
    or_not_by
    (λ x. (x.0, record { whole = x.1.1; each = x.1.0; first = x.2.0; short = x.2.1 }))
    (λ y. (y.0, (y.1.each, y.1.whole), (y.1.first, y.1.short)))
    (only_or_not (one_spelled text) (spelled_or_not text) (λ lines. both_or_not (first_or_not lines) (dec_le (length text) 65535)))

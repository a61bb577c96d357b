-- A text is the text of at most one list of lines. No line holds a CR, so each is the run of bytes up to the next CR or the end; within a line each
-- field ends at the next comma, each number of a version at the next dot, and a slot's line begins with a comma where an entry's begins with its name.
use mathlib.Core.Path.{◌≡◌, refl, sym, ap, ◌∙◌}
use mathlib.Core.List.{List, [], ◌∷◌, ◌++◌, append_assoc, append-nil, append_cancel_left, head-eq_of_cons-eq, tail-eq_of_cons-eq}
use mathlib.Core.Logic.{◌⊎◌, inl, inr}
use Prim.Native.Nat.{ℕ, ◌≤◌}
use native.Mathlib.Nat.{not-suc-le-zero}
use native.Mathlib.Omega.{arith}
use lib.ListN.{length, length-append}
use Rattle.basis.specs.Bytes.{bytes, All}
use Rattle.constraint.specs.Numeral.{Digit}
use Rattle.csv_text.specs.Layout.{header, crlf, Line, entry, slot, written, NameByte, FieldByte, EntryLine, SlotLine, LineOk, body, Lays}
use Rattle.basis.proofs.Runs.{all_append, all_weaken, Stops, run_stops, run_ends}

-- a byte of a name is at least 45, so neither a comma nor a CR
name_byte_above : (b : ℕ) → NameByte b → 45 ≤ b
name_byte_above b (inl h) = omega arith
name_byte_above b (inr (inl h)) = omega arith
name_byte_above b (inr (inr h)) = omega arith

unfoldable pub NotCr : ℕ → Type 0
NotCr b = ¬ (b ≡ 13)

no_cr_in_name : (bs : List ℕ) → All NameByte bs → All NotCr bs
unfolding NotCr
no_cr_in_name bs p = all_weaken NameByte NotCr (λ b h. let l = name_byte_above b h in omega arith) bs p

no_cr_in_number : (bs : List ℕ) → All Digit bs → All NotCr bs
unfolding NotCr
no_cr_in_number bs p = all_weaken Digit NotCr (λ b h. omega arith) bs p

-- a field with no CR and the commas or dot behind it
no_cr_field : (field sign rest : List ℕ) → All NotCr field → All NotCr sign → All NotCr rest → All NotCr (field ++ (sign ++ rest))
no_cr_field field sign rest f s r = all_append NotCr field (sign ++ rest) f (all_append NotCr sign rest s r)

pub no_cr : (line : Line) → LineOk line → All NotCr (written line)
unfolding NotCr
no_cr (entry name x y z weight) ok =
    no_cr_field name (bytes ",") _ (no_cr_in_name name ok.named.plain) (omega arith)
    (no_cr_field x (bytes ".") _ (no_cr_in_number x ok.major.digits) (omega arith)
    (no_cr_field y (bytes ".") _ (no_cr_in_number y ok.minor.digits) (omega arith)
    (no_cr_field z (bytes ",") _ (no_cr_in_number z ok.patch.digits) (omega arith)
    (all_append NotCr weight (bytes ",,") (no_cr_in_number weight ok.weighed.digits) (omega arith)))))
no_cr (slot name constraint) ok =
    all_append NotCr (bytes ",,,") (name ++ (bytes "," ++ constraint)) (omega arith)
    (no_cr_field name (bytes ",") constraint (no_cr_in_name name ok.named.plain) (omega arith)
    (all_weaken FieldByte NotCr (λ b f. f.no_cr) constraint ok.plain))

pub comma_no_name : ¬ NameByte 44
comma_no_name h = let l = name_byte_above 44 h in omega arith

pub comma_no_digit : ¬ Digit 44
comma_no_digit h = omega arith

pub dot_no_digit : ¬ Digit 46
dot_no_digit h = omega arith

one_entry : {name x y z weight name' x' y' z' weight' : List ℕ} → EntryLine name x y z weight → EntryLine name' x' y' z' weight'
    → written (entry name x y z weight) ≡ written (entry name' x' y' z' weight') → entry name x y z weight ≡ entry name' x' y' z' weight'
one_entry {name} {x} {y} {z} {weight} {name'} {x'} {y'} {z'} {weight'} a b e =
    let n = run_ends NameByte name name' a.named.plain b.named.plain comma_no_name comma_no_name e in
    let m = run_ends Digit x x' a.major.digits b.major.digits dot_no_digit dot_no_digit (tail-eq_of_cons-eq n.1) in
    let k = run_ends Digit y y' a.minor.digits b.minor.digits dot_no_digit dot_no_digit (tail-eq_of_cons-eq m.1) in
    let p = run_ends Digit z z' a.patch.digits b.patch.digits comma_no_digit comma_no_digit (tail-eq_of_cons-eq k.1) in
    let w = run_ends Digit weight weight' a.weighed.digits b.weighed.digits comma_no_digit comma_no_digit (tail-eq_of_cons-eq p.1) in
    cc (n.0, m.0, k.0, p.0, w.0)

one_slot : {name constraint name' constraint' : List ℕ} → SlotLine name constraint → SlotLine name' constraint'
    → written (slot name constraint) ≡ written (slot name' constraint') → slot name constraint ≡ slot name' constraint'
one_slot {name} {constraint} {name'} {constraint'} a b e =
    let f = append_cancel_left (bytes ",,,") _ _ e in
    let n = run_ends NameByte name name' a.named.plain b.named.plain comma_no_name comma_no_name f in
    cc (n.0, tail-eq_of_cons-eq n.1)

-- a name in front is no comma in front
entry_no_slot : (name after : List ℕ) {rest : List ℕ} → 1 ≤ length name → All NameByte name → ¬ (name ++ after ≡ 44 ∷ rest)
entry_no_slot [] after f p e = not-suc-le-zero f
entry_no_slot (b ∷ name) after f p e = comma_no_name (rw (head-eq_of_cons-eq e) at p.0)

pub one_line : (l m : Line) → LineOk l → LineOk m → written l ≡ written m → l ≡ m
one_line (entry name x y z weight) (entry name' x' y' z' weight') a b e = one_entry a b e
one_line (entry name x y z weight) (slot name' constraint) a b e = absurd (entry_no_slot name _ a.named.filled a.named.plain e)
one_line (slot name constraint) (entry name' x y z weight) a b e = absurd (entry_no_slot name' _ b.named.filled b.named.plain (sym e))
one_line (slot name constraint) (slot name' constraint') a b e = one_slot a b e

-- the first line's bytes, and then the others'
pub body_first : (line : Line) (lines : List Line) (s : List ℕ) → body (line ∷ lines) ++ s ≡ crlf ++ (written line ++ (body lines ++ s))
body_first line lines s = ap (λ (t : List ℕ). crlf ++ t) (append_assoc (written line) (body lines) s)

-- what may stand after the last line
abbrev pub Ending : List ℕ → Type 0
Ending s = (s ≡ []) ⊎ (s ≡ crlf)

stops_after : (lines : List Line) (s : List ℕ) → Ending s → Stops NotCr (body lines ++ s)
unfolding NotCr
stops_after [] s (inl e) = rw e tt
stops_after [] s (inr e) = rw e (λ h. h refl)
stops_after (line ∷ lines) s h = λ k. k refl

pub ending_short : (s : List ℕ) → Ending s → length s ≤ 2
ending_short s (inl e) = rw e (omega arith)
ending_short s (inr e) = rw e (omega arith)

line_filled : (line : Line) → LineOk line → 1 ≤ length (written line)
line_filled (entry name x y z weight) ok = rw length-append (omega arith)
line_filled (slot name constraint) ok = omega arith

-- an ending is no further line: a blank record is none
pub no_further : (line : Line) (lines : List Line) (s t : List ℕ) → LineOk line → Ending s → ¬ (s ≡ body (line ∷ lines) ++ t)
no_further line lines s t ok u e = omega (arith, ending_short s u, line_filled line ok, simp length-append at (ap length e))

pub same_lines : (ls ms : List Line) (s t : List ℕ) → All LineOk ls → All LineOk ms → Ending s → Ending t → body ls ++ s ≡ body ms ++ t → ls ≡ ms
same_lines [] [] s t a b u v e = refl
same_lines [] (m ∷ ms) s t a b u v e = absurd (no_further m ms s t b.0 u e)
same_lines (l ∷ ls) [] s t a b u v e = absurd (no_further l ls t s a.0 v (sym e))
same_lines (l ∷ ls) (m ∷ ms) s t a b u v e =
    let f = append_cancel_left crlf _ _ (sym (body_first l ls s) ∙ e ∙ body_first m ms t) in
    let stop = run_stops NotCr (written l) (written m) (body ls ++ s) (body ms ++ t) in
    let r = stop (no_cr l a.0) (no_cr m b.0) (stops_after ls s u) (stops_after ms t v) f in
    cc (one_line l m a.0 b.0 r.0, same_lines ls ms s t a.1 b.1 u v r.1)

-- a text that is the header and some lines, whatever line is first and however long it is
abbrev pub Spelled : List ℕ → List Line → Type 0
Spelled text lines = All LineOk lines × ((text ≡ header ++ body lines) ⊎ (text ≡ header ++ (body lines ++ crlf)))

-- the two forms of a text are one, with an ending
pub ended : (text : List ℕ) (lines : List Line) → Spelled text lines → (s : List ℕ) × Ending s × (text ≡ header ++ (body lines ++ s))
ended text lines (each, inl e) = ([], inl refl, rw append-nil e)
ended text lines (each, inr e) = (crlf, inr refl, e)

pub one_spelled : (text : List ℕ) (ls ms : List Line) → Spelled text ls → Spelled text ms → ls ≡ ms
one_spelled text ls ms a b =
    let u = ended text ls a in
    let v = ended text ms b in
    same_lines ls ms u.0 v.0 a.0 b.0 u.1 v.1 (append_cancel_left header (body ls ++ u.0) (body ms ++ v.0) (sym u.2 ∙ v.2))

pub one_sheet : {text : List ℕ} {ls ms : List Line} → Lays text ls → Lays text ms → ls ≡ ms
one_sheet {text} {ls} {ms} a b = one_spelled text ls ms (a.each, a.whole) (b.each, b.whole)

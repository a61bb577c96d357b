-- Reading line after line: what is left of a text behind the lines that are passed, the line that comes next, and the whole once nothing is left.
use mathlib.Core.Path.{◌≡◌, refl, sym, ap, ◌∙◌}
use mathlib.Core.List.{List, [], ◌∷◌, ◌++◌, append-nil, append_cancel_left}
use mathlib.Core.Logic.{inl, inr}
use Prim.Native.Nat.{ℕ, suc, ◌+◌, ◌≤◌, ◌<◌}
use native.Mathlib.Omega.{arith}
use lib.ListN.{length, drop, length-append, length-drop}
use lib.Seq.{drop_at}
use Rattle.basis.specs.Bytes.{All}
use Rattle.basis.proofs.Runs.{Stops, run_stops}
use Rattle.csv_text.specs.Layout.{header, crlf, Line, entry, slot, written, LineOk, EntryFirst, body, Lays}
use Rattle.csv_text.specs.Says.{entry_count, slot_count}
use Rattle.csv_text.specs.Reader.{AtEnd, Headed}
use Rattle.csv_text.specs.Walk.{Walked}
use Rattle.csv_text.proofs.Unique.{NotCr, no_cr, one_line, body_first, Ending, ending_short, no_further, ended, one_sheet}
use Rattle.csv_text.proofs.Decided.{spelled_with, lines_few}
use Rattle.csv_text.proofs.Words.{after_word, headed_end, word_within}
use Rattle.csv_text.proofs.Lines.{past}

-- one line more
abbrev pub ◌then◌ : List Line → Line → List Line
done then line = done ++ (line ∷ [])

infixl 60 ◌then◌
at_end_stops : (lines : List Line) (s : List ℕ) → AtEnd s → Stops NotCr (body lines ++ s)
unfolding NotCr
at_end_stops [] s (inl e) = rw e tt
at_end_stops [] s (inr b) = rw b.1 (λ h. h refl)
at_end_stops (line ∷ lines) s u = λ h. h refl

pub ending_at_end : (s : List ℕ) → Ending s → AtEnd s
ending_at_end s (inl e) = inl e
ending_at_end s (inr e) = inr ([], e)

pub lines_at_end : (lines : List Line) (s : List ℕ) → Ending s → AtEnd (body lines ++ s)
lines_at_end [] s u = ending_at_end s u
lines_at_end (line ∷ lines) s u = inr (written line ++ (body lines ++ s), body_first line lines s)

-- two lines that begin one text, each up to where a record may end, are the same
pub same_line : (l m : Line) (s t : List ℕ) → LineOk l → LineOk m → AtEnd s → AtEnd t → written l ++ s ≡ written m ++ t → l ≡ m
same_line l m s t a b u v e = one_line l m a b (run_stops NotCr (written l) (written m) s t (no_cr l a) (no_cr m b) (at_end_stops [] s u) (at_end_stops [] t v) e).0

-- what is left of lines behind those that are passed
record Left (done lines : List Line) (rest ending : List ℕ) : Type 0 where
  more : List Line
  same : lines ≡ done ++ more
  left : rest ≡ body more ++ ending

split : (done lines : List Line) (rest ending : List ℕ) → All LineOk done → All LineOk lines → AtEnd rest → Ending ending
    → body done ++ rest ≡ body lines ++ ending → Left done lines rest ending
split [] lines rest ending a b u v e = record { more = lines; same = refl; left = e }
split (d ∷ done) [] rest ending a b u v e = absurd (no_further d done ending rest a.0 v (sym e))
split (d ∷ done) (l ∷ lines) rest ending a b u v e =
    let f = append_cancel_left crlf _ _ (sym (body_first d done rest) ∙ e ∙ body_first l lines ending) in
    let stop = run_stops NotCr (written d) (written l) (body done ++ rest) (body lines ++ ending) (no_cr d a.0) (no_cr l b.0) in
    let cut = stop (at_end_stops done rest u) (at_end_stops lines ending (ending_at_end ending v)) f in
    let behind = split done lines rest ending a.1 b.1 u v cut.1 in
    record { more = behind.more; same = cc (one_line d l a.0 b.0 cut.0, behind.same); left = behind.left }

-- the line that comes next in a text of lines
pub record Next (text : List ℕ) (lines done : List Line) (at : ℕ) : Type 0 where
  pub line : Line
  pub more : List Line
  pub ending : List ℕ
  pub ends : Ending ending
  pub same : lines ≡ done ++ (line ∷ more)
  pub rest : drop (at + 2) text ≡ written line ++ (body more ++ ending)

left_of : {text : List ℕ} {lines done : List Line} {at : ℕ} → Walked text done at → Lays text lines
    → (ending : List ℕ) × Ending ending × Left done lines (drop at text) ending
left_of {text} {lines} {done} {at} w l =
    let u = ended text lines (l.each, l.whole) in
    let e = append_cancel_left header (body done ++ drop at text) (body lines ++ u.0) (sym w.whole ∙ u.2) in
    (u.0, u.1, split done lines (drop at text) u.0 w.each l.each w.ends u.1 e)

pub next_line : {text : List ℕ} {lines done : List Line} {at : ℕ} → Walked text done at → Lays text lines → at + 2 < length text → Next text lines done at
next_line {text} {lines} {done} {at} w l h = let x = left_of w l in go x.2.more x.0 x.1 x.2.same x.2.left
  where
    go : (more : List Line) (ending : List ℕ) → Ending ending → lines ≡ done ++ more → drop at text ≡ body more ++ ending → Next text lines done at
    go [] ending u same e = absurd (omega (arith, ending_short ending u, sym (length-drop at text) ∙ ap length e))
    go (line ∷ more) ending u same e =
        let f = e ∙ body_first line more ending in
        record {
          line = line;
          more = more;
          ending = ending;
          ends = u;
          same = same;
          rest = sym (past text at 2 (at + 2) refl) ∙ ap (λ (t : List ℕ). drop 2 t) f;
        }

-- where nothing is left, the lines that are passed are the text's
nothing_left : (s : List ℕ) → AtEnd s → length s ≤ 2 → Ending s
nothing_left s (inl e) h = inl e
nothing_left s (inr b) h = inr (go b.0 b.1)
  where
    go : (t : List ℕ) → s ≡ crlf ++ t → s ≡ crlf
    go [] e = e
    go (a ∷ t) e = absurd (omega (arith, ap length e))

pub walked_lays : {text : List ℕ} {done : List Line} {at : ℕ} → Walked text done at → length text ≤ at + 2 → length text ≤ 65535 → Lays text done
walked_lays {text} {done} {at} w h short =
    let ends = nothing_left (drop at text) w.ends (rw length-drop (omega arith)) in
    let spelled = spelled_with text done (drop at text) w.each ends w.whole in
    record { whole = spelled.1; each = spelled.0; first = w.first; short = short }

pub all_passed : {text : List ℕ} {lines done : List Line} {at : ℕ} → Walked text done at → Lays text lines → length text ≤ at + 2 → done ≡ lines
all_passed w l h = one_sheet (walked_lays w h l.short) l

-- the header stands in front of lines
pub lays_headed : {text : List ℕ} {lines : List Line} → Lays text lines → Headed text
lays_headed {text} {lines} l =
    let u = ended text lines (l.each, l.whole) in
    (body lines ++ u.0, lines_at_end lines u.0 u.1, u.2)

-- before the first line
pub walked_none : {text : List ℕ} → Headed text → Walked text [] 39
walked_none {text} h =
    let rest = after_word header (h.0, h.2) refl in
    record {
      whole = h.2 ∙ ap (λ (t : List ℕ). header ++ t) rest;
      there = refl;
      within = word_within header (h.0, h.2);
      each = tt;
      first = tt;
      ends = headed_end h;
    }

all_then : (done : List Line) (line : Line) → All LineOk done → LineOk line → All LineOk (done then line)
all_then [] line a b = (b, tt)
all_then (d ∷ done) line a b = (a.0, all_then done line a.1 b)

-- what holds of all lines holds of one in their midst
in_midst : (done : List Line) (line : Line) (more : List Line) → All LineOk (done ++ (line ∷ more)) → LineOk line
in_midst [] line more a = a.0
in_midst (d ∷ done) line more a = in_midst done line more a.1

-- in particular of the line that comes next
pub next_ok : {text : List ℕ} {lines done : List Line} {at : ℕ} → Lays text lines → (n : Next text lines done at) → LineOk n.line
next_ok {text} {lines} {done} l n = in_midst done n.line n.more (rw n.same at l.each)

pub body_then : (done : List Line) (line : Line) (s : List ℕ) → body (done then line) ++ s ≡ body done ++ (crlf ++ (written line ++ s))
body_then [] line s = body_first line [] s
body_then (d ∷ done) line s =
    body_first d (done then line) s
    ∙ ap (λ (t : List ℕ). crlf ++ (written d ++ t)) (body_then done line s)
    ∙ sym (body_first d done (crlf ++ (written line ++ s)))

body_then_length : (done : List Line) (line : Line) → length (body (done then line)) ≡ length (body done) + 2 + length (written line)
body_then_length done line =
    omega (arith, simp (append-nil, length-append) at (ap length (body_then done line [])))

-- past one line more
pub walked_on : {text : List ℕ} {done : List Line} {at : ℕ} (line : Line) (s : List ℕ) → Walked text done at → at + 2 < length text → LineOk line
    → EntryFirst (done then line) → drop (at + 2) text ≡ written line ++ s → AtEnd s → Walked text (done then line) (at + 2 + length (written line))
walked_on {text} {done} {at} line s w h ok first e u = go w.ends
  where
    next : ℕ
    next = at + 2 + length (written line)

    rest : drop next text ≡ s
    rest = sym (past text (at + 2) (length (written line)) next refl) ∙ ap (λ (t : List ℕ). drop (length (written line)) t) e ∙ drop_at (written line) s (length (written line)) refl

    go : AtEnd (drop at text) → Walked text (done then line) next
    go (inl z) = absurd (omega (arith, sym (length-drop at text) ∙ ap length z))
    go (inr b) =
        let opened : drop at text ≡ crlf ++ (written line ++ drop next text) =
        b.1 ∙ ap (λ (t : List ℕ). crlf ++ t) (after_word crlf b refl ∙ past text at 2 (at + 2) refl ∙ e ∙ ap (λ (t : List ℕ). written line ++ t) (sym rest)) in
        record {
          whole = w.whole ∙ ap (λ (t : List ℕ). header ++ t) (ap (λ (t : List ℕ). body done ++ t) opened ∙ sym (body_then done line (drop next text)));
          there = omega (arith, w.there, body_then_length done line);
          within = omega (arith, sym (length-drop (at + 2) text) ∙ ap length e ∙ length-append (written line) s);
          each = all_then done line w.each ok;
          first = first;
          ends = rw rest u;
        }

-- an entry may come next, and a slot behind an entry
pub entry_next : (done : List Line) (name x y z weight : List ℕ) → EntryFirst done → EntryFirst (done then entry name x y z weight)
entry_next [] name x y z weight f = tt
entry_next (entry n a b c w ∷ done) name x y z weight f = tt
entry_next (slot n c ∷ done) name x y z weight f = absurd f

pub slot_next : (done : List Line) (name constraint : List ℕ) → EntryFirst done → ¬ (entry_count done ≡ 0) → EntryFirst (done then slot name constraint)
slot_next [] name constraint f n = absurd (n refl)
slot_next (entry a b c d w ∷ done) name constraint f n = tt
slot_next (slot a c ∷ done) name constraint f n = absurd f

pub entry_before : (done : List Line) (name constraint : List ℕ) (more : List Line) → EntryFirst (done ++ (slot name constraint ∷ more)) → ¬ (entry_count done ≡ 0)
entry_before [] name constraint more f z = f
entry_before (entry n a b c w ∷ done) name constraint more f z = omega arith
entry_before (slot n c ∷ done) name constraint more f z = f

-- the counts, one line further
pub entries_then_entry : (done : List Line) (name x y z weight : List ℕ) → entry_count (done then entry name x y z weight) ≡ entry_count done + 1
entries_then_entry [] name x y z weight = refl
entries_then_entry (entry n a b c w ∷ done) name x y z weight = omega (arith, entries_then_entry done name x y z weight)
entries_then_entry (slot n c ∷ done) name x y z weight = entries_then_entry done name x y z weight

pub slots_then_entry : (done : List Line) (name x y z weight : List ℕ) → slot_count (done then entry name x y z weight) ≡ slot_count done
slots_then_entry [] name x y z weight = refl
slots_then_entry (entry n a b c w ∷ done) name x y z weight = slots_then_entry done name x y z weight
slots_then_entry (slot n c ∷ done) name x y z weight = ap suc (slots_then_entry done name x y z weight)

pub entries_then_slot : (done : List Line) (name constraint : List ℕ) → entry_count (done then slot name constraint) ≡ entry_count done
entries_then_slot [] name constraint = refl
entries_then_slot (entry n a b c w ∷ done) name constraint = ap suc (entries_then_slot done name constraint)
entries_then_slot (slot n c ∷ done) name constraint = entries_then_slot done name constraint

pub slots_then_slot : (done : List Line) (name constraint : List ℕ) → slot_count (done then slot name constraint) ≡ slot_count done + 1
slots_then_slot [] name constraint = refl
slots_then_slot (entry n a b c w ∷ done) name constraint = slots_then_slot done name constraint
slots_then_slot (slot n c ∷ done) name constraint = omega (arith, slots_then_slot done name constraint)

pub counts_length : (lines : List Line) → entry_count lines + slot_count lines ≡ length lines
counts_length [] = refl
counts_length (entry n a b c w ∷ lines) = omega (arith, counts_length lines)
counts_length (slot n c ∷ lines) = omega (arith, counts_length lines)

-- no more lines are passed than bytes
pub counts_few : {text : List ℕ} {done : List Line} {at : ℕ} → Walked text done at → entry_count done + slot_count done ≤ at
counts_few {text} {done} w = omega (arith, counts_length done, lines_few done, w.there)

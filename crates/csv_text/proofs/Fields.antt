-- Fields: runs of bytes of one kind, names and numbers in front of a sign. A field that stands in front of a byte of another kind is the whole run.
use mathlib.Core.Path.{◌≡◌, refl, sym, ap, ◌∙◌}
use mathlib.Core.List.{List, [], ◌∷◌, ◌++◌, append_assoc, nil≢cons, head-eq_of_cons-eq, tail-eq_of_cons-eq}
use mathlib.Core.Logic.{◌⊎◌, inl, inr}
use Prim.Native.Nat.{ℕ, zero, suc, ◌+◌, ◌≤◌, ◌<◌}
use native.Mathlib.Nat.{not-suc-le-zero}
use native.Mathlib.Decide.{dec_lt}
use native.Mathlib.Numerals.{unary_clauses}
use native.Mathlib.Omega.{arith}
use lib.ListN.{length, get_or, take, drop, length-append, take-append-drop, drop_of_length-le}
use lib.Seq.{drop-append-add, drop-cons, length-take-le}
use Rattle.std.proofs.Common.{Option, Some, None}
use Rattle.std.specs.Option.{MatchOption, unwrap_or}
use Rattle.std.specs.List.{AllWithin, HoldsAt}
use Rattle.basis.specs.Bytes.{All}
use Rattle.basis.proofs.Runs.{Stops, run_stops, run_ends}
use Rattle.constraint.specs.Numeral.{Digit, Numeral, value}
use Rattle.constraint.specs.Reader.{Begins, Never, Ended}
use Rattle.csv_text.specs.Layout.{NameByte, Name, FieldByte, Number}
use Rattle.csv_text.specs.Reader.{Run, NoField, FieldFound}
use Rattle.csv_text.proofs.Unique.{comma_no_name}

-- a byte outside the three ranges of a name's bytes
pub no_name_byte : (b : ℕ) → (97 ≤ b → b ≤ 122 → ⊥) → (48 ≤ b → b ≤ 57 → ⊥) → ¬ (b ≡ 45) → ¬ NameByte b
no_name_byte b letter digit hyphen (inl h) = letter h.0 h.1
no_name_byte b letter digit hyphen (inr (inl h)) = digit h.0 h.1
no_name_byte b letter digit hyphen (inr (inr h)) = hyphen h

-- the four bytes that no field holds
abbrev pub Reserved : ℕ → Type 0
Reserved b = (b ≡ 10) ⊎ ((b ≡ 13) ⊎ ((b ≡ 34) ⊎ (b ≡ 44)))

pub reserved_no_field : (b : ℕ) → Reserved b → ¬ FieldByte b
reserved_no_field b (inl e) f = f.no_lf e
reserved_no_field b (inr (inl e)) f = f.no_cr e
reserved_no_field b (inr (inr (inl e))) f = f.no_quote e
reserved_no_field b (inr (inr (inr e))) f = f.no_comma e

pub field_byte : (b : ℕ) → ¬ Reserved b → FieldByte b
field_byte b n =
    record { no_comma = λ e. n (inr (inr (inr e))); no_quote = λ e. n (inr (inr (inl e))); no_cr = λ e. n (inr (inl e)); no_lf = λ e. n (inl e) }

-- what a search for the first byte that has not P answers
abbrev pub Searched : (ℕ → Type 0) → List ℕ → Option ℕ → Type 0
Searched P text r = MatchOption r (AllWithin P text 0 (length text)) (λ i. (i < length text) × HoldsAt (λ b. ¬ P b) text i × AllWithin P text 0 i)

all_front : (P : ℕ → Type 0) (text : List ℕ) (u : ℕ) → u ≤ length text → AllWithin P text 0 u → All P (take u text)
all_front P text zero h a = tt
all_front P [] (suc u) h a = absurd (not-suc-le-zero h)
all_front P (b ∷ text) (suc u) h a = (a 0 b (omega arith) (omega arith), all_front P text u (omega arith) (λ k d l m. a (suc k) d (omega arith) (omega arith)))

-- it ends the run, or the run is the whole text
pub run_to : {P : ℕ → Type 0} {text : List ℕ} (r : Option ℕ) → Searched P text r → Run P text (unwrap_or r (length text))
run_to {text = text} None s = record { within = omega arith; each = all_front _ text (length text) (omega arith) s; stops = λ h. absurd (omega arith) }
run_to {text = text} (Some u) s = record { within = omega (arith, s.0); each = all_front _ text u (omega (arith, s.0)) s.2; stops = λ h. s.1 0 }

-- what follows a run does not go on with it
pub stops_there : {P : ℕ → Type 0} (text : List ℕ) (u : ℕ) → Run P text u → Stops P (drop u text)
stops_there {P} text u r = go (dec_lt u (length text))
  where
    go : Dec (u < length text) → Stops P (drop u text)
    go (yes h) = rw (drop-cons text u 0 h) (r.stops h)
    go (no n) = rw (drop_of_length-le text {i = u} (omega arith)) tt

-- a field with Q in front of a byte a can only be the first u bytes
abbrev pub Splits : (List ℕ → Type 0) → ℕ → List ℕ → ℕ → Type 0
Splits Q a text u = (bs s : List ℕ) → Q bs → text ≡ bs ++ (a ∷ s) → (take u text ≡ bs) × (drop u text ≡ a ∷ s)

pub run_splits : {P : ℕ → Type 0} (a : ℕ) {text : List ℕ} {u : ℕ} → ¬ P a → Run P text u → Splits (All P) a text u
run_splits {P} a {text} {u} n r bs s p e =
    run_stops P (take u text) bs (drop u text) (a ∷ s) r.each p (stops_there text u r) n (take-append-drop u text ∙ e)

pub name_splits : {text : List ℕ} {u : ℕ} → Run NameByte text u → Splits Name 44 text u
name_splits r bs s q e = run_splits 44 comma_no_name r bs s q.plain e

-- where the run is followed by no such byte, there is no such field
pub none_at_end : {Q : List ℕ → Type 0} {a : ℕ} {text : List ℕ} → Splits Q a text (length text) → NoField Q a text
none_at_end {text = text} f bs s q e = nil≢cons (sym (drop_of_length-le text {i = length text} (omega arith)) ∙ (f bs s q e).1)

pub none_before : {Q : List ℕ → Type 0} {a : ℕ} {text : List ℕ} {u : ℕ} → Splits Q a text u → u < length text → ¬ (get_or text u 0 ≡ a) → NoField Q a text
none_before {text = text} {u = u} f h n bs s q e = n (head-eq_of_cons-eq (sym (drop-cons text u 0 h) ∙ (f bs s q e).1))

-- where the run has not Q, there is none either
pub none_such : {Q : List ℕ → Type 0} {a : ℕ} {text : List ℕ} (u : ℕ) → Splits Q a text u → ¬ Q (take u text) → NoField Q a text
none_such u f n bs s q e = n (rw (f bs s q e).0 q)

-- what stands in front of the byte is found
pub found_there : {Q : List ℕ → Type 0} {a : ℕ} {text : List ℕ} {u : ℕ} → u < length text → get_or text u 0 ≡ a → Q (take u text) → FieldFound Q a text u
found_there {Q} {a} {text} {u} h e q =
    record {
      bs = take u text;
      rest = drop (suc u) text;
      is = q;
      whole = sym (take-append-drop u text) ∙ ap (λ (t : List ℕ). take u text ++ t) (drop-cons text u 0 h ∙ ap (λ (b : ℕ). b ∷ drop (suc u) text) e);
      size = sym (length-take-le u text (omega arith));
    }

-- a run of name bytes in front of a comma, of a name's length
pub name_there : {text : List ℕ} {u : ℕ} → Run NameByte text u → ¬ (u ≡ 0) → u ≤ 32 → u < length text → get_or text u 0 ≡ 44 → FieldFound Name 44 text u
name_there {text} {u} r filled short h e = found_there h e (record { filled = omega (arith, size); short = omega (arith, size); plain = r.each })
  where
    size : length (take u text) ≡ u
    size = length-take-le u text (omega arith)

-- or of another
pub name_too_long : {text : List ℕ} {u : ℕ} → Run NameByte text u → 32 < u → NoField Name 44 text
name_too_long {text} {u} r h = none_such u (name_splits r) (λ q. omega (arith, q.short, length-take-le u text r.within))

pub name_empty : {text : List ℕ} {u : ℕ} → Run NameByte text u → u ≡ 0 → NoField Name 44 text
name_empty {text} {u} r z = none_such u (name_splits r) (λ q. omega (arith, q.filled, length-take-le u text r.within))

-- a field with Q in front of a byte a, of u bytes with that byte, and what follows
pub record Has (Q : List ℕ → Type 0) (a : ℕ) (text : List ℕ) (u : ℕ) : Type 0 where
  pub bs : List ℕ
  pub is : Q bs
  pub whole : text ≡ bs ++ (a ∷ drop u text)
  pub size : length bs + 1 ≡ u
  pub within : u ≤ length text

drop_past : (bs : List ℕ) (a : ℕ) (s : List ℕ) → drop (length bs + 1) (bs ++ (a ∷ s)) ≡ s
drop_past bs a s = drop-append-add bs (a ∷ s) 1

has_in : {Q : List ℕ → Type 0} {a : ℕ} {text : List ℕ} {u : ℕ} (bs s : List ℕ) → Q bs → text ≡ bs ++ (a ∷ s) → length bs + 1 ≡ u → Has Q a text u
has_in {a = a} {text = text} {u = u} bs s q e f =
    record { bs = bs; is = q; whole = e ∙ ap (λ (t : List ℕ). bs ++ (a ∷ t)) (sym rest); size = f; within = omega (arith, ap length e ∙ length-append bs (a ∷ s)) }
  where
    rest : drop u text ≡ s
    rest = rw (e, ← f) (drop_past bs a s)

pub has_name : {text : List ℕ} {u : ℕ} → FieldFound Name 44 text u → Has Name 44 text (u + 1)
has_name f = has_in f.bs f.rest f.is f.whole (omega (arith, f.size))

-- a number n in front of a sign
abbrev pub Writes : ℕ → List ℕ → Type 0
Writes n bs = Numeral bs n

pub has_number : {a n : ℕ} {text : List ℕ} {u : ℕ} → Begins (Ended a n) text u → Has (Writes n) a text u
has_number {a} {n} {text} {u} b =
    has_in b.holds.digits (drop u text) b.holds.numeral
    (sym (take-append-drop u text) ∙ ap (λ (t : List ℕ). t ++ drop u text) b.holds.whole ∙ append_assoc b.holds.digits (a ∷ []) (drop u text))
    (omega (arith, sym (length-take-le u text b.within) ∙ ap length b.holds.whole ∙ length-append b.holds.digits (a ∷ [])))

pub no_number : {a : ℕ} {text : List ℕ} → ((n : ℕ) → Never (Ended a n) text) → NoField Number a text
no_number {a} {text} never bs s q e =
    never (value bs) (length bs + 1)
    (record {
      within = omega (arith, ap length e ∙ length-append bs (a ∷ s));
      holds = record { digits = bs; numeral = q; whole = rw e (take_past bs) };
    })
  where
    take_past : (l : List ℕ) → take (length l + 1) (l ++ (a ∷ s)) ≡ l ++ (a ∷ [])
    take_past [] = refl
    take_past (b ∷ l) = simp unary_clauses (ap (λ (t : List ℕ). b ∷ t) (simp unary_clauses at (take_past l)))

-- a number's bytes as such, and what they are worth
pub number_is : {n : ℕ} {bs : List ℕ} → Writes n bs → Number bs
number_is w = rw w.worth w

-- the field is fixed by the text, where a byte of its kind is never a
after_field : {Q R : List ℕ → Type 0} (K : ℕ → Type 0) {a : ℕ} {text : List ℕ} {u : ℕ} → ((bs : List ℕ) → Q bs → All K bs) → ((bs : List ℕ) → R bs → All K bs) → ¬ K a
    → Has Q a text u → {bs s : List ℕ} → R bs → text ≡ bs ++ (a ∷ s) → drop u text ≡ s
after_field K {a} {text} {u} kind other_kind other h {bs} {s} q e =
    tail-eq_of_cons-eq (run_ends K h.bs bs (kind h.bs h.is) (other_kind bs q) other other (sym h.whole ∙ e)).1

pub after_name : {text : List ℕ} {u : ℕ} → Has Name 44 text u → {bs s : List ℕ} → Name bs → text ≡ bs ++ (44 ∷ s) → drop u text ≡ s
after_name h q e = after_field {R = Name} NameByte (λ bs n. n.plain) (λ bs n. n.plain) comma_no_name h q e

pub after_number : {a n : ℕ} {text : List ℕ} {u : ℕ} → ¬ Digit a → Has (Writes n) a text u → {bs s : List ℕ} → Number bs → text ≡ bs ++ (a ∷ s) → drop u text ≡ s
after_number other h q e = after_field {R = Number} Digit (λ bs n. n.digits) (λ bs n. n.digits) other h q e

-- Words: what a comparison with a word tells, and what follows a word that a text begins with, such as the header.
use mathlib.Core.Path.{◌≡◌, refl, sym, ap, ◌∙◌}
use mathlib.Core.Bool.{Bool, true, false}
use mathlib.Core.List.{List}
use Prim.Native.Nat.{ℕ, ◌≤◌}
use native.Mathlib.Omega.{arith}
use lib.ListN.{length, drop, length-append}
use lib.Seq.{drop_at}
use Rattle.std.specs.List.{starts_with}
use Rattle.std.specs.Prelude.{nat_eq}
use Rattle.std.proofs.lemmas.Bool.{false≢true}
use Rattle.std.proofs.lemmas.Bool.Decides.{Decides-eqb}
use Rattle.std.proofs.lemmas.Slice.Eq.{starts_is}
use Rattle.csv_text.specs.Layout.{header}
use Rattle.csv_text.specs.Reader.{Begins, AtEnd, Headed}

-- what a comparison with the front of a text tells
pub started : {text : List ℕ} (word : List ℕ) {r : Bool} → r ≡ starts_with nat_eq text word → r ≡ true → Begins word text
started {text} word e t = (drop (length word) text, (starts_is Decides-eqb text word _ e).0 t)

pub not_started : {text : List ℕ} (word : List ℕ) {r : Bool} → r ≡ starts_with nat_eq text word → r ≡ false → ¬ Begins word text
not_started {text} word e f b = false≢true (sym f ∙ (starts_is Decides-eqb text word _ e).1 b.0 b.1)

-- what follows the word
pub after_word : (word : List ℕ) {text : List ℕ} {n : ℕ} (b : Begins word text) → length word ≡ n → b.0 ≡ drop n text
after_word word {text} {n} b e = sym (ap (λ (l : List ℕ). drop n l) b.1 ∙ drop_at word b.0 n e)

pub word_within : (word : List ℕ) {text : List ℕ} → Begins word text → length word ≤ length text
word_within word {text} b = omega (arith, ap length b.1 ∙ length-append word b.0)

-- the header, and what follows it
pub headed_yes : {text : List ℕ} → Begins header text → AtEnd (drop 39 text) → Headed text
headed_yes b e = (b.0, rw (after_word header b refl) e, b.1)

pub headed_end : {text : List ℕ} → Headed text → AtEnd (drop 39 text)
headed_end h = rw (← (after_word header (h.0, h.2) refl)) h.1

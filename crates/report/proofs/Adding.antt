-- Bytes put one behind the other are put together.
use mathlib.Core.Path.{◌≡◌, refl, sym, ap, ◌∙◌}
use mathlib.Core.List.{List, [], ◌++◌, append_assoc}
use Prim.Native.Nat.{ℕ, ◌+◌, ◌≤◌}
use native.Mathlib.Nat.{add-zero}
use native.Mathlib.Omega.{arith}
use lib.ListN.{length, take, drop, length-append, take-append-drop, length-drop}
use lib.Seq.{length-take-le}
use Rattle.csv_text.proofs.Rows.{row_behind}
use Rattle.report.specs.declared.put.Output.{Output}
use Rattle.report.specs.Adding.{Adds}

-- nothing is put
pub adds_none : (o : Output) → Adds o [] o
adds_none o =
    record {
      same_buffer = refl;
      counted = omega arith;
      written = sym (take-append-drop o.filled o.bytes.now) ∙ ap (λ (k : ℕ). take o.filled o.bytes.now ++ drop k o.bytes.now) (sym (add-zero o.filled));
    }

module _ {o : Output} {a : List ℕ} {m : Output} (room : o.filled ≤ length o.bytes.now) (f : Adds o a m) where
  front : length (take o.filled o.bytes.now ++ a) ≡ m.filled
  front = length-append (take o.filled o.bytes.now) a ∙ omega (arith, length-take-le o.filled o.bytes.now room, f.counted)

  opened : m.bytes.now ≡ (take o.filled o.bytes.now ++ a) ++ drop m.filled o.bytes.now
  opened =
      f.written
      ∙ ap (λ (k : ℕ). take o.filled o.bytes.now ++ (a ++ drop k o.bytes.now)) (sym f.counted)
      ∙ sym (append_assoc (take o.filled o.bytes.now) a (drop m.filled o.bytes.now))

  pub adds_both : {b : List ℕ} {n : Output} → Adds m b n → Adds o (a ++ b) n
  adds_both {b} {n} g =
      record {
        same_buffer = g.same_buffer ∙ f.same_buffer;
        counted = sum;
        written =
            g.written
            ∙ row_behind (take o.filled o.bytes.now ++ a) o.bytes.now b m.filled front opened
            ∙ ap (λ (k : ℕ). ((take o.filled o.bytes.now ++ a) ++ b) ++ drop k o.bytes.now) (sym g.counted ∙ sum)
            ∙ ap (λ (l : List ℕ). l ++ drop (o.filled + length (a ++ b)) o.bytes.now) (append_assoc (take o.filled o.bytes.now) a b)
            ∙ append_assoc (take o.filled o.bytes.now) (a ++ b) (drop (o.filled + length (a ++ b)) o.bytes.now);
      }
    where
      sum : n.filled ≡ o.filled + length (a ++ b)
      sum = omega (arith, f.counted, g.counted, length-append a b)

  -- the buffer keeps its length
  pub adds_length : m.filled ≤ length o.bytes.now → length m.bytes.now ≡ length o.bytes.now
  adds_length within =
      ap length opened ∙ length-append (take o.filled o.bytes.now ++ a) (drop m.filled o.bytes.now) ∙ omega (arith, front, length-drop m.filled o.bytes.now)

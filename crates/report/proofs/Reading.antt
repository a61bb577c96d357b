-- What read's answer says of the output: a refusal is printed, and tables that were filled are those of the text's lines.
use mathlib.Core.Path.{◌≡◌, sym, ap, ◌∙◌}
use mathlib.Core.List.{List, [], ◌∷◌, ◌++◌}
use Prim.Native.Nat.{ℕ, ◌+◌, ◌*◌, ◌/◌}
use native.Mathlib.Omega.{arith}
use lib.ListN.{length, take, drop, replicate, length-append}
use lib.Seq.{take_at}
use Rattle.std.proofs.Common.{Result, Ok, Err}
use Rattle.basis.specs.declared.Refusal.{Refusal}
use Rattle.basis.specs.Rows.{number_of as refusal_number}
use Rattle.catalogue.specs.Tables.{lent}
use Rattle.csv_text.specs.declared.Sheet.{Sheet}
use Rattle.csv_text.specs.Filling.{over}
use Rattle.csv_text.specs.Says.{entry_count, slot_count, entry_table, slot_table}
use Rattle.csv_text.specs.Reading.{Reads, refused, read}
use Rattle.csv_text.proofs.Tables.{entry_table_length, slot_table_length}
use Rattle.csv_text.proofs.Accepted.{Accepted, read_accepted}
use Rattle.report.specs.declared.put.Output.{Output}
use Rattle.report.specs.Output.{settings, lent_by, refusing, unread, Printed}
use Rattle.report.specs.Adding.{Adds}
use Rattle.report.specs.Telling.{Empty, Listable, PrintedIn}

-- as many slots as the table has rows of four
pub wanted : {text entries slots : List ℕ} {o : Output} (g : Listable text entries slots o) → length slots / 4 ≡ slot_count g.lines
wanted g = omega (arith, ap length g.slotted ∙ slot_table_length g.lines)

-- what is lent then is what the lines say
pub lends : {text entries slots : List ℕ} {o : Output} (g : Listable text entries slots o) → lent entries slots text settings (0 ∷ 1 ∷ 2 ∷ []) ≡ lent_by text g.lines
unfolding lent_by
lends g = cc (g.entered, g.slotted)

module _ {text : List ℕ} {a : Result Sheet Refusal} {entries slots : List ℕ} (r : Reads text (replicate 320 0) (replicate 1024 0) a entries slots) where
  pub read_refused : {f : Refusal} {o o' : Output} → a ≡ Err f → Adds o (refusing (refusal_number f)) o' → PrintedIn text o o'
  read_refused {f} {o} {o'} e put = go r
    where
      go : Reads text (replicate 320 0) (replicate 1024 0) a entries slots → PrintedIn text o o'
      go (refused {r = g} rows h i j) =
          let same : g ≡ f = cc in
          record { out = refusing (refusal_number f); prints = unread (refusal_number g) rows (ap (λ (q : Refusal). refusing (refusal_number q)) (sym same)); put = put }
      go (read none l h i j) = let z : ◌≡◌ {A = ℕ} 0 1 = cc in absurd (omega arith)

  module _ {s : Sheet} (e : a ≡ Ok s) where
    pub accepted : Accepted text s.entries s.slots (take (5 * s.entries) entries) (take (4 * s.slots) slots)
    accepted = read_accepted (rw e at r)

    pub listable : {o : Output} → Empty o → Listable text (take (5 * s.entries) entries) (take (4 * s.slots) slots) o
    listable {o} empty = go r
      where
        go : Reads text (replicate 320 0) (replicate 1024 0) a entries slots → Listable text (take (5 * s.entries) entries) (take (4 * s.slots) slots) o
        go (refused g h i j) = let z : ◌≡◌ {A = ℕ} 0 1 = cc in absurd (omega arith)
        go (read {lines = lines} none l h i j) =
            let declared : entry_count lines ≡ s.entries = cc in
            let needed : slot_count lines ≡ s.slots = cc in
            record {
              lines = lines;
              accepted = none;
              limited = record { lays = l; few_entries = omega (arith, accepted.few_entries); few_slots = omega (arith, accepted.few_slots) };
              entered = rw (i, ← declared) (take_at (entry_table lines) (drop (5 * entry_count lines) (replicate 320 0)) (5 * entry_count lines) (entry_table_length lines));
              slotted = rw (j, ← needed) (take_at (slot_table lines) (drop (4 * slot_count lines) (replicate 1024 0)) (4 * slot_count lines) (slot_table_length lines));
              empty = empty;
            }

-- what is put into an empty output is printed
pub printed : {text : List ℕ} {o o' : Output} → o.filled ≡ 0 → PrintedIn text o o' → Printed text o.bytes.now o'.filled o'.bytes.now
printed {text} {o} {o'} z p =
    record { out = p.out; prints = p.prints; counted = size; within = omega (arith, size, ap length whole ∙ length-append p.out (drop o'.filled o.bytes.now)); written = whole }
  where
    size : o'.filled ≡ length p.out
    size = omega (arith, p.put.counted, z)

    whole : o'.bytes.now ≡ p.out ++ drop o'.filled o.bytes.now
    whole =
        let end : 0 + length p.out ≡ o'.filled = omega (arith, size) in
        p.put.written ∙ ap (λ (n : ℕ). over o.bytes.now n p.out) z ∙ ap (λ (n : ℕ). p.out ++ drop n o.bytes.now) end

-- The example's output is what is printed for its input, by what the P table says of that input.
use mathlib.Core.List.{List}
use mathlib.Core.Logic.{inl}
use mathlib.Core.Path.{refl}
use Prim.Native.Nat.{ℕ}
use lib.ListN.{replicate, length-replicate}
use Rattle.std.specs.Prelude.{Ok}
use Rattle.basis.specs.Rows.{GivesNone}
use Rattle.catalogue.specs.Gives.{cargo}
use Rattle.lister.proofs.Asked.{ask_none}
use Rattle.csv_text.specs.declared.Sheet.{Sheet}
use Rattle.csv_text.specs.Reading.{rows, Reads, refused, read}
use Rattle.report.specs.Output.{lent_by, listed}
use Rattle.pacsolve.specs.Listing.{from_the_start}
use Rattle.demands.specs.Bench.{box_text, box_lines, box}
use Rattle.demands.specs.Program.{box_output, PaperPrinted}
use Rattle.demands.proofs.Input.{the_input}

-- a text that is read is not refused
unrefused : {text entries slots : List ℕ} {sheet : Sheet} {entries' slots' : List ℕ} → Reads text entries slots (Ok sheet) entries' slots' → GivesNone (rows text entries slots)
unrefused (read none l e a b) = none
unrefused (refused g e a b) = absurd (cc)

pub paper_printed : PaperPrinted
unfolding box_text box_lines box box_output lent_by
paper_printed =
    let plans = the_input.plans in
    let some = ask_none (box cargo) 5 from_the_start plans.unrefused tt (λ none. none _ (plans.listing.good _ (inl refl)) tt) in
    let read = the_input.read (replicate 320 0) (replicate 1024 0) (length-replicate {A = ℕ} 320 0) (length-replicate {A = ℕ} 1024 0) in
    listed box_lines _ (unrefused read) the_input.lays some plans.listing refl

-- `csv_text::read` meets its contract: each refusal in its order, by what the first pass counted, and the success, by what the second filled.
use mathlib.Core.Logic.{inl, inr, ⊎_elim}
use Rattle.csv_text.proofs.Answers.{wrong_size, outside_layout, no_entries, many_slots, fillable, all_read}
use Rattle.csv_text.proofs.read.Goals as goal

pub returns-then-entries-ne320 : goal.returns-then-entries-ne320
returns-then-entries-ne320 c = wrong_size _ _ _ (⊎_elim inl (λ w. inr w.1) c.then-entries-ne320.either)

pub returns-in_default : goal.returns-in_default
returns-in_default c = outside_layout _ _ _ c.if-entries-ne320.false c.if-slots-ne1024.false c.in_default.ensures

pub returns-then-counted-eq0 : goal.returns-then-counted-eq0
returns-then-counted-eq0 c = no_entries _ _ _ c.if-entries-ne320.false c.if-slots-ne1024.false c.in-Some.ensures (⊎_elim inl (λ w. inr w.1) c.then-counted-eq0.either)

pub returns-then-counted-gt256 : goal.returns-then-counted-gt256
returns-then-counted-gt256 c =
    many_slots _ _ _ c.if-entries-ne320.false c.if-slots-ne1024.false c.in-Some.ensures c.if-counted-eq0.false c.if-counted-gt64.false c.if-counted-gt256.true

pub tables-requires : goal.tables-requires
tables-requires c =
    fillable _ _ _ c.if-entries-ne320.false c.if-slots-ne1024.false c.in-Some.ensures c.if-counted-eq0.false c.if-counted-gt64.false c.if-counted-gt256.false

pub returns : goal.returns
returns c =
    all_read _ _ _ c.if-entries-ne320.false c.if-slots-ne1024.false c.in-Some.ensures c.if-counted-eq0.false c.if-counted-gt64.false c.if-counted-gt256.false
    c.tables.ensures

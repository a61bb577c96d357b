-- `csv_text::field::name` meets its contract: the run of name bytes is a name of at most 32 bytes in front of a comma, or there is none.
use Rattle.std.proofs.Common.{rules, tests}
use Rattle.std.specs.Option.{unwrap_or}
use Rattle.std.proofs.lemmas.Iterator.{IsFirst-from_position, YieldsList-from_slice}
use native.Mathlib.Omega.{arith}
use lib.ListN.{length}
use Rattle.csv_text.specs.Layout.{NameByte}
use Rattle.csv_text.specs.Reader.{Run}
use Rattle.csv_text.proofs.Fields.{run_to, none_at_end, none_before, name_splits, name_too_long, name_empty, name_there}
use Rattle.csv_text.proofs.field.name.Goals.{After-position, then-used-eq0-via-then-used-eq0, then-used-eq0-via-else-used-eq0+then-used-gt32, then-used-eq0-via-else-used-eq0+else-used-gt32+then-rest-used-ne44}
use Rattle.csv_text.proofs.field.name.Goals as goal

-- the run of name bytes that was found
run : (c : After-position) → Run NameByte c.args.rest.now (unwrap_or c.position.result (length c.args.rest.now))
run c =
    run_to c.position.result
    (IsFirst-from_position _ _ _ (λ b. ¬ NameByte b) NameByte c.position.ensures.ran (YieldsList-from_slice c.args.rest.now cc)
    (λ x q k. search (rules, tests)) (λ x q k. search (rules, tests)))

pub returns-in_err-used : goal.returns-in_err-used
returns-in_err-used c =
    rw c.from_residual.ensures (none_at_end (name_splits (rw c.in_err-used.was at (run (goal.at.returns-in_err-used c).After-position))))

pub returns-then-used-eq0 : goal.returns-then-used-eq0
returns-then-used-eq0 c =
    elim c.then-used-eq0.branch [
      | then-used-eq0-via-then-used-eq0 w ↦ name_empty found w.if-used-eq0.true
      | then-used-eq0-via-else-used-eq0+then-used-gt32 w ↦ name_too_long found w.if-used-gt32.true
      | then-used-eq0-via-else-used-eq0+else-used-gt32+then-rest-used-ne44 w ↦ none_before (name_splits found) (omega (arith, c.in_ok-used.ensures.bound, c.iter.ensures.len)) w.if-rest-used-ne44.true
    ]
  where
    found : Run NameByte c.args.rest.now c.in_ok-used.used
    found = rw c.in_ok-used.was at (run (goal.at.returns-then-used-eq0 c).After-position)

pub returns : goal.returns
returns c =
    name_there (rw c.in_ok-used.was at (run (goal.at.returns c).After-position)) c.if-used-eq0.false c.if-used-gt32.false (omega (arith, c.in_ok-used.ensures.bound, c.iter.ensures.len)) c.if-rest-used-ne44.false

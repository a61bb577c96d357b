-- `csv_text::field::plain_bytes` meets its contract: the first byte of another kind ends the run.
use Rattle.std.proofs.Common.{rules, tests}
use Rattle.std.proofs.lemmas.Iterator.{IsFirst-from_position, YieldsList-from_slice}
use Rattle.csv_text.specs.Layout.{FieldByte}
use Rattle.csv_text.proofs.Fields.{run_to}
use Rattle.csv_text.proofs.field.plain_bytes.Goals as goal

pub returns : goal.returns
returns c =
    rw c.unwrap_or.ensures
    (run_to c.position.result
    (IsFirst-from_position _ _ _ (λ b. ¬ FieldByte b) FieldByte c.position.ensures.ran (YieldsList-from_slice c.args.rest.now cc)
    (λ x q k. search (rules, tests)) (λ x q k. search (rules, tests))))

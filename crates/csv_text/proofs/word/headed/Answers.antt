-- `csv_text::word::headed` meets its contract: the header stands in front, and a record may end behind it.
use Rattle.constraint.proofs.Texts.{part_from}
use Rattle.csv_text.specs.Layout.{header}
use Rattle.csv_text.proofs.Words.{started, headed_yes, headed_end}
use Rattle.csv_text.proofs.word.headed.Goals as goal

pub returns-then-starts_with : goal.returns-then-starts_with
returns-then-starts_with c =
    record {
      sure = λ t. headed_yes (started header c.starts_with.ensures.value c.if-starts_with.true) (rw part_from at (c.at_end.ensures.sure t));
      full = λ h. c.at_end.ensures.full (rw part_from (headed_end h));
    }

-- `constraint::range::span` meets its contract, by the law of each bound's range.
use Rattle.constraint.proofs.Packed.{spans_caret}
use Rattle.constraint.proofs.range.span.Goals as goal

pub returns-in-Caret : goal.returns-in-Caret
returns-in-Caret c =
    rw (c.in-Caret.is, c.pack-at.ensures) (spans_caret _ _ c.last_of.ensures)

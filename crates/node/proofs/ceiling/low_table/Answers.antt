-- `node::ceiling::low_table` meets its contract.
use borrow.Author.Rules.{rules}
use Rattle.node.proofs.ceiling.low_table.Goals as goal

pub returns : goal.returns
returns c = record { low = λ s l. let h = c.tabled.ensures s l in search rules }

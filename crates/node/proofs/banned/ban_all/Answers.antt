-- `node::banned::ban_all` meets its contract.
use Rattle.node.proofs.Banning.{joined_none, joined_some}
use Rattle.node.proofs.banned.ban_all.Goals as goal

pub returns-then-node-ban-ne0 : goal.returns-then-node-ban-ne0
returns-then-node-ban-ne0 c = joined_none _ _ _ c.if-node-ban-ne0.true

pub returns : goal.returns
returns c = joined_some _ _ _ c.if-node-ban-ne0.false

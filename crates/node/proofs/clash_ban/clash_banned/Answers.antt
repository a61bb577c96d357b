-- `node::clash_ban::clash_banned` meets its contract.
use Rattle.node.proofs.Banning.{settled_banned}
use Rattle.node.proofs.ClashBanning.{clash_unused}
use Rattle.node.proofs.Left.{gained_none}
use Rattle.node.proofs.clash_ban.clash_banned.Goals as goal

pub returns : goal.returns
returns c entries slots objectives fits choices settings clashes =
    settled_banned _ c.ban_all.ensures gained_none (λ P g i. (clash_unused _ clashes.only c.with_clashes-out.ensures P g i, i.names))

-- `node::within_reach::within_reach` meets its contract. What is banned is in no plan, and the choices are left as they are.
use Rattle.node.proofs.Banning.{settled_banned}
use Rattle.node.proofs.Left.{gained_none}
use Rattle.node.proofs.Reaching.{out_unused}
use Rattle.node.proofs.Slotted.{tabled_slotted}
use Rattle.node.proofs.within_reach.within_reach.Goals as goal

pub returns : goal.returns
returns c entries slots objectives fits settings spans root =
    settled_banned _ c.ban_all.ensures gained_none
    (λ P g i. (out_unused _ (tabled_slotted entries slots settings objectives fits) root (c.out_of_reach-out.ensures slots spans) P g i, i.names))

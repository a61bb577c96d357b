-- `node::grounded::grounded` meets its contract. What is banned is in no plan, and the choices are left as they are.
use Rattle.node.proofs.Banning.{settled_banned}
use Rattle.node.proofs.Grounding.{hangs_unused}
use Rattle.node.proofs.Left.{gained_none}
use Rattle.node.proofs.Slotted.{tabled_slotted}
use Rattle.node.proofs.grounded.grounded.Goals as goal

pub returns : goal.returns
returns c entries slots objectives fits spans =
    settled_banned _ c.ban_all.ensures gained_none
    (λ P g i. (hangs_unused _ (tabled_slotted entries slots c.args.settings objectives fits) spans c.if-settings-ne0.false c.ungrounded-out.ensures P g i, i.names))

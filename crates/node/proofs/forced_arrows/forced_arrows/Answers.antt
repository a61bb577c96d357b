-- `node::forced_arrows::forced_arrows` meets its contract. What leads to itself is in no plan, and no plan names a choice that is taken away.
use Rattle.node.proofs.Arrows.{loops_unused, names_unlooped}
use Rattle.node.proofs.Banning.{settled_banned}
use Rattle.node.proofs.Slotted.{tabled_slotted}
use Rattle.node.proofs.forced_arrows.forced_arrows.Goals as goal

pub returns : goal.returns
returns c entries slots objectives fits spans =
    let slotted = tabled_slotted entries slots c.args.settings objectives fits in
    let sources = c.follow.ensures.keeps c.args.spans.now.first c.args.choices.now c.arrows-rows.ensures in
    settled_banned _ c.ban_all.ensures (record { fewer = c.unloop.ensures.fewer; sized = c.unloop.ensures.sized }) (λ P g i. (
      loops_unused _ slotted spans c.if-settings-ne0.false sources P g i c.looped-out.ensures,
      names_unlooped _ slotted spans c.if-settings-ne0.false sources P g i c.unloop.ensures,
    ))

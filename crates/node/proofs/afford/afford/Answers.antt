-- `node::afford::afford` meets its contract.
use Rattle.node.proofs.Affording.{afforded}
use Rattle.node.proofs.afford.afford.Goals as goal

pub returns : goal.returns
returns c q =
    afforded c.args.problem.now c.args.facts.now c.requires.facts q _ c.args.node c.args.choices.now c.lay-ground.ensures c.ceiling-top.ensures.over
    c.beyond_means-out.ensures c.ban_all.ensures

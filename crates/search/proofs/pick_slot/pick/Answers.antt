-- `search::pick_slot::pick` meets its contract: of the slots before `s` an open one leads, or there is nothing to do at any of them.
use Rattle.search.specs.declared.pick_slot.Standing.TheVariants.{Open, Narrow, Stuck}
use Rattle.search.proofs.Leading.{led_quiet, led_open}
use Rattle.search.proofs.Slots.{quiet, picked_at}
use Rattle.search.proofs.pick_slot.pick.Goals.{in-Fine, in-Open}
use Rattle.search.proofs.pick_slot.pick.Goals as goal

pub returns-in-Narrow : goal.returns-in-Narrow
returns-in-Narrow c = picked_at _ _ _ c.loop-s-test.true c.look_at.ensures Narrow c.in-Narrow.is (λ e. cc)

pub returns-in-Stuck : goal.returns-in-Stuck
returns-in-Stuck c = picked_at _ _ _ c.loop-s-test.true c.look_at.ensures Stuck c.in-Stuck.is (λ e. cc)

pub loop-s-preserved : goal.loop-s-preserved
loop-s-preserved c =
    elim c.match-look_at.branch [
      | in-Fine w ↦ rw w.best-is (led_quiet _ _ _ _ _ c.loop-s.invariant (quiet c.look_at.ensures w.in-Fine.is))
      | in-Open w ↦
          rw w.best-is
          (led_open _ _ _ _ _ _ _ c.loop-s.invariant (picked_at _ _ _ c.loop-s-test.true c.look_at.ensures Open w.in-Open.is (λ e. cc)) w.leading.ensures)
    ]

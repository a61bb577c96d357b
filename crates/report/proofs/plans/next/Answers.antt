-- `report::plans::next` meets its contract: the plan that comes next in the listing is shown, or there is none.
use Rattle.report.proofs.Showing.{plan_room, advances, stops}
use Rattle.report.proofs.plans.next.Goals as goal

pub all-requires : goal.all-requires
all-requires c = plan_room c.requires.showing _ c.requires.fewer

pub returns-in-Ok : goal.returns-in-Ok
returns-in-Ok c = advances c.requires c.next.ensures c.in-Ok.is c.next.auto.plan c.all.ensures

pub returns-in-Err : goal.returns-in-Err
returns-in-Err c = stops c.requires c.next.ensures c.in-Err.is

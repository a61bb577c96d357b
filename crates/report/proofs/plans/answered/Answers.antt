-- `report::plans::answered` meets its contract: a refusal of the first plan is all that is printed, and the first plan begins the listing.
use Rattle.report.proofs.Showing.{first_refused, first_known, all_printed}
use Rattle.report.proofs.plans.answered.Goals as goal

pub from_first-requires : goal.from_first-requires
from_first-requires c = first_known c.requires c.first.ensures c.in-Ok.is c.first.auto.plan

pub returns-in-Err : goal.returns-in-Err
returns-in-Err c = first_refused c.requires c.first.ensures c.in-Err.is c.refusal.ensures

pub returns-in-Ok : goal.returns-in-Ok
returns-in-Ok c = all_printed c.requires c.first.ensures c.in-Ok.is c.from_first.ensures

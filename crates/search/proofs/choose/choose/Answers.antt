-- `search::choose::choose` meets its contract: a choice that must be there is one of the choices.
use Rattle.bitset.proofs.Made.{meet_members}
use Rattle.search.proofs.choose.choose.Goals as goal

pub returns-then-met-ne0 : goal.returns-then-met-ne0
returns-then-met-ne0 c some = ((meet_members _ _ _).0 (c.lowest.ensures.some c.if-met-ne0.true).member).0

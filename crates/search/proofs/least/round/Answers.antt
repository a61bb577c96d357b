-- `search::least::round` meets its contract.
use Rattle.search.proofs.Foremost.{found_before}
use Rattle.search.proofs.least.round.Goals as goal

pub returns-in-Before : goal.returns-in-Before
returns-in-Before c = found_before _ _ _ c.requires.posed _ _ c.under.ensures _ _ c.requires.whole _ _ c.in-Before.ensures

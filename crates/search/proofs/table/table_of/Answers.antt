-- `search::table::table_of` meets its contract: the table holds for each slot what `held_in` says.
use borrow.Author.Rules.{rules}
use Prim.Native.Nat.{ℕ, ◌/◌, ◌<◌}
use lib.ListN.{length, get_or}
use Rattle.catalogue.specs.Spans.{owner_in}
use Rattle.search.specs.Picks.{Entered}
use Rattle.search.proofs.table.table_of.Goals.{After-tabled}
use Rattle.search.proofs.table.table_of.Goals as goal

entered : (c : After-tabled) (s : ℕ) → s < length c.args.slots.now / 4
    → Entered c.args.must (owner_in c.args.slots.now s) (get_or c.args.choices.now s 0) (get_or c.tabled.result s 255)
entered c s l = let h = c.tabled.ensures s l in search rules

pub returns : goal.returns
returns c =
    let at = entered (goal.at.returns c).After-tabled in
    record { due = λ s e d o. (at s d.there).due e d.owned o; other = λ s l n. (at s l).other n }

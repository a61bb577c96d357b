-- `catalogue::twice::stands_before` meets its contract: the items before place i are asked for one that is equal.
use Rattle.std.proofs.Common.{◌≡◌, get_or, arith}
use Rattle.std.proofs.lemmas.List.{get_or_read}
use Rattle.basis.proofs.Decide.{decides_by}
use Rattle.catalogue.proofs.Searches.{some_before}
use Rattle.catalogue.proofs.twice.stands_before.Goals as goal

pub returns : goal.returns
returns g c =
    let xs = c.args.items.now in
    let item = c.index-items-i.result in
    let there : (past : _) → item ≡ get_or xs c.args.i past = get_or_read xs c.args.i item c.requires c.index-items-i.is in
    rw c.contains.ensures.value
    (decides_by
    (λ x. (x.0, x.1, λ past. rw (there past) at (x.2 past)))
    (λ x. (x.0, x.1, λ past. rw (there past) (x.2 past)))
    (some_before (λ y. g.N.PartialEq.eq y item) xs c.args.i (omega (arith, c.requires))))

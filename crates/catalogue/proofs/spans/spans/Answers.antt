-- `catalogue::spans::spans` meets its contract: the spans of the entries before `e` are stored, as far as owners never fall.
use Rattle.std.proofs.Common.{arith, rules}
use Rattle.catalogue.proofs.Searches.{zero_at}
use Rattle.catalogue.proofs.Spanned.{spans_none, spans_more, stored_within}
use Rattle.catalogue.proofs.spans.spans.Goals as goal

pub loop-e-init : goal.loop-e-init
loop-e-init c = (search rules, search rules, λ d. omega (arith, zero_at 65 d), λ rising. spans_none _)

pub loop-e-preserved : goal.loop-e-preserved
loop-e-preserved c = (
  search rules,
  c.past-at.ensures.high,
  stored_within _ _ _ _ (omega arith) c.loop-e.invariant.2 c.past-at.ensures.high,
  λ rising. spans_more rising (omega arith) c.loop-e.invariant.0 (c.loop-e.invariant.3 rising) c.past-at.ensures,
)

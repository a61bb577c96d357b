-- `catalogue::spans::spans` meets its contract. The loop's invariant: the spans of the entries before `e` are stored, as far as owners never fall.
use Rattle.std.proofs.Common.{◌≡◌, ℕ, ◌/◌, ◌≤◌, length, get_or}
use Rattle.catalogue.specs.Spans.{Rising}
use Rattle.catalogue.proofs.Spanned.{SpansTo}
use Rattle.catalogue.proofs.spans.spans.Given as goal

abbrev pub invariant-loop-e : goal.invariant-loop-e
invariant-loop-e l =
    (length l.start-items ≡ 65)
    × (l.at ≤ length l.slots / 4)
    × ((d : ℕ) → get_or l.start-items d 0 ≤ length l.slots / 4)
    × (Rising l.slots → SpansTo l.slots l.e l.at l.start-items)

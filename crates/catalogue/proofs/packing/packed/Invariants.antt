-- `catalogue::packing::packed` meets its contract. The loop's invariant: each entry passed has its number.
use Rattle.std.proofs.Common.{◌≡◌, ℕ, ◌<◌, length, get_or}
use Rattle.catalogue.proofs.packing.packed.Given as goal

abbrev pub invariant-loop-e : goal.invariant-loop-e
invariant-loop-e g l = (length l.numbers ≡ 64) × ((k : ℕ) → k < l.e → goal.F-post g l.number_of k (get_or l.numbers k 0))

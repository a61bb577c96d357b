-- `node::tables::tabled` meets its contract: the slots before `s` hold what `value` says of them.
use mathlib.Core.Path.{◌≡◌}
use Prim.Native.Nat.{ℕ, ◌<◌}
use lib.ListN.{length, get_or}
use Rattle.catalogue.specs.Spans.{owner_in}
use Rattle.node.proofs.tables.tabled.Given as goal

abbrev pub invariant-loop-s : goal.invariant-loop-s
invariant-loop-s g l = record {
  sized : length l.table ≡ 256;
  each : (k : ℕ) → k < l.s → goal.F-post g l.value (owner_in l.slots k) (get_or l.choices k 0) (get_or l.table k 255);
}

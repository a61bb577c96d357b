-- `node::settle::settle_entry` meets its contract: the slots before `s` are settled.
use mathlib.Core.List.{List}
use Rattle.std.specs.Prelude.{Some}
use Prim.Native.Nat.{ℕ, ◌+◌}
use lib.ListN.{get_or}
use Rattle.node.specs.declared.Node.{Node}
use Rattle.node.specs.Settling.{SlotsOf, SettledBy}
use Rattle.node.proofs.settle.settle_entry.Given as goal

abbrev pub invariant-loop-s : goal.invariant-loop-s
invariant-loop-s l =
    (slots old : List ℕ) (before : Node) → SlotsOf slots l.e (get_or l.spans.first l.e 0) (get_or l.spans.first (l.e + 1) 0) → SettledBy slots before (Some l.initial.known) old l.initial.choices → SettledBy slots before (Some l.known) old l.choices

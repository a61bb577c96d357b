-- `node::settle::settle` meets its contract: the entries passed are settled.
use mathlib.Core.List.{List}
use Rattle.std.specs.Prelude.{Some}
use Prim.Native.Nat.{ℕ}
use Rattle.catalogue.specs.Spans.{Spans}
use Rattle.bitset.proofs.MemberWalk.{Walked}
use Rattle.node.specs.Settling.{SettledBy}
use Rattle.node.proofs.settle.settle.Given as goal

abbrev pub invariant-loop-e : goal.invariant-loop-e
invariant-loop-e l = record {
  walked : Walked l.initial.e-iterator.rest l.e-iterator.rest (λ e. Unit {0});
  settled : (slots : List ℕ) → Spans slots l.spans.first → SettledBy slots l.initial.known (Some l.known) l.initial.choices l.choices;
}

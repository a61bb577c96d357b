-- `search::walk::walk` meets its contract. The loop's invariant is `Looping`; what falls, from call to call and from turn to turn, is `remaining`.
use native.Mathlib.Omega.{arith}
use lib.Seq.{set-set}
use Rattle.node.proofs.Slotted.{tabled_slotted}
use Rattle.node.specs.Sought.{asked_of}
use Rattle.search.proofs.Falls.{remaining_fewer}
use Rattle.search.proofs.Looping.{loop_narrowed, loop_dead, loop_stuck, loop_kept, loop_forced, child_less, loop_split}
use Rattle.search.proofs.Picking.{picked_dead, picked_force, picked_split, another, some_choice}
use Rattle.search.proofs.walk.+walk.Goals as goal

pub returns : goal.returns
returns t c = loop_dead c.loop-next.invariant (c.narrow.ensures _) c.in_default.is

pub returns-in-Dead : goal.returns-in-Dead
returns-in-Dead t c =
    let x = picked_dead _ _ _ _ c.in-Dead.is c.pick.ensures in
    loop_stuck (loop_narrowed c.loop-next.invariant (c.narrow.ensures _) c.in-Some.is) _ (tabled_slotted _ _ _ _ _) x.0 x.1 x.2

pub keep-requires-clause-ready : goal.keep-requires-clause-ready
keep-requires-clause-ready t c = (loop_narrowed c.loop-next.invariant (c.narrow.ensures _) c.in-Some.is).ready

pub returns-in-Complete : goal.returns-in-Complete
returns-in-Complete t c = loop_kept (loop_narrowed c.loop-next.invariant (c.narrow.ensures _) c.in-Some.is) c.keep.ensures

pub loop-next-smaller-in-Force : goal.loop-next-smaller-in-Force
loop-next-smaller-in-Force t c =
    let f = picked_force _ _ _ _ _ c.in-Force.is c.pick.ensures in
    let x = loop_forced (loop_narrowed c.loop-next.invariant (c.narrow.ensures _) c.in-Some.is) _ (tabled_slotted _ _ _ _ _) _ f.due c.forced-at.ensures.fits _ f.only f.lacks in
    rw c.forced-at.ensures.forced (omega (arith, x.1, remaining_fewer ((c.narrow.ensures (asked_of c.args.given)).fewer _ c.in-Some.is)))

pub loop-next-preserved-in-Force : goal.loop-next-preserved-in-Force
loop-next-preserved-in-Force t c =
    let f = picked_force _ _ _ _ _ c.in-Force.is c.pick.ensures in
    rw c.forced-at.ensures.forced
    (loop_forced (loop_narrowed c.loop-next.invariant (c.narrow.ensures _) c.in-Some.is) _ (tabled_slotted _ _ _ _ _) _ f.due c.forced-at.ensures.fits _ f.only f.lacks).0

pub walk-found-requires : goal.walk-found-requires
walk-found-requires t c =
    let x = picked_split _ _ _ _ _ c.in-Split.is c.pick.ensures in
    let e = c.halve-halves.ensures.parted (some_choice _ _ _ _ x) in
    let going = loop_narrowed c.loop-next.invariant (c.narrow.ensures _) c.in-Some.is in
    let d = another _ _ _ _ x e.0 in
    let less = child_less going _ (tabled_slotted _ _ _ _ _) _ x.due c.halve-halves.ensures.fits e.1 d.0 d.1 d.2 in
    (omega (arith, less, going.falling), (going.ready, (c.requires.given_costed, c.requires.known)))

pub loop-next-smaller : goal.loop-next-smaller
loop-next-smaller t c =
    let x = picked_split _ _ _ _ _ c.in-Split.is c.pick.ensures in
    let e = c.halve-halves.ensures.parted (some_choice _ _ _ _ x) in
    let going = loop_narrowed c.loop-next.invariant (c.narrow.ensures _) c.in-Some.is in
    let next = loop_split going _ (tabled_slotted _ _ _ _ _) _ x.due c.halve-halves.ensures.fits e.1 c.walk-found.auto.plan c.walk-found.ensures in
    rw set-set (omega (arith, next.1, remaining_fewer ((c.narrow.ensures (asked_of c.args.given)).fewer _ c.in-Some.is)))

pub loop-next-preserved : goal.loop-next-preserved
loop-next-preserved t c =
    let x = picked_split _ _ _ _ _ c.in-Split.is c.pick.ensures in
    let e = c.halve-halves.ensures.parted (some_choice _ _ _ _ x) in
    let going = loop_narrowed c.loop-next.invariant (c.narrow.ensures _) c.in-Some.is in
    let next = loop_split going _ (tabled_slotted _ _ _ _ _) _ x.due c.halve-halves.ensures.fits e.1 c.walk-found.auto.plan c.walk-found.ensures in
    rw set-set next.0

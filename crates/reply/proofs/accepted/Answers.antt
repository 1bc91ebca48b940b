-- `reply::accepted` meets its contract: the elements and the header before them are the whole reply.
-- Assumes nothing.
use mathlib.Core.List.{List}
use Prim.Native.Nat.{◌≤◌}
use native.Mathlib.Omega.{arith}
use lib.ListN.{length, get_or, length-map}
use Rattle.created.specs.Groups.{Told}
use Rattle.created.specs.Entries.{max_grants, told_at, tolds_at}
use Rattle.reply.proofs.LengthLaws.{length_front}
use Rattle.reply.proofs.ReplySteps.{accepted_room, accepted_steps}
use Rattle.reply.proofs.accepted.Goals as goal

pub write_own_fseid-own-requires : goal.write_own_fseid-own-requires
write_own_fseid-own-requires c =
    let s = c in
    let a = c.args in
    let p = c.requires in
    let f = c.write_front-next in
    omega (arith, p.5, f.ensures.ends, f.auto.out, length_front c.home-at.result (get_or a.msg.now 1 0) 1)

pub write_created-end-requires : goal.write_created-end-requires
write_created-end-requires c =
    let tells : List Told = tolds_at c.args.plan.now c.args.places.now in
    let few : length tells ≤ max_grants = omega (arith, c.requires.2, length-map c.args.places.now (told_at c.args.plan.now)) in
    let s = c in
    let a = c.args in
    let p = c.requires in
    let f = c.write_front-next in
    let o = c.write_own_fseid-own in
    (p.2, p.3, p.4, omega (arith, p.5, f.ensures.ends, o.ensures.ends, f.auto.out, o.auto.out, accepted_room a.u a.peer _ c.home-at.ensures a.msg.now a.out.now p.0 p.5 tells few a.seid))

pub finish-requires : goal.finish-requires
finish-requires c =
    let tells : List Told = tolds_at c.args.plan.now c.args.places.now in
    let few : length tells ≤ max_grants = omega (arith, c.requires.2, length-map c.args.places.now (told_at c.args.plan.now)) in
    let s = c in
    let a = c.args in
    let p = c.requires in
    let f = c.write_front-next in
    let o = c.write_own_fseid-own in
    let w = c.write_created-end in (
      p.0,
      p.1,
      omega (arith, f.ensures.ends, o.ensures.ends, w.ensures.ends),
      omega (arith, f.ensures.ends, o.ensures.ends, w.ensures.ends, accepted_room a.u a.peer _ c.home-at.ensures a.msg.now a.out.now p.0 p.5 tells few a.seid),
      omega (arith, p.5, f.auto.out, o.auto.out, w.auto.out),
    )

pub returns : goal.returns
returns c =
    let tells : List Told = tolds_at c.args.plan.now c.args.places.now in
    let few : length tells ≤ max_grants = omega (arith, c.requires.2, length-map c.args.places.now (told_at c.args.plan.now)) in
    let s = c in
    let a = c.args in
    let f = c.write_front-next in
    let w = c.write_created-end in
    accepted_steps a.u a.peer _ c.home-at.ensures a.msg.now a.out.now c.requires.0 c.requires.5 tells few a.seid f.ensures c.write_own_fseid-own.ensures w.ensures f.auto.out c.finish.ensures

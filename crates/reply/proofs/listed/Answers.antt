-- `reply::listed` meets its contract: the elements and the header before them are the whole reply. Assumes nothing.
use native.Mathlib.Omega.{arith}
use Rattle.octets.proofs.Put.{length_part}
use Rattle.reply.specs.Naming.{offending_in}
use Rattle.reply.proofs.ReplySteps.{listed_steps, listed_room}
use Rattle.reply.proofs.listed.Goals as goal

pub write_offending-end-requires : goal.write_offending-end-requires
write_offending-end-requires c =
    let s = c in
    let a = c.args in
    let f = c.write_front-next in
    omega (arith, c.requires.1, f.ensures.ends, f.auto.out, listed_room a.u a.peer _ c.home-at.ensures a.msg.now a.out.now c.requires.0 c.requires.1 a.cause (offending_in a.offending))

pub write_list_header-requires : goal.write_list_header-requires
write_list_header-requires c =
    let s = c in
    let a = c.args in
    let f = c.write_front-next in
    let o = c.write_offending-end in
    let room = listed_room a.u a.peer _ c.home-at.ensures a.msg.now a.out.now c.requires.0 c.requires.1 a.cause (offending_in a.offending) in
    let long = c.requires.0.long in
    (length_part 4 3 a.msg.now (omega arith), omega (arith, f.ensures.ends, o.ensures.ends), omega (arith, c.requires.1, f.auto.out, o.auto.out))

pub returns : goal.returns
returns c = search listed_steps

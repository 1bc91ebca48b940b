-- `reply::refused` meets its contract: the elements and the header before them are the whole reply.
-- Assumes nothing.
use native.Mathlib.Omega.{arith}
use lib.ListN.{get_or}
use Rattle.reply.specs.Naming.{offending_in}
use Rattle.reply.proofs.LengthLaws.{length_front, length_offending}
use Rattle.reply.proofs.ReplySteps.{refused_steps}
use Rattle.reply.proofs.refused.Goals as goal

pub write_offending-end-requires : goal.write_offending-end-requires
write_offending-end-requires c =
    let s = c in
    let a = c.args in
    let f = c.write_front-next in
    omega (arith, c.requires.3, f.ensures.ends, f.auto.out, length_front c.home-at.result (get_or a.msg.now 1 0) a.cause)

pub finish-requires : goal.finish-requires
finish-requires c =
    let s = c in
    let a = c.args in
    let p = c.requires in
    let f = c.write_front-next in
    let o = c.write_offending-end in
    let front = length_front c.home-at.result (get_or a.msg.now 1 0) a.cause in
    let named = length_offending (offending_in a.offending) in
    (p.0, p.1, omega (arith, f.ensures.ends, o.ensures.ends), omega (arith, f.ensures.ends, o.ensures.ends, front, named), omega (arith, p.3, f.auto.out, o.auto.out))

pub returns : goal.returns
returns c = search refused_steps

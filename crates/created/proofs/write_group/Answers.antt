-- `created::write_group` meets its contract: the ID's element, what was granted, and the group's head in front of them are one element.
-- Assumes nothing.
use native.Mathlib.Omega.{arith}
use Rattle.created.proofs.GroupSteps.{length_number, group_steps}
use Rattle.created.proofs.write_group.Goals as goal

pub write_tunnel-next-requires : goal.write_tunnel-next-requires
write_tunnel-next-requires c =
    let n = c in
    let s = c in
    omega (arith, c.requires.1, c.write_number-id.auto.out, c.write_number-id.ensures.ends, length_number c.args.member c.args.width c.args.g.id)

pub write_address-end-requires : goal.write_address-end-requires
write_address-end-requires c =
    let t = c in
    let n = c in
    let s = c in
    omega (arith, c.requires.1, c.write_number-id.auto.out, c.write_number-id.ensures.ends, length_number c.args.member c.args.width c.args.g.id, c.write_tunnel-next.auto.out, c.write_tunnel-next.ensures.ends)

pub overflow_sub-end : goal.overflow_sub-end
overflow_sub-end c =
    let a = c in
    let t = c in
    omega (arith, c.write_number-id.ensures.ends, c.write_tunnel-next.ensures.ends, c.write_address-end.ensures.ends)

pub write_head-requires : goal.write_head-requires
write_head-requires c =
    let a = c in
    let t = c in
    let n = c in
    omega (arith, c.requires.1, c.write_number-id.auto.out, c.write_tunnel-next.auto.out, c.write_address-end.auto.out)

pub returns : goal.returns
returns c = search group_steps

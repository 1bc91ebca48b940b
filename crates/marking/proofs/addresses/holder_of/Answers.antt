-- `marking::addresses::holder_of` meets its contract.
-- Assumes nothing.
use Rattle.std.proofs.Common.{arith}
use Rattle.marking.proofs.AddressSteps.{holder_in, holder_out}
use Rattle.marking.proofs.addresses.holder_of.Goals as goal

pub overflow_cast-address : goal.overflow_cast-address
overflow_cast-address c = omega (arith, c.type_inv.slot c.args.at)

pub overflow_mul-address : goal.overflow_mul-address
overflow_mul-address c = omega (arith, c.requires.2)

pub overflow_add-address : goal.overflow_add-address
overflow_add-address c = omega (arith, c.requires.2, c.read.ensures.1)

pub returns-then-i-u : goal.returns-then-i-u
returns-then-i-u c =
    let start = c in
    let g = c.args in
    let read = c.read in
    let wraps = c.wrapping_sub_u64-i in
    holder_in g.u g.at g.slot.now c.requires.2 read.result read.ensures.0 (omega (arith, read.ensures.1)) c.requires.1 wraps.result wraps.ensures.value c.if-i-u.true

pub returns : goal.returns
returns c =
    let start = c in
    let g = c.args in
    let read = c.read in
    let wraps = c.wrapping_sub_u64-i in
    holder_out g.u g.at g.slot.now c.requires.2 read.result read.ensures.0 (omega (arith, read.ensures.1)) c.requires.1 wraps.result wraps.ensures.value c.if-i-u.false wraps.type_inv

-- `store::number::number_of` meets its contract. Assumes nothing.
use Rattle.std.proofs.Common.{arith}
use Rattle.store.proofs.NumberLaws.{header_least, with_seid_lem, number_with, number_without}
use Rattle.store.proofs.number.number_of.Goals as goal

pub bounds-s-0 : goal.bounds-s-0
bounds-s-0 c = omega (arith, header_least c.args.s.now)

pub read-requires : goal.read-requires
read-requires c = (omega (arith, with_seid_lem c.args.s.now c.if-s-eq1.true), omega arith)

pub returns-then-s-eq1 : goal.returns-then-s-eq1
returns-then-s-eq1 c = (number_with _ _ c.if-s-eq1.true c.read.ensures.0, c.read.ensures.1)

pub read-requires-2 : goal.read-requires-2
read-requires-2 c = (omega (arith, header_least c.args.s.now), omega arith)

pub returns : goal.returns
returns c = (number_without _ _ c.if-s-eq1.false c.read-2.ensures.0, c.read-2.ensures.1)

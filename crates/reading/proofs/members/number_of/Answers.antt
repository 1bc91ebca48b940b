-- `number_of` meets its contract. Assumes nothing.
use native.Mathlib.Omega.{arith}
use Rattle.reading.proofs.MemberLaws.{width_fits, number_source, number_other}
use Rattle.reading.proofs.members.number_of.Goals as goal

pub read-n-requires : goal.read-n-requires
read-n-requires c = let h = width_fits _ c.requires.0 in (omega arith, omega arith)

pub returns-then-kind-eq-SOURCE_INTERFACE : goal.returns-then-kind-eq-SOURCE_INTERFACE
returns-then-kind-eq-SOURCE_INTERFACE c = number_source _ _ c.requires.0 c.if-kind-eq-SOURCE_INTERFACE.true c.read-n.ensures.0

pub returns : goal.returns
returns c = number_other _ _ c.requires.0 c.if-kind-eq-SOURCE_INTERFACE.false c.read-n.ensures.0

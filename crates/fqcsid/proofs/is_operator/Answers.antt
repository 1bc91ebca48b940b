-- `fqcsid::is_operator` meets its contract, by the test at each return. Assumes nothing.
use borrow.Author.Tests.{eq-eqb, ne_eqb}
use Rattle.fqcsid.proofs.is_operator.Goals as goal

pub returns-then-id_type-eq2 : goal.returns-then-id_type-eq2
returns-then-id_type-eq2 c = rw (eq-eqb _ 2 c.if-id_type-eq2.true)

pub returns : goal.returns
returns c = rw (ne_eqb _ 2 c.if-id_type-eq2.false)

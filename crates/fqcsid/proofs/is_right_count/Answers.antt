-- `fqcsid::is_right_count` meets its contract, by the tests at each return. Assumes nothing.
use borrow.Author.Tests.{eq-eqb, ne_eqb}
use Rattle.fqcsid.proofs.is_right_count.Goals as goal

pub returns-then-id_type-eq0 : goal.returns-then-id_type-eq0
returns-then-id_type-eq0 c = rw (eq-eqb _ 0 c.if-count-eq0.true, eq-eqb _ 0 c.if-id_type-eq0.true)

pub returns-then-count-eq0 : goal.returns-then-count-eq0
returns-then-count-eq0 c = rw (eq-eqb _ 0 c.if-count-eq0.true, ne_eqb _ 0 c.if-id_type-eq0.false)

pub returns : goal.returns
returns c = rw (ne_eqb _ 0 c.if-count-eq0.false)

-- `lacks_pdr` meets its contract. Assumes nothing.
use mathlib.Core.Path.{sym}
use borrow.Author.Tests.{ne_eqb}
use Rattle.request.proofs.lacks_pdr.Goals as goal

pub returns-then-d-eq2 : goal.returns-then-d-eq2
returns-then-d-eq2 c = sym (rw c.if-d-eq2.true)

pub returns : goal.returns
returns c = sym (rw (ne_eqb _ 2 c.if-d-eq2.false))

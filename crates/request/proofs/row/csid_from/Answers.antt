-- `csid_from` meets its contract. Assumes nothing.
use mathlib.Core.Path.{sym, ◌∙◌}
use borrow.Author.Tests.{ne_eqb}
use Rattle.request.specs.Csids.{csid_taken}
use Rattle.request.proofs.row.csid_from.Goals as goal

pub returns-then-x-eq0 : goal.returns-then-x-eq0
unfolding csid_taken
returns-then-x-eq0 c = c.bare.ensures ∙ sym (rw c.if-x-eq0.true)

pub returns : goal.returns
unfolding csid_taken
returns c = sym (rw (ne_eqb _ 0 c.if-x-eq0.false))

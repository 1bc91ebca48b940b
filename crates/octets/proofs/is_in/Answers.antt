-- `octets::is_in` meets its contract: x is in what is left of the list exactly if it is in the list. Assumes nothing.
use Rattle.std.proofs.Common.{refl, sym}
use borrow.Author.Tests.{eq-eqb, ne_eqb}
use Rattle.octets.proofs.Questions.{member_nil, member_cons}
use Rattle.octets.proofs.Loops.{left_more, left_none}
use Rattle.octets.proofs.is_in.Goals as goal

pub loop-y-init : goal.loop-y-init
loop-y-init c = refl

pub returns-then-y-x : goal.returns-then-y-x
returns-then-y-x c =
    rw (← c.loop-y.invariant, left_more _ _ c.loop-y-test.true, member_cons, eq-eqb _ _ (sym c.if-y-x.true))

pub loop-y-preserved : goal.loop-y-preserved
loop-y-preserved c =
    rw (← c.loop-y.invariant, left_more _ _ c.loop-y-test.true, member_cons, ne_eqb _ _ (λ e. c.if-y-x.false (sym e)))

pub returns : goal.returns
returns c = rw (← c.loop-y.invariant, left_none _ _ c.loop-y-test.false, member_nil)

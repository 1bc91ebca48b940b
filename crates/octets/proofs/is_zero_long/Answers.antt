-- `octets::is_zero_long` meets its contract. A turn takes the next octet of each of eight parts. Assumes nothing.
use Rattle.std.proofs.Common.{◌≡◌, ◌∙◌, sym, arith}
use borrow.Author.Tests.{eq-eqb, ne_eqb}
use Rattle.octets.proofs.Bools.{and-true}
use Rattle.octets.proofs.Apart.{zero_apart, parts_none, parts_last, apart_turn, long_ends}
use Rattle.octets.proofs.is_zero_long.Goals as goal

pub loop-i-init : goal.loop-i-init
loop-i-init c = sym (parts_none 8 _ _ _)

pub loop-k-init : goal.loop-k-init
unfolding zero_apart
loop-k-init c = c.loop-i.invariant ∙ sym (and-true _)

pub loop-k-preserved : goal.loop-k-preserved
loop-k-preserved c = apart_turn c.loop-k.k _ c.args.at c.loop-i.i c.loop-k.any c.args.s.now _ c.loop-k.invariant

pub loop-i-preserved : goal.loop-i-preserved
loop-i-preserved c =
    let e : c.loop-k.k ≡ 8 = omega arith in
    rw e at c.loop-k.invariant ∙ sym (parts_last 8 _ c.args.at c.loop-i.i c.args.s.now (omega arith))

pub returns-then-any-eq0 : goal.returns-then-any-eq0
returns-then-any-eq0 c =
    let a = c.args in
    let l = c.loop-i in
    c.is_zero.ensures ∙ sym (long_ends _ a.at a.n l.i l.any a.s.now (omega arith) (omega arith) l.invariant ∙ rw (eq-eqb l.any 0 c.if-any-eq0.true))

pub returns-else-any-eq0 : goal.returns-else-any-eq0
returns-else-any-eq0 c =
    let a = c.args in
    let l = c.loop-i in
    ne_eqb l.any 0 c.if-any-eq0.false ∙ sym (long_ends _ a.at a.n l.i l.any a.s.now (omega arith) (omega arith) l.invariant ∙ rw (ne_eqb l.any 0 c.if-any-eq0.false))

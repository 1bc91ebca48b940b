-- `grants::store` meets its contract. Assumes nothing.
use Rattle.std.proofs.Common.{◌≤◌, ◌+◌, ◌∙◌, sym, ap, inl, inr, arith, length, length-set}
use lib.Dec.{leb→le}
use Rattle.octets.proofs.Tests.{all_head, all_tail}
use Rattle.plan.specs.Rows.{row_width}
use Rattle.grants.specs.Choosing.{stores}
use Rattle.grants.proofs.StoreLaws.{stores_none}
use Rattle.grants.proofs.store.Goals as goal

pub overflow_add-plan : goal.overflow_add-plan
overflow_add-plan c =
    let l = c.loop-place.invariant in
    let inside : c.in-Some.place.now + row_width ≤ length c.args.plan.now = leb→le _ _ (all_head _ _ _ (rw c.in-Some.ensures.steps.0 at l.1)) in
    omega (arith, inside)

pub offset_bounds-plan-place : goal.offset_bounds-plan-place
offset_bounds-plan-place c =
    let l = c.loop-place.invariant in
    let inside : c.in-Some.place.now + row_width ≤ length c.args.plan.now = leb→le _ _ (all_head _ _ _ (rw c.in-Some.ensures.steps.0 at l.1)) in
    omega (arith, inside)

pub bounds-plan-place : goal.bounds-plan-place
bounds-plan-place c =
    let l = c.loop-place.invariant in
    let inside : c.in-Some.place.now + row_width ≤ length c.args.plan.now = leb→le _ _ (all_head _ _ _ (rw c.in-Some.ensures.steps.0 at l.1)) in
    omega (arith, inside, l.0)

pub loop-place-preserved : goal.loop-place-preserved
unfolding stores
loop-place-preserved c =
    let l = c.loop-place.invariant in
    let s = c.in-Some.ensures.steps in
    (rw length-set l.0, all_tail _ _ _ (rw s.0 at l.1), omega (arith, ap length s.0, ap length s.1, l.2), rw (s.0, s.1) at l.3)

pub returns : goal.returns
returns c =
    let l = c.loop-place.invariant in
    let places = c.loop-place.place-iterator.a.rest.now in
    let none : length places ≤ 0 = elim c.in-None.ensures.steps [ inl w ↦ omega (arith, w.1.0) | inr w ↦ omega (arith, w.1.0, l.2) ] in
    sym (stores_none c.loop-place.plan places c.loop-place.place-iterator.b.rest.now none) ∙ l.3

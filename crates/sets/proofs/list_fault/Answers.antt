-- `sets::list_fault` meets its contract: what is left gives the same first fault. Assumes nothing.
use mathlib.Core.Path.{sym, ◌∙◌}
use native.Mathlib.Omega.{arith}
use Rattle.std.proofs.lemmas.Result.{err_from_is_err_and}
use Rattle.frame.proofs.Front.{Front, front, none_left}
use Rattle.sets.proofs.ListLaws.{lists_none_lem, lists_end, lists_stop, lists_on}
use Rattle.sets.proofs.list_fault.Goals.{In-Some}
use Rattle.sets.proofs.list_fault.Goals as goal

-- the element at the front
at_front : (c : In-Some) → Front c.loop-element.rest.now c.in-Some.element.kind c.in-Some.element.end
at_front c = front _ _ (sym c.in-Some.is ∙ c.first_of.ensures)

pub loop-element-init : goal.loop-element-init
loop-element-init c = lists_none_lem _

pub slice_bounds-element_fault-count : goal.slice_bounds-element_fault-count
slice_bounds-element_fault-count c = let f = at_front (goal.at.slice_bounds-element_fault-count c).In-Some in omega arith

pub slice_bounds-element_fault-start : goal.slice_bounds-element_fault-start
slice_bounds-element_fault-start c = let f = at_front (goal.at.slice_bounds-element_fault-start c).In-Some in omega arith

pub slice_bounds-element_fault-end : goal.slice_bounds-element_fault-end
slice_bounds-element_fault-end c = let f = at_front (goal.at.slice_bounds-element_fault-end c).In-Some in omega arith

pub returns-in_err-element_fault : goal.returns-in_err-element_fault
returns-in_err-element_fault c =
    let p = err_from_is_err_and c.from_residual.result c.from_residual.ensures.1 in
    rw (p.1, p.2) (lists_stop c.loop-element.invariant (at_front (goal.at.returns-in_err-element_fault c).In-Some) c.element_fault.ensures c.in_err-element_fault.was)

pub slice_bounds-rest-count : goal.slice_bounds-rest-count
slice_bounds-rest-count c = let f = at_front (goal.at.slice_bounds-rest-count c).In-Some in omega arith

pub slice_bounds-rest-start : goal.slice_bounds-rest-start
slice_bounds-rest-start c = let f = at_front (goal.at.slice_bounds-rest-start c).In-Some in omega arith

pub overflow_add-at : goal.overflow_add-at
overflow_add-at c =
    let f = at_front (goal.at.overflow_add-at c).In-Some in let p = c.loop-element.invariant.placed in let q = c.requires in omega arith

pub loop-element-smaller : goal.loop-element-smaller
loop-element-smaller c = (at_front (goal.at.loop-element-smaller c).In-Some).less

pub loop-element-preserved : goal.loop-element-preserved
loop-element-preserved c = lists_on c.loop-element.invariant (at_front (goal.at.loop-element-preserved c).In-Some) c.element_fault.ensures c.in_ok-element_fault.was

pub returns : goal.returns
returns c = lists_end c.loop-element.invariant (λ p. none_left p _ (sym c.in_default.is ∙ c.first_of.ensures))

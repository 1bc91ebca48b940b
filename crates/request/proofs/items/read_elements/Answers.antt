-- `read_elements` meets its contract. The invariant: what is left gives the same draft from this one as the whole from the first. Assumes nothing.
use mathlib.Core.Path.{sym, ◌∙◌}
use native.Mathlib.Omega.{arith}
use Rattle.std.proofs.lemmas.Result.{err_from_is_err_and}
use Rattle.frame.proofs.Front.{Front, front, none_left}
use Rattle.request.proofs.TurnLaws.{going_none, turn_room, turn_fits, turn_fault, turn_next, turns_end}
use Rattle.request.proofs.items.read_elements.Goals.{In-Some}
use Rattle.request.proofs.items.read_elements.Goals as goal

-- the element at the front
at_front : (c : In-Some) → Front c.loop-element.rest.now c.in-Some.element.kind c.in-Some.element.end
at_front c = front _ _ (sym c.in-Some.is ∙ c.first_of.ensures)

pub loop-element-init : goal.loop-element-init
loop-element-init c = going_none _ _ _

pub slice_bounds-v-count : goal.slice_bounds-v-count
slice_bounds-v-count c = let f = at_front (goal.at.slice_bounds-v-count c).In-Some in omega arith

pub slice_bounds-v-start : goal.slice_bounds-v-start
slice_bounds-v-start c = let f = at_front (goal.at.slice_bounds-v-start c).In-Some in omega arith

pub slice_bounds-v-end : goal.slice_bounds-v-end
slice_bounds-v-end c = let f = at_front (goal.at.slice_bounds-v-end c).In-Some in omega arith

pub read_element-requires : goal.read_element-requires
read_element-requires c =
    let f = at_front (goal.at.read_element-requires c).In-Some in
    (turn_room c.loop-element.invariant f c.requires, turn_fits c.loop-element.invariant f c.requires)

pub returns-in_err-d : goal.returns-in_err-d
returns-in_err-d c =
    let p = err_from_is_err_and c.from_residual.result c.from_residual.ensures.1 in
    rw (p.1, p.2) (turn_fault c.loop-element.invariant (at_front (goal.at.returns-in_err-d c).In-Some) c.requires c.read_element.ensures c.in_err-d.was)

pub slice_bounds-rest-count : goal.slice_bounds-rest-count
slice_bounds-rest-count c = let f = at_front (goal.at.slice_bounds-rest-count c).In-Some in omega arith

pub slice_bounds-rest-start : goal.slice_bounds-rest-start
slice_bounds-rest-start c = let f = at_front (goal.at.slice_bounds-rest-start c).In-Some in omega arith

pub overflow_add-at : goal.overflow_add-at
overflow_add-at c =
    let f = at_front (goal.at.overflow_add-at c).In-Some in
    let p = c.loop-element.invariant.placed in
    let q = c.requires.short in
    omega arith

pub loop-element-smaller : goal.loop-element-smaller
loop-element-smaller c = (at_front (goal.at.loop-element-smaller c).In-Some).less

pub loop-element-preserved : goal.loop-element-preserved
loop-element-preserved c =
    turn_next c.loop-element.invariant (at_front (goal.at.loop-element-preserved c).In-Some) c.requires c.read_element.ensures c.in_ok-d.was c.read_element.auto.words (c.read_element.auto.nodes ∙ c.loop-element.invariant.wide)

pub returns : goal.returns
returns c = turns_end c.loop-element.invariant (none_left _ _ (sym c.in_default.is ∙ c.first_of.ensures)) c.requires

-- `sets::remove_listed` meets its contract: what is left takes the same sessions out of those that are left. Assumes nothing.
use mathlib.Core.Path.{sym, ◌∙◌}
use native.Mathlib.Omega.{arith}
use Rattle.frame.proofs.Front.{Front, front, none_left}
use Rattle.sets.proofs.GoneLaws.{left_none, left_sound, left_same, left_sized, left_more, left_end}
use Rattle.sets.proofs.remove_listed.Goals.{In-Some}
use Rattle.sets.proofs.remove_listed.Goals as goal

-- the element at the front
at_front : (c : In-Some) → Front c.loop-element.rest.now c.in-Some.element.kind c.in-Some.element.end
at_front c = front _ _ (sym c.in-Some.is ∙ c.first_of.ensures)

pub loop-element-init : goal.loop-element-init
loop-element-init c = left_none c.requires.0 c.requires.1

pub slice_bounds-remove_by-count : goal.slice_bounds-remove_by-count
slice_bounds-remove_by-count c = let f = at_front (goal.at.slice_bounds-remove_by-count c).In-Some in omega arith

pub slice_bounds-remove_by-start : goal.slice_bounds-remove_by-start
slice_bounds-remove_by-start c = let f = at_front (goal.at.slice_bounds-remove_by-start c).In-Some in omega arith

pub slice_bounds-remove_by-end : goal.slice_bounds-remove_by-end
slice_bounds-remove_by-end c = let f = at_front (goal.at.slice_bounds-remove_by-end c).In-Some in omega arith

pub remove_by-requires : goal.remove_by-requires
remove_by-requires c = (left_sound c.loop-element.invariant, left_sized c.loop-element.invariant (at_front (goal.at.remove_by-requires c).In-Some))

pub slice_bounds-rest-count : goal.slice_bounds-rest-count
slice_bounds-rest-count c = let f = at_front (goal.at.slice_bounds-rest-count c).In-Some in omega arith

pub slice_bounds-rest-start : goal.slice_bounds-rest-start
slice_bounds-rest-start c = let f = at_front (goal.at.slice_bounds-rest-start c).In-Some in omega arith

pub loop-element-smaller : goal.loop-element-smaller
loop-element-smaller c = (at_front (goal.at.loop-element-smaller c).In-Some).less

pub loop-element-preserved : goal.loop-element-preserved
loop-element-preserved c = left_more c.loop-element.invariant (at_front (goal.at.loop-element-preserved c).In-Some) c.remove_by.ensures

pub shape_of-t : goal.shape_of-t
shape_of-t c = left_same c.loop-element.invariant c.requires.0

pub returns : goal.returns
returns c = left_end c.loop-element.invariant (λ p. none_left p _ (sym c.in_default.is ∙ c.first_of.ensures))

-- `frame::count` meets its contract. The invariant: what is counted and what is left to count make up the whole. Assumes nothing.
use Prim.Native.Nat.{ℕ, ◌+◌, ◌≤◌}
use mathlib.Core.Path.{◌≡◌, sym, ap, ◌∙◌}
use native.Mathlib.Omega.{arith}
use lib.ListN.{length}
use Rattle.rules.specs.Message.{elements}
use Rattle.frame.proofs.Front.{Front, front, none_left, behind, count_of, count_none, counted, uncounted}
use Rattle.frame.proofs.count.Goals.{In-Some, then-element-kind, else-element-kind}
use Rattle.frame.proofs.count.Goals as goal

-- the element at the front
at_front : (c : In-Some) → Front c.loop-element.rest.now c.in-Some.element.kind c.in-Some.element.end
at_front c = front _ _ (sym c.in-Some.is ∙ c.first_of.ensures)

pub slice_bounds-rest-count : goal.slice_bounds-rest-count
slice_bounds-rest-count c = let f = at_front (goal.at.slice_bounds-rest-count c).In-Some in omega arith

pub slice_bounds-rest-start : goal.slice_bounds-rest-start
slice_bounds-rest-start c = let f = at_front (goal.at.slice_bounds-rest-start c).In-Some in omega arith

pub loop-element-smaller : goal.loop-element-smaller
loop-element-smaller c = (at_front (goal.at.loop-element-smaller c).In-Some).less

pub loop-element-preserved : goal.loop-element-preserved
loop-element-preserved c =
    let f = at_front (goal.at.loop-element-preserved c).In-Some in
    let r = behind c.loop-element.rest.now c.in-Some.element.end in
    let room : c.if-element-kind.n + length r ≤ length c.args.s.now = elim c.if-element-kind.branch [ then-element-kind w ↦ omega (arith, f.less) | else-element-kind w ↦ omega (arith, f.less) ] in
    let same : count_of c.args.kind (elements 0 c.args.s.now) ≡ c.if-element-kind.n + count_of c.args.kind (elements 0 r) =
    elim c.if-element-kind.branch [
      | then-element-kind w ↦ counted f _ _ c.loop-element.invariant.1 w.if-element-kind.true ∙ ap (λ (n : ℕ). n + count_of c.args.kind (elements 0 r)) (sym w.n-is)
      | else-element-kind w ↦ uncounted f _ _ c.loop-element.invariant.1 w.if-element-kind.false ∙ ap (λ (n : ℕ). n + count_of c.args.kind (elements 0 r)) (sym w.n-is)
    ] in
    (room, same)

pub returns : goal.returns
returns c =
    let none : elements 0 c.loop-element.rest.now ≡ _ = none_left 0 _ (sym c.in_default.is ∙ c.first_of.ensures) in
    let e = ap (count_of c.args.kind) none ∙ count_none _ in
    omega (arith, c.loop-element.invariant.1)

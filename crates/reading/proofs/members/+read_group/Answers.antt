-- The proof of the cycle of calls {read_group}. Assumes nothing.
use Prim.Native.Nat.{ℕ, ◌+◌, ◌<◌}
use mathlib.Core.Path.{ap, subst, sym, ◌∙◌}
use mathlib.Core.List.{List}
use native.Mathlib.Omega.{arith}
use lib.Dec.{eqb}
use Rattle.std.proofs.lemmas.Result.{err_from_is_err_and}
use Rattle.octets.specs.Choice.{flag}
use Rattle.rules.specs.Types as ie
use Rattle.frame.proofs.Front.{Front, front, none_left, behind}
use Rattle.reading.proofs.Places.{pdi_in_create}
use Rattle.reading.proofs.GroupLaws.{Going, value_fits, turn_refused, turn_shut, turn_inside, turn_open, turns_done}
use Rattle.reading.proofs.members.+read_group.Goals.{In-Some, then-is_pdi+in_ok-read_group, else-is_pdi}
use Rattle.reading.proofs.members.+read_group.Goals as goal

-- the element at the front
module _ (t : ℕ) where
  at_front : (c : In-Some t) → Front c.loop-element.rest.now c.in-Some.element.kind c.in-Some.element.end
  at_front c = front _ _ (sym c.in-Some.is ∙ c.first_of.ensures)

pub slice_bounds-v-count : goal.slice_bounds-v-count
slice_bounds-v-count t c = let f = at_front t (goal.at.slice_bounds-v-count t c).In-Some in omega arith

pub slice_bounds-v-start : goal.slice_bounds-v-start
slice_bounds-v-start t c = let f = at_front t (goal.at.slice_bounds-v-start t c).In-Some in omega arith

pub slice_bounds-v-end : goal.slice_bounds-v-end
slice_bounds-v-end t c = let f = at_front t (goal.at.slice_bounds-v-end t c).In-Some in omega arith

pub returns-in_err-read_own : goal.returns-in_err-read_own
returns-in_err-read_own t c =
    let p = err_from_is_err_and c.from_residual.result c.from_residual.ensures.1 in
    rw (p.1, p.2)
    (turn_refused (at_front t (goal.at.returns-in_err-read_own t c).In-Some) c.loop-element.invariant c.read_own.result c.read_own.new.row c.read_own.ensures c.in_err-read_own.was)

pub read_group-requires : goal.read_group-requires
read_group-requires t c =
    let e = pdi_in_create _ _ (sym c.if-is_pdi.true ∙ c.is_pdi.ensures) in (
      subst (λ (n : ℕ). 0 < n) (ap (λ (g : ℕ). flag (eqb g ie.create_pdr)) (sym e) ∙ c.decreases) (omega arith),
      (c.read_own.ensures.tidy, value_fits (at_front t (goal.at.read_group-requires t c).In-Some) c.loop-element.invariant),
    )

pub returns-in_err-read_group : goal.returns-in_err-read_group
returns-in_err-read_group t c =
    let p = err_from_is_err_and c.from_residual-in_err-read_group.result c.from_residual-in_err-read_group.ensures.1 in
    rw (p.1, p.2)
    (turn_inside (at_front t (goal.at.returns-in_err-read_group t c).In-Some) c.loop-element.invariant c.read_own.result c.read_own.new.row c.read_own.ensures c.in_ok-read_own.was
    (sym c.if-is_pdi.true ∙ c.is_pdi.ensures) c.read_group.result c.read_group.new.row c.read_group.ensures c.in_err-read_group.was)

pub slice_bounds-rest-count : goal.slice_bounds-rest-count
slice_bounds-rest-count t c = let f = at_front t (goal.at.slice_bounds-rest-count t c).In-Some in omega arith

pub slice_bounds-rest-start : goal.slice_bounds-rest-start
slice_bounds-rest-start t c = let f = at_front t (goal.at.slice_bounds-rest-start t c).In-Some in omega arith

pub overflow_add-at-in-Some : goal.overflow_add-at-in-Some
overflow_add-at-in-Some t c = let f = at_front t (goal.at.overflow_add-at-in-Some t c).In-Some in let h = c.loop-element.invariant.fits in omega arith

pub loop-element-smaller : goal.loop-element-smaller
loop-element-smaller t c = (at_front t (goal.at.loop-element-smaller t c).In-Some).less

pub loop-element-preserved : goal.loop-element-preserved
loop-element-preserved t c =
    let f = at_front t (goal.at.loop-element-preserved t c).In-Some in
    elim c.if-is_pdi.branch [
      | then-is_pdi+in_ok-read_group w ↦
          subst (λ (row : List ℕ). Going c.args.group c.args.place c.args.s.now c.args.row.now (c.loop-element.at + c.in-Some.element.end) (behind c.loop-element.rest.now c.in-Some.element.end) row) (sym w.row-is)
          (turn_open f c.loop-element.invariant c.read_own.result c.read_own.new.row c.read_own.ensures c.in_ok-read_own.was (sym w.if-is_pdi.true ∙ c.is_pdi.ensures)
          w.read_group.result w.read_group.new.row w.read_group.ensures w.in_ok-read_group.was)
      | else-is_pdi w ↦
          subst (λ (row : List ℕ). Going c.args.group c.args.place c.args.s.now c.args.row.now (c.loop-element.at + c.in-Some.element.end) (behind c.loop-element.rest.now c.in-Some.element.end) row) (sym w.row-is)
          (turn_shut f c.loop-element.invariant c.read_own.result c.read_own.new.row c.read_own.ensures c.in_ok-read_own.was (sym w.if-is_pdi.false ∙ c.is_pdi.ensures))
    ]

pub returns : goal.returns
returns t c = turns_done c.loop-element.invariant (none_left _ _ (sym c.in_default.is ∙ c.first_of.ensures)) c.lacking.ensures

-- The proof of the cycle of calls {first_fault}. Assumes nothing.
use Prim.Native.Nat.{ℕ, ◌+◌, ◌-◌}
use mathlib.Core.Path.{◌≡◌, refl, ap, sym, ◌∙◌}
use mathlib.Core.Option.{none}
use Rattle.std.proofs.lemmas.Result.{err_from_is_err_and}
use native.Mathlib.Omega.{arith}
use lib.ListN.{take, drop}
use Rattle.octets.specs.Octets.{number_at}
use Rattle.rules.specs.Message.{element_type, element_length}
use Rattle.frame.specs.Framed.{framing_fault}
use Rattle.frame.proofs.Walk.{part_shorter, value_places, fault_inside, inside_shut, inside_open, frame_none, frame_end, frame_cut, frame_over, fault_inside_lem, sound_inside}
use Rattle.frame.proofs.+first_fault.Goals.{then-opens+in_ok-first_fault, else-opens}
use Rattle.frame.proofs.+first_fault.Goals as goal

pub returns-then-depth-eq0 : goal.returns-then-depth-eq0
returns-then-depth-eq0 t c = sym (frame_none _ _ _ _ _ c.if-depth-eq0.true)

pub loop-rest-init : goal.loop-rest-init
loop-rest-init t c = (refl, omega arith)

pub returns-then-rest-lt4 : goal.returns-then-rest-lt4
returns-then-rest-lt4 t c = sym (c.loop-rest.invariant.0 ∙ frame_cut _ _ _ _ _ _ c.if-depth-eq0.false c.loop-rest-test.true c.if-rest-lt4.true)

pub returns-then-rest-end : goal.returns-then-rest-end
unfolding element_type element_length number_at
returns-then-rest-end t c =
    let type : c.read-kind.result ≡ element_type c.loop-rest.rest.now = c.read-kind.ensures.0 in
    let size : 4 + c.read.result ≡ 4 + element_length c.loop-rest.rest.now = ap (λ (n : ℕ). 4 + n) c.read.ensures.0 in
    sym (c.loop-rest.invariant.0 ∙ frame_over _ _ _ _ _ _ c.if-depth-eq0.false c.loop-rest-test.true _ _ type size c.if-rest-lt4.false c.if-rest-end.true)

pub first_fault-requires : goal.first_fault-requires
first_fault-requires t c = (omega arith, value_places _ _ c.loop-rest.rest.now c.if-rest-lt4.false c.if-rest-end.false c.loop-rest.invariant.1)

pub returns-in_err-first_fault : goal.returns-in_err-first_fault
unfolding element_type element_length number_at
returns-in_err-first_fault t c =
    let p = err_from_is_err_and c.from_residual.result c.from_residual.ensures.1 in
    let type : c.read-kind.result ≡ element_type c.loop-rest.rest.now = c.read-kind.ensures.0 in
    let size : 4 + c.read.result ≡ 4 + element_length c.loop-rest.rest.now = ap (λ (n : ℕ). 4 + n) c.read.ensures.0 in
    let v = inside_open c.args.depth c.args.message c.args.group c.read-kind.result c.loop-rest.at (take (4 + c.read.result - 4) (drop 4 c.loop-rest.rest.now)) (sym c.if-opens.true ∙ c.opens.ensures) in
    rw (p.1, p.2)
    (sym (ap framing_fault c.in_err-first_fault.was)
    ∙ fault_inside_lem _ _ _ _ _ _ c.if-depth-eq0.false c.loop-rest-test.true _ _ type size c.if-rest-lt4.false c.if-rest-end.false (v ∙ sym c.first_fault.ensures) c.in_err-first_fault.was
    ∙ sym c.loop-rest.invariant.0)

pub overflow_add-at-in-loop-rest : goal.overflow_add-at-in-loop-rest
overflow_add-at-in-loop-rest t c = omega arith

pub loop-rest-smaller : goal.loop-rest-smaller
loop-rest-smaller t c = part_shorter _ c.loop-rest.rest.now (omega arith) c.if-rest-end.false

pub loop-rest-preserved : goal.loop-rest-preserved
unfolding element_type element_length number_at
loop-rest-preserved t c =
    let type : c.read-kind.result ≡ element_type c.loop-rest.rest.now = c.read-kind.ensures.0 in
    let size : 4 + c.read.result ≡ 4 + element_length c.loop-rest.rest.now = ap (λ (n : ℕ). 4 + n) c.read.ensures.0 in
    let v = take (4 + c.read.result - 4) (drop 4 c.loop-rest.rest.now) in
    let sound : fault_inside c.args.depth c.args.message c.args.group c.read-kind.result c.loop-rest.at v ≡ none =
    elim c.if-opens.branch [
      | then-opens+in_ok-first_fault w ↦ inside_open _ _ _ _ _ _ (sym w.if-opens.true ∙ c.opens.ensures) ∙ sym w.first_fault.ensures ∙ ap framing_fault w.in_ok-first_fault.was
      | else-opens w ↦ inside_shut _ _ _ _ _ _ (sym w.if-opens.false ∙ c.opens.ensures)
    ] in (
      c.loop-rest.invariant.0
          ∙ sound_inside _ _ _ _ _ _ c.if-depth-eq0.false c.loop-rest-test.true _ _ type size c.if-rest-lt4.false c.if-rest-end.false sound,
      omega arith,
    )

pub returns : goal.returns
returns t c = sym (c.loop-rest.invariant.0 ∙ frame_end _ _ _ _ _ c.loop-rest-test.false)

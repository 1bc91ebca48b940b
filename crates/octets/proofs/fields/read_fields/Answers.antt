-- `octets::fields::read_fields` meets its contract. The invariant: the fields read, and those of the widths left, are the whole.
-- Assumes nothing.
use Rattle.std.proofs.Common.{[], ◌≡◌, ◌∙◌, refl, take, drop, arith}
use Rattle.std.proofs.lemmas.List.{take_all, drop_all}
use mathlib.Core.List.{append-nil}
use Rattle.octets.specs.Fields.{fields_at}
use Rattle.octets.proofs.FieldLaws.{width_next, narrow_next, read_turn}
use Rattle.octets.proofs.fields.read_fields.Goals as goal

pub loop-i-init : goal.loop-i-init
loop-i-init c = record { next = refl; narrow_left = c.requires.2; whole = refl }

pub read-requires : goal.read-requires
read-requires c =
    let a = c.args in
    let l = c.loop-i in
    omega (arith, width_next a.ws.now l.i c.loop-i-test.true, (narrow_next a.ws.now l.i c.loop-i-test.true l.invariant.narrow_left).0)

pub overflow_add-from : goal.overflow_add-from
overflow_add-from c = omega (arith, width_next c.args.ws.now c.loop-i.i c.loop-i-test.true)

pub loop-i-preserved : goal.loop-i-preserved
loop-i-preserved c =
    let a = c.args in
    let l = c.loop-i in
    let t = c.loop-i-test.true in
    record {
      next = omega (arith, width_next a.ws.now l.i t);
      narrow_left = (narrow_next a.ws.now l.i t l.invariant.narrow_left).1;
      whole = read_turn a.ws.now l.i t l.from c.read.result l.vs a.s.now (omega arith) c.read.ensures.0 ∙ l.invariant.whole;
    }

pub returns : goal.returns
unfolding fields_at
returns c =
    let a = c.args in
    let l = c.loop-i in
    let e : drop l.i a.ws.now ≡ [] = drop_all l.i a.ws.now c.loop-i-test.false in
    let f : take l.i l.vs ≡ l.vs = take_all l.i l.vs (omega arith) in
    rw (e, f, append-nil) at l.invariant.whole

-- `octets::fields::write_fields` meets its contract. The invariant: to put the fields that are left puts the whole.
-- Assumes nothing.
use Rattle.std.proofs.Common.{[], ◌≡◌, ◌∙◌, sym, drop, arith}
use Rattle.std.proofs.lemmas.List.{drop_all}
use Rattle.octets.specs.Fields.{field_octets}
use Rattle.octets.proofs.Put.{put_nil}
use Rattle.octets.proofs.FieldLaws.{width_next, write_turn}
use Rattle.octets.proofs.fields.write_fields.Goals as goal

pub write-requires : goal.write-requires
write-requires c = omega (arith, width_next c.args.ws.now c.loop-i.i c.loop-i-test.true)

pub overflow_add-from : goal.overflow_add-from
overflow_add-from c = omega (arith, width_next c.args.ws.now c.loop-i.i c.loop-i-test.true)

pub loop-i-preserved : goal.loop-i-preserved
loop-i-preserved c =
    let a = c.args in
    let l = c.loop-i in
    let t = c.loop-i-test.true in
    record {
      next = omega (arith, width_next a.ws.now l.i t);
      whole = write_turn a.ws.now l.i t l.from a.vs.now l.s c.write.new.s (omega arith) (omega (arith, width_next a.ws.now l.i t)) c.write.ensures ∙ l.invariant.whole;
    }

pub returns : goal.returns
unfolding field_octets
returns c =
    let a = c.args in
    let l = c.loop-i in
    let e : drop l.i a.ws.now ≡ [] = drop_all l.i a.ws.now c.loop-i-test.false in
    sym (put_nil l.from l.s) ∙ (rw e at l.invariant.whole)

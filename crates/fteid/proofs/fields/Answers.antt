-- `fteid::fields` meets its contract: the numbers read are the struct of the value. Assumes nothing.
use native.Mathlib.Omega.{arith}
use Rattle.octets.proofs.Digits.{octets_known}
use Rattle.fteid.proofs.ValueLaws.{length_chosen, length_given, fields_chosen, fields_given}
use Rattle.fteid.proofs.fields.Goals as goal

pub read-id-requires : goal.read-id-requires
read-id-requires c = let l = length_chosen _ c.if-f-eq1.true in omega arith

pub returns-then-f-eq1 : goal.returns-then-f-eq1
returns-then-f-eq1 c =
    fields_chosen c.args.s.now c.args.flags c.requires.0 c.requires.1 c.requires.2 c.read-id.result c.if-f-eq1.true c.read-id.ensures.0 c.read-id.ensures.1

pub read-teid-requires : goal.read-teid-requires
read-teid-requires c = let l = length_given _ c.if-f-eq1.false in omega arith

pub read-ipv4-requires : goal.read-ipv4-requires
read-ipv4-requires c = let l = length_given _ c.if-f-eq1.false in omega arith

pub read-high-requires : goal.read-high-requires
read-high-requires c = let l = length_given _ c.if-f-eq1.false in omega arith

pub read-low-requires : goal.read-low-requires
read-low-requires c = let l = length_given _ c.if-f-eq1.false in omega arith

pub returns : goal.returns
returns c =
    fields_given c.args.s.now c.args.flags c.requires.0 c.requires.1 c.requires.2 c.read-teid.result c.read-ipv4.result c.read-high.result c.read-low.result
    (octets_known c.args.s.now (λ k. (c.type_inv.s k).fits)) c.if-f-eq1.false c.read-teid.ensures.0 c.read-teid.ensures.1 c.read-ipv4.ensures.0 c.read-ipv4.ensures.1 c.read-high.ensures.0 c.read-high.ensures.1 c.read-low.ensures.0 c.read-low.ensures.1

-- `restoration::write_pdr` meets its contract: the ID, the precedence, the PDI and the FAR ID, with the head before them.
-- Assumes nothing.
use mathlib.Core.Path.{◌∙◌}
use lib.Dec.{T}
use native.Mathlib.Omega.{arith}
use lib.ListN.{take}
use Rattle.octets.specs.Octets.{octets}
use Rattle.rules.specs.Layout.{view_pdr, precedence_at}
use Rattle.unit.specs.Meaning.{settings_of}
use Rattle.rules.specs.Types as ie
use Rattle.octets.proofs.Digits.{octets_known}
use Rattle.octets.proofs.Put.{length_part}
use Rattle.writing.proofs.PlacedLaws.{length_element}
use Rattle.restoration.proofs.RecordSteps.{length_pdr, pdr_steps}
use Rattle.octets.specs.Octets.{part}
use Rattle.restoration.proofs.write_pdr.Goals as goal

pub write_value-id-requires : goal.write_value-id-requires
write_value-id-requires c =
    let s = c in
    omega (arith, c.requires, length_pdr (settings_of c.args.u) (view_pdr c.args.pdr.now), length_part 0 2 c.args.pdr.now (omega arith))

pub write_value-precedence-requires : goal.write_value-precedence-requires
write_value-precedence-requires c =
    let s = c in
    let xs = c.args.pdr.now in
    let w = c.write_value-id in
    omega (arith, c.requires.0, c.requires.1, w.ensures.ends, w.auto.out, length_pdr (settings_of c.args.u) (view_pdr xs), length_element ie.pdr_id (take 2 xs), length_part 0 2 xs (omega (arith, c.requires.0)), length_part precedence_at 4 xs (omega (arith, c.requires.0)))

pub write_pdi-pdi-requires : goal.write_pdi-pdi-requires
write_pdi-pdi-requires c =
    let s = c in
    let xs = c.args.pdr.now in
    let v = c.write_value-id in
    let w = c.write_value-precedence in (
      c.requires.0,
      omega (arith, c.requires.1, v.ensures.ends, w.ensures.ends, v.auto.out, w.auto.out, length_pdr (settings_of c.args.u) (view_pdr xs), length_element ie.pdr_id (take 2 xs), length_element ie.precedence (part precedence_at 4 xs), length_part 0 2 xs (omega (arith, c.requires.0)), length_part precedence_at 4 xs (omega (arith, c.requires.0))),
    )

pub write_far-end-requires : goal.write_far-end-requires
write_far-end-requires c =
    let s = c in
    let xs = c.args.pdr.now in
    let v = c.write_value-id in
    let w = c.write_value-precedence in
    let d = c.write_pdi-pdi in (
      c.requires.0,
      omega (arith, c.requires.1, v.ensures.ends, w.ensures.ends, d.ensures.ends, v.auto.out, w.auto.out, d.auto.out, length_pdr (settings_of c.args.u) (view_pdr xs), length_element ie.pdr_id (take 2 xs), length_element ie.precedence (part precedence_at 4 xs), length_part 0 2 xs (omega (arith, c.requires.0)), length_part precedence_at 4 xs (omega (arith, c.requires.0))),
    )

pub write_head-requires : goal.write_head-requires
write_head-requires c =
    let s = c in
    omega (arith, c.requires.1, c.write_value-id.auto.out, c.write_value-precedence.auto.out, c.write_pdi-pdi.auto.out, c.write_far-end.auto.out, length_pdr (settings_of c.args.u) (view_pdr c.args.pdr.now))

pub returns : goal.returns
returns c =
    let s = c in
    let a = c.args in
    let v = c.write_value-id in
    let w = c.write_value-precedence in
    let o : T (octets a.pdr.now) = octets_known a.pdr.now (λ i. (c.type_inv.pdr i).fits) in
    pdr_steps a.pdr.now c.requires.0 a.u a.at a.out.now o c.requires.1 v.ensures w.ensures c.write_pdi-pdi.ensures c.write_far-end.ensures
    v.auto.out (w.auto.out ∙ v.auto.out) c.write_head.ensures

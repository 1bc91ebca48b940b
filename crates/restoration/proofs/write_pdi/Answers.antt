-- `restoration::write_pdi` meets its contract: the source interface, what the PDR matches on and its address, with the head before them.
-- Assumes nothing.
use native.Mathlib.Omega.{arith}
use Rattle.rules.specs.Layout.{view_pdr, source_at}
use Rattle.unit.specs.Meaning.{settings_of}
use Rattle.rules.specs.Types as ie
use Rattle.octets.proofs.Put.{length_part}
use Rattle.restoration.proofs.RecordSteps.{length_pdi, length_pdr_address, pdi_steps}
use Rattle.writing.proofs.PlacedLaws.{length_element}
use Rattle.octets.specs.Octets.{part}
use Rattle.restoration.proofs.write_pdi.Goals as goal

pub write_value-source-requires : goal.write_value-source-requires
write_value-source-requires c =
    let s = c in
    omega (arith, c.requires, length_pdi (settings_of c.args.u) (view_pdr c.args.pdr.now), length_part source_at 1 c.args.pdr.now (omega arith))

pub write_match-matched-requires : goal.write_match-matched-requires
write_match-matched-requires c =
    let s = c in
    let w = c.write_value-source in (
      c.requires.0,
      omega (arith, c.requires.1, w.ensures.ends, w.auto.out, length_pdi (settings_of c.args.u) (view_pdr c.args.pdr.now), length_element ie.source_interface (part source_at 1 c.args.pdr.now), length_part source_at 1 c.args.pdr.now (omega (arith, c.requires.0))),
    )

pub write_address-end-requires : goal.write_address-end-requires
write_address-end-requires c =
    let s = c in
    let xs = c.args.pdr.now in
    let w = c.write_value-source in
    let q = c.write_match-matched in
    omega (arith, c.requires.1, w.ensures.ends, q.ensures.ends, w.auto.out, q.auto.out, length_pdi (settings_of c.args.u) (view_pdr xs), length_pdr_address xs c.requires.0 c.read-address.result c.read-address.ensures.0, length_element ie.source_interface (part source_at 1 xs), length_part source_at 1 xs (omega (arith, c.requires.0)))

pub write_head-requires : goal.write_head-requires
write_head-requires c =
    let s = c in
    omega (arith, c.requires.1, c.write_value-source.auto.out, c.write_match-matched.auto.out, c.write_address-end.auto.out, length_pdi (settings_of c.args.u) (view_pdr c.args.pdr.now))

pub returns : goal.returns
returns c = search pdi_steps

-- `restoration::write_records` meets its contract: the elements of the three areas, one after the other.
-- Assumes nothing.
use Rattle.restoration.specs.declared.Kind.TheVariants as kind
use native.Mathlib.Omega.{arith}
use lib.ListN.{get_or}
use Rattle.octets.specs.Octets.{octet_at}
use Rattle.rules.specs.Layout.{pdr_count_at, endpoint_count_at, csid_count_at, pdrs_at, endpoints_at, csids_at}
use Rattle.unit.specs.Meaning.{settings_of}
use Rattle.restoration.proofs.SlotSteps.{length_records, area_fits_lem, area_length, records_steps}
use Rattle.restoration.proofs.write_records.Goals as goal

pub overflow_cast-slot : goal.overflow_cast-slot
overflow_cast-slot c = omega (arith, c.type_inv.slot pdr_count_at)

pub write_area-pdrs-requires : goal.write_area-pdrs-requires
write_area-pdrs-requires c =
    let s = c in
    let xs = c.args.slot.now in
    let st = settings_of c.args.u in (
      area_fits_lem st xs kind.Pdr (get_or xs pdr_count_at 0) pdrs_at (unfold octet_at in c.requires.0.pdrs),
      omega (arith, c.requires.1, length_records st xs, area_length st xs kind.Pdr (get_or xs pdr_count_at 0) pdrs_at, area_length st xs kind.Endpoint (get_or xs endpoint_count_at 0) endpoints_at, area_length st xs kind.Csid (get_or xs csid_count_at 0) csids_at),
    )

pub overflow_cast-slot-2 : goal.overflow_cast-slot-2
overflow_cast-slot-2 c = omega (arith, c.type_inv.slot endpoint_count_at)

pub write_area-endpoints-requires : goal.write_area-endpoints-requires
write_area-endpoints-requires c =
    let s = c in
    let xs = c.args.slot.now in
    let st = settings_of c.args.u in (
      area_fits_lem st xs kind.Endpoint (get_or xs endpoint_count_at 0) endpoints_at (unfold octet_at in c.requires.0.endpoints),
      omega (arith, c.requires.1, c.write_area-pdrs.ensures.ends, c.write_area-pdrs.auto.out, length_records st xs, area_length st xs kind.Pdr (get_or xs pdr_count_at 0) pdrs_at, area_length st xs kind.Endpoint (get_or xs endpoint_count_at 0) endpoints_at, area_length st xs kind.Csid (get_or xs csid_count_at 0) csids_at),
    )

pub overflow_cast-slot-3 : goal.overflow_cast-slot-3
overflow_cast-slot-3 c = omega (arith, c.type_inv.slot csid_count_at)

pub write_area-requires : goal.write_area-requires
write_area-requires c =
    let s = c in
    let xs = c.args.slot.now in
    let st = settings_of c.args.u in (
      area_fits_lem st xs kind.Csid (get_or xs csid_count_at 0) csids_at (unfold octet_at in c.requires.0.csids),
      omega (arith, c.requires.1, c.write_area-pdrs.ensures.ends, c.write_area-pdrs.auto.out, c.write_area-endpoints.ensures.ends, c.write_area-endpoints.auto.out, length_records st xs, area_length st xs kind.Pdr (get_or xs pdr_count_at 0) pdrs_at, area_length st xs kind.Endpoint (get_or xs endpoint_count_at 0) endpoints_at, area_length st xs kind.Csid (get_or xs csid_count_at 0) csids_at),
    )

pub returns : goal.returns
returns c =
    let s = c in
    let w = c.write_area-pdrs in
    records_steps (settings_of c.args.u) c.args.slot.now c.args.at c.args.out.now c.requires.1 w.ensures c.write_area-endpoints.ensures c.write_area.ensures w.auto.out

-- `restoration::write_endpoint` meets its contract: the ID, the F-TEID and the address, with the head before them.
-- Assumes nothing.
use native.Mathlib.Omega.{arith}
use lib.ListN.{get_or, take}
use Rattle.octets.specs.Octets.{number, part}
use Rattle.rules.specs.Layout.{view_endpoint, endpoint_teid_at, endpoint_families_at}
use Rattle.unit.specs.Meaning.{settings_of}
use Rattle.rules.specs.Types as ie
use Rattle.octets.proofs.Put.{length_part}
use Rattle.writing.proofs.PlacedLaws.{length_element}
use Rattle.writing.proofs.ElementSteps.{length_unit}
use Rattle.restoration.proofs.RecordSteps.{length_endpoint, endpoint_local_lem, length_local, length_endpoint_address, endpoint_steps}
use Rattle.restoration.proofs.write_endpoint.Goals as goal

pub write_value-id-requires : goal.write_value-id-requires
write_value-id-requires c =
    let s = c in
    omega (arith, c.requires, length_endpoint (settings_of c.args.u) (view_endpoint c.args.endpoint.now), length_part 0 1 c.args.endpoint.now (omega arith))

pub overflow_cast-endpoint : goal.overflow_cast-endpoint
overflow_cast-endpoint c = omega (arith, c.type_inv.endpoint 5)

pub write_fteid-local-requires : goal.write_fteid-local-requires
write_fteid-local-requires c =
    let s = c in
    let xs = c.args.endpoint.now in
    let u = c.args.u in
    let w = c.write_value-id in
    omega (arith, c.requires.1, w.ensures.ends, w.auto.out, rw (endpoint_local_lem xs c.requires.0 u) at (length_endpoint (settings_of u) (view_endpoint xs)), length_unit u (get_or xs endpoint_families_at 0) (number (part endpoint_teid_at 4 xs)), length_element ie.endpoint_id (take 1 xs), length_part 0 1 xs (omega (arith, c.requires.0)))

pub write_address-end-requires : goal.write_address-end-requires
write_address-end-requires c =
    let s = c in
    let xs = c.args.endpoint.now in
    let u = c.args.u in
    let w = c.write_value-id in
    let q = c.write_fteid-local in
    omega (arith, c.requires.1, w.ensures.ends, q.ensures.ends, w.auto.out, q.auto.out, length_endpoint (settings_of u) (view_endpoint xs), length_local xs c.requires.0 u c.read-teid.result c.read-teid.ensures.0, length_endpoint_address xs c.requires.0 u c.read-address.result c.read-address.ensures.0, length_element ie.endpoint_id (take 1 xs), length_part 0 1 xs (omega (arith, c.requires.0)))

pub write_head-requires : goal.write_head-requires
write_head-requires c =
    let s = c in
    omega (arith, c.requires.1, c.write_value-id.auto.out, c.write_fteid-local.auto.out, c.write_address-end.auto.out, length_endpoint (settings_of c.args.u) (view_endpoint c.args.endpoint.now))

pub returns : goal.returns
returns c = search endpoint_steps

-- `restoration::write_match` meets its contract: by what the slot says that the PDR matches on.
-- Assumes nothing.
use native.Mathlib.Omega.{arith}
use lib.ListN.{get_or}
use Rattle.octets.specs.Octets.{number, part}
use Rattle.rules.specs.Layout.{teid_at, families_at, named_endpoint_at}
use Rattle.rules.specs.Types as ie
use Rattle.writing.proofs.PlacedLaws.{length_element}
use Rattle.writing.proofs.ElementSteps.{length_unit}
use Rattle.restoration.proofs.RecordSteps.{match_tunnel, match_endpoint_lem, match_tunnel_steps, match_endpoint_steps, match_neither_steps}
use Rattle.restoration.proofs.write_match.Goals as goal

pub overflow_cast-pdr : goal.overflow_cast-pdr
overflow_cast-pdr c = omega (arith, c.type_inv.pdr families_at)

pub write_fteid-requires : goal.write_fteid-requires
write_fteid-requires c =
    let s = c in
    let xs = c.args.pdr.now in
    let u = c.args.u in
    let e = match_tunnel xs c.requires.0 u c.in-1.is in
    (omega (arith, c.requires.1, rw e at c.requires.1, length_unit u (get_or xs families_at 0) (number (part teid_at 4 xs))))

pub returns-in-1 : goal.returns-in-1
returns-in-1 c = search match_tunnel_steps

pub write_value-requires : goal.write_value-requires
write_value-requires c =
    let s = c in
    let xs = c.args.pdr.now in
    omega (arith, rw (match_endpoint_lem xs c.requires.0 c.args.u c.in-2.is) at c.requires.1, length_element ie.endpoint_id (part named_endpoint_at 1 xs))

pub returns-in-2 : goal.returns-in-2
returns-in-2 c = search match_endpoint_steps

pub returns-in_default : goal.returns-in_default
returns-in_default c = search match_neither_steps

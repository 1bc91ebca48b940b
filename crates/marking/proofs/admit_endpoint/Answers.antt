-- `marking::admit_endpoint` meets its contract.
-- Assumes nothing.
use Rattle.octets.proofs.Digits.{octets_known}
use Rattle.marking.proofs.Answers.{endpoint_broken, endpoint_fits_lem, endpoint_met, endpoint_new_lem}
use Rattle.marking.proofs.admit_endpoint.Goals as goal

pub returns-then-not-endpoint_sound : goal.returns-then-not-endpoint_sound
returns-then-not-endpoint_sound c = search endpoint_broken

pub overflow_sub-teid : goal.overflow_sub-teid
overflow_sub-teid c =
    (endpoint_fits_lem c.args.slot.now c.args.u c.args.words.now _ c.endpoint_sound.ensures c.if-not-endpoint_sound.false-raw _ c.read-teid.ensures.0 c.told-slot (octets_known c.args.slot.now c.fits-slot) c.requires.0 c.requires.1).0

pub mark-requires : goal.mark-requires
mark-requires c =
    (endpoint_fits_lem c.args.slot.now c.args.u c.args.words.now _ c.endpoint_sound.ensures c.if-not-endpoint_sound.false-raw _ c.read-teid.ensures.0 c.told-slot (octets_known c.args.slot.now c.fits-slot) c.requires.0 c.requires.1).1

pub returns-then-mark : goal.returns-then-mark
returns-then-mark c = search endpoint_met

pub returns : goal.returns
returns c = search endpoint_new_lem

-- `marking::admit_pdr` meets its contract.
-- Assumes nothing.
use Rattle.std.proofs.Common.{[]}
use Rattle.octets.proofs.Digits.{octets_known}
use Rattle.records.specs.Kept.{ids_of}
use Rattle.marking.proofs.Answers.{pdr_broken, pdr_none, pdr_fits_lem, pdr_new_lem, pdr_shared, pdr_met}
use Rattle.marking.proofs.admit_pdr.Goals as goal

pub returns-then-not-pdr_sound : goal.returns-then-not-pdr_sound
returns-then-not-pdr_sound c = search pdr_broken

pub returns-then-slot-ne1 : goal.returns-then-slot-ne1
returns-then-slot-ne1 c = search pdr_none

pub overflow_sub-teid : goal.overflow_sub-teid
overflow_sub-teid c =
    (pdr_fits_lem c.args.slot.now c.args.u (ids_of c.args.ends.now) c.args.words.now [] _ c.pdr_sound.ensures c.if-not-pdr_sound.false-raw c.if-slot-ne1.false _ c.read-teid.ensures.0 c.told-slot (octets_known c.args.slot.now c.fits-slot) c.requires.0 c.requires.1).0

pub mark-requires : goal.mark-requires
mark-requires c =
    (pdr_fits_lem c.args.slot.now c.args.u (ids_of c.args.ends.now) c.args.words.now [] _ c.pdr_sound.ensures c.if-not-pdr_sound.false-raw c.if-slot-ne1.false _ c.read-teid.ensures.0 c.told-slot (octets_known c.args.slot.now c.fits-slot) c.requires.0 c.requires.1).1

pub returns-then-not-mark : goal.returns-then-not-mark
returns-then-not-mark c = search pdr_new_lem

pub returns-then-shares : goal.returns-then-shares
returns-then-shares c = search pdr_shared

pub returns : goal.returns
returns c = search pdr_met

-- `marking::addresses::admit` meets its contract.
-- Assumes nothing.
use Rattle.std.proofs.lemmas.Result.{err_from_is_err_and}
use Rattle.std.proofs.Common.{◌*◌, T, arith, lit≤}
use Rattle.octets.specs.Octets.{octets}
use Rattle.octets.proofs.Digits.{octets_known}
use Rattle.octets.proofs.Put.{length_part}
use Rattle.rules.specs.Layout.{pdr_width, endpoint_width, pdrs_at, endpoints_at}
use Rattle.rules.specs.Limits.{max_pdrs, max_endpoints}
use Rattle.records.proofs.SlotLaws.{counts_headed}
use Rattle.unit.specs.Meaning.{settings_of}
use Rattle.marking.proofs.AddressThere.{sound_head, present_endpoints, present_pdrs}
use Rattle.marking.proofs.AddressSlots.{area_long, later, slot_ends, slot_pdrs, slot_few, slot_whole}
use Rattle.marking.proofs.addresses.admit.Goals as goal

pub claim_all-requires : goal.claim_all-requires
unfolding settings_of
claim_all-requires c =
    let start = c in
    let g = c.args in
    let xs = g.slot.now in
    let o : T (octets xs) = octets_known xs c.fits-slot in
    let counts = counts_headed xs (sound_head (settings_of g.u) xs c.requires.0) in
    (omega (arith, counts.endpoints, length_part endpoints_at (max_endpoints * endpoint_width) xs (omega (arith, c.told-slot))), lit≤ tt, c.requires.2, c.requires.3, c.requires.4, c.requires.5, later g.turn g.u.addresses g.holders.now g.words.now c.requires.6, present_endpoints (settings_of g.u) c.requires.1 xs c.told-slot o c.requires.0)

pub returns-in_err-e : goal.returns-in_err-e
unfolding settings_of
returns-in_err-e c =
    let start = c in
    let g = c.args in
    let ends = c.claim_all in
    rw (err_from_is_err_and c.from_residual.result c.from_residual.ensures.1).1 (slot_ends (settings_of g.u) g.turn g.holders.now g.words.now g.slot.now (sound_head (settings_of g.u) g.slot.now c.requires.0) c.requires.4 c.requires.6 ends.result ends.new.holders ends.new.words ends.ensures c.in_err-e.was)

pub claim_all-requires-2 : goal.claim_all-requires-2
unfolding settings_of
claim_all-requires-2 c =
    let start = c in
    let g = c.args in
    let xs = g.slot.now in
    let o : T (octets xs) = octets_known xs c.fits-slot in
    let ends = c.claim_all in
    let counts = counts_headed xs (sound_head (settings_of g.u) xs c.requires.0) in
    (omega (arith, counts.pdrs, length_part pdrs_at (max_pdrs * pdr_width) xs (omega (arith, c.told-slot))), lit≤ tt, c.requires.2, omega (arith, c.requires.3, area_long ends.ensures c.in_ok-e.e c.in_ok-e.was), c.requires.4, c.requires.5, ends.ensures.agrees c.in_ok-e.e c.in_ok-e.was, present_pdrs (settings_of g.u) c.requires.1 xs c.told-slot o c.requires.0)

pub returns-in_err-p : goal.returns-in_err-p
unfolding settings_of
returns-in_err-p c =
    let start = c in
    let g = c.args in
    let ends = c.claim_all in
    let pdrs = c.claim_all-2 in
    rw (err_from_is_err_and c.from_residual-in_err-p.result c.from_residual-in_err-p.ensures.1).1 (slot_pdrs (settings_of g.u) g.turn g.holders.now g.words.now g.slot.now (sound_head (settings_of g.u) g.slot.now c.requires.0) c.requires.4 c.requires.6 ends.result ends.new.holders ends.new.words ends.ensures c.in_ok-e.e c.in_ok-e.was pdrs.result pdrs.new.holders pdrs.new.words pdrs.ensures c.in_err-p.was)

pub overflow_add-result : goal.overflow_add-result
unfolding settings_of
overflow_add-result c =
    let start = c in
    let g = c.args in
    let ends = c.claim_all in
    let pdrs = c.claim_all-2 in
    let few = slot_few (settings_of g.u) g.turn g.holders.now g.words.now g.slot.now (sound_head (settings_of g.u) g.slot.now c.requires.0) c.requires.4 c.requires.6 ends.result ends.new.holders ends.new.words ends.ensures c.in_ok-e.e c.in_ok-e.was pdrs.result pdrs.new.holders pdrs.new.words pdrs.ensures c.in_ok-p.p c.in_ok-p.was in
    omega (arith, few)

pub returns : goal.returns
unfolding settings_of
returns c =
    let start = c in
    let g = c.args in
    let ends = c.claim_all in
    let pdrs = c.claim_all-2 in
    slot_whole (settings_of g.u) g.turn g.holders.now g.words.now g.slot.now (sound_head (settings_of g.u) g.slot.now c.requires.0) c.requires.4 c.requires.6 ends.result ends.new.holders ends.new.words ends.ensures c.in_ok-e.e c.in_ok-e.was pdrs.result pdrs.new.holders pdrs.new.words pdrs.ensures c.in_ok-p.p c.in_ok-p.was

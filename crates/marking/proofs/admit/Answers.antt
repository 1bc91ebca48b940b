-- `marking::admit` meets its contract.
-- Assumes nothing.
use Rattle.std.proofs.Common.{◌*◌, get_or, arith}
use Rattle.std.proofs.lemmas.Result.{err_from_is_err_and}
use Rattle.octets.proofs.Put.{length_part}
use Rattle.rules.specs.Layout.{pdr_width, endpoint_width, csid_width, pdrs_at, endpoints_at, csids_at, endpoint_count_at}
use Rattle.rules.specs.Limits.{max_pdrs, max_endpoints, node_types}
use Rattle.records.specs.Slot.{pdr_area, endpoint_area}
use Rattle.records.proofs.Chunks.{rows_before, rows_long}
use Rattle.marking.proofs.Walking.{named_rows}
use Rattle.marking.proofs.Admitting.{slot_counts, ends_long, admit_broken, admit_csids, admit_ends, admit_rules, admit_few, admit_whole}
use Rattle.marking.proofs.admit.Goals as goal

pub returns-then-not-head_sound : goal.returns-then-not-head_sound
returns-then-not-head_sound c = admit_broken c.args.u c.args.words.now c.args.slot.now _ c.head_sound.ensures _ c.if-not-head_sound.true-raw

pub csids_sound-requires : goal.csids_sound-requires
csids_sound-requires c =
    let counts = slot_counts c.args.u c.args.words.now c.args.slot.now _ c.head_sound.ensures c.if-not-head_sound.false-raw in
    omega (arith, counts.csids, length_part csids_at (node_types * csid_width) c.args.slot.now (omega (arith, c.told-slot)))

pub returns-then-not-csids_sound : goal.returns-then-not-csids_sound
returns-then-not-csids_sound c = admit_csids c.args.u c.args.words.now c.args.slot.now _ c.head_sound.ensures c.if-not-head_sound.false-raw _ c.csids_sound.ensures _ c.if-not-csids_sound.true-raw

pub admit_endpoints-requires : goal.admit_endpoints-requires
admit_endpoints-requires c =
    let counts = slot_counts c.args.u c.args.words.now c.args.slot.now _ c.head_sound.ensures c.if-not-head_sound.false-raw in
    (omega (arith, counts.endpoints, length_part endpoints_at (max_endpoints * endpoint_width) c.args.slot.now (omega (arith, c.told-slot))), c.requires.0, c.requires.1)

pub returns-in_err-e : goal.returns-in_err-e
returns-in_err-e c = rw (err_from_is_err_and c.from_residual.result c.from_residual.ensures.1).1 (admit_ends c.args.u c.args.words.now c.args.slot.now _ c.head_sound.ensures c.if-not-head_sound.false-raw _ c.csids_sound.ensures c.if-not-csids_sound.false-raw _ _ c.admit_endpoints.ensures _ c.in_err-e.was)

pub slice_bounds-admit_pdrs-end-2 : goal.slice_bounds-admit_pdrs-end-2
slice_bounds-admit_pdrs-end-2 c =
    let counts = slot_counts c.args.u c.args.words.now c.args.slot.now _ c.head_sound.ensures c.if-not-head_sound.false-raw in
    omega (arith, rows_long endpoint_width (get_or c.args.slot.now endpoint_count_at 0) _ (endpoint_area c.args.slot.now) _ c.as_chunks.ensures.front (omega (arith, counts.endpoints, c.as_chunks.ensures.front_len, length_part endpoints_at (max_endpoints * endpoint_width) c.args.slot.now (omega (arith, c.told-slot)))))

pub admit_pdrs-requires : goal.admit_pdrs-requires
admit_pdrs-requires c =
    let counts = slot_counts c.args.u c.args.words.now c.args.slot.now _ c.head_sound.ensures c.if-not-head_sound.false-raw in
    let long = ends_long c.args.u c.args.words.now c.args.slot.now _ c.head_sound.ensures c.if-not-head_sound.false-raw _ c.csids_sound.ensures c.if-not-csids_sound.false-raw _ _ c.admit_endpoints.ensures c.in_ok-e.e c.in_ok-e.was in
    (omega (arith, counts.pdrs, length_part pdrs_at (max_pdrs * pdr_width) c.args.slot.now (omega (arith, c.told-slot))), c.requires.0, omega (arith, long, c.requires.1))

pub returns-in_err-p : goal.returns-in_err-p
returns-in_err-p c =
    let counts = slot_counts c.args.u c.args.words.now c.args.slot.now _ c.head_sound.ensures c.if-not-head_sound.false-raw in
    let rows = rows_before endpoint_width (get_or c.args.slot.now endpoint_count_at 0) _ (endpoint_area c.args.slot.now) _ c.as_chunks.ensures.front (omega (arith, counts.endpoints, c.as_chunks.ensures.front_len, length_part endpoints_at (max_endpoints * endpoint_width) c.args.slot.now (omega (arith, c.told-slot)))) in
    let walk = named_rows c.args.u (pdr_area c.args.slot.now) (endpoint_area c.args.slot.now) _ _ rows c.admit_pdrs.ensures in
    rw (err_from_is_err_and c.from_residual-in_err-p.result c.from_residual-in_err-p.ensures.1).1 (admit_rules c.args.u c.args.words.now c.args.slot.now _ c.head_sound.ensures c.if-not-head_sound.false-raw _ c.csids_sound.ensures c.if-not-csids_sound.false-raw _ _ c.admit_endpoints.ensures c.in_ok-e.e c.in_ok-e.was _ _ walk _ c.in_err-p.was)

pub overflow_add-result : goal.overflow_add-result
overflow_add-result c =
    let counts = slot_counts c.args.u c.args.words.now c.args.slot.now _ c.head_sound.ensures c.if-not-head_sound.false-raw in
    let rows = rows_before endpoint_width (get_or c.args.slot.now endpoint_count_at 0) _ (endpoint_area c.args.slot.now) _ c.as_chunks.ensures.front (omega (arith, counts.endpoints, c.as_chunks.ensures.front_len, length_part endpoints_at (max_endpoints * endpoint_width) c.args.slot.now (omega (arith, c.told-slot)))) in
    let walk = named_rows c.args.u (pdr_area c.args.slot.now) (endpoint_area c.args.slot.now) _ _ rows c.admit_pdrs.ensures in
    let few = admit_few c.args.u c.args.words.now c.args.slot.now _ c.head_sound.ensures c.if-not-head_sound.false-raw _ c.csids_sound.ensures c.if-not-csids_sound.false-raw _ _ c.admit_endpoints.ensures c.in_ok-e.e c.in_ok-e.was _ _ walk c.in_ok-p.p c.in_ok-p.was in
    omega arith

pub returns : goal.returns
returns c =
    let counts = slot_counts c.args.u c.args.words.now c.args.slot.now _ c.head_sound.ensures c.if-not-head_sound.false-raw in
    let rows = rows_before endpoint_width (get_or c.args.slot.now endpoint_count_at 0) _ (endpoint_area c.args.slot.now) _ c.as_chunks.ensures.front (omega (arith, counts.endpoints, c.as_chunks.ensures.front_len, length_part endpoints_at (max_endpoints * endpoint_width) c.args.slot.now (omega (arith, c.told-slot)))) in
    let walk = named_rows c.args.u (pdr_area c.args.slot.now) (endpoint_area c.args.slot.now) _ _ rows c.admit_pdrs.ensures in
    admit_whole c.args.u c.args.words.now c.args.slot.now _ c.head_sound.ensures c.if-not-head_sound.false-raw _ c.csids_sound.ensures c.if-not-csids_sound.false-raw _ _ c.admit_endpoints.ensures c.in_ok-e.e c.in_ok-e.was _ _ walk c.in_ok-p.p c.in_ok-p.was

-- `marking::admit_endpoints` meets its contract.
-- Assumes nothing.
use Rattle.std.proofs.Common.{ℕ, ◌<◌, ◌≤◌, List, [], length, take, ap, ◌∙◌, arith}
use Rattle.std.proofs.lemmas.Result.{err_from_is_err_and}
use Rattle.octets.specs.Octets.{number}
use Rattle.rules.specs.Layout.{endpoint_width}
use Rattle.records.specs.Kept.{endpoint_sound}
use Rattle.records.proofs.Chunks.{row_at, rows_long}
use Rattle.unit.specs.Meaning.{settings_of}
use Rattle.marking.proofs.Walking.{walk_none, walk_low, walk_more, walk_clash, walk_room, walk_all, endpoint_places, endpoint_row}
use Rattle.marking.proofs.admit_endpoints.Goals as goal

pub loop-row-init : goal.loop-row-init
loop-row-init c =
    let g = c.args in
    let p = endpoint_sound (settings_of g.u) in
    let ps = endpoint_places g.u.first g.words.now g.area.now g.n in
    walk_none p endpoint_width 1 g.area.now ps

pub returns-then-id-next : goal.returns-then-id-next
returns-then-id-next c =
    let g = c.args in
    let p = endpoint_sound (settings_of g.u) in
    let ps = endpoint_places g.u.first g.words.now g.area.now g.n in
    let enough : g.n ≤ length c.as_chunks.result.0.now = omega (arith, c.requires, c.as_chunks.ensures.front_len) in
    let long = rows_long endpoint_width g.n _ g.area.now _ c.as_chunks.ensures.front enough in
    let here = row_at endpoint_width g.n _ g.area.now _ c.as_chunks.ensures.front enough c.loop-row.row-index [] c.loop-row-test.true in
    let within : c.loop-row.row-index < g.n = omega (arith, c.loop-row-test.true, long) in
    walk_low p endpoint_width 1 g.area.now ps c.loop-row.invariant within _ (c.read-id.ensures.0 ∙ ap (λ (r : List ℕ). number (take 1 r)) here) c.loop-row.words c.if-id-next.true

pub returns-in_err-new : goal.returns-in_err-new
returns-in_err-new c =
    let g = c.args in
    let p = endpoint_sound (settings_of g.u) in
    let ps = endpoint_places g.u.first g.words.now g.area.now g.n in
    let enough : g.n ≤ length c.as_chunks.result.0.now = omega (arith, c.requires, c.as_chunks.ensures.front_len) in
    let long = rows_long endpoint_width g.n _ g.area.now _ c.as_chunks.ensures.front enough in
    let here = row_at endpoint_width g.n _ g.area.now _ c.as_chunks.ensures.front enough c.loop-row.row-index [] c.loop-row-test.true in
    let within : c.loop-row.row-index < g.n = omega (arith, c.loop-row-test.true, long) in
    rw (err_from_is_err_and c.from_residual.result c.from_residual.ensures.1).1 (walk_clash p endpoint_width 1 g.area.now ps c.loop-row.invariant within _ c.admit_endpoint.new.words (endpoint_row g.u _ here c.admit_endpoint.ensures) c.in_err-new.was _)

pub overflow_add-new : goal.overflow_add-new
overflow_add-new c =
    let g = c.args in
    let p = endpoint_sound (settings_of g.u) in
    let ps = endpoint_places g.u.first g.words.now g.area.now g.n in
    let enough : g.n ≤ length c.as_chunks.result.0.now = omega (arith, c.requires, c.as_chunks.ensures.front_len) in
    let long = rows_long endpoint_width g.n _ g.area.now _ c.as_chunks.ensures.front enough in
    let here = row_at endpoint_width g.n _ g.area.now _ c.as_chunks.ensures.front enough c.loop-row.row-index [] c.loop-row-test.true in
    let within : c.loop-row.row-index < g.n = omega (arith, c.loop-row-test.true, long) in
    let more = walk_more p endpoint_width 1 g.area.now ps c.loop-row.invariant within _ (c.read-id.ensures.0 ∙ ap (λ (r : List ℕ). number (take 1 r)) here) _ c.admit_endpoint.new.words (endpoint_row g.u _ here c.admit_endpoint.ensures) c.if-id-next.false c.in_ok-new.field-0 c.in_ok-new.was in
    omega (arith, more.few, within)

pub loop-row-preserved : goal.loop-row-preserved
loop-row-preserved c =
    let g = c.args in
    let p = endpoint_sound (settings_of g.u) in
    let ps = endpoint_places g.u.first g.words.now g.area.now g.n in
    let enough : g.n ≤ length c.as_chunks.result.0.now = omega (arith, c.requires, c.as_chunks.ensures.front_len) in
    let long = rows_long endpoint_width g.n _ g.area.now _ c.as_chunks.ensures.front enough in
    let here = row_at endpoint_width g.n _ g.area.now _ c.as_chunks.ensures.front enough c.loop-row.row-index [] c.loop-row-test.true in
    let within : c.loop-row.row-index < g.n = omega (arith, c.loop-row-test.true, long) in
    walk_more p endpoint_width 1 g.area.now ps c.loop-row.invariant within _ (c.read-id.ensures.0 ∙ ap (λ (r : List ℕ). number (take 1 r)) here) _ c.admit_endpoint.new.words (endpoint_row g.u _ here c.admit_endpoint.ensures) c.if-id-next.false c.in_ok-new.field-0 c.in_ok-new.was

pub returns-then-not-is_zero : goal.returns-then-not-is_zero
returns-then-not-is_zero c =
    let g = c.args in
    let p = endpoint_sound (settings_of g.u) in
    let ps = endpoint_places g.u.first g.words.now g.area.now g.n in
    let enough : g.n ≤ length c.as_chunks.result.0.now = omega (arith, c.requires, c.as_chunks.ensures.front_len) in
    let long = rows_long endpoint_width g.n _ g.area.now _ c.as_chunks.ensures.front enough in
    walk_room p endpoint_width 1 g.area.now ps c.loop-row.invariant (omega (arith, c.loop-row-test.false, long)) c.requires.0 _ c.is_zero.ensures c.loop-row.words c.if-not-is_zero.true-raw

pub returns : goal.returns
returns c =
    let g = c.args in
    let p = endpoint_sound (settings_of g.u) in
    let ps = endpoint_places g.u.first g.words.now g.area.now g.n in
    let enough : g.n ≤ length c.as_chunks.result.0.now = omega (arith, c.requires, c.as_chunks.ensures.front_len) in
    let long = rows_long endpoint_width g.n _ g.area.now _ c.as_chunks.ensures.front enough in
    walk_all p endpoint_width 1 g.area.now ps c.loop-row.invariant (omega (arith, c.loop-row-test.false, long)) c.requires.0 _ c.is_zero.ensures c.if-not-is_zero.false-raw

-- `marking::admit_pdrs` meets its contract.
-- Assumes nothing.
use Rattle.std.proofs.Common.{ℕ, ◌<◌, ◌≤◌, List, [], length, take, ap, ◌∙◌, arith}
use Rattle.std.proofs.lemmas.Result.{err_from_is_err_and}
use Rattle.octets.specs.Octets.{number}
use Rattle.rules.specs.Layout.{pdr_width}
use Rattle.records.specs.Kept.{pdr_sound, ids_of}
use Rattle.records.proofs.Chunks.{row_at, rows_long, rows_before}
use Rattle.unit.specs.Meaning.{settings_of}
use Rattle.marking.proofs.Walking.{walk_none, walk_low, walk_more, walk_clash, walk_room, walk_all, pdr_places, pdr_row}
use Rattle.marking.proofs.admit_pdrs.Goals as goal

pub loop-i-init : goal.loop-i-init
loop-i-init c =
    let g = c.args in
    let p = pdr_sound (settings_of g.u) (ids_of g.ends.now) in
    let ps = pdr_places g.u.first g.words.now g.area.now g.n in
    walk_none p pdr_width 2 g.area.now ps

pub returns-then-id-next : goal.returns-then-id-next
returns-then-id-next c =
    let g = c.args in
    let p = pdr_sound (settings_of g.u) (ids_of g.ends.now) in
    let ps = pdr_places g.u.first g.words.now g.area.now g.n in
    let enough : g.n ≤ length c.as_chunks.result.0.now = omega (arith, c.requires, c.as_chunks.ensures.front_len) in
    let long = rows_long pdr_width g.n _ g.area.now _ c.as_chunks.ensures.front enough in
    let here = row_at pdr_width g.n _ g.area.now _ c.as_chunks.ensures.front enough c.loop-i.i [] c.loop-i-test.true in
    let within : c.loop-i.i < g.n = omega (arith, c.loop-i-test.true, long) in
    walk_low p pdr_width 2 g.area.now ps c.loop-i.invariant within _ (c.read-id.ensures.0 ∙ ap (λ (r : List ℕ). number (take 2 r)) here) c.loop-i.words c.if-id-next.true

pub returns-in_err-new : goal.returns-in_err-new
returns-in_err-new c =
    let g = c.args in
    let p = pdr_sound (settings_of g.u) (ids_of g.ends.now) in
    let ps = pdr_places g.u.first g.words.now g.area.now g.n in
    let enough : g.n ≤ length c.as_chunks.result.0.now = omega (arith, c.requires, c.as_chunks.ensures.front_len) in
    let long = rows_long pdr_width g.n _ g.area.now _ c.as_chunks.ensures.front enough in
    let here = row_at pdr_width g.n _ g.area.now _ c.as_chunks.ensures.front enough c.loop-i.i [] c.loop-i-test.true in
    let within : c.loop-i.i < g.n = omega (arith, c.loop-i-test.true, long) in
    rw (err_from_is_err_and c.from_residual.result c.from_residual.ensures.1).1 (walk_clash p pdr_width 2 g.area.now ps c.loop-i.invariant within _ c.admit_pdr.new.words (pdr_row g.u (ids_of g.ends.now) g.area.now c.loop-i.i _ here (rows_before pdr_width _ _ g.area.now _ c.as_chunks.ensures.front (omega (arith, enough, within))) c.admit_pdr.ensures) c.in_err-new.was _)

pub overflow_add-new : goal.overflow_add-new
overflow_add-new c =
    let g = c.args in
    let p = pdr_sound (settings_of g.u) (ids_of g.ends.now) in
    let ps = pdr_places g.u.first g.words.now g.area.now g.n in
    let enough : g.n ≤ length c.as_chunks.result.0.now = omega (arith, c.requires, c.as_chunks.ensures.front_len) in
    let long = rows_long pdr_width g.n _ g.area.now _ c.as_chunks.ensures.front enough in
    let here = row_at pdr_width g.n _ g.area.now _ c.as_chunks.ensures.front enough c.loop-i.i [] c.loop-i-test.true in
    let within : c.loop-i.i < g.n = omega (arith, c.loop-i-test.true, long) in
    let more = walk_more p pdr_width 2 g.area.now ps c.loop-i.invariant within _ (c.read-id.ensures.0 ∙ ap (λ (r : List ℕ). number (take 2 r)) here) _ c.admit_pdr.new.words (pdr_row g.u (ids_of g.ends.now) g.area.now c.loop-i.i _ here (rows_before pdr_width _ _ g.area.now _ c.as_chunks.ensures.front (omega (arith, enough, within))) c.admit_pdr.ensures) c.if-id-next.false c.in_ok-new.field-0 c.in_ok-new.was in
    omega (arith, more.few, within)

pub loop-i-preserved : goal.loop-i-preserved
loop-i-preserved c =
    let g = c.args in
    let p = pdr_sound (settings_of g.u) (ids_of g.ends.now) in
    let ps = pdr_places g.u.first g.words.now g.area.now g.n in
    let enough : g.n ≤ length c.as_chunks.result.0.now = omega (arith, c.requires, c.as_chunks.ensures.front_len) in
    let long = rows_long pdr_width g.n _ g.area.now _ c.as_chunks.ensures.front enough in
    let here = row_at pdr_width g.n _ g.area.now _ c.as_chunks.ensures.front enough c.loop-i.i [] c.loop-i-test.true in
    let within : c.loop-i.i < g.n = omega (arith, c.loop-i-test.true, long) in
    walk_more p pdr_width 2 g.area.now ps c.loop-i.invariant within _ (c.read-id.ensures.0 ∙ ap (λ (r : List ℕ). number (take 2 r)) here) _ c.admit_pdr.new.words (pdr_row g.u (ids_of g.ends.now) g.area.now c.loop-i.i _ here (rows_before pdr_width _ _ g.area.now _ c.as_chunks.ensures.front (omega (arith, enough, within))) c.admit_pdr.ensures) c.if-id-next.false c.in_ok-new.field-0 c.in_ok-new.was

pub returns-then-not-is_zero : goal.returns-then-not-is_zero
returns-then-not-is_zero c =
    let g = c.args in
    let p = pdr_sound (settings_of g.u) (ids_of g.ends.now) in
    let ps = pdr_places g.u.first g.words.now g.area.now g.n in
    let enough : g.n ≤ length c.as_chunks.result.0.now = omega (arith, c.requires, c.as_chunks.ensures.front_len) in
    let long = rows_long pdr_width g.n _ g.area.now _ c.as_chunks.ensures.front enough in
    walk_room p pdr_width 2 g.area.now ps c.loop-i.invariant (omega (arith, c.loop-i-test.false, long)) c.requires.0 _ c.is_zero.ensures c.loop-i.words c.if-not-is_zero.true-raw

pub returns : goal.returns
returns c =
    let g = c.args in
    let p = pdr_sound (settings_of g.u) (ids_of g.ends.now) in
    let ps = pdr_places g.u.first g.words.now g.area.now g.n in
    let enough : g.n ≤ length c.as_chunks.result.0.now = omega (arith, c.requires, c.as_chunks.ensures.front_len) in
    let long = rows_long pdr_width g.n _ g.area.now _ c.as_chunks.ensures.front enough in
    walk_all p pdr_width 2 g.area.now ps c.loop-i.invariant (omega (arith, c.loop-i-test.false, long)) c.requires.0 _ c.is_zero.ensures c.if-not-is_zero.false-raw

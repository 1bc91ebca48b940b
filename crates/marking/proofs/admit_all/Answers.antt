-- `marking::admit_all` meets its contract.
-- Assumes nothing.
use Rattle.std.proofs.lemmas.Result.{err_from_is_err_and}
use Rattle.std.proofs.Common.{◌≡◌, ℕ, ◌<◌, ◌≤◌, [], length, ap, ◌∙◌, arith}
use lib.ListN.{length-replicate}
use Rattle.unit.specs.Meaning.{settings_of}
use Rattle.rules.specs.Limits.{address_words}
use Rattle.rules.specs.Layout.{session_width}
use Rattle.records.proofs.Chunks.{row_at, rows_long}
use Rattle.marking.proofs.Entering.{holders_none, passing_none, passing_turn, turn_tally, turn_added, passing_stop, passing_all}
use Rattle.marking.proofs.admit_all.Goals as goal

pub loop-i-init : goal.loop-i-init
unfolding settings_of
loop-i-init c =
    let start = c in
    let g = c.args in
    passing_none (settings_of g.u) g.words.now g.addresses.now g.a.now g.n _ (holders_none g.u.addresses address_words g.addresses.now c.requires.5 c.requires.6)

pub overflow_add-i : goal.overflow_add-i
overflow_add-i c =
    let g = c.args in
    let l = c.loop-i in
    let enough : g.n ≤ length c.as_chunks.result.0.now = omega (arith, c.requires.0, c.as_chunks.ensures.front_len) in
    let long = rows_long session_width g.n _ g.a.now _ c.as_chunks.ensures.front enough in
    let here = row_at session_width g.n _ g.a.now _ c.as_chunks.ensures.front enough l.i [] c.loop-i-test.true in
    let within : l.i < g.n = omega (arith, c.loop-i-test.true, long) in
    omega (arith, within, c.requires.1)

pub overflow_cast-i : goal.overflow_cast-i
overflow_cast-i c =
    let g = c.args in
    let l = c.loop-i in
    let enough : g.n ≤ length c.as_chunks.result.0.now = omega (arith, c.requires.0, c.as_chunks.ensures.front_len) in
    let long = rows_long session_width g.n _ g.a.now _ c.as_chunks.ensures.front enough in
    let here = row_at session_width g.n _ g.a.now _ c.as_chunks.ensures.front enough l.i [] c.loop-i-test.true in
    let within : l.i < g.n = omega (arith, c.loop-i-test.true, long) in
    omega (arith, within, c.requires.1)

pub admit_session-requires : goal.admit_session-requires
unfolding settings_of
admit_session-requires c =
    let g = c.args in
    let l = c.loop-i in
    let enough : g.n ≤ length c.as_chunks.result.0.now = omega (arith, c.requires.0, c.as_chunks.ensures.front_len) in
    let long = rows_long session_width g.n _ g.a.now _ c.as_chunks.ensures.front enough in
    let here = row_at session_width g.n _ g.a.now _ c.as_chunks.ensures.front enough l.i [] c.loop-i-test.true in
    let within : l.i < g.n = omega (arith, c.loop-i-test.true, long) in
    let sound : length g.addresses.now ≡ address_words = ap length c.requires.6 ∙ length-replicate {A = ℕ} address_words 0 in
    (c.requires.2, omega (arith, c.requires.3, l.invariant.teids.long), c.requires.4, omega (arith, c.requires.5, l.invariant.addresses.long, sound), omega arith, omega (arith, within, c.requires.1), passing_turn (settings_of g.u) g.words.now g.addresses.now g.a.now g.n l.invariant)

pub returns-in_err-new : goal.returns-in_err-new
returns-in_err-new c =
    let g = c.args in
    let l = c.loop-i in
    let enough : g.n ≤ length c.as_chunks.result.0.now = omega (arith, c.requires.0, c.as_chunks.ensures.front_len) in
    let long = rows_long session_width g.n _ g.a.now _ c.as_chunks.ensures.front enough in
    let here = row_at session_width g.n _ g.a.now _ c.as_chunks.ensures.front enough l.i [] c.loop-i-test.true in
    let within : l.i < g.n = omega (arith, c.loop-i-test.true, long) in
    rw (err_from_is_err_and c.from_residual.result c.from_residual.ensures.1).1 (passing_stop (settings_of g.u) g.words.now g.addresses.now g.a.now g.n l.invariant within _ here _ _ _ _ c.admit_session.ensures _ _ c.in_err-new.was)

pub added-sum-requires : goal.added-sum-requires
added-sum-requires c =
    let g = c.args in
    let l = c.loop-i in
    let enough : g.n ≤ length c.as_chunks.result.0.now = omega (arith, c.requires.0, c.as_chunks.ensures.front_len) in
    let long = rows_long session_width g.n _ g.a.now _ c.as_chunks.ensures.front enough in
    let here = row_at session_width g.n _ g.a.now _ c.as_chunks.ensures.front enough l.i [] c.loop-i-test.true in
    let within : l.i < g.n = omega (arith, c.loop-i-test.true, long) in
    turn_tally (settings_of g.u) g.words.now g.addresses.now g.a.now g.n l.invariant within _ here _ _ _ _ c.admit_session.ensures c.in_ok-new.new c.in_ok-new.was c.requires.1

pub loop-i-preserved : goal.loop-i-preserved
loop-i-preserved c =
    let g = c.args in
    let l = c.loop-i in
    let enough : g.n ≤ length c.as_chunks.result.0.now = omega (arith, c.requires.0, c.as_chunks.ensures.front_len) in
    let long = rows_long session_width g.n _ g.a.now _ c.as_chunks.ensures.front enough in
    let here = row_at session_width g.n _ g.a.now _ c.as_chunks.ensures.front enough l.i [] c.loop-i-test.true in
    let within : l.i < g.n = omega (arith, c.loop-i-test.true, long) in
    turn_added (settings_of g.u) g.words.now g.addresses.now g.a.now g.n l.invariant within _ here _ _ _ _ c.admit_session.ensures c.in_ok-new.new _ c.in_ok-new.was c.added-sum.ensures

pub returns : goal.returns
returns c =
    let g = c.args in
    let enough : g.n ≤ length c.as_chunks.result.0.now = omega (arith, c.requires.0, c.as_chunks.ensures.front_len) in
    let long = rows_long session_width g.n _ g.a.now _ c.as_chunks.ensures.front enough in
    passing_all (settings_of g.u) g.words.now g.addresses.now g.a.now g.n c.loop-i.invariant (omega (arith, c.loop-i-test.false, long))

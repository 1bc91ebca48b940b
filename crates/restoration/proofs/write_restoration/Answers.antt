-- `restoration::write_restoration` meets its contract: the tests in their order, then the request.
-- Assumes nothing.
use native.Mathlib.Omega.{arith}
use Rattle.restoration.proofs.RequestSteps.{answer_broken, sound_is, answer_past, answer_unaddressed, ready_now, answer_written}
use Rattle.table.proofs.SoundSlots.{table_long_lem}
use Rattle.restoration.proofs.write_restoration.Goals as goal

pub returns-then-not-is_sound : goal.returns-then-not-is_sound
returns-then-not-is_sound c = search answer_broken

pub read-requires : goal.read-requires
read-requires c =
    let s = c in
    let a = c.args in
    (omega (arith, table_long_lem a.t.now (sound_is a.t.now a.place a.ipv4.now a.ipv6.now a.space.now _ c.is_sound.ensures c.if-not-is_sound.false-raw)), omega arith)

pub returns-then-read-place : goal.returns-then-read-place
returns-then-read-place c =
    let a = c.args in
    let n = c.read in
    answer_past a.t.now a.place a.ipv4.now a.ipv6.now a.space.now _ c.is_sound.ensures c.if-not-is_sound.false-raw n.result n.ensures.0 c.if-read-place.true

pub returns-then-not-has_address : goal.returns-then-not-has_address
returns-then-not-has_address c =
    let a = c.args in
    let n = c.read in
    answer_unaddressed a.t.now a.place a.ipv4.now a.ipv6.now a.space.now _ c.is_sound.ensures c.if-not-is_sound.false-raw n.result n.ensures.0 c.if-read-place.false _ c.has_address.ensures c.if-not-has_address.true-raw

pub write_at-requires : goal.write_at-requires
write_at-requires c =
    let a = c.args in
    let n = c.read in
    ready_now a.t.now a.place a.ipv4.now a.ipv6.now a.space.now _ c.is_sound.ensures c.if-not-is_sound.false-raw n.result n.ensures.0 c.if-read-place.false _ c.has_address.ensures c.if-not-has_address.false-raw

pub returns : goal.returns
returns c =
    let a = c.args in
    let n = c.read in
    let w = c.write_at in
    answer_written a.t.now a.place a.ipv4.now a.ipv6.now a.space.now _ c.is_sound.ensures c.if-not-is_sound.false-raw n.result n.ensures.0 c.if-read-place.false _ c.has_address.ensures _ c.if-not-has_address.false-raw w.ensures

-- `finding::find_session` meets its contract.
-- Assumes nothing.
use native.Mathlib.Omega.{arith}
use Rattle.table.proofs.SoundSlots.{table_long_lem}
use Rattle.finding.proofs.Steps.{is_sound_lem, seid_broken, room_there, seid_told, seid_none}
use Rattle.finding.proofs.find_session.Goals as goal

pub returns-then-not-is_sound : goal.returns-then-not-is_sound
returns-then-not-is_sound c = search seid_broken

pub read-room-requires : goal.read-room-requires
read-room-requires c =
    let t = c.args.t.now in
    let l = table_long_lem t (is_sound_lem t _ c.is_sound.ensures c.if-not-is_sound.false-raw) in
    omega arith

pub find-requires : goal.find-requires
find-requires c = search room_there

pub returns-in-Ok : goal.returns-in-Ok
returns-in-Ok c = search seid_told

pub returns-in-Err : goal.returns-in-Err
returns-in-Err c = search seid_none

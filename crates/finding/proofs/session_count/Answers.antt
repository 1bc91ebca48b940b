-- `finding::session_count` meets its contract.
-- Assumes nothing.
use native.Mathlib.Omega.{arith}
use Rattle.table.proofs.SoundSlots.{table_long_lem}
use Rattle.finding.proofs.Steps.{is_sound_lem, count_broken, count_told_lem}
use Rattle.finding.proofs.session_count.Goals as goal

pub returns-then-not-is_sound : goal.returns-then-not-is_sound
returns-then-not-is_sound c = search count_broken

pub read-requires : goal.read-requires
read-requires c =
    let t = c.args.t.now in
    (omega (arith, table_long_lem t (is_sound_lem t _ c.is_sound.ensures c.if-not-is_sound.false-raw)), omega arith)

pub returns : goal.returns
returns c = search count_told_lem

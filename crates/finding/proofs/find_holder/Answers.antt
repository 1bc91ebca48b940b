-- `finding::find_holder` meets its contract.
-- Assumes nothing.
use native.Mathlib.Omega.{arith}
use Rattle.table.proofs.SoundSlots.{table_long_lem}
use Rattle.finding.proofs.Steps.{is_sound_lem, sessions_counted_lem, teid_broken, teid_told}
use Rattle.finding.proofs.find_holder.Goals as goal

pub returns-then-not-is_sound : goal.returns-then-not-is_sound
returns-then-not-is_sound c = search teid_broken

pub read-n-requires : goal.read-n-requires
read-n-requires c =
    let t = c.args.t.now in
    (omega (arith, table_long_lem t (is_sound_lem t _ c.is_sound.ensures c.if-not-is_sound.false-raw)), omega arith)

pub holder-requires : goal.holder-requires
holder-requires c = (search is_sound_lem, search sessions_counted_lem)

pub returns : goal.returns
returns c = teid_told _ _ c.is_sound.ensures _ _ _ c.if-not-is_sound.false-raw c.holder.ensures c.ok_or.ensures.value

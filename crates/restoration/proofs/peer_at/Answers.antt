-- `restoration::peer_at` meets its contract.
-- Assumes nothing.
use Prim.Native.Nat.{◌+◌, ◌*◌}
use native.Mathlib.Omega.{arith}
use Rattle.rules.specs.Layout.{head_width, session_width}
use Rattle.table.proofs.SoundSlots.{few_sessions_lem}
use Rattle.restoration.proofs.SoundSlots.{slot_place, slot_peer}
use Rattle.restoration.proofs.peer_at.Goals as goal

pub overflow_mul-at : goal.overflow_mul-at
overflow_mul-at c = omega (arith, few_sessions_lem c.args.t.now c.requires.0, c.requires.1)

pub overflow_add-at : goal.overflow_add-at
overflow_add-at c = omega (arith, few_sessions_lem c.args.t.now c.requires.0, c.requires.1)

pub bounds-t-at : goal.bounds-t-at
bounds-t-at c = let s = c in slot_place c.args.t.now c.requires.0 c.args.place c.requires.1

pub overflow_cast-result : goal.overflow_cast-result
overflow_cast-result c = omega (arith, c.type_inv.t (head_width + c.args.place * session_width))

pub returns : goal.returns
returns c = let s = c in slot_peer c.args.t.now c.requires.0 c.args.place c.requires.1

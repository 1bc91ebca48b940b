-- `sets::goes` meets its contract: the slot at the place. Assumes nothing.
use borrow.Author.Rules.{rules}
use Prim.Native.Nat.{◌+◌, ◌*◌}
use Rattle.rules.specs.Layout.{head_width, session_width}
use native.Mathlib.Omega.{arith}
use Rattle.sets.proofs.GoneLaws.{not_theirs, slot_here, slot_long_lem, slot_count}
use Rattle.sets.proofs.goes.Goals as goal

pub overflow_cast-t : goal.overflow_cast-t
overflow_cast-t c = omega (arith, c.type_inv.t (head_width + c.args.p * session_width))

pub returns-then-t-at : goal.returns-then-t-at
returns-then-t-at c = search not_theirs

pub covers_session-requires : goal.covers_session-requires
covers_session-requires c = (search rules, search slot_long_lem, search slot_count)

pub returns : goal.returns
returns c = search slot_here

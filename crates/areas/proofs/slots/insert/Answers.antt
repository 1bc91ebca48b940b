-- `areas::slots::insert` meets its contract: what is moved up and what is written stand side by side. Assumes nothing.
use native.Mathlib.Omega.{arith}
use lib.ListN.{length}
use Rattle.areas.proofs.Rows.{rows, insert_steps}
use Rattle.areas.proofs.slots.insert.Goals as goal

pub overflow_mul-at : goal.overflow_mul-at
overflow_mul-at c = omega (arith, rows (length c.args.r.now) c.requires.0)

pub overflow_mul-n : goal.overflow_mul-n
overflow_mul-n c = omega (arith, rows (length c.args.r.now) c.requires.0)

pub move_up-requires : goal.move_up-requires
move_up-requires c = omega (arith, rows (length c.args.r.now) c.requires.0)

pub copy-requires : goal.copy-requires
copy-requires c =
    let start = c in
    omega (arith, rows (length c.args.r.now) c.requires.0, c.move_up.auto.s)

pub returns : goal.returns
returns c = search insert_steps

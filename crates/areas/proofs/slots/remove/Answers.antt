-- `areas::slots::remove` meets its contract: what is moved down and the zeros stand side by side. Assumes nothing.
use native.Mathlib.Omega.{arith}
use Rattle.areas.proofs.Rows.{rows_after, remove_steps}
use Rattle.areas.proofs.slots.remove.Goals as goal

pub overflow_mul-at : goal.overflow_mul-at
overflow_mul-at c = omega (arith, rows_after c.args.w c.requires.0)

pub overflow_mul-rest : goal.overflow_mul-rest
overflow_mul-rest c = omega (arith, rows_after c.args.w c.requires.0)

pub move_down-requires : goal.move_down-requires
move_down-requires c = omega (arith, rows_after c.args.w c.requires.0)

pub overflow_add-at : goal.overflow_add-at
overflow_add-at c =
    let start = c in
    omega (arith, rows_after c.args.w c.requires.0)

pub clear-requires : goal.clear-requires
clear-requires c =
    let start = c in
    omega (arith, rows_after c.args.w c.requires.0, c.move_down.auto.s)

pub returns : goal.returns
returns c = search remove_steps

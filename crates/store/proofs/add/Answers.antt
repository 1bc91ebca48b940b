-- `store::add` meets its contract. Assumes nothing.
use Rattle.std.proofs.Common.{arith}
use Rattle.store.proofs.HeldLaws.{store_long, count_few}
use Rattle.store.proofs.KeepLaws.{add_room, added}
use Rattle.store.proofs.add.Goals as goal

pub bounds-s-0 : goal.bounds-s-0
bounds-s-0 c = omega (arith, store_long _ c.requires.0.store)

pub slice_bounds-span-count : goal.slice_bounds-span-count
slice_bounds-span-count c = omega (arith, store_long _ c.requires.0.store)

pub slice_bounds-span-start : goal.slice_bounds-span-start
slice_bounds-span-start c = omega (arith, store_long _ c.requires.0.store)

pub overflow_cast-n : goal.overflow_cast-n
overflow_cast-n c = omega (arith, count_few _ c.requires.0.store)

pub write_entry-requires : goal.write_entry-requires
write_entry-requires c = add_room _ c.requires.0.store _ c.requires.0.entry c.requires.1 _ c.span-used.ensures.0

pub overflow_add-s : goal.overflow_add-s
overflow_add-s c = omega (arith, count_few _ c.requires.0.store)

pub bounds-s-0-2 : goal.bounds-s-0-2
bounds-s-0-2 c = omega (arith, store_long _ c.requires.0.store, c.write_entry.auto.s)

pub returns : goal.returns
returns c = added _ c.requires.0.store _ c.requires.0.entry c.requires.1 _ _ c.span-used.ensures.0 c.write_entry.ensures

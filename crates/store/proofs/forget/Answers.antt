-- `store::forget` meets its contract. Assumes nothing.
use Rattle.std.proofs.Common.{◌+◌, ◌-◌, ◌≤◌, length, get_or, ◌∙◌, arith, length-set}
use Rattle.store.proofs.HeldLaws.{store_long, count_is, count_few}
use Rattle.store.proofs.KeepLaws.{forget_room, forgotten}
use Rattle.store.proofs.forget.Goals as goal

pub bounds-s-0 : goal.bounds-s-0
bounds-s-0 c = omega (arith, store_long _ c.requires.0)

pub slice_bounds-span-count : goal.slice_bounds-span-count
slice_bounds-span-count c = omega (arith, store_long _ c.requires.0)

pub slice_bounds-span-start : goal.slice_bounds-span-start
slice_bounds-span-start c = omega (arith, store_long _ c.requires.0)

pub overflow_cast-n : goal.overflow_cast-n
overflow_cast-n c = omega (arith, count_few _ c.requires.0)

pub slice_bounds-span-count-2 : goal.slice_bounds-span-count-2
slice_bounds-span-count-2 c = omega (arith, store_long _ c.requires.0)

pub slice_bounds-span-start-2 : goal.slice_bounds-span-start-2
slice_bounds-span-start-2 c = omega (arith, store_long _ c.requires.0)

pub overflow_sub-used : goal.overflow_sub-used
overflow_sub-used c =
    let room : (c.span-gone.result ≤ c.span-used.result) × (1 + c.span-used.result ≤ length c.args.s.now) = forget_room _ c.requires.0 c.requires.1 _ _ c.span-used.ensures.0 c.span-gone.ensures.0 in
    let r = room in omega (arith, r.0)

pub move_down-requires : goal.move_down-requires
move_down-requires c =
    let room : (c.span-gone.result ≤ c.span-used.result) × (1 + c.span-used.result ≤ length c.args.s.now) = forget_room _ c.requires.0 c.requires.1 _ _ c.span-used.ensures.0 c.span-gone.ensures.0 in
    let r = room in omega (arith, r.0, r.1)

pub overflow_sub-used-2 : goal.overflow_sub-used-2
overflow_sub-used-2 c =
    let room : (c.span-gone.result ≤ c.span-used.result) × (1 + c.span-used.result ≤ length c.args.s.now) = forget_room _ c.requires.0 c.requires.1 _ _ c.span-used.ensures.0 c.span-gone.ensures.0 in
    let r = room in omega (arith, r.0)

pub clear-requires : goal.clear-requires
clear-requires c =
    let room : (c.span-gone.result ≤ c.span-used.result) × (1 + c.span-used.result ≤ length c.args.s.now) = forget_room _ c.requires.0 c.requires.1 _ _ c.span-used.ensures.0 c.span-gone.ensures.0 in
    let r = room in omega (arith, r.0, r.1, c.move_down.auto.s)

pub overflow_sub-s : goal.overflow_sub-s
overflow_sub-s c = omega (arith, count_is _ c.requires.0, c.requires.1)

pub bounds-s-0-2 : goal.bounds-s-0-2
bounds-s-0-2 c = omega (arith, store_long _ c.requires.0, c.move_down.auto.s, c.clear.auto.s)

pub shape_of-s : goal.shape_of-s
shape_of-s c = length-set c.clear.new.s 0 (get_or c.args.s.now 0 0 - 1) ∙ c.clear.auto.s ∙ c.move_down.auto.s

pub returns : goal.returns
returns c = forgotten _ c.requires.0 c.requires.1 _ _ c.span-used.ensures.0 c.span-gone.ensures.0 _ _ c.move_down.ensures c.clear.ensures

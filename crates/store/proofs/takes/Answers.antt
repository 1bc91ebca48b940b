-- `store::takes` meets its contract, by the newest entry's number. Assumes nothing.
use Rattle.std.proofs.Common.{◌+◌, ◌≤◌, length, refl, arith}
use Rattle.store.proofs.RequestTests.{request_header}
use Rattle.store.proofs.HeldLaws.{store_long, takes_any, newest_place, newest_header, takes_newer}
use Rattle.store.proofs.takes.Goals as goal

pub bounds-s-0 : goal.bounds-s-0
bounds-s-0 c = omega (arith, store_long _ c.requires.0)

pub overflow_cast-n : goal.overflow_cast-n
overflow_cast-n c = omega (arith, c.type_inv.s 0)

pub returns-then-n-eq0 : goal.returns-then-n-eq0
returns-then-n-eq0 c = takes_any _ c.requires.0 _ c.if-n-eq0.true

pub slice_bounds-span-count : goal.slice_bounds-span-count
slice_bounds-span-count c = omega (arith, store_long _ c.requires.0)

pub slice_bounds-span-start : goal.slice_bounds-span-start
slice_bounds-span-start c = omega (arith, store_long _ c.requires.0)

pub slice_bounds-number_of-count : goal.slice_bounds-number_of-count
slice_bounds-number_of-count c =
    let at_newest : 3 + c.span-last.result ≤ length c.args.s.now = let start = c in newest_place _ c.requires.0 c.args.msg.now _ refl c.if-n-eq0.false _ c.span-last.ensures.0 in
    at_newest

pub slice_bounds-number_of-start : goal.slice_bounds-number_of-start
slice_bounds-number_of-start c =
    let at_newest : 3 + c.span-last.result ≤ length c.args.s.now = let start = c in newest_place _ c.requires.0 c.args.msg.now _ refl c.if-n-eq0.false _ c.span-last.ensures.0 in
    let p = at_newest in omega arith

pub number_of-newest-requires : goal.number_of-newest-requires
number_of-newest-requires c = let k = c in let start = c in newest_header _ c.requires.0 c.args.msg.now _ refl c.if-n-eq0.false _ c.span-last.ensures.0

pub number_of-requires : goal.number_of-requires
number_of-requires c = request_header _ c.requires.1

pub returns : goal.returns
returns c = let k = c in let start = c in takes_newer _ c.requires.0 c.args.msg.now _ refl c.if-n-eq0.false _ c.span-last.ensures.0 _ _ _ c.number_of.ensures.0 c.number_of-newest.ensures.0 c.is_newer.ensures

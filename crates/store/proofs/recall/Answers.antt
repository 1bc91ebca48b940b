-- `store::recall` meets its contract. Assumes nothing.
use Rattle.std.proofs.Common.{arith}
use Rattle.store.proofs.HeldLaws.{store_long}
use Rattle.store.proofs.WithinLaws.{recalls}
use Rattle.store.proofs.recall.Goals as goal

pub slice_bounds-find-count : goal.slice_bounds-find-count
slice_bounds-find-count c = omega (arith, store_long _ c.requires)

pub slice_bounds-find-start : goal.slice_bounds-find-start
slice_bounds-find-start c = omega (arith, store_long _ c.requires)

pub bounds-s-0 : goal.bounds-s-0
bounds-s-0 c = omega (arith, store_long _ c.requires)

pub returns : goal.returns
returns c = recalls (λ r. r.now) _ _ c.requires _ c.find.ensures

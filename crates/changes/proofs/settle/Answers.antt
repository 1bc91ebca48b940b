-- `changes::settle` meets its contract.
-- Assumes nothing.
use native.Mathlib.Omega.{arith}
use Rattle.changes.proofs.Settling.{entry_asks, settle_refuses, settle_accepts, gone_within, gone_part}
use borrow.Author.Rules.{rules}
use Rattle.changes.proofs.settle.Goals as goal

pub removed-n-requires : goal.removed-n-requires
removed-n-requires c = (search rules, search rules, omega arith)

pub slice_bounds-gone-end : goal.slice_bounds-gone-end
slice_bounds-gone-end c = search gone_within

pub slice_bounds-judge-end : goal.slice_bounds-judge-end
slice_bounds-judge-end c = search gone_part

pub judge-cause-requires : goal.judge-cause-requires
judge-cause-requires c = search entry_asks

pub refuse-requires : goal.refuse-requires
refuse-requires c = (search rules, search settle_refuses, search rules)

pub slice_bounds-gone-end-2 : goal.slice_bounds-gone-end-2
slice_bounds-gone-end-2 c = search gone_within

pub slice_bounds-accept-end : goal.slice_bounds-accept-end
slice_bounds-accept-end c = search gone_part

pub accept-requires : goal.accept-requires
accept-requires c =
    let p = c.requires in
    let e = c.removed-n.ensures in
    settle_accepts p.0 p.1 p.2 e.0 e.1 c.judge-cause.ensures c.if-cause-ne-ACCEPTED.false

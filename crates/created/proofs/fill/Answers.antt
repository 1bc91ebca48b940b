-- `created::fill` meets its contract.
-- Assumes nothing.
use Rattle.std.proofs.Common.{◌≡◌, ◌+◌, ◌<◌, arith, sym, length, set}
use Rattle.created.specs.Entries.{entry_at, filled}
use Rattle.created.proofs.EntryLaws.{row_inside}
use Rattle.created.proofs.ListLaws.{filled_none, filled_more}
use Rattle.created.proofs.fill.Goals as goal

pub loop-i-init : goal.loop-i-init
loop-i-init c = sym (filled_none (entry_at c.args.plan.now c.args.places.now) c.args.grants.now)

pub row_at-requires : goal.row_at-requires
row_at-requires c = row_inside c.args.plan.now c.args.places.now c.loop-i.i c.loop-i-test.true c.requires.1

pub loop-i-preserved : goal.loop-i-preserved
loop-i-preserved c =
    let l = c.loop-i in
    let h : l.i < length c.args.grants.now = omega arith in
    let e : set l.grants l.i c.entry_of.result ≡ filled (entry_at c.args.plan.now c.args.places.now) (l.i + 1) c.args.grants.now =
    rw (c.entry_of.ensures, c.row_at.ensures, l.invariant) (filled_more (entry_at c.args.plan.now c.args.places.now) l.i c.args.grants.now h) in
    e

-- `created::write_groups` meets its contract.
-- Assumes nothing.
use Rattle.std.proofs.Common.{◌≤◌, ◌<◌, ◌+◌, arith, length}
use Rattle.unit.specs.Meaning.{settings_of}
use Rattle.writing.proofs.PlacedLaws.{placed_none, placed_then}
use Rattle.created.specs.Groups.{kind_in}
use Rattle.created.proofs.ListLaws.{wrote, wrote_none, wrote_more, wrote_next, wrote_fits, wrote_all, id_at, listed_all}
use Rattle.created.proofs.write_groups.Goals as goal

pub loop-grant-init : goal.loop-grant-init
loop-grant-init c = let g = c.args in rw (wrote_none (kind_in g.kind) (settings_of g.u) g.grants.now) (placed_none g.out.now g.at)

pub write_grant-next-requires : goal.write_grant-next-requires
write_grant-next-requires c =
    let g = c.args in
    let l = c.loop-grant in
    let k = kind_in g.kind in
    let s = settings_of g.u in
    let i : l.grant-index < length g.grants.now = c.loop-grant-test.true in (
      id_at g.grants.now l.grant-index i (rw (listed_all g.grants.now) at c.requires.0),
      omega (arith, l.invariant.ends, wrote_next k s g.grants.now l.grant-index i, wrote_fits k s g.grants.now (l.grant-index + 1), rw (listed_all g.grants.now) at c.requires.1),
    )

pub loop-grant-preserved : goal.loop-grant-preserved
loop-grant-preserved c =
    let g = c.args in
    let l = c.loop-grant in
    let k = kind_in g.kind in
    let s = settings_of g.u in
    let fits : g.at + length (wrote k s g.grants.now l.grant-index) ≤ length g.out.now = omega (arith, wrote_fits k s g.grants.now l.grant-index, rw (listed_all g.grants.now) at c.requires.1) in
    rw (wrote_more k s g.grants.now l.grant-index c.loop-grant-test.true) (placed_then l.invariant c.write_grant-next.ensures fits)

pub returns : goal.returns
returns c =
    let g = c.args in
    rw (listed_all g.grants.now, ← wrote_all (kind_in g.kind) (settings_of g.u) g.grants.now c.loop-grant.grant-index c.loop-grant-test.false) c.loop-grant.invariant

-- `restoration::write_csid` meets its contract: the value and the head before it are one element.
-- Assumes nothing.
use native.Mathlib.Omega.{arith}
use Rattle.restoration.proofs.RecordSteps.{csid_room, csid_steps}
use Rattle.restoration.proofs.write_csid.Goals as goal

pub write_at-end-requires : goal.write_at-end-requires
write_at-end-requires c =
    let f = c.csid_of-v.ensures in
    let s = c in
    (omega (arith, f.kind, c.requires.1), omega (arith, f.one), csid_room _ _ f c.args.at _ c.requires.2)

pub write_head-requires : goal.write_head-requires
write_head-requires c =
    let s = c in
    omega (arith, csid_room _ _ c.csid_of-v.ensures c.args.at _ c.requires.2, c.write_at-end.auto.out)

pub returns : goal.returns
returns c = search csid_steps

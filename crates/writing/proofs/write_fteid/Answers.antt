-- `writing::write_fteid` meets its contract: the value and the head before it are one element.
-- Assumes nothing.
use Rattle.writing.proofs.ElementSteps.{fteid_room, fteid_steps}
use Rattle.writing.proofs.write_fteid.Goals as goal

pub write_at-end-requires : goal.write_at-end-requires
write_at-end-requires c =
    let s = c in
    fteid_room c.args.u c.args.families c.args.teid _ c.unit_families.ensures.0 c.args.at _ c.requires

pub returns : goal.returns
returns c = search fteid_steps

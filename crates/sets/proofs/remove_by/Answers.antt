-- `sets::remove_by` meets its contract. Assumes nothing.
use Rattle.sets.proofs.GoneLaws.{by_other, by_listed}
use Rattle.sets.proofs.remove_by.Goals as goal

pub returns-then-kind-ne-FQCSID : goal.returns-then-kind-ne-FQCSID
returns-then-kind-ne-FQCSID c = search by_other

pub remove_covered-requires : goal.remove_covered-requires
remove_covered-requires c = (c.requires.0, c.requires.1 c.if-kind-ne-FQCSID.false)

pub returns : goal.returns
returns c = search by_listed

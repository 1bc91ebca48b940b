use mathlib.Core.Path.{refl}
use Rattle.session.proofs.SavedSteps.{loaded}
use Rattle.session.proofs.load.Goals as goal

-- src/lib.rt:23:19
-- src/lib.rt:23:14
-- src/lib.rt:24:15
-- src/lib.rt:25:27
-- src/lib.rt:25:27
-- src/lib.rt:25:27
-- src/lib.rt:25:5
-- src/lib.rt:19:1
-- src/lib.rt:19:1
pub returns : goal.returns
returns c =
    let s = c in
    loaded c.args.room c.args.base c.args.p _ c.args.t.now c.args.slot.now _ c.requires.0 c.requires.1 c.requires.2 refl c.copy.ensures

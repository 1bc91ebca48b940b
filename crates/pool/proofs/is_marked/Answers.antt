-- `pool::is_marked` meets its contract: a word shifted by a bit number has that bit lowest. Assumes nothing.
use mathlib.Core.Path.{refl}
use Rattle.octets.specs.Octets.{bit}
use Rattle.rules.specs.Sound.{marked}
use Rattle.pool.proofs.is_marked.Goals as goal

pub returns : goal.returns
unfolding marked bit
returns c = refl

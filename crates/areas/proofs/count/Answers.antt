use Rattle.octets.specs.Octets.{number_at}
use Rattle.areas.specs.Counted.{count_in}
use Rattle.areas.proofs.count.Goals as goal

-- src/lib.rt:25:5
-- src/lib.rt:21:1
pub returns : goal.returns
unfolding count_in number_at
returns c = c.read.ensures.0

-- The measure: a Create PDR, in which PDIs are read, and any other group. The loop's invariant: what is left gives the same outcome from
-- this row as the whole from the first. Assumes nothing.
use lib.ListN.{length}
use lib.Dec.{eqb}
use Rattle.octets.specs.Choice.{flag}
use Rattle.reading.proofs.GroupLaws.{Going}
use Rattle.reading.proofs.members.+read_group.Given as goal

abbrev pub decreases-read_group : goal.decreases-read_group
decreases-read_group l = flag (eqb l.group 1)

abbrev pub invariant-loop-element : goal.invariant-loop-element
invariant-loop-element l = Going l.group l.place l.s l.initial.row l.at l.rest l.row

abbrev pub decreases-loop-element : goal.decreases-loop-element
decreases-loop-element l = length l.rest

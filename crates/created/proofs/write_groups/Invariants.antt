-- `created::write_groups`: the groups of the first entries stand, and the place is behind them.
-- Assumes nothing.
use Rattle.unit.specs.Meaning.{settings_of}
use Rattle.writing.specs.Placed.{Placed}
use Rattle.created.specs.Groups.{kind_in}
use Rattle.created.proofs.ListLaws.{wrote}
use Rattle.created.proofs.write_groups.Given as goal

abbrev pub invariant-loop-grant : goal.invariant-loop-grant
invariant-loop-grant l = Placed l.initial.out l.at (wrote (kind_in l.kind) (settings_of l.u) l.grants l.grant-index) l.next l.out

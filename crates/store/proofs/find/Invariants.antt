-- `store::find` meets its contract: what is left gives the same answer. Assumes nothing.
use Rattle.std.proofs.Common.{◌≡◌, ◌-◌}
use Rattle.store.specs.Fronts.{reply_among}
use Rattle.store.proofs.find.Given as goal

abbrev pub invariant-loop-i : goal.invariant-loop-i
invariant-loop-i l = reply_among l.n l.s l.msg ≡ reply_among (l.n - l.i) l.rest l.msg

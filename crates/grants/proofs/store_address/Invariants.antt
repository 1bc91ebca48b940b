-- `grants::store_address` meets its contract: what is written and what is to come are the plan with all of it. Assumes nothing.
use Rattle.std.proofs.Common.{◌*◌, ◌-◌}
use Rattle.plan.specs.Rows.{row_width}
use Rattle.grants.proofs.AddressLaws.{Writing}
use Rattle.grants.proofs.store_address.Given as goal

abbrev pub invariant-loop-i : goal.invariant-loop-i
invariant-loop-i l = Writing l.address l.n l.initial.plan l.plan (l.i * row_width) (l.n - l.i)

-- `session::drop_pdrs` meets its contract: to take out those that are left takes out all. Assumes nothing.
use Rattle.std.proofs.Common.{◌≡◌, drop}
use Rattle.session.specs.Build.{without_pdrs}
use Rattle.session.proofs.drop_pdrs.Given as goal

abbrev pub invariant-loop-id : goal.invariant-loop-id
invariant-loop-id l = without_pdrs (drop l.id-index l.ids) l.slot ≡ without_pdrs l.ids l.initial.slot

-- `store::sound_from` meets its contract: what is left gives the same answer. Assumes nothing.
use Rattle.std.proofs.Common.{◌≡◌, ◌-◌}
use Rattle.store.specs.Fronts.{sound_from}
use Rattle.store.proofs.sound_from.Given as goal

abbrev pub invariant-loop-i : goal.invariant-loop-i
invariant-loop-i l = sound_from l.n l.s ≡ sound_from (l.n - l.i) l.rest

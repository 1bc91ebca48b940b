-- What the walk over the records answers where it refuses: one is broken, or holds what another one holds.
-- Assumes nothing.
use Rattle.std.specs.Prelude.{Result, Err}
use Rattle.marking.specs.declared.Broken.{Broken}

abbrev pub refusal : {A : Type 0} → Result A Broken
refusal = Err (record {})

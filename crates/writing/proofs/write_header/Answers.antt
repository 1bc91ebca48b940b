-- `writing::write_header` meets its contract: stores, numbers and a copy are the header.
-- Assumes nothing.
use mathlib.Core.Path.{◌∙◌}
use native.Mathlib.Omega.{arith}
use lib.ListN.{length-set}
use Rattle.writing.proofs.ElementSteps.{header_steps}
use Rattle.writing.proofs.write_header.Goals as goal

pub bounds-out-1 : goal.bounds-out-1
bounds-out-1 c = simp length-set (omega arith)

pub write-requires : goal.write-requires
write-requires c = simp length-set (omega arith)

pub write-requires-2 : goal.write-requires-2
write-requires-2 c = omega (arith, c.requires, simp length-set at c.write.auto.s)

pub copy-requires : goal.copy-requires
copy-requires c = omega (arith, c.requires, c.write-2.auto.s, simp length-set at c.write.auto.s)

pub bounds-out-15 : goal.bounds-out-15
bounds-out-15 c = omega (arith, c.requires, c.copy.auto.s, c.write-2.auto.s, simp length-set at c.write.auto.s)

pub shape_of-out : goal.shape_of-out
shape_of-out c = length-set c.copy.new.s 15 0 ∙ c.copy.auto.s ∙ c.write-2.auto.s ∙ (simp length-set at c.write.auto.s)

pub returns : goal.returns
returns c = search header_steps

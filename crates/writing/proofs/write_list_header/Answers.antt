-- `writing::write_list_header` meets its contract: stores, a number and a copy are the header.
-- Assumes nothing.
use mathlib.Core.Path.{◌∙◌}
use native.Mathlib.Omega.{arith}
use lib.ListN.{length-set}
use Rattle.writing.proofs.ElementSteps.{list_steps}
use Rattle.writing.proofs.write_list_header.Goals as goal

pub bounds-out-1 : goal.bounds-out-1
bounds-out-1 c = simp length-set (omega arith)

pub write-requires : goal.write-requires
write-requires c = simp length-set (omega arith)

pub copy-requires : goal.copy-requires
copy-requires c = omega (arith, c.requires, simp length-set at c.write.auto.s)

pub bounds-out-7 : goal.bounds-out-7
bounds-out-7 c = omega (arith, c.requires, c.copy.auto.s, simp length-set at c.write.auto.s)

pub shape_of-out : goal.shape_of-out
shape_of-out c = length-set c.copy.new.s 7 0 ∙ c.copy.auto.s ∙ (simp length-set at c.write.auto.s)

pub returns : goal.returns
returns c = search list_steps

-- `fseid::write_at` meets its contract: the flags, the SEID and the addresses, one after the other. Assumes nothing.
use mathlib.Core.Path.{◌∙◌}
use native.Mathlib.Omega.{arith}
use lib.ListN.{length-set}
use Rattle.fseid.proofs.ValueLaws.{written_at}
use Rattle.fseid.proofs.write_at.Goals as goal

pub write-requires : goal.write-requires
write-requires c = simp length-set (omega arith)

pub copy-requires : goal.copy-requires
copy-requires c = omega (arith, c.requires, simp length-set at c.write.auto.s)

pub copy-requires-2 : goal.copy-requires-2
copy-requires-2 c = omega (arith, c.requires, c.copy.auto.s, simp length-set at c.write.auto.s)

pub shape_of-out : goal.shape_of-out
shape_of-out c = c.copy-2.auto.s ∙ c.copy.auto.s ∙ (simp length-set at c.write.auto.s)

pub returns : goal.returns
returns c = search written_at

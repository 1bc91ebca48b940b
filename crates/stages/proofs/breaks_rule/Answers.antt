-- `stages::breaks_rule` meets its contract. Assumes nothing.
use Rattle.std.proofs.Common.{refl, arith}
use Rattle.plan.proofs.ChainLaws.{length_chunks}
use Rattle.stages.proofs.SlotLaws.{pdrs_stored, endpoints_stored}
use Rattle.stages.proofs.CauseLaws.{rule_found}
use Rattle.stages.proofs.breaks_rule.Goals as goal

pub ids-requires : goal.ids-requires
ids-requires c = (omega arith, (omega arith, omega arith, rw (c.arrays.ensures, length_chunks) c.requires.1.pdrs))

pub ids-requires-2 : goal.ids-requires-2
ids-requires-2 c = (omega arith, (omega arith, omega arith, rw (c.arrays-2.ensures, length_chunks) c.requires.1.endpoints))

pub returns : goal.returns
returns c =
    rule_found _ _ _ _ _ _ _ _ _ _ _ refl (pdrs_stored _ c.requires.1 _ _ c.arrays.ensures c.ids.ensures) (endpoints_stored _ c.requires.1 _ _ c.arrays-2.ensures c.ids-2.ensures) c.requires.2 c.breaks_rows.ensures

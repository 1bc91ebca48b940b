-- `read_value` meets its contract: each return picks a case of `value_read`. Assumes nothing.
use mathlib.Core.Path.{sym, ◌∙◌}
use Rattle.reading.proofs.MemberLaws.{is_plain, value_fteid, value_ue, value_pdi, value_null, value_plain}
use Rattle.reading.proofs.members.read_value.Goals as goal

pub returns-then-kind-eq-FTEID : goal.returns-then-kind-eq-FTEID
returns-then-kind-eq-FTEID c = value_fteid _ _ _ _ _ c.if-kind-eq-FTEID.true c.read_fteid.ensures

pub returns-then-kind-eq-UE_IP_ADDRESS : goal.returns-then-kind-eq-UE_IP_ADDRESS
returns-then-kind-eq-UE_IP_ADDRESS c = value_ue _ _ _ _ _ c.if-kind-eq-UE_IP_ADDRESS.true c.read_ue.ensures

pub returns-then-kind-eq-PDI : goal.returns-then-kind-eq-PDI
returns-then-kind-eq-PDI c = value_pdi _ _ _ _ _ c.if-kind-eq-PDI.true c.requires.0

pub returns-then-is_null_far : goal.returns-then-is_null_far
returns-then-is_null_far c =
    let p = c.requires in
    value_null _ _ _ _ _ p.1 (sym c.if-is_null_far.true ∙ c.is_null_far.ensures) p.0

pub read_plain-requires : goal.read_plain-requires
read_plain-requires c =
    let p = c.requires in
    (p.0, is_plain _ p.1 c.if-kind-eq-FTEID.false c.if-kind-eq-UE_IP_ADDRESS.false c.if-kind-eq-PDI.false)

pub returns : goal.returns
returns c =
    let p = c.requires in
    value_plain _ _ _ _ _ (is_plain _ p.1 c.if-kind-eq-FTEID.false c.if-kind-eq-UE_IP_ADDRESS.false c.if-kind-eq-PDI.false) (sym c.if-is_null_far.false ∙ c.is_null_far.ensures)
    c.read_plain.ensures

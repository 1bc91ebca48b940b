-- `first_octet` meets its contract: each return picks a case of `first_octet_allowed`. Assumes nothing.
use Rattle.frame.proofs.HeaderLaws.{other_version, follow_on, with_seid_lem, without_seid}
use Rattle.frame.proofs.header.first_octet.Goals as goal

pub returns-then-x-ne1 : goal.returns-then-x-ne1
returns-then-x-ne1 c = other_version _ _ c.if-x-ne1.true

pub returns-then-x-eq1 : goal.returns-then-x-eq1
returns-then-x-eq1 c = follow_on _ _ c.if-x-ne1.false c.if-x-eq1.true

pub returns-then-kind-eq-SET_DELETION : goal.returns-then-kind-eq-SET_DELETION
returns-then-kind-eq-SET_DELETION c = without_seid _ _ c.if-x-ne1.false c.if-x-eq1.false c.if-kind-eq-SET_DELETION.true

pub returns : goal.returns
returns c = with_seid_lem _ _ c.if-x-ne1.false c.if-x-eq1.false c.if-kind-eq-SET_DELETION.false

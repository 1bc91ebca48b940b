-- `fteid::wrong_flags` meets its contract, by the tests at each return. Assumes nothing.
use mathlib.Core.Path.{sym}
use Rattle.fteid.proofs.ValueLaws.{no_family, no_chid, chid_alone, chid_with}
use Rattle.fteid.proofs.wrong_flags.Goals as goal

pub returns-then-flags-eq0 : goal.returns-then-flags-eq0
returns-then-flags-eq0 c = sym (no_family _ _ c.if-flags-eq0.true)

pub returns-then-flags-eq0-2 : goal.returns-then-flags-eq0-2
returns-then-flags-eq0-2 c = sym (no_chid _ _ c.if-flags-eq0.false c.if-flags-eq0-2.true)

pub returns-then-flags-eq0-3 : goal.returns-then-flags-eq0-3
returns-then-flags-eq0-3 c = sym (chid_alone _ _ c.if-flags-eq0.false c.if-flags-eq0-2.false c.if-flags-eq0-3.true)

pub returns : goal.returns
returns c = sym (chid_with _ _ c.if-flags-eq0.false c.if-flags-eq0-2.false c.if-flags-eq0-3.false)

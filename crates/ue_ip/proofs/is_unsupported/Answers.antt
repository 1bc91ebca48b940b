-- `ue_ip::is_unsupported` meets its contract, by the test at each return. Assumes nothing.
use mathlib.Core.Path.{sym}
use Rattle.ue_ip.proofs.ValueLaws.{supported, unsupported}
use Rattle.ue_ip.proofs.is_unsupported.Goals as goal

pub returns-then-flags-eq0 : goal.returns-then-flags-eq0
returns-then-flags-eq0 c = sym (supported _ c.if-flags-eq0.true)

pub returns : goal.returns
returns c = sym (unsupported _ c.if-flags-eq0.false)

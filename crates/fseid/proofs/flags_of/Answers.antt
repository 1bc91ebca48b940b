-- `fseid::flags_of` meets its contract: by which addresses there are.
-- Assumes nothing.
use Rattle.fseid.proofs.ValueLaws.{flags_none, flags_v6, flags_v4, flags_both}
use Rattle.fseid.proofs.flags_of.Goals as goal

pub returns-then-ipv6-eq0 : goal.returns-then-ipv6-eq0
returns-then-ipv6-eq0 c = search flags_none

pub returns-then-ipv4-eq0 : goal.returns-then-ipv4-eq0
returns-then-ipv4-eq0 c = search flags_v6

pub returns-then-ipv6-eq0-2 : goal.returns-then-ipv6-eq0-2
returns-then-ipv6-eq0-2 c = search flags_v4

pub returns : goal.returns
returns c = search flags_both

use mathlib.Core.Path.{refl}
use native.Mathlib.Omega.{arith}
use Rattle.session.proofs.Steps.{csid_long, csid_short}
use Rattle.session.proofs.record.csid.Goals as goal

-- src/record.rt:69:8
-- src/record.rt:71:19
-- src/record.rt:71:27
-- src/record.rt:71:35
-- src/record.rt:71:43
-- src/record.rt:71:55
-- src/record.rt:72:38
-- src/record.rt:72:51
-- src/record.rt:72:56
-- src/record.rt:72:9
pub write_fields-requires : goal.write_fields-requires
write_fields-requires c = (omega arith, refl)

-- src/record.rt:73:9
pub returns-then-row-eq1 : goal.returns-then-row-eq1
returns-then-row-eq1 c = search csid_long

-- src/record.rt:76:15
-- src/record.rt:76:23
-- src/record.rt:76:31
-- src/record.rt:76:46
-- src/record.rt:77:34
-- src/record.rt:77:47
-- src/record.rt:77:52
-- src/record.rt:77:5
pub write_fields-requires-2 : goal.write_fields-requires-2
write_fields-requires-2 c = (omega arith, refl)

-- src/record.rt:64:1
pub returns : goal.returns
returns c = search csid_short

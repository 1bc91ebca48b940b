-- `fqcsid::address_length` meets its contract. Assumes nothing.
use Rattle.fqcsid.proofs.ValueLaws.{sixteen, four}
use Rattle.fqcsid.proofs.address_length.Goals as goal

pub returns-then-id_type-eq1 : goal.returns-then-id_type-eq1
returns-then-id_type-eq1 c = sixteen _ c.if-id_type-eq1.true

pub returns : goal.returns
returns c = four _ c.if-id_type-eq1.false

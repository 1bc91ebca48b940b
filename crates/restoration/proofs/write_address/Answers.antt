-- `restoration::write_address` meets its contract: nothing, or the element.
-- Assumes nothing.
use native.Mathlib.Omega.{arith}
use Rattle.restoration.proofs.RecordSteps.{length_address, address_none_steps, address_some_steps}
use Rattle.restoration.proofs.write_address.Goals as goal

pub returns-then-there-eq0 : goal.returns-then-there-eq0
returns-then-there-eq0 c = search address_none_steps

pub write_ue_address-requires : goal.write_ue_address-requires
write_ue_address-requires c =
    let s = c in
    omega (arith, c.requires, length_address c.args.there c.args.address c.if-there-eq0.false)

pub returns : goal.returns
returns c = search address_some_steps

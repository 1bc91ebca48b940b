-- `ue_ip::write_given` meets its contract: at each return the tests that led there say what the rules leave.
-- Assumes nothing.
use Rattle.ue_ip.proofs.ValueLaws.{write_wide, write_no_room, write_done}
use Rattle.ue_ip.proofs.write_given.Goals as goal

pub returns-then-address-gt4294967295 : goal.returns-then-address-gt4294967295
returns-then-address-gt4294967295 c = write_wide _ _ c.if-address-gt4294967295.true

pub returns-then-out-lt5 : goal.returns-then-out-lt5
returns-then-out-lt5 c = write_no_room _ _ c.if-address-gt4294967295.false c.if-out-lt5.true

pub returns : goal.returns
returns c =
    write_done _ _ c.if-address-gt4294967295.false _ _ c.if-out-lt5.false c.write_at.ensures

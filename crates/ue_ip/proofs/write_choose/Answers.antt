-- `ue_ip::write_choose` meets its contract. Assumes nothing.
use Rattle.ue_ip.proofs.ValueLaws.{write_empty, write_chosen}
use Rattle.ue_ip.proofs.write_choose.Goals as goal

pub returns-then-out-lt1 : goal.returns-then-out-lt1
returns-then-out-lt1 c = write_empty _ c.if-out-lt1.true

pub returns : goal.returns
returns c =
    write_chosen c.args.out.now c.write.new.s c.if-out-lt1.false c.write.ensures

-- `ue_ip::write_at` meets its contract: the flags and the address, one after the other. Assumes nothing.
use Rattle.ue_ip.proofs.ValueLaws.{written_at}
use Rattle.ue_ip.proofs.write_at.Goals as goal

pub returns : goal.returns
returns c = search written_at

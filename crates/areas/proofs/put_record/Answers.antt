-- `areas::put_record` meets its contract. Assumes nothing.
use Rattle.std.proofs.Common.{sym}
use Rattle.areas.specs.Records.{key_of}
use Rattle.areas.proofs.put_record.Goals as goal

pub put_at-requires : goal.put_at-requires
unfolding key_of
put_at-requires c = (c.requires.0, c.requires.1, rw (← c.read-x.ensures.0) (sym c.find-place.ensures))

-- `restoration::write_of_kind` meets its contract. Assumes nothing.
use Rattle.restoration.proofs.KindLaws.{fits_csid}
use Rattle.restoration.proofs.write_of_kind.Goals as goal

pub write_csid-requires : goal.write_csid-requires
write_csid-requires c =
    let f = fits_csid c.args.slot.now (rw c.in-Csid.is at c.requires.0) in
    (f.0, f.1, rw c.in-Csid.is at c.requires.1)

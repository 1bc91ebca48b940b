-- `octets::fits` meets its contract: what is left of the number without its n last octets. Assumes nothing.
use Rattle.std.proofs.Common.{◌∙◌, sym, arith}
use borrow.Author.Tests.{le-leb}
use Rattle.octets.proofs.Digits.{fits_all, fits_shifted}
use Rattle.octets.proofs.fits.Goals as goal

pub returns-then-n-ge8 : goal.returns-then-n-ge8
returns-then-n-ge8 c = le-leb 8 c.args.n c.if-n-ge8.true ∙ sym (fits_all c.args.value c.args.n (omega arith) c.if-n-ge8.true)

pub returns-else-n-ge8 : goal.returns-else-n-ge8
returns-else-n-ge8 c = fits_shifted c.args.value c.args.n

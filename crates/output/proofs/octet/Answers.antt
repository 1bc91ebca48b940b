-- An octet is two digits. Assumes nothing.
use Rattle.std.proofs.Common.{rules}
use Rattle.std.proofs.lemmas.Fmt.{hex_byte}
use Rattle.output.proofs.octet.Goals as goal

pub returns : goal.returns
returns g c = search (rules, hex_byte)

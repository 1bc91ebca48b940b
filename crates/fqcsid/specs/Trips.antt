-- FQ-CSID: reading and writing are inverse. Assumes nothing.
use Rattle.std.specs.Prelude.{Ok}
use Rattle.std.specs.Prelude.{List, ◌≡◌, ℕ, ◌+◌, ◌-◌, ◌*◌, ◌/◌, ◌%◌, ◌<◌, length}
use Rattle.octets.specs.Octets.{octet_at}
use Rattle.rules.specs.Elements.{address_length, read_fqcsid, fqcsid_allowed, fqcsid_octets, write_fqcsid}
use Rattle.element.specs.Trips.{Inverse, CodeInverse}
use Rattle.fqcsid.specs.Meaning.{fqcsid_of, fqcsid_answer}

-- octets with nothing that a reader ignores: no high bit of the last octet, and no octet left over
pub record WholeFqcsid (s : List ℕ) : Type 0 where
  pub low : octet_at s (length s - 1) < 16
  pub whole : length s ≡ address_length (octet_at s 0 / 16) + 2 * (octet_at s 0 % 16) + 2

unfoldable pub FqcsidInverse : Type 0
FqcsidInverse = Inverse read_fqcsid WholeFqcsid fqcsid_allowed fqcsid_octets

unfoldable pub FqcsidCodeInverse : Type 0
FqcsidCodeInverse = CodeInverse read_fqcsid WholeFqcsid write_fqcsid fqcsid_of fqcsid_answer Ok

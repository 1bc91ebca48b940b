-- F-TEID: reading and writing are inverse. Assumes nothing.
use Rattle.std.specs.Prelude.{Ok}
use Rattle.std.specs.Prelude.{Bool, List, ◌≡◌, ℕ, ◌+◌, ◌<◌, length}
use Rattle.octets.specs.Octets.{octet_at}
use Rattle.rules.specs.Elements.{fteid_length, read_fteid, fteid_allowed, fteid_octets, write_fteid}
use Rattle.element.specs.Trips.{Inverse, CodeInverse}
use Rattle.fteid.specs.Meaning.{fteid_of, fteid_answer}

-- octets with nothing that a reader ignores: no high bit of the flags, and no octet left over
pub record WholeFteid (s : List ℕ) : Type 0 where
  pub low : octet_at s 0 < 16
  pub whole : length s ≡ 1 + fteid_length (octet_at s 0)

-- in a traffic endpoint or not
unfoldable pub FteidInverse : Type 0
FteidInverse = (in_endpoint : Bool) → Inverse (read_fteid in_endpoint) WholeFteid (fteid_allowed in_endpoint) fteid_octets

unfoldable pub FteidCodeInverse : Type 0
FteidCodeInverse = (in_endpoint : Bool) → CodeInverse (read_fteid in_endpoint) WholeFteid (write_fteid in_endpoint) fteid_of fteid_answer Ok

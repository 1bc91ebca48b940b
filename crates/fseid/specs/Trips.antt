-- F-SEID: reading and writing are inverse. Of the value the reader keeps the SEID alone, so the addresses stand beside it. Assumes nothing.
use Rattle.std.specs.Prelude.{Some}
use Rattle.std.specs.Prelude.{Result, Ok}
use Rattle.std.specs.Prelude.{not, ◌&&◌, List, [], ◌++◌, ◌≡◌, ℕ, ◌+◌, ◌*◌, ◌^◌, ◌≤◌, ◌<◌, T, eqb, length, take}
use Rattle.octets.specs.Choice.{flag, is_nil}
use Rattle.octets.specs.Octets.{be, bit, part, octet_at, octets}
use Rattle.rules.specs.Elements.{address_of, fseid_length, read_fseid, fseid_octets, write_if, value}
use Rattle.element.specs.declared.Refusal.{Refusal}
use Rattle.element.specs.Answers.{left}
use Rattle.fseid.specs.Meaning.{fseid_answer}

-- octets with nothing that a reader ignores: no other flag, and no octet left over
pub record WholeFseid (s : List ℕ) : Type 0 where
  pub low : octet_at s 0 < 4
  pub whole : length s ≡ 1 + fseid_length (octet_at s 0)

-- the addresses in octets, empty where their family is not there
abbrev pub ipv4_in : List ℕ → List ℕ
ipv4_in s = part 9 (4 * flag (bit 1 (octet_at s 0))) s

abbrev pub ipv6_in : List ℕ → List ℕ
ipv6_in s = part (9 + 4 * flag (bit 1 (octet_at s 0))) (16 * flag (bit 0 (octet_at s 0))) s

-- a SEID that is not 0, with an address of either family or both, is read from its octets, whatever follows; and the octets of a SEID that was
-- read and of the addresses there, with nothing ignored, are those it was read from
pub record FseidInverse : Type 0 where
  pub back : (n : ℕ) (a b rest : List ℕ) → 1 ≤ n → n < 256 ^ 8 → T (address_of 4 a) → T (address_of 16 b) → T (not (is_nil a && is_nil b))
      → read_fseid (fseid_octets n a b ++ rest) ≡ value n
  pub again : (s : List ℕ) (n : ℕ) → T (octets s) → read_fseid s ≡ value n → WholeFseid s → fseid_octets n (ipv4_in s) (ipv6_in s) ≡ s

-- by the contracts: what `write` wrote is read as the same SEID, whatever follows
unfoldable pub FseidCodeBack : Type 0
FseidCodeBack =
    (seid ipv4 n : ℕ) (space after rest : List ℕ) (a : Result ℕ Refusal) → seid < 256 ^ 8
    → left (Some n) after ≡ write_if (not (eqb seid 0)) (fseid_octets seid (be 4 ipv4) []) space
    → fseid_answer a ≡ read_fseid (take n after ++ rest) → a ≡ Ok seid

-- UE IP Address: reading and writing are inverse, of the values that are served. Assumes nothing.
use Rattle.std.specs.Prelude.{Option, Some}
use Rattle.std.specs.Prelude.{Ok}
use Rattle.std.specs.Prelude.{false, List, [], ◌∷◌, ◌≡◌, ℕ, ◌+◌, ◌*◌, ◌≤◌, T, length, take}
use Rattle.std.proofs.Math.Option.{some}
use Rattle.octets.specs.Choice.{pick, flag}
use Rattle.octets.specs.Octets.{bit, octet_at, octets, put}
use Rattle.rules.specs.Elements as rules
use Rattle.rules.specs.Elements.{ue_v4, ue_chv4, ue_unsupported, read_ue_ip, ue_allowed, ue_strange, ue_octets, write_ue_ip, value}
use Rattle.element.specs.Answers.{left}
use Rattle.element.specs.Trips.{Inverse, CodeInverse}
use Rattle.ue_ip.specs.declared.UeIp.{UeIp}
use Rattle.ue_ip.specs.Meaning.{ue_of, ue_answer}

-- octets of a value that is served, with nothing that a reader ignores: neither S/D nor bit 8 of the flags, and no octet left over
pub record WholeUeIp (s : List ℕ) : Type 0 where
  pub served : ue_unsupported (octet_at s 0) ≡ false
  pub direction : bit 2 (octet_at s 0) ≡ false
  pub spare : bit 7 (octet_at s 0) ≡ false
  pub whole : length s ≡ 1 + 4 * flag (ue_v4 (octet_at s 0))

unfoldable pub UeIpInverse : Type 0
UeIpInverse = Inverse read_ue_ip WholeUeIp ue_allowed ue_octets

unfoldable pub UeIpCodeInverse : Type 0
UeIpCodeInverse = CodeInverse read_ue_ip WholeUeIp write_ue_ip (λ v. some (ue_of v)) (λ a. some (ue_answer a)) Ok

-- octets without what a reader ignores: the flag V4 with four octets, or CHV4 alone
unfoldable pub canonical : List ℕ → List ℕ
canonical [] = []
canonical (f ∷ xs) = pick (ue_chv4 f) (16 ∷ []) (2 ∷ take 4 xs)

-- whatever was ignored, the octets of a value that was read are those it was read from without it; and so the writer writes them
unfoldable pub UeIpCanonical : Type 0
UeIpCanonical = (s : List ℕ) (v : rules.UeIp) → T (octets s) → read_ue_ip s ≡ value v → ue_strange v ≡ false → (ue_octets v ≡ canonical s) × T (ue_allowed v)

unfoldable pub UeIpCodeCanonical : Type 0
UeIpCodeCanonical =
    (s : List ℕ) (v : UeIp) (r : Option ℕ) (space after : List ℕ) → T (octets s) → ue_answer (Ok v) ≡ read_ue_ip s → ue_strange (ue_of v) ≡ false
    → length (canonical s) ≤ length space → left r after ≡ write_ue_ip (ue_of v) space → (r ≡ Some (length (canonical s))) × (after ≡ put 0 (canonical s) space)

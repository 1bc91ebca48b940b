-- The families of an F-TEID with the unit's addresses.
-- Assumes nothing.
use Rattle.std.specs.Prelude.{ℕ, ◌+◌, ◌*◌, ◌/◌, ◌%◌, not, ◌&&◌}
use Rattle.octets.specs.Choice.{flag, is_nil}
use Rattle.octets.specs.Octets.{bit}
use Rattle.rules.specs.Model.{Settings, Tunnel}

-- a TEID with its families: V4 = 1, V6 = 2
unfoldable pub tunnel_in : ℕ → ℕ → Tunnel
tunnel_in teid families = record { teid = teid; v4 = bit 0 families; v6 = bit 1 families }

-- the families that an F-TEID has with the unit's addresses, as its flags octet holds them
unfoldable pub families_written : Settings → ℕ → ℕ
families_written s families = flag (bit 0 families && not (is_nil s.ipv4)) + 2 * flag (bit 1 families && not (is_nil s.ipv6))

-- how many octets its addresses take
abbrev pub address_octets : ℕ → ℕ
address_octets f = 4 * (f % 2) + 16 * (f / 2)

abbrev pub unit_addresses : Settings → ℕ → ℕ
unit_addresses s families = address_octets (families_written s families)

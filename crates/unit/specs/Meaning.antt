-- Which of the rules' settings the code's value stands for, and which the parameters of a call.
-- Assumes nothing.
use Rattle.std.specs.Prelude.{ℕ, ◌+◌, ◌^◌, Bool, List, [], ◌∷◌, ◌++◌, leb, Option, Some, None}
use Rattle.octets.specs.Octets.{be}
use Rattle.rules.specs.Model.{Settings, Peer}
use Rattle.rules.specs.Layout.{peer_octets}
use Rattle.unit.specs.declared.Settings.{Settings as Unit}
use Rattle.unit.specs.declared.Peer as declared
use Rattle.unit.specs.declared.Ipv6.{Ipv6}

abbrev pub peer_from : declared.Peer → Peer
peer_from q = record { address = q.address; guarantee = q.guarantee; limit = q.limit }

-- an IPv6 address is two numbers of eight octets
abbrev pub ipv6_octets : Option Ipv6 → List ℕ
ipv6_octets None = []
ipv6_octets (Some a) = be 8 a.high ++ be 8 a.low

-- the IPv4 address is a number of four octets
unfoldable pub settings_of : Unit → Settings
settings_of u =
    record {
      ipv4 = be 4 u.ipv4;
      ipv6 = ipv6_octets u.ipv6;
      first = u.first;
      size = u.size;
      first_address = u.first_address;
      address_count = u.addresses;
      limit = u.limit;
      peer1 = peer_from u.peer1;
      peer2 = peer_from u.peer2;
    }

-- the parameters of a call: the IPv4 address as a number, the IPv6 address as octets, empty where there is none
abbrev pub settings_given : ℕ → List ℕ → ℕ → ℕ → ℕ → ℕ → ℕ → Peer → Peer → Settings
settings_given ipv4 ipv6 first size first_address addresses limit peer1 peer2 =
    record { ipv4 = be 4 ipv4; ipv6 = ipv6; first = first; size = size; first_address = first_address; address_count = addresses; limit = limit; peer1 = peer1; peer2 = peer2 }

-- the octets of the pools, the session limit and the peers, which stand after the unit's addresses
unfoldable pub number_octets : Settings → List ℕ
number_octets s = be 4 s.first ++ (be 4 s.size ++ (be 4 s.first_address ++ (be 4 s.address_count ++ (be 2 s.limit ++ (peer_octets s.peer1 ++ peer_octets s.peer2)))))

-- a pool of at least one number and at most so many, the last of which has four octets
abbrev pub range_tests : ℕ → ℕ → ℕ → List Bool
range_tests first size most = leb 1 size ∷ leb size most ∷ leb (first + size) (2 ^ 32) ∷ []

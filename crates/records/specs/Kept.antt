-- A slot of the table that is not broken: the record that its octets are read as keeps the rules, and its octets are just what
-- that record is written as (01: any other content is a broken table). For a record that is a list of fields the same stands below as a
-- test of its numbers.
-- Assumes nothing.
use Rattle.std.specs.Prelude.{ℕ, ◌+◌, ◌/◌, get_or, Bool, true, not, ◌&&◌, ◌||◌, List, [], ◌∷◌, map, eqb, leb, ltb}
use Rattle.octets.specs.Choice.{pick, all_of, is_nil}
use Rattle.octets.specs.Octets.{all_zero, same_octets, slices}
use Rattle.octets.specs.Lists.{member}
use Rattle.rules.specs.Limits.{max_operator}
use Rattle.rules.specs.Model.{Settings, endpoint_id}
use Rattle.rules.specs.Layout.{endpoint_width, settings_octets, pdr_octets, endpoint_octets, csid_octets, view_settings, view_pdr, view_endpoint, view_csid}
use Rattle.rules.specs.Sound.{settings_allowed, pdr_allowed, endpoint_allowed, csid_allowed}

unfoldable pub kept : {A : Type 0} → (A → Bool) → (A → List ℕ) → (List ℕ → A) → List ℕ → Bool
kept allowed written read xs = allowed (read xs) && same_octets (written (read xs)) xs

unfoldable pub settings_sound : List ℕ → Bool
settings_sound xs = kept settings_allowed settings_octets view_settings xs

-- live: the IDs of the session's endpoints
unfoldable pub pdr_sound : Settings → List ℕ → List ℕ → Bool
pdr_sound s live xs = kept (pdr_allowed s live) pdr_octets view_pdr xs

unfoldable pub endpoint_sound : Settings → List ℕ → Bool
endpoint_sound s xs = kept (endpoint_allowed s) endpoint_octets view_endpoint xs

unfoldable pub csid_sound : List ℕ → Bool
csid_sound xs = kept csid_allowed csid_octets view_csid xs

-- the IDs of endpoints' slots, and of the first n endpoints in octets
unfoldable pub ids_of : List (List ℕ) → List ℕ
ids_of rows = map endpoint_id (map view_endpoint rows)

unfoldable pub endpoint_ids : ℕ → List ℕ → List ℕ
endpoint_ids n a = ids_of (slices endpoint_width n a)

-- whether the unit has an IPv6 address
abbrev pub has_ipv6 : Settings → Bool
has_ipv6 s = not (is_nil s.ipv6)

-- ---- tests of numbers

-- a value that may be absent: 1 and the value, or 0 and 0
abbrev pub optional_test : ℕ → ℕ → Bool
optional_test there v = pick (eqb there 0) (eqb v 0) (eqb there 1)

-- the families: IPv4, or IPv6 and perhaps IPv4 where the unit has an IPv6 address
abbrev pub families_test : ℕ → Bool → Bool
families_test f v6 = eqb f 1 || ((eqb f 2 || eqb f 3) && v6)

-- an F-TEID: a TEID of the pool, and the families
abbrev pub tunnel_test : Settings → ℕ → ℕ → Bool
tunnel_test s t f = leb s.first t && (ltb t (s.first + s.size) && families_test f (has_ipv6 s))

-- what a PDR matches on: a number that says which, an F-TEID and an endpoint ID
abbrev pub match_test : Settings → List ℕ → ℕ → ℕ → ℕ → ℕ → Bool
match_test s live k t f e =
    pick (eqb k 1) (eqb e 0 && tunnel_test s t f)
    (pick (eqb k 2) (all_zero (t ∷ f ∷ []) && member e live) (all_zero (k ∷ t ∷ f ∷ e ∷ [])))

unfoldable pub pdr_test : Settings → List ℕ → List ℕ → Bool
pdr_test s live vs =
    all_of (
    optional_test (get_or vs 2 0) (get_or vs 3 0)
    ∷ ltb (get_or vs 4 0) 16
    ∷ match_test s live (get_or vs 5 0) (get_or vs 6 0) (get_or vs 7 0) (get_or vs 8 0)
    ∷ optional_test (get_or vs 9 0) (get_or vs 10 0)
    ∷ []
    )

unfoldable pub endpoint_test : Settings → List ℕ → Bool
endpoint_test s vs = all_of (tunnel_test s (get_or vs 1 0) (get_or vs 2 0) ∷ optional_test (get_or vs 3 0) (get_or vs 4 0) ∷ [])

-- the Node-ID type, and of type 2 an operator that is allowed
abbrev pub type_test : ℕ → ℕ → Bool
type_test t a = leb t 2 && (not (eqb t 2) || leb (a / 4096) max_operator)

-- the address of sixteen octets, or one of four and zeros; of type 2 with an operator that is allowed
abbrev pub address_test : ℕ → ℕ → ℕ → Bool
address_test t a b = pick (eqb t 1) true ((not (eqb t 2) || leb (a / 4096) max_operator) && eqb b 0)

unfoldable pub csid_test : List ℕ → Bool
csid_test vs = ltb (get_or vs 0 0) 6 && (leb (get_or vs 1 0) 2 && address_test (get_or vs 1 0) (get_or vs 2 0) (get_or vs 3 0))

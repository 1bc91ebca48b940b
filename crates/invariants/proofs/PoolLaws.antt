-- The free TEIDs and the free addresses: each is in its pool and held by nobody; there are at least as many TEIDs in the list as the free count says.
-- Assumes nothing.
use Prim.Native.Nat.{◌≤◌}
use mathlib.Core.Bool.{not}
use lib.ListN.{length}
use lib.Dec.{T}
use Rattle.octets.specs.Lists.{member, all}
use Rattle.rules.specs.Model.{Settings, Sessions, held_teids, free_count, free_teids, in_address_pool, held_addresses, free_addresses}
use Rattle.rules.specs.Sound.{in_pool}
use Rattle.laws.proofs.RangeLaws.{unheld_within, unheld_not, unheld_enough}

module _ (s : Settings) (m : Sessions) where
  -- the list has as many as are free
  pub free_enough : free_count s m ≤ length (free_teids s m)
  unfolding free_count free_teids
  free_enough = unheld_enough s.first s.size (held_teids m)

  pub free_in_pool : T (all (in_pool s) (free_teids s m))
  unfolding free_teids in_pool
  free_in_pool = unheld_within s.first s.size (held_teids m)

  pub free_not_held : T (all (λ t. not (member t (held_teids m))) (free_teids s m))
  unfolding free_teids
  free_not_held = unheld_not s.first s.size (held_teids m)

  -- the same of addresses
  pub addresses_in_pool : T (all (in_address_pool s) (free_addresses s m))
  unfolding free_addresses in_address_pool
  addresses_in_pool = unheld_within s.first_address s.address_count (held_addresses s m)

  pub addresses_not_held : T (all (λ a. not (member a (held_addresses s m))) (free_addresses s m))
  unfolding free_addresses
  addresses_not_held = unheld_not s.first_address s.address_count (held_addresses s m)

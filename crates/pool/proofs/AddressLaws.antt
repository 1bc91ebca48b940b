-- The map of taken addresses (02 (v)) is a map like that of the TEIDs, over another pool: the laws of TakenLaws at the pool of addresses.
-- Assumes nothing.
use mathlib.Core.Path.{◌≡◌, ◌∙◌}
use mathlib.Core.List.{List, [], ◌∷◌}
use Prim.Native.Nat.{ℕ, ◌+◌, ◌-◌, ◌*◌, ◌≤◌}
use native.Mathlib.Omega.{arith}
use lib.Dec.{T}
use lib.ListN.{replicate}
use Rattle.octets.specs.Lists.{distinct, all}
use Rattle.octets.proofs.Ordered.{keep_passes}
use Rattle.octets.proofs.EachTwo.{all_append}
use Rattle.rules.specs.Limits.{address_words}
use Rattle.rules.specs.Model.{Settings, Session, Sessions, in_address_pool, session_addresses, held_addresses, free_addresses}
use Rattle.rules.specs.Sound.{settings_allowed, in_pool, address_map}
use Rattle.laws.proofs.KeptSettings.{settings_kept}
use Rattle.pool.specs.Map.{marks, new_marks, offsets, teids_from}
use Rattle.pool.proofs.TakenLaws.{Means, words_is, words_mean, free_are, new_marks_distinct}

-- the pool of addresses in the place of the pool of TEIDs
abbrev pub as_pool : Settings → Settings
as_pool s = record { ipv4 = []; ipv6 = []; first = s.first_address; size = s.address_count; first_address = 0; address_count = 0; limit = 0; peer1 = record { address = 0; guarantee = 0; limit = 0 }; peer2 = record { address = 0; guarantee = 0; limit = 0 } }

module _ (s : Settings) where
  -- the addresses that count are those of the pool
  pub session_pooled : (x : Session) → T (all (in_pool (as_pool s)) (session_addresses s x))
  unfolding session_addresses in_pool in_address_pool
  session_pooled x = keep_passes (in_pool (as_pool s)) _

  pub held_pooled : (m : Sessions) → T (all (in_pool (as_pool s)) (held_addresses s m))
  unfolding held_addresses
  held_pooled [] = unfold all in tt
  held_pooled (x ∷ m) = all_append (in_pool (as_pool s)) (session_addresses s x) (held_addresses s m) (session_pooled x) (held_pooled m)

  -- the map has a bit for each address of a pool that is allowed
  pub addresses_fit : T (settings_allowed s) → s.address_count ≤ 64 * address_words
  addresses_fit h = omega (arith, (settings_kept s h).addresses.few)

  module _ (m : Sessions) where
    -- marking every held address in an empty map makes the map of 02 (v), and counts the different addresses
    pub address_map_is : T (settings_allowed s) → marks (replicate address_words 0) (offsets s.first_address (held_addresses s m)) ≡ address_map s m
    unfolding address_map
    address_map_is a = words_is (as_pool s) (held_addresses s m) address_words (addresses_fit a) (held_pooled m)

    pub address_map_means : T (settings_allowed s) → Means s.first_address (address_map s m) (held_addresses s m)
    unfolding address_map
    address_map_means a = words_mean (as_pool s) (held_addresses s m) address_words (addresses_fit a) (held_pooled m)

    pub address_marks_distinct : T (settings_allowed s) → new_marks (replicate address_words 0) (offsets s.first_address (held_addresses s m)) ≡ distinct (held_addresses s m)
    address_marks_distinct a = new_marks_distinct (as_pool s) address_words (held_addresses s m) (addresses_fit a) (held_pooled m)

    -- the free offsets by the map, each plus the first address, are the free addresses
    pub free_addresses_lem : (ws : List ℕ) → Means s.first_address ws (held_addresses s m) → teids_from s.first_address ws 0 s.address_count ≡ free_addresses s m
    unfolding free_addresses
    free_addresses_lem ws h =
        free_are s.first_address ws (held_addresses s m) h 0 s.address_count
        ∙ (let a : s.first_address + 0 ≡ s.first_address = omega arith in let b : s.address_count - 0 ≡ s.address_count = omega arith in rw (a, b))

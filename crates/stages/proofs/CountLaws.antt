-- How many records a request leaves, and whether there is room for them. Assumes nothing.
use mathlib.Core.Path.{◌≡◌, refl, sym}
use mathlib.Core.Bool.{Bool, true, false, ◌&&◌, ◌||◌, or-false}
use mathlib.Core.List.{List, [], ◌∷◌}
use Prim.Native.Nat.{ℕ, ◌+◌, ◌-◌, ◌/◌}
use native.Mathlib.Omega.{arith}
use lib.Dec.{ltb, leb, eqb}
use lib.ListN.{length, drop, get_or, length-map}
use borrow.Author.Tests.{ne_eqb}
use Rattle.octets.specs.Choice.{is_nil}
use Rattle.octets.specs.Octets.{octet_at, slices}
use Rattle.octets.specs.Lists.{any}
use Rattle.octets.proofs.Numbers.{length_slices}
use Rattle.rules.specs.Model.{Settings, Sessions, half, of_peer, held_addresses, free_addresses, free_address_count}
use Rattle.rules.specs.Sound.{in_pool}
use Rattle.laws.proofs.RangeLaws.{unheld_count}
use Rattle.pool.proofs.AddressLaws.{held_pooled}
use Rattle.plan.specs.RowRules.{request_of, of_ue_kind}
use Rattle.plan.proofs.UeLaws.{choose_rows}
use Rattle.rules.specs.Layout.{view_session, view_area, view_pdr, view_endpoint, pdr_width, endpoint_width, pdr_count_at, endpoint_count_at, pdrs_at, endpoints_at}
use Rattle.rules.specs.Request.{Request}
use Rattle.rules.specs.Stages.{removed_pdrs, too_many_sessions, too_many_pdrs, too_many_endpoints, needed, too_few_teids, room_lacks, address_lacks}
use Rattle.plan.specs.Rows.{tagged, row_pdr, row_endpoint, row_endpoint_id, request_in}
use Rattle.unit.specs.declared.Settings.{Settings as Unit}
use Rattle.unit.specs.Meaning.{settings_of}
use Rattle.rules.specs.Types as ie
use Rattle.rules.specs.Message.{establishment}

-- ---- counts

pub full_row : (u : Unit) (who kind : ℕ) (m : Sessions) → too_many_sessions (settings_of u) who kind m ≡ (eqb kind establishment && leb (u.limit / 2) (length (of_peer who m)))
unfolding too_many_sessions half settings_of
full_row u who kind m = refl

-- ---- cause 75

module _ (slot : List ℕ) (seid : ℕ) (restoring noted : Bool) (rows : List (List ℕ)) where
  pub many_pdrs : (gone : List ℕ) → gone ≡ removed_pdrs (request_in seid restoring noted rows) (view_session slot).pdrs
      → too_many_pdrs (view_session slot) (request_in seid restoring noted rows) ≡ ltb 16 (get_or slot pdr_count_at 0 - length gone + length (tagged ie.create_pdr rows))
  unfolding too_many_pdrs view_session view_area request_in octet_at
  many_pdrs gone e =
      rw (e, length-map (slices pdr_width (get_or slot pdr_count_at 0) (drop pdrs_at slot)) view_pdr, length_slices pdr_width (get_or slot pdr_count_at 0) (drop pdrs_at slot), length-map (tagged ie.create_pdr rows) row_pdr)

  pub many_endpoints : (gone : ℕ) → gone ≡ length (tagged ie.remove_endpoint rows)
      → too_many_endpoints (view_session slot) (request_in seid restoring noted rows) ≡ ltb 8 (get_or slot endpoint_count_at 0 - gone + length (tagged ie.create_endpoint rows))
  unfolding too_many_endpoints view_session view_area request_in octet_at
  many_endpoints gone e =
      rw (e, length-map (slices endpoint_width (get_or slot endpoint_count_at 0) (drop endpoints_at slot)) view_endpoint, length_slices endpoint_width (get_or slot endpoint_count_at 0) (drop endpoints_at slot), length-map (tagged ie.remove_endpoint rows) row_endpoint_id, length-map (tagged ie.create_endpoint rows) row_endpoint)

-- the tests one after the other
pub room_row : (kind : ℕ) (s : Settings) (who teids : ℕ) (m : Sessions) (slot : List ℕ) (rows : List (List ℕ)) (gone : List ℕ) → gone ≡ removed_pdrs (request_of false rows) (view_session slot).pdrs
    → ((r : Request) → too_few_teids s who m r ≡ ltb teids (needed r))
    → room_lacks kind s who m (view_session slot) (request_of false rows)
    ≡ (too_many_sessions s who kind m
    || (ltb 16 (get_or slot pdr_count_at 0 - length gone + length (tagged ie.create_pdr rows))
    || (ltb 8 (get_or slot endpoint_count_at 0 - length (tagged ie.remove_endpoint rows) + length (tagged ie.create_endpoint rows)) || ltb teids (needed (request_of false rows)))))
unfolding room_lacks
room_row kind s who teids m slot rows gone e few =
    rw (many_pdrs slot 0 false false rows gone e, many_endpoints slot 0 false false rows (length (tagged ie.remove_endpoint rows)) refl, few (request_of false rows), or-false)

-- ---- cause 79

module _ (s : Settings) (m : Sessions) where
  -- as many addresses are free as the count says: those held are of the pool
  addresses_count : length (free_addresses s m) ≡ free_address_count s m
  unfolding free_addresses free_address_count
  addresses_count = unheld_count s.first_address s.address_count (held_addresses s m) (unfold in_pool in (held_pooled s m))

  nil_count : {A : Type 0} (l : List A) → is_nil l ≡ eqb (length l) 0
  nil_count [] = refl
  nil_count (a ∷ l) = sym (ne_eqb (length (a ∷ l)) 0 (omega arith))

  pub address_row : (rows : List (List ℕ)) → address_lacks s m (request_of false rows) ≡ (eqb (free_address_count s m) 0 && any (of_ue_kind true) rows)
  unfolding address_lacks
  address_row rows = rw (choose_rows 0 false false rows, nil_count (free_addresses s m), addresses_count) (one (any (of_ue_kind true) rows) (eqb (free_address_count s m) 0))
    where
      one : (a b : Bool) → (a && b) ≡ (b && a)
      one true true = refl
      one true false = refl
      one false true = refl
      one false false = refl

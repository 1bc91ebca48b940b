-- The records of a sound slot say by 0 or 1 whether they have an address.
-- Assumes nothing.
use Rattle.std.proofs.Common.{◌≡◌, ℕ, ◌+◌, ◌*◌, ◌^◌, ◌≤◌, Bool, true, false, T, eqb, ltb, List, [], ◌∷◌, length, get_or, refl, subst, arith, eqb→eq}
use Rattle.octets.specs.Choice.{pick}
use Rattle.octets.specs.Octets.{part, slices, octets}
use Rattle.octets.specs.Fields.{fields_at}
use Rattle.octets.specs.Lists.{all}
use Rattle.octets.proofs.Tests.{each, of_true, and_left, all_at}
use Rattle.octets.proofs.Numbers.{length_slices}
use Rattle.octets.proofs.Put.{length_part}
use Rattle.octets.proofs.Digits.{part_octets}
use Rattle.octets.proofs.FieldLaws.{octet_field}
use Rattle.areas.proofs.LookupLaws.{get_d_slices}
use Rattle.areas.proofs.Rows.{row_within_lem}
use Rattle.rules.specs.Limits.{max_pdrs, max_endpoints}
use Rattle.rules.specs.Model.{Settings}
use Rattle.rules.specs.Layout.{pdr_widths, pdr_width, endpoint_widths, endpoint_width, pdrs_at, endpoints_at, pdr_count_at, endpoint_count_at, pdr_address_there_at, endpoint_address_there_at, session_width}
use Rattle.records.specs.Kept.{optional_test, tunnel_test, match_test, pdr_sound, pdr_test, endpoint_sound, endpoint_test, endpoint_ids}
use Rattle.records.specs.Slot.{area_sound, head_sound, slot_sound, pdr_area, endpoint_area}
use Rattle.records.proofs.Slots.{pdr_law, endpoint_law}
use Rattle.records.proofs.SlotLaws.{counts_headed, slot_kept}
use Rattle.marking.specs.Offsets.{Present}

optional_few : (g h : ℕ) → T (optional_test g h) → g ≤ 1
optional_few g h t = go (eqb g 0) refl t
  where
    go : (b : Bool) → eqb g 0 ≡ b → T (pick b (eqb h 0) (eqb g 1)) → g ≤ 1
    go true e t' = let z = eqb→eq g 0 (of_true e) in omega arith
    go false e t' = let z = eqb→eq g 1 t' in omega arith

-- ---- one record, by its numbers

pdr_tested : (s : Settings) (live vs : List ℕ) → T (pdr_test s live vs) → get_or vs 9 0 ≤ 1
unfolding pdr_test
pdr_tested s live vs t =
    optional_few (get_or vs 9 0) (get_or vs 10 0)
    (each
    (optional_test (get_or vs 2 0) (get_or vs 3 0)
    ∷ ltb (get_or vs 4 0) 16
    ∷ match_test s live (get_or vs 5 0) (get_or vs 6 0) (get_or vs 7 0) (get_or vs 8 0)
    ∷ optional_test (get_or vs 9 0) (get_or vs 10 0)
    ∷ [])
    t).1.1.1.0

endpoint_tested : (s : Settings) (vs : List ℕ) → T (endpoint_test s vs) → get_or vs 3 0 ≤ 1
unfolding endpoint_test
endpoint_tested s vs t =
    optional_few (get_or vs 3 0) (get_or vs 4 0) (each (tunnel_test s (get_or vs 1 0) (get_or vs 2 0) ∷ optional_test (get_or vs 3 0) (get_or vs 4 0) ∷ []) t).1.0

module _ (s : Settings) (pool : s.first + s.size ≤ 2 ^ 32) where
  pdr_there : (live xs : List ℕ) → length xs ≡ pdr_width → T (octets xs) → T (pdr_sound s live xs) → get_or xs pdr_address_there_at 0 ≤ 1
  unfolding fields_at
  pdr_there live xs l o t =
      subst (λ (k : ℕ). k ≤ 1) (octet_field pdr_address_there_at xs) (pdr_tested s live (fields_at 0 pdr_widths xs) (subst T (pdr_law s pool live xs l o) t))

  endpoint_there : (xs : List ℕ) → length xs ≡ endpoint_width → T (octets xs) → T (endpoint_sound s xs) → get_or xs endpoint_address_there_at 0 ≤ 1
  unfolding fields_at
  endpoint_there xs l o t =
      subst (λ (k : ℕ). k ≤ 1) (octet_field endpoint_address_there_at xs) (endpoint_tested s (fields_at 0 endpoint_widths xs) (subst T (endpoint_law s pool xs l o) t))

-- ---- an area of them

present : (p : List ℕ → Bool) (w k at n : ℕ) (a : List ℕ) → T (octets a) → n * w ≤ length a → T (area_sound p w k n a)
    → ((xs : List ℕ) → length xs ≡ w → T (octets xs) → T (p xs) → get_or xs at 0 ≤ 1) → Present w at n a
unfolding area_sound
present p w k at n a o l t f =
    record {
      there = λ i h.
          f (part (i * w) w a) (length_part (i * w) w a (row_within_lem w w h l (omega arith))) (part_octets (i * w) w a o)
          (subst (λ (xs : List ℕ). T (p xs)) (get_d_slices w n i a h) (all_at p [] (slices w n a) i (rw length_slices h) (and_left (all p (slices w n a)) _ t)));
    }

-- ---- a slot

pub sound_head : (s : Settings) (xs : List ℕ) → T (slot_sound s xs) → T (head_sound xs)
sound_head s xs t = (slot_kept s xs t).head

module _ (s : Settings) (pool : s.first + s.size ≤ 2 ^ 32) (xs : List ℕ) (long : length xs ≡ session_width) (o : T (octets xs)) (t : T (slot_sound s xs)) where
  pub present_endpoints : Present endpoint_width endpoint_address_there_at (get_or xs endpoint_count_at 0) (endpoint_area xs)
  present_endpoints =
      let counts = counts_headed xs (sound_head s xs t) in
      present (endpoint_sound s) endpoint_width 1 endpoint_address_there_at (get_or xs endpoint_count_at 0) (endpoint_area xs) (part_octets endpoints_at (max_endpoints * endpoint_width) xs o)
      (omega (arith, counts.endpoints, length_part endpoints_at (max_endpoints * endpoint_width) xs (omega arith))) (slot_kept s xs t).endpoints (endpoint_there s pool)

  pub present_pdrs : Present pdr_width pdr_address_there_at (get_or xs pdr_count_at 0) (pdr_area xs)
  present_pdrs =
      let counts = counts_headed xs (sound_head s xs t) in
      present (pdr_sound s (endpoint_ids (get_or xs endpoint_count_at 0) (endpoint_area xs))) pdr_width 2 pdr_address_there_at (get_or xs pdr_count_at 0) (pdr_area xs) (part_octets pdrs_at (max_pdrs * pdr_width) xs o)
      (omega (arith, counts.pdrs, length_part pdrs_at (max_pdrs * pdr_width) xs (omega arith))) (slot_kept s xs t).pdrs (pdr_there s pool (endpoint_ids (get_or xs endpoint_count_at 0) (endpoint_area xs)))

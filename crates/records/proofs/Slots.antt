-- What the tests of a slot come to, field by field: what is left is what an octet can have wrong.
-- Assumes nothing.
use mathlib.Core.Path.{◌≡◌, refl, sym, ap, ap₂, ◌∙◌}
use Prim.Native.Nat.{ℕ, suc, ◌+◌, ◌-◌, ◌/◌, ◌^◌, ◌≤◌, ◌<◌, zero-le}
use native.Mathlib.Omega.{arith}
use mathlib.Core.Bool.{Bool, true, false, not, ◌&&◌, ◌||◌}
use mathlib.Core.Option.{Option, none, some}
use mathlib.Core.List.{List, [], ◌∷◌, ◌++◌, append-nil}
use borrow.Author.Tests.{lt-ltb, eq-eqb, eqb-true}
use lib.ListN.{length, take, drop, get_or, drop_of_length-le, length-drop, length-append}
use lib.Seq.{take_all, take_at, drop_at, drop-drop, drop-cons, take-append-le, drop-append-le}
use lib.Dec.{T, leb, ltb, eqb, lit≤, lit<}
use lib.Pow.{are_bytes}
use Rattle.octets.specs.Choice.{pick, flag, is_nil, is_some, value_or}
use Rattle.octets.specs.Octets.{part, number, number_at, octet_at, be, zeros, padded, all_zero, same_octets, octets}
use Rattle.octets.specs.Fields.{fields_at}
use Rattle.octets.specs.Lists.{member}
use Rattle.octets.proofs.Tests.{is_true}
use Rattle.octets.proofs.Numbers.{same_refl, length_padded, length_be, number_be, bytes_be, same_append}
use Rattle.octets.proofs.Put.{length_part, part_two}
use Rattle.octets.proofs.Digits.{octets_append, part_octets, take_octets, be_back, be_part}
use Rattle.octets.proofs.FieldLaws.{Fits, each_fit, fit_fields_lem, slot_law, zero_number}
use Rattle.rules.specs.Model.{Settings, neither, tunnel, endpoint}
use Rattle.rules.specs.Limits.{max_operator}
use Rattle.rules.specs.Elements.{address_length, operator_allowed, node_address_tests, node_address_allowed, node_type_kept, below16}
use Rattle.rules.specs.Layout.{families, option_read, tunnel_read, pdr_widths, match_kind, match_teid, match_families, match_endpoint, match_read, pdr_numbers, pdr_from, endpoint_widths, endpoint_numbers, endpoint_from, csid_slot_widths, csid_slot_numbers, address_read, csid_from, pdr_octets, endpoint_octets, csid_octets, settings_octets, view_settings, view_pdr, view_endpoint, view_csid, settings_width, pdr_width, endpoint_width, csid_width, ipv6_there_at, ipv6_at, first_at, size_at, first_address_at, address_count_at, limit_at, view_peer, peer_octets, peer1_at, peer2_at}
use Rattle.rules.specs.Sound.{settings_allowed, tunnel_allowed, match_allowed, far_allowed, address_allowed, pdr_tests, pdr_allowed, endpoint_tests, endpoint_allowed, csid_tests, csid_allowed}
use Rattle.laws.proofs.LayoutLaws.{pdr_fits_lem, endpoint_fits_lem, csid_fits_lem}
use Rattle.records.specs.Kept.{kept, settings_sound, pdr_sound, endpoint_sound, csid_sound, optional_test, tunnel_test, match_test, pdr_test, endpoint_test, csid_test}
use Rattle.records.proofs.Cells.{eqb_same, same_zeros, two_parts, and_comm, last_first}
use Rattle.records.proofs.Tunnels.{tunnel_law}
use Rattle.octets.proofs.Bools.{eqb_turn, and-true, and_four}

-- ---- fields one by one

-- what a field allows, and its numbers us read back as vs, come to the test r
record Comes (a : Bool) (us vs : List ℕ) (r : Bool) : Type 0 where
  long : length us ≡ length vs
  same : (a && same_octets us vs) ≡ r

-- a field beside the others
beside : {a c r t : Bool} {us vs us' vs' : List ℕ} → Comes a us vs r → Comes c us' vs' t → Comes (a && c) (us ++ us') (vs ++ vs') (r && t)
beside {a} {c} {r} {t} {us} {vs} {us'} {vs'} e f =
    record {
      long = length-append us us' ∙ ap₂ ◌+◌ e.long f.long ∙ sym (length-append vs vs');
      same = ap (λ (b : Bool). (a && c) && b) (same_append us us' vs vs' e.long) ∙ and_four a c (same_octets us vs) (same_octets us' vs') ∙ (λ i. e.same i && f.same i);
    }

no_field : Comes true [] [] true
no_field = record { long = refl; same = same_refl [] }

-- a number that is tested alone, and one that any slot may have
tested : (b : Bool) (v : ℕ) → Comes b (v ∷ []) (v ∷ []) b
tested b v = record { long = refl; same = rw (same_refl (v ∷ [])) (and-true b) }

untested : (n v : ℕ) → v < n → Comes (ltb v n) (v ∷ []) (v ∷ []) true
untested n v h = record { long = refl; same = rw (lt-ltb v n h) (same_refl (v ∷ [])) }

optional_same : (g h : ℕ) → h < 2 ^ 32
    → (far_allowed (option_read g h) && same_octets (flag (is_some (option_read g h)) ∷ value_or 0 (option_read g h) ∷ []) (g ∷ h ∷ [])) ≡ optional_test g h
unfolding option_read far_allowed same_octets
optional_same g h k = go (eqb g 0) refl
  where
    go : (b : Bool) → eqb g 0 ≡ b
        → let o = pick b none (some h) in
        (far_allowed o && (eqb (flag (is_some o)) g && (eqb (value_or 0 o) h && true))) ≡ pick b (eqb h 0) (eqb g 1)
    go true e = rw (eqb_turn 0 g, e, eqb_turn 0 h) (and-true (eqb h 0))
    go false e = rw (lt-ltb h (2 ^ 32) k, eqb_turn 1 g, eqb_same h) (and-true (eqb g 1))

optional : (g h : ℕ) → h < 2 ^ 32 → Comes (far_allowed (option_read g h)) (flag (is_some (option_read g h)) ∷ value_or 0 (option_read g h) ∷ []) (g ∷ h ∷ []) (optional_test g h)
optional g h k = record { long = refl; same = optional_same g h k }

-- an address is allowed as a FAR ID is
like_far : (o : Option ℕ) → far_allowed o ≡ address_allowed o
unfolding far_allowed address_allowed
like_far none = refl
like_far (some a) = refl

addressed : (g h : ℕ) → h < 2 ^ 32 → Comes (address_allowed (option_read g h)) (flag (is_some (option_read g h)) ∷ value_or 0 (option_read g h) ∷ []) (g ∷ h ∷ []) (optional_test g h)
addressed g h k =
    record { long = refl; same = ap (λ (b : Bool). b && same_octets (flag (is_some (option_read g h)) ∷ value_or 0 (option_read g h) ∷ []) (g ∷ h ∷ [])) (sym (like_far (option_read g h))) ∙ optional_same g h k }

module _ (s : Settings) where
  -- ---- endpoints

  reached : (t f : ℕ) → Comes (tunnel_allowed s (tunnel_read t f)) (t ∷ families (tunnel_read t f) ∷ []) (t ∷ f ∷ []) (tunnel_test s t f)
  unfolding same_octets
  reached t f = record { long = refl; same = rw (eqb_same t) (simp and-true (tunnel_law s t f)) }

  endpoint_same : (i t f g h : ℕ)
      → let vs = i ∷ t ∷ f ∷ g ∷ h ∷ [] in
      Fits endpoint_widths vs → Comes (endpoint_allowed s (endpoint_from vs)) (endpoint_numbers (endpoint_from vs)) vs (endpoint_test s vs)
  unfolding endpoint_allowed endpoint_tests endpoint_from endpoint_numbers endpoint_test tunnel_read
  endpoint_same i t f g h b = beside (untested 256 i b.0) (beside (reached t f) (beside (addressed g h b.1.1.1.1.0) no_field))

  pub endpoint_law : s.first + s.size ≤ 2 ^ 32 → (xs : List ℕ) → length xs ≡ endpoint_width → T (octets xs) → endpoint_sound s xs ≡ endpoint_test s (fields_at 0 endpoint_widths xs)
  unfolding endpoint_sound kept endpoint_octets view_endpoint fields_at
  endpoint_law h xs e o =
      slot_law endpoint_widths endpoint_numbers endpoint_from (endpoint_allowed s) (endpoint_test s) (endpoint_fits_lem s h) xs e o
      (endpoint_same _ _ _ _ _ (each_fit endpoint_widths _ (fit_fields_lem 0 endpoint_widths xs o (omega arith)))).same

  -- ---- what a PDR matches on

  match_law : (live : List ℕ) (k t f e : ℕ) → e < 256
      → let l = match_read k t f e in
      (match_allowed s live l && same_octets (match_kind l ∷ match_teid l ∷ match_families l ∷ match_endpoint l ∷ []) (k ∷ t ∷ f ∷ e ∷ [])) ≡ match_test s live k t f e
  unfolding match_read tunnel_read
  match_law live k t f e h = go (eqb k 1) (eqb k 2) refl refl
    where
      go : (b c : Bool) → eqb k 1 ≡ b → eqb k 2 ≡ c
          → let l = pick b (tunnel (tunnel_read t f)) (pick c (endpoint e) neither) in
          (match_allowed s live l && same_octets (match_kind l ∷ match_teid l ∷ match_families l ∷ match_endpoint l ∷ []) (k ∷ t ∷ f ∷ e ∷ []))
          ≡ pick b (eqb e 0 && tunnel_test s t f) (pick c (all_zero (t ∷ f ∷ []) && member e live) (all_zero (k ∷ t ∷ f ∷ e ∷ [])))
      go true c eb ec =
          unfold match_allowed match_kind match_teid match_families match_endpoint same_octets in
          (rw (eqb_turn 1 k, eb, eqb_turn 0 e, eqb_same t, and-true (eqb e 0))
          (last_first (tunnel_allowed s (tunnel_read t f)) (eqb (families (tunnel_read t f)) f) (eqb e 0) ∙ ap (λ (b : Bool). eqb e 0 && b) (tunnel_law s t f)))
      go false true eb ec =
          unfold match_allowed match_kind match_teid match_families match_endpoint same_octets all_zero in
          (rw (lt-ltb e 256 h, eqb_turn 2 k, ec, eqb_turn 0 t, eqb_turn 0 f, eqb_same e) (and_comm (member e live) (eqb t 0 && (eqb f 0 && true))))
      go false false eb ec = unfold match_allowed match_kind match_teid match_families match_endpoint zeros in (same_zeros (k ∷ t ∷ f ∷ e ∷ []))

  matched : (live : List ℕ) (k t f e : ℕ) → e < 256
      → let l = match_read k t f e in
      Comes (match_allowed s live l) (match_kind l ∷ match_teid l ∷ match_families l ∷ match_endpoint l ∷ []) (k ∷ t ∷ f ∷ e ∷ []) (match_test s live k t f e)
  matched live k t f e h = record { long = refl; same = match_law live k t f e h }

  -- ---- the whole PDR

  pdr_same : (live : List ℕ) (i p g h c k t f e u a : ℕ)
      → let vs = i ∷ p ∷ g ∷ h ∷ c ∷ k ∷ t ∷ f ∷ e ∷ u ∷ a ∷ [] in
      Fits pdr_widths vs → Comes (pdr_allowed s live (pdr_from vs)) (pdr_numbers (pdr_from vs)) vs (pdr_test s live vs)
  unfolding pdr_allowed pdr_tests pdr_from pdr_numbers pdr_test
  pdr_same live i p g h c k t f e u a b =
      beside (untested (2 ^ 16) i b.0)
      (beside (untested (2 ^ 32) p b.1.0)
      (beside (optional g h b.1.1.1.0)
      (beside (tested (ltb c 16) c)
      (beside (matched live k t f e b.1.1.1.1.1.1.1.1.0)
      (beside (addressed u a b.1.1.1.1.1.1.1.1.1.1.0) no_field)))))

  pub pdr_law : s.first + s.size ≤ 2 ^ 32 → (live xs : List ℕ) → length xs ≡ pdr_width → T (octets xs) → pdr_sound s live xs ≡ pdr_test s live (fields_at 0 pdr_widths xs)
  unfolding pdr_sound kept pdr_octets view_pdr fields_at
  pdr_law h live xs e o =
      slot_law pdr_widths pdr_numbers pdr_from (pdr_allowed s live) (pdr_test s live) (pdr_fits_lem s h live) xs e o
      (pdr_same live _ _ _ _ _ _ _ _ _ _ _ (each_fit pdr_widths _ (fit_fields_lem 0 pdr_widths xs o (omega arith)))).same

-- ---- FQ-CSIDs

-- an address read from two numbers has them again, but for the second where it has four octets
module _ (a b : ℕ) (ha : a < 256 ^ 4) (hb : b < 256 ^ 12) where
  abbrev address : Bool → List ℕ
  address long = take (pick long 16 4) (be 4 a ++ be 12 b)

  address_is : (long : Bool) → address long ≡ pick long (be 4 a ++ be 12 b) (be 4 a)
  address_is true = take_all 16 (be 4 a ++ be 12 b) (rw (length-append, length_be, length_be) (lit≤ tt))
  address_is false = take_at (be 4 a) (be 12 b) 4 (length_be 4 a)

  address_length_lem : (long : Bool) → length (address long) ≡ pick long 16 4
  address_length_lem long = ap length (address_is long) ∙ go long
    where
      go : (long : Bool) → length (pick long (be 4 a ++ be 12 b) (be 4 a)) ≡ pick long 16 4
      go true = rw (length-append, length_be, length_be)
      go false = length_be 4 a

  address_octets_lem : (long : Bool) → T (octets (address long))
  address_octets_lem long = take_octets (pick long 16 4) (be 4 a ++ be 12 b) (octets_append (be 4 a) (be 12 b) (bytes_be 4 a) (bytes_be 12 b))

  address_first : (long : Bool) → number (take 4 (address long)) ≡ a
  address_first long = ap (λ (l : List ℕ). number (take 4 l)) (address_is long) ∙ go long
    where
      go : (long : Bool) → number (take 4 (pick long (be 4 a ++ be 12 b) (be 4 a))) ≡ a
      go true = rw (take_at (be 4 a) (be 12 b) 4 (length_be 4 a)) (number_be 4 a ha)
      go false = rw (take_all 4 (be 4 a) (rw length_be (lit≤ tt))) (number_be 4 a ha)

  address_rest : (long : Bool) → number (drop 4 (address long)) ≡ pick long b 0
  address_rest long = ap (λ (l : List ℕ). number (drop 4 l)) (address_is long) ∙ go long
    where
      go : (long : Bool) → number (drop 4 (pick long (be 4 a ++ be 12 b) (be 4 a))) ≡ pick long b 0
      go true = rw (drop_at (be 4 a) (be 12 b) 4 (length_be 4 a)) (number_be 12 b hb)
      go false = rw (drop_of_length-le (be 4 a) {i = 4} (rw length_be (lit≤ tt))) (unfold number in refl)

  address_law : (t : ℕ) (long : Bool) → eqb t 1 ≡ long → ((not (eqb t 2) || leb (number (address long) / 4096) max_operator) && eqb (pick long b 0) b) ≡ pick long true ((not (eqb t 2) || leb (a / 4096) max_operator) && eqb b 0)
  address_law t true e = let one : t ≡ 1 = eqb-true t 1 e in rw (one, eqb_same b)
  address_law t false e = rw (address_is false, number_be 4 a ha, eqb_turn 0 b)

order : (x y z w : Bool) → ((x && ((y && (z && true)) && true)) && (w && true)) ≡ (x && (y && (z && w)))
order true true z w = simp and-true
order true false z w = refl
order false y z w = refl

csid_same : (n t a b c : ℕ)
    → let vs = n ∷ t ∷ a ∷ b ∷ c ∷ [] in
    Fits csid_slot_widths vs → (csid_allowed (csid_from vs) && same_octets (csid_slot_numbers (csid_from vs)) vs) ≡ csid_test vs
unfolding csid_allowed csid_tests node_type_kept node_address_allowed node_address_tests operator_allowed below16 csid_from csid_slot_numbers address_read address_length csid_test same_octets
csid_same n t a b c f =
    let long = eqb t 1 in
    let ad : List ℕ = take (pick long 16 4) (be 4 a ++ be 12 b) in
    let ha = f.1.1.0 in
    let hb = f.1.1.1.0 in
    rw (eq-eqb (length ad) (pick long 16 4) (address_length_lem a b ha hb long), is_true (are_bytes ad) (address_octets_lem a b ha hb long), address_first a b ha hb long, address_rest a b ha hb long, lt-ltb c (2 ^ 16) f.1.1.1.1.0, eqb_same n, eqb_same t, eqb_same a, eqb_same c)
    (order (ltb n 6) (leb t 2) (not (eqb t 2) || leb (number ad / 4096) max_operator) (eqb (pick long b 0) b)
    ∙ ap (λ (x : Bool). ltb n 6 && (leb t 2 && x)) (address_law a b ha hb t long refl))

pub csid_law : (xs : List ℕ) → length xs ≡ csid_width → T (octets xs) → csid_sound xs ≡ csid_test (fields_at 0 csid_slot_widths xs)
unfolding csid_sound kept csid_octets view_csid fields_at
csid_law xs e o =
    slot_law csid_slot_widths csid_slot_numbers csid_from csid_allowed csid_test csid_fits_lem xs e o
    (csid_same _ _ _ _ _ (each_fit csid_slot_widths _ (fit_fields_lem 0 csid_slot_widths xs o (omega arith))))

-- ---- settings

-- the IPv6 address is written again as it stands where there is one, and as zeros where there is none
ipv6_with : (b : Bool) (g : ℕ) (v : List ℕ) → length v ≡ 16 → eqb g 0 ≡ b
    → let a = pick b [] v in (eqb (flag (not (is_nil a))) g && same_octets (padded 16 a) v) ≡ pick b (eqb (number v) 0) (eqb g 1)
unfolding padded
ipv6_with true g v l e = rw (eqb_turn 0 g, e, ← l) (same_zeros v ∙ zero_number v)
ipv6_with false g [] l e = absurd (omega arith)
ipv6_with false g (x ∷ v) l e =
    let none : 16 - length (x ∷ v) ≡ 0 = omega arith in
    rw (none, eqb_turn 1 g) (unfold zeros in rw (append-nil (x ∷ v), same_refl (x ∷ v)) (and-true (eqb g 1)))

padded_with : (b : Bool) (v : List ℕ) → length v ≡ 16 → length (padded 16 (pick b [] v)) ≡ 16
padded_with true v l = length_padded 16 [] zero-le
padded_with false v l = length_padded 16 v (omega arith)

-- a peer's settings, wherever they stand, are written again as they stand
peer_at_lem : (at : ℕ) (xs ys : List ℕ) → drop at xs ≡ ys → view_peer at xs ≡ view_peer 0 ys
unfolding view_peer number_at
peer_at_lem at xs ys e =
    λ i. record {
      address = number (take 4 (e i));
      guarantee = number (take 4 ((sym (drop-drop 4 at xs) ∙ ap (drop 4) e) i));
      limit = number (take 4 ((sym (drop-drop 8 at xs) ∙ ap (drop 8) e) i));
    }

peer_again : (ps rest : List ℕ) → length ps ≡ 12 → T (octets ps) → peer_octets (view_peer 0 (ps ++ rest)) ≡ ps
unfolding view_peer number_at peer_octets
peer_again ps rest e o =
    let front : take 4 (ps ++ rest) ≡ take 4 ps = take-append-le 4 ps rest (omega arith) in
    let second : take 4 (drop 4 (ps ++ rest)) ≡ part 4 4 ps = ap (take 4) (drop-append-le 4 ps rest (omega arith)) ∙ take-append-le 4 (drop 4 ps) rest (rw length-drop (omega arith)) in
    let third : take 4 (drop 8 (ps ++ rest)) ≡ part 8 4 ps = ap (take 4) (drop-append-le 8 ps rest (omega arith)) ∙ take-append-le 4 (drop 8 ps) rest (rw length-drop (omega arith)) in
    rw (front, second, third, be_part 0 4 ps o (omega arith), be_part 4 4 ps o (omega arith), be_part 8 4 ps o (omega arith))
    (ap (λ (l : List ℕ). part 0 4 ps ++ l) (part_two 4 4 4 ps) ∙ part_two 0 4 8 ps ∙ take_all 12 ps (omega arith))

settings_parts : (a₀ a₁ a₂ a₃ g : ℕ) (v f z u k l m n : List ℕ) → length v ≡ 16 → length f ≡ 4 → length z ≡ 4 → length u ≡ 4 → length k ≡ 4 → length l ≡ 2 → length m ≡ 12 → length n ≡ 12
    → T (octets f) → T (octets z) → T (octets u) → T (octets k) → T (octets l) → T (octets m) → T (octets n)
    → let xs = a₀ ∷ a₁ ∷ a₂ ∷ a₃ ∷ g ∷ (v ++ (f ++ (z ++ (u ++ (k ++ (l ++ (m ++ n))))))) in same_octets (settings_octets (view_settings xs)) xs ≡ optional_test g (number v)
unfolding settings_octets view_settings octet_at number_at same_octets
settings_parts a₀ a₁ a₂ a₃ g v f z u k l m n lv lf lz lu lk ll lm ln of' oz ou ok ol om on =
    let last : List ℕ = l ++ (m ++ n) in
    let ips : List ℕ = u ++ (k ++ last) in
    let numbers : List ℕ = f ++ (z ++ ips) in
    let rest : List ℕ = v ++ numbers in
    let a : List ℕ = pick (eqb g 0) [] v in
    let at16 : drop 16 rest ≡ numbers = drop_at v numbers 16 lv in
    let at20 : drop 20 rest ≡ z ++ ips = sym (drop-drop 4 16 rest) ∙ ap (drop 4) at16 ∙ drop_at f (z ++ ips) 4 lf in
    let at24 : drop 24 rest ≡ ips = sym (drop-drop 4 20 rest) ∙ ap (drop 4) at20 ∙ drop_at z ips 4 lz in
    let at28 : drop 28 rest ≡ k ++ last = sym (drop-drop 4 24 rest) ∙ ap (drop 4) at24 ∙ drop_at u (k ++ last) 4 lu in
    let at32 : drop 32 rest ≡ last = sym (drop-drop 4 28 rest) ∙ ap (drop 4) at28 ∙ drop_at k last 4 lk in
    let at34 : drop 34 rest ≡ m ++ n = sym (drop-drop 2 32 rest) ∙ ap (drop 2) at32 ∙ drop_at l (m ++ n) 2 ll in
    let at46 : drop 46 rest ≡ n ++ [] = sym (drop-drop 12 34 rest) ∙ ap (drop 12) at34 ∙ drop_at m n 12 lm ∙ sym (append-nil n) in
    let ipv6 : take 16 rest ≡ v = take_at v numbers 16 lv in
    let first : take 4 (drop 16 rest) ≡ f = ap (take 4) at16 ∙ take_at f (z ++ ips) 4 lf in
    let size : take 4 (drop 20 rest) ≡ z = ap (take 4) at20 ∙ take_at z ips 4 lz in
    let first_address : take 4 (drop 24 rest) ≡ u = ap (take 4) at24 ∙ take_at u (k ++ last) 4 lu in
    let address_count : take 4 (drop 28 rest) ≡ k = ap (take 4) at28 ∙ take_at k last 4 lk in
    let limit : take 2 (drop 32 rest) ≡ l = ap (take 2) at32 ∙ take_at l (m ++ n) 2 ll in
    let xs : List ℕ = a₀ ∷ a₁ ∷ a₂ ∷ a₃ ∷ g ∷ rest in
    let one : peer_octets (view_peer peer1_at xs) ≡ m = ap peer_octets (peer_at_lem peer1_at xs (m ++ n) at34) ∙ peer_again m n lm om in
    let two : peer_octets (view_peer peer2_at xs) ≡ n = ap peer_octets (peer_at_lem peer2_at xs (n ++ []) at46) ∙ peer_again n [] ln on in
    let full : length (padded 16 a) ≡ length v = padded_with (eqb g 0) v lv ∙ sym lv in
    let same : same_octets (padded 16 a ++ numbers) rest ≡ same_octets (padded 16 a) v =
    same_append (padded 16 a) numbers v numbers full ∙ rw (same_refl numbers) (and-true (same_octets (padded 16 a) v)) in
    rw (ipv6, first, size, first_address, address_count, limit, eqb_same a₀, eqb_same a₁, eqb_same a₂, eqb_same a₃, be_back 4 f lf of', be_back 4 z lz oz, be_back 4 u lu ou, be_back 4 k lk ok, be_back 2 l ll ol, one, two, same)
    (ipv6_with (eqb g 0) g v lv refl)

-- the octets from a place to the end are those of the next n and the rest
from : (at m n : ℕ) (xs : List ℕ) → at + (m + n) ≡ length xs → part at (m + n) xs ≡ part at m xs ++ part (at + m) n xs
from at m n xs e = take_all (m + n) (drop at xs) (rw length-drop (omega arith)) ∙ two_parts at m n xs e

settings_same : (xs : List ℕ) → length xs ≡ settings_width → T (octets xs) → same_octets (settings_octets (view_settings xs)) xs ≡ optional_test (get_or xs ipv6_there_at 0) (number (part ipv6_at 16 xs))
settings_same xs e o =
    let cell : (j : ℕ) → j < settings_width → drop j xs ≡ get_or xs j 0 ∷ drop (suc j) xs = λ j h. drop-cons xs j 0 (omega arith) in
    let front : xs ≡ get_or xs 0 0 ∷ get_or xs 1 0 ∷ get_or xs 2 0 ∷ get_or xs 3 0 ∷ get_or xs ipv6_there_at 0 ∷ drop ipv6_at xs =
    cell 0 (lit< tt) ∙ ap (λ (l : List ℕ). get_or xs 0 0 ∷ l)
    (cell 1 (lit< tt) ∙ ap (λ (l : List ℕ). get_or xs 1 0 ∷ l)
    (cell 2 (lit< tt) ∙ ap (λ (l : List ℕ). get_or xs 2 0 ∷ l) (cell 3 (lit< tt) ∙ ap (λ (l : List ℕ). get_or xs 3 0 ∷ l) (cell ipv6_there_at (lit< tt))))) in
    let numbers : part first_at (settings_width - first_at) xs ≡ part first_at 4 xs ++ (part size_at 4 xs ++ (part first_address_at 4 xs ++ (part address_count_at 4 xs ++ (part limit_at 2 xs ++ (part peer1_at 12 xs ++ part peer2_at 12 xs))))) =
    from first_at 4 (settings_width - size_at) xs (sym e) ∙ ap (λ (l : List ℕ). part first_at 4 xs ++ l)
    (from size_at 4 (settings_width - first_address_at) xs (sym e) ∙ ap (λ (l : List ℕ). part size_at 4 xs ++ l) (from first_address_at 4 (settings_width - address_count_at) xs (sym e) ∙ ap (λ (l : List ℕ). part first_address_at 4 xs ++ l) (from address_count_at 4 (settings_width - limit_at) xs (sym e) ∙ ap (λ (l : List ℕ). part address_count_at 4 xs ++ l) (from limit_at 2 (settings_width - peer1_at) xs (sym e) ∙ ap (λ (l : List ℕ). part limit_at 2 xs ++ l) (from peer1_at 12 (settings_width - peer2_at) xs (sym e)))))) in
    let back = two_parts ipv6_at 16 (settings_width - first_at) xs (sym e) ∙ ap (λ (l : List ℕ). part ipv6_at 16 xs ++ l) numbers in
    let whole = front ∙ ap (λ (l : List ℕ). get_or xs 0 0 ∷ get_or xs 1 0 ∷ get_or xs 2 0 ∷ get_or xs 3 0 ∷ get_or xs ipv6_there_at 0 ∷ l) back in
    ap (λ (l : List ℕ). same_octets (settings_octets (view_settings l)) l) whole
    ∙ settings_parts (get_or xs 0 0) (get_or xs 1 0) (get_or xs 2 0) (get_or xs 3 0) (get_or xs ipv6_there_at 0) (part ipv6_at 16 xs) (part first_at 4 xs) (part size_at 4 xs) (part first_address_at 4 xs) (part address_count_at 4 xs) (part limit_at 2 xs) (part peer1_at 12 xs) (part peer2_at 12 xs)
    (length_part ipv6_at 16 xs (omega arith)) (length_part first_at 4 xs (omega arith)) (length_part size_at 4 xs (omega arith)) (length_part first_address_at 4 xs (omega arith)) (length_part address_count_at 4 xs (omega arith)) (length_part limit_at 2 xs (omega arith)) (length_part peer1_at 12 xs (omega arith)) (length_part peer2_at 12 xs (omega arith))
    (part_octets first_at 4 xs o) (part_octets size_at 4 xs o) (part_octets first_address_at 4 xs o) (part_octets address_count_at 4 xs o) (part_octets limit_at 2 xs o) (part_octets peer1_at 12 xs o) (part_octets peer2_at 12 xs o)

pub settings_law : (xs : List ℕ) → length xs ≡ settings_width → T (octets xs)
    → settings_sound xs ≡ (settings_allowed (view_settings xs) && optional_test (get_or xs ipv6_there_at 0) (number (part ipv6_at 16 xs)))
unfolding settings_sound kept
settings_law xs e o = ap (λ (b : Bool). settings_allowed (view_settings xs) && b) (settings_same xs e o)

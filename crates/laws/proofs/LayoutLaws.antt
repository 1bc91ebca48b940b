-- A session slot's octets read back: `view_session` is the inverse of `session_octets` on sessions that are allowed, and the length is fixed.
-- Assumes nothing.
use mathlib.Core.Path.{◌≡◌, refl, sym, ap, ap₂, subst, ◌∙◌}
use Prim.Native.Nat.{ℕ, suc, ◌+◌, ◌-◌, ◌*◌, ◌^◌, ◌≤◌, ◌<◌}
use native.Mathlib.Nat.{le_refl, le_trans, le_of_eq, mul-le-mul_right, lt_of_lt_of_le, pow-le-pow_right}
use native.Mathlib.Omega.{arith}
use mathlib.Core.Bool.{Bool, true, false}
use mathlib.Core.Option.{Option, none, some}
use mathlib.Core.List.{List, [], ◌∷◌, ◌++◌, map, append_assoc, append-nil}
use lib.ListN.{length, take, drop, get_or, length-append, length-drop, take-append-drop}
use lib.Dec.{T, leb, ltb, eqb, leb→le, ltb→lt, lit≤, lit<}
use lib.Seq.{take_at, take-take, take_all, drop_at, drop-drop, length-take-le}
use Rattle.octets.specs.Choice.{pick, flag, is_some, value_or}
use Rattle.octets.specs.Octets.{be, part, number, number_at, octet_at, octets, bit, zeros, padded, concat_map, slices}
use Rattle.octets.specs.Fields.{fields_at, fit}
use Rattle.octets.specs.Lists.{all, member}
use Rattle.octets.proofs.Tests.{and_left, and_right, all_head, all_tail}
use Rattle.octets.proofs.Digits.{number_below, take_octets, drop_octets, be_back, be_part}
use Rattle.octets.proofs.Put.{part_two}
use Rattle.octets.proofs.FieldLaws.{all_fit, length_field_octets, octet_field, record_back}
use Rattle.octets.proofs.Numbers.{number_be, length_padded, length_concat_map, slices_concat_map}
use Rattle.rules.specs.Model.{Settings, Tunnel, Match, neither, tunnel, endpoint, Pdr, Endpoint, Csid, Session, endpoint_id}
use Rattle.rules.specs.Limits.{max_pdrs, max_endpoints, node_types}
use Rattle.rules.specs.Elements.{address_length, node_type_kept, below16}
use Rattle.rules.specs.Sound.{settings_allowed, in_pool, tunnel_allowed, match_allowed, far_allowed, address_allowed, pdr_allowed, endpoint_allowed, csid_allowed, session_allowed}
use Rattle.laws.proofs.KeptSettings.{settings_kept}
use Rattle.laws.proofs.KeptRules.{tunnel_kept, pdr_kept, endpoint_kept, node_address_kept, csid_kept, SessionKept, session_kept}
use Rattle.rules.specs.Layout.{families, option_read, tunnel_read, pdr_widths, match_kind, match_teid, match_families, match_endpoint, match_read, pdr_numbers, pdr_from, endpoint_widths, endpoint_numbers, endpoint_from, csid_slot_widths, csid_slot_numbers, address_read, csid_from, pdr_width, endpoint_width, csid_width, session_width, area, pdr_octets, endpoint_octets, csid_octets, session_octets, view_pdr, view_endpoint, view_csid, view_area, view_session, view_settings, limit_at, precedence_at, far_at, far_id_at, source_at, match_at, teid_at, families_at, named_endpoint_at, pdr_address_there_at, pdr_address_at, endpoint_teid_at, endpoint_families_at, endpoint_address_there_at, endpoint_address_at, csid_id_type_at, csid_address_at, csid_address_rest_at}

-- ---- areas

-- records that pass a test are read back one by one
pub map_back : {A : Type 0} (f : A → List ℕ) (g : List ℕ → A) (p : A → Bool) → ((a : A) → T (p a) → g (f a) ≡ a) → (rs : List A) → T (all p rs) → map g (map f rs) ≡ rs
map_back f g p back [] h = refl
map_back f g p back (r ∷ rs) h = ap₂ ◌∷◌ (back r (all_head p r rs h)) (map_back f g p back rs (all_tail p r rs h))

module _ {A : Type 0} (f : A → List ℕ) (w : ℕ) (p : A → Bool) (fits : (a : A) → T (p a) → length (f a) ≡ w) where
  pub length_area : (k : ℕ) (rs : List A) → T (all p rs) → length rs ≤ k → length (area f w k rs) ≡ k * w
  unfolding area
  length_area k rs h le = length_padded (k * w) (concat_map f rs) (le_trans (le_of_eq (length_concat_map f w p fits rs h)) (mul-le-mul_right w le))

  pub slices_area : (k : ℕ) (rs : List A) → T (all p rs) → (rest : List ℕ) → slices w (length rs) (area f w k rs ++ rest) ≡ map f rs
  unfolding area padded
  slices_area k rs h rest =
      let room = zeros (k * w - length (concat_map f rs)) in
      rw (append_assoc (concat_map f rs) room rest) (slices_concat_map f w p fits rs h (room ++ rest))

  -- an area is read back
  pub area_back : (g : List ℕ → A) → ((a : A) → T (p a) → g (f a) ≡ a)
      → (k : ℕ) (rs : List A) → T (all p rs) → (rest : List ℕ) → map g (slices w (length rs) (area f w k rs ++ rest)) ≡ rs
  area_back g back k rs h rest = ap (map g) (slices_area k rs h rest) ∙ map_back f g p back rs h

-- ---- F-TEIDs

bit_v4 : (a b : Bool) → bit 0 (flag a + 2 * flag b) ≡ a
unfolding bit
bit_v4 true true = refl
bit_v4 true false = refl
bit_v4 false true = refl
bit_v4 false false = refl

bit_v6 : (a b : Bool) → bit 1 (flag a + 2 * flag b) ≡ b
unfolding bit
bit_v6 true true = refl
bit_v6 true false = refl
bit_v6 false true = refl
bit_v6 false false = refl

tunnel_back : (t : Tunnel) → tunnel_read t.teid (families t) ≡ t
unfolding tunnel_read families
tunnel_back t = λ i. record { teid = t.teid; v4 = bit_v4 t.v4 t.v6 i; v6 = bit_v6 t.v4 t.v6 i }

families_fit : (t : Tunnel) → families t < 256
unfolding families
families_fit t = go t.v4 t.v6
  where
    go : (a b : Bool) → flag a + 2 * flag b < 256
    go true true = lit< tt
    go true false = lit< tt
    go false true = lit< tt
    go false false = lit< tt

-- a TEID of the pool has four octets
teid_below : (s : Settings) → s.first + s.size ≤ 2 ^ 32 → (t : Tunnel) → T (tunnel_allowed s t) → t.teid < 256 ^ 4
unfolding in_pool
teid_below s hs t ht =
    lt_of_lt_of_le
    (ltb→lt t.teid (s.first + s.size) (and_right (leb s.first t.teid) (ltb t.teid (s.first + s.size)) (tunnel_kept s t ht).pool))
    hs

pool_below : (s : Settings) → T (settings_allowed s) → s.first + s.size ≤ 2 ^ 32
pool_below s hs = (settings_kept s hs).pool.last

pub teid_fits : (s : Settings) (t : Tunnel) → T (settings_allowed s) → T (tunnel_allowed s t) → t.teid < 256 ^ 4
teid_fits s t hs ht = teid_below s (pool_below s hs) t ht

-- ---- a record of a record's numbers, and the numbers' widths

option_back : (o : Option ℕ) → option_read (flag (is_some o)) (value_or 0 o) ≡ o
unfolding option_read
option_back none = refl
option_back (some n) = refl

there_fits : (o : Option ℕ) → flag (is_some o) < 256
there_fits none = lit< tt
there_fits (some n) = lit< tt

value_fits : (o : Option ℕ) → T (far_allowed o) → value_or 0 o < 256 ^ 4
unfolding far_allowed
value_fits none h = lit< tt
value_fits (some n) h = ltb→lt n (2 ^ 32) h

ue_fits : (o : Option ℕ) → T (address_allowed o) → value_or 0 o < 256 ^ 4
unfolding address_allowed
ue_fits none h = lit< tt
ue_fits (some a) h = ltb→lt a (2 ^ 32) h

match_back : (l : Match) → match_read (match_kind l) (match_teid l) (match_families l) (match_endpoint l) ≡ l
unfolding match_read match_kind match_teid match_families match_endpoint
match_back neither = refl
match_back (tunnel t) = ap tunnel (tunnel_back t)
match_back (endpoint e) = refl

pdr_numbers_lem : (p : Pdr) → pdr_from (pdr_numbers p) ≡ p
unfolding pdr_from pdr_numbers
pdr_numbers_lem p = λ j. record { id = p.id; precedence = p.precedence; far = option_back p.far j; source = p.source; match = match_back p.match j; address = option_back p.address j }

endpoint_numbers_lem : (e : Endpoint) → endpoint_from (endpoint_numbers e) ≡ e
unfolding endpoint_from endpoint_numbers
endpoint_numbers_lem e = λ j. record { id = e.id; local = tunnel_back e.local j; address = option_back e.address j }

record MatchFits (l : Match) : Type 0 where
  kind : match_kind l < 256
  teid : match_teid l < 256 ^ 4
  families : match_families l < 256
  endpoint : match_endpoint l < 256

module _ (s : Settings) (hs : s.first + s.size ≤ 2 ^ 32) where
  match_fits : (live : List ℕ) (l : Match) → T (match_allowed s live l) → MatchFits l
  unfolding match_allowed match_kind match_teid match_families match_endpoint
  match_fits live neither h = record { kind = lit< tt; teid = lit< tt; families = lit< tt; endpoint = lit< tt }
  match_fits live (tunnel t) h = record { kind = lit< tt; teid = teid_below s hs t h; families = families_fit t; endpoint = lit< tt }
  match_fits live (endpoint e) h = record { kind = lit< tt; teid = lit< tt; families = lit< tt; endpoint = ltb→lt e 256 (and_left (ltb e 256) (member e live) h) }

  pub pdr_fits_lem : (live : List ℕ) (p : Pdr) → T (pdr_allowed s live p) → fit pdr_widths (pdr_numbers p) ≡ true
  unfolding pdr_numbers
  pdr_fits_lem live p h =
      let e = pdr_kept s live p h in
      let l = match_fits live p.match e.match in
      all_fit pdr_widths _ (
        ltb→lt p.id (2 ^ 16) e.id,
        (
          ltb→lt p.precedence (2 ^ 32) e.precedence,
          (
            there_fits p.far,
            (
              value_fits p.far e.far,
              (
                lt_of_lt_of_le (ltb→lt p.source 16 e.source) (lit≤ tt),
                (l.kind, (l.teid, (l.families, (l.endpoint, (there_fits p.address, (ue_fits p.address e.address, tt)))))),
              ),
            ),
          ),
        ),
      )

  pub endpoint_fits_lem : (e : Endpoint) → T (endpoint_allowed s e) → fit endpoint_widths (endpoint_numbers e) ≡ true
  unfolding endpoint_numbers
  endpoint_fits_lem e h =
      let t = endpoint_kept s e h in
      all_fit endpoint_widths _ (ltb→lt e.id 256 t.id, (teid_below s hs e.local t.local, (families_fit e.local, (there_fits e.address, (ue_fits e.address t.address, tt)))))

module _ (s : Settings) (hs : T (settings_allowed s)) where
  pub pdr_back : (live : List ℕ) (p : Pdr) → T (pdr_allowed s live p) → view_pdr (pdr_octets p) ≡ p
  unfolding view_pdr pdr_octets
  pdr_back live p h = record_back pdr_widths pdr_numbers pdr_from p (pdr_fits_lem s (pool_below s hs) live p h) (pdr_numbers_lem p)

  pub endpoint_back : (e : Endpoint) → T (endpoint_allowed s e) → view_endpoint (endpoint_octets e) ≡ e
  unfolding view_endpoint endpoint_octets
  endpoint_back e h = record_back endpoint_widths endpoint_numbers endpoint_from e (endpoint_fits_lem s (pool_below s hs) e h) (endpoint_numbers_lem e)

-- ---- FQ-CSIDs

short_either : (b : Bool) → pick b 16 4 ≤ 16
short_either true = le_refl 16
short_either false = lit≤ tt

pub address_short : (t : ℕ) → address_length t ≤ 16
unfolding address_length
address_short t = short_either (eqb t 1)

pub csid_address_length : (c : Csid) → T (csid_allowed c) → length c.address ≡ address_length c.id_type
csid_address_length c h = (node_address_kept c.id_type c.address (csid_kept c h).address).long

-- an address of sixteen octets or four is read back from its two numbers, which fit
module _ (a : List ℕ) (o : T (octets a)) where
  address_back : (b : Bool) → length a ≡ pick b 16 4 → take (pick b 16 4) (be 4 (number (take 4 a)) ++ be 12 (number (drop 4 a))) ≡ a
  address_back true e =
      rw (be_back 4 (take 4 a) (length-take-le 4 a (omega arith)) (take_octets 4 a o), be_back 12 (drop 4 a) (rw length-drop (omega arith)) (drop_octets 4 a o), take-append-drop 4 a)
      (take_all 16 a (omega arith))
  address_back false e =
      rw (be_back 4 (take 4 a) (length-take-le 4 a (omega arith)) (take_octets 4 a o))
      (take_at (take 4 a) (be 12 (number (drop 4 a))) 4 (length-take-le 4 a (omega arith)) ∙ take_all 4 a (omega arith))

  address_fits_lem : (b : Bool) → length a ≡ pick b 16 4 → (number (take 4 a) < 256 ^ 4) × (number (drop 4 a) < 256 ^ 12)
  address_fits_lem b e =
      let long : 4 ≤ length a = subst (λ (n : ℕ). 4 ≤ n) (sym e) (four b) in
      let room : length (drop 4 a) ≤ 12 = rw (length-drop, e) (rest b) in
      (rw (length-take-le 4 a long) at (number_below (take 4 a) (take_octets 4 a o)), lt_of_lt_of_le (number_below (drop 4 a) (drop_octets 4 a o)) (pow-le-pow_right (lit< tt) room))
    where
      four : (b : Bool) → 4 ≤ pick b 16 4
      four true = lit≤ tt
      four false = lit≤ tt

      rest : (b : Bool) → pick b 16 4 - 4 ≤ 12
      rest true = lit≤ tt
      rest false = lit≤ tt

module _ (c : Csid) (h : T (csid_allowed c)) where
  csid_octets_lem : T (octets c.address)
  csid_octets_lem = (node_address_kept c.id_type c.address (csid_kept c h).address).octets

  csid_numbers_lem : csid_from (csid_slot_numbers c) ≡ c
  unfolding csid_from csid_slot_numbers address_read address_length
  csid_numbers_lem = λ j. record { node_type = c.node_type; id_type = c.id_type; address = address_back c.address csid_octets_lem (eqb c.id_type 1) (csid_address_length c h) j; csid = c.csid }

  pub csid_fits_lem : fit csid_slot_widths (csid_slot_numbers c) ≡ true
  unfolding node_type_kept below16 csid_slot_numbers address_length
  csid_fits_lem =
      let t = csid_kept c h in
      let a = address_fits_lem c.address csid_octets_lem (eqb c.id_type 1) (csid_address_length c h) in
      let k = (node_address_kept c.id_type c.address t.address).type in
      all_fit csid_slot_widths _ (
        lt_of_lt_of_le (ltb→lt c.node_type 6 t.node) (lit≤ tt),
        (omega arith, (a.0, (a.1, (ltb→lt c.csid (2 ^ 16) t.csid, tt)))),
      )

  pub csid_back : view_csid (csid_octets c) ≡ c
  unfolding view_csid csid_octets
  csid_back = record_back csid_slot_widths csid_slot_numbers csid_from c csid_fits_lem csid_numbers_lem

-- ---- widths

pub length_pdr : (p : Pdr) → length (pdr_octets p) ≡ pdr_width
unfolding pdr_octets pdr_numbers
length_pdr p = length_field_octets pdr_widths (pdr_numbers p) refl

pub length_endpoint : (e : Endpoint) → length (endpoint_octets e) ≡ endpoint_width
unfolding endpoint_octets endpoint_numbers
length_endpoint e = length_field_octets endpoint_widths (endpoint_numbers e) refl

pub length_csid : (c : Csid) → length (csid_octets c) ≡ csid_width
unfolding csid_octets csid_slot_numbers
length_csid c = length_field_octets csid_slot_widths (csid_slot_numbers c) refl

-- ---- what is read, octet by octet

pub pdr_view : (xs : List ℕ) → view_pdr xs ≡ record { id = number (part 0 2 xs); precedence = number (part precedence_at 4 xs); far = option_read (get_or xs far_at 0) (number (part far_id_at 4 xs)); source = get_or xs source_at 0; match = match_read (get_or xs match_at 0) (number (part teid_at 4 xs)) (get_or xs families_at 0) (get_or xs named_endpoint_at 0); address = option_read (get_or xs pdr_address_there_at 0) (number (part pdr_address_at 4 xs)) }
unfolding view_pdr pdr_from fields_at
pdr_view xs = rw (octet_field far_at xs, octet_field source_at xs, octet_field match_at xs, octet_field families_at xs, octet_field named_endpoint_at xs, octet_field pdr_address_there_at xs)

pub endpoint_view : (xs : List ℕ) → view_endpoint xs ≡ record { id = get_or xs 0 0; local = tunnel_read (number (part endpoint_teid_at 4 xs)) (get_or xs endpoint_families_at 0); address = option_read (get_or xs endpoint_address_there_at 0) (number (part endpoint_address_at 4 xs)) }
unfolding view_endpoint endpoint_from fields_at
endpoint_view xs = rw (octet_field 0 xs, octet_field endpoint_families_at xs, octet_field endpoint_address_there_at xs)

-- the address of an FQ-CSID's slot
pub csid_address_lem : (xs : List ℕ) → length xs ≡ csid_width → T (octets xs)
    → address_read (number (part csid_id_type_at 1 xs)) (number (part csid_address_at 4 xs)) (number (part csid_address_rest_at 12 xs)) ≡ part csid_address_at (address_length (get_or xs csid_id_type_at 0)) xs
unfolding address_read
csid_address_lem xs long o =
    rw (octet_field csid_id_type_at xs, be_part csid_address_at 4 xs o (omega arith), be_part csid_address_rest_at 12 xs o (omega arith))
    (ap (take (address_length (get_or xs csid_id_type_at 0))) (part_two csid_address_at 4 12 xs) ∙ take-take (address_length (get_or xs csid_id_type_at 0)) 16 (drop csid_address_at xs) (address_short (get_or xs csid_id_type_at 0)))

-- the session limit of a table
pub limit_read : (t : List ℕ) → (view_settings t).limit ≡ number (part limit_at 2 t)
unfolding view_settings number_at
limit_read t = refl

-- ---- sessions

-- the octets before a session's areas
abbrev twelve : ℕ → ℕ
twelve n = suc (suc (suc (suc (suc (suc (suc (suc (suc (suc (suc (suc n)))))))))))

module _ (s : Settings) (hs : T (settings_allowed s)) (x : Session) (hx : T (session_allowed s x)) where
  -- what its tests say
  kept : SessionKept s x
  kept = session_kept s x hx

  pub pdrs_ok : T (all (pdr_allowed s (map endpoint_id x.endpoints)) x.pdrs)
  pdrs_ok = kept.records.pdrs

  pub endpoints_ok : T (all (endpoint_allowed s) x.endpoints)
  endpoints_ok = kept.records.endpoints

  pub csids_ok : T (all csid_allowed x.csids)
  csids_ok = kept.records.csids

  pub few_pdrs : length x.pdrs ≤ max_pdrs
  few_pdrs = leb→le (length x.pdrs) max_pdrs kept.records.few_pdrs

  pub few_endpoints : length x.endpoints ≤ max_endpoints
  few_endpoints = leb→le (length x.endpoints) max_endpoints kept.records.few_endpoints

  pub few_csids : length x.csids ≤ node_types
  few_csids = leb→le (length x.csids) node_types kept.records.few_csids

  pub seid_fits : x.seid < 256 ^ 8
  seid_fits = ltb→lt x.seid (2 ^ 64) kept.records.seid_fits

  -- the three areas
  pdr_area : List ℕ
  pdr_area = area pdr_octets pdr_width max_pdrs x.pdrs

  endpoint_area : List ℕ
  endpoint_area = area endpoint_octets endpoint_width max_endpoints x.endpoints

  csid_area : List ℕ
  csid_area = area csid_octets csid_width node_types x.csids

  length_pdr_area : length pdr_area ≡ max_pdrs * pdr_width
  unfolding pdr_area
  length_pdr_area = length_area pdr_octets pdr_width (pdr_allowed s (map endpoint_id x.endpoints)) (λ p h. length_pdr p) max_pdrs x.pdrs pdrs_ok few_pdrs

  length_endpoint_area : length endpoint_area ≡ max_endpoints * endpoint_width
  unfolding endpoint_area
  length_endpoint_area = length_area endpoint_octets endpoint_width (endpoint_allowed s) (λ e h. length_endpoint e) max_endpoints x.endpoints endpoints_ok few_endpoints

  length_csid_area : length csid_area ≡ node_types * csid_width
  unfolding csid_area
  length_csid_area = length_area csid_octets csid_width csid_allowed (λ c h. length_csid c) node_types x.csids csids_ok few_csids

  pub length_session : length (session_octets x) ≡ session_width
  unfolding session_octets be pdr_area endpoint_area csid_area
  length_session =
      ap twelve
      (length-append pdr_area (endpoint_area ++ csid_area)
      ∙ ap₂ ◌+◌ length_pdr_area (length-append endpoint_area csid_area ∙ ap₂ ◌+◌ length_endpoint_area length_csid_area))

  after_pdrs : (k : ℕ) → drop (max_pdrs * pdr_width + k) (pdr_area ++ (endpoint_area ++ csid_area)) ≡ drop k (endpoint_area ++ csid_area)
  after_pdrs k = sym (drop-drop k (max_pdrs * pdr_width) (pdr_area ++ (endpoint_area ++ csid_area))) ∙ ap (drop k) (drop_at pdr_area (endpoint_area ++ csid_area) (max_pdrs * pdr_width) length_pdr_area)

  pdrs_back : map view_pdr (slices pdr_width (length x.pdrs) (pdr_area ++ (endpoint_area ++ csid_area))) ≡ x.pdrs
  unfolding pdr_area
  pdrs_back = area_back pdr_octets pdr_width (pdr_allowed s (map endpoint_id x.endpoints)) (λ p h. length_pdr p) view_pdr (pdr_back s hs (map endpoint_id x.endpoints)) max_pdrs x.pdrs pdrs_ok (endpoint_area ++ csid_area)

  endpoints_back : map view_endpoint (slices endpoint_width (length x.endpoints) (drop (max_pdrs * pdr_width) (pdr_area ++ (endpoint_area ++ csid_area)))) ≡ x.endpoints
  unfolding endpoint_area
  endpoints_back =
      ap (λ (xs : List ℕ). map view_endpoint (slices endpoint_width (length x.endpoints) xs)) (drop_at pdr_area (endpoint_area ++ csid_area) (max_pdrs * pdr_width) length_pdr_area)
      ∙ area_back endpoint_octets endpoint_width (endpoint_allowed s) (λ e h. length_endpoint e) view_endpoint (endpoint_back s hs) max_endpoints x.endpoints endpoints_ok csid_area

  csids_back : map view_csid (slices csid_width (length x.csids) (drop (max_pdrs * pdr_width + max_endpoints * endpoint_width) (pdr_area ++ (endpoint_area ++ csid_area)))) ≡ x.csids
  unfolding csid_area
  csids_back =
      ap (λ (xs : List ℕ). map view_csid (slices csid_width (length x.csids) xs))
      (after_pdrs (max_endpoints * endpoint_width) ∙ drop_at endpoint_area csid_area (max_endpoints * endpoint_width) length_endpoint_area ∙ sym (append-nil csid_area))
      ∙ area_back csid_octets csid_width csid_allowed (λ c h. length_csid c) view_csid csid_back node_types x.csids csids_ok []

  -- a session's octets are read back
  pub session_back : view_session (session_octets x) ≡ x
  unfolding view_session session_octets view_area be number_at octet_at pdr_area endpoint_area csid_area
  session_back = λ j. record { peer = x.peer; seid = number_be 8 x.seid seid_fits j; pdrs = pdrs_back j; endpoints = endpoints_back j; csids = csids_back j }

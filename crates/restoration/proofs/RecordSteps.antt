-- What the writers of records leave: for each, from what its calls leave. Assumes nothing.
use mathlib.Core.Path.{◌≡◌, refl, sym, ap, ap₂, ◌∙◌}
use Prim.Native.Nat.{ℕ, ◌+◌, ◌-◌, ◌*◌, ◌/◌, ◌≤◌, ◌<◌}
use native.Mathlib.Omega.{arith}
use mathlib.Core.Bool.{Bool, true, false}
use mathlib.Core.Option.{Option, some}
use mathlib.Core.List.{List, [], ◌∷◌, ◌++◌, append-nil}
use borrow.Author.Tests.{eq-eqb, ne_eqb}
use lib.Dec.{T, eqb}
use lib.ListN.{length, get_or, take, length-append}
use lib.Seq.{drop-cons}
use Rattle.octets.specs.Choice.{pick}
use Rattle.octets.specs.Octets.{put, be, part, number, octets, concat_map}
use Rattle.octets.specs.Fields.{width_of, fields_at, field_octets}
use Rattle.octets.proofs.Numbers.{length_be}
use Rattle.octets.proofs.Put.{length_put, length_part, part_two}
use Rattle.octets.proofs.FieldLaws.{octet_field, length_field_octets}
use Rattle.octets.proofs.Digits.{be_part, be_one}
use Rattle.rules.specs.Model.{Settings, Pdr, Endpoint}
use Rattle.rules.specs.Elements.{address_length, fqcsid_octets}
use Rattle.rules.specs.Layout.{option_read, tunnel_read, match_read, pdr_from, endpoint_from, csid_from, view_pdr, view_endpoint, view_csid, pdr_width, csid_width, endpoint_width, precedence_at, far_at, far_id_at, source_at, match_at, teid_at, families_at, named_endpoint_at, pdr_address_there_at, pdr_address_at, endpoint_teid_at, endpoint_families_at, endpoint_address_there_at, endpoint_address_at, csid_id_type_at, csid_address_at, csid_number_at}
use Rattle.rules.specs.Reply.{element, unit_element, address_part}
use Rattle.rules.specs.Restoration.{match_element, far_element, pdi_content, pdr_content, pdr_element, endpoint_content, endpoint_element, record_csid, csid_element}
use Rattle.rules.specs.Types as ie
use Rattle.laws.proofs.LayoutLaws.{csid_address_lem}
use Rattle.fqcsid.specs.declared.FqCsid.{FqCsid}
use Rattle.fqcsid.specs.Meaning.{address_widths, csid_widths, fqcsid_widths, fqcsid_numbers}
use Rattle.fqcsid.proofs.ValueLaws.{eight_widths}
use Rattle.fqcsid.proofs.WriteLaws.{octets_split}
use Rattle.unit.specs.declared.Settings.{Settings as Unit}
use Rattle.unit.specs.Meaning.{settings_of}
use Rattle.writing.specs.Placed.{Placed}
use Rattle.restoration.specs.Records.{CsidOf}
use Rattle.writing.specs.Families.{tunnel_in}
use Rattle.writing.proofs.ElementSteps.{length_ue}
use Rattle.writing.proofs.PlacedLaws.{length_element, placed_none, placed_then, placed_element, placed_group}

-- ---- fields

-- a field of one octet is that octet
octet_is : (at : ℕ) (xs : List ℕ) → at < length xs → part at 1 xs ≡ get_or xs at 0 ∷ []
octet_is at xs h = rw (drop-cons xs at 0 h)

octet_part : (at : ℕ) (xs : List ℕ) → at < length xs → number (part at 1 xs) ∷ [] ≡ part at 1 xs
octet_part at xs h = ap (λ (x : ℕ). x ∷ []) (octet_field at xs) ∙ sym (octet_is at xs h)

-- what is placed leaves the length
placed_length : {s s₁ : List ℕ} {at e : ℕ} {xs : List ℕ} → Placed s at xs e s₁ → at + length xs ≤ length s → length s₁ ≡ length s
placed_length {s} {s₁} {at} {e} {xs} p h = ap length p.holds ∙ length_put at xs s h

-- ---- a record's address, from its two fields

module _ (there address : ℕ) where
  pub address_none_steps : (at : ℕ) (out : List ℕ) → there ≡ 0 → Placed out at (address_part (option_read there address)) at out
  unfolding option_read address_part
  address_none_steps at out z = rw (eq-eqb there 0 z) (placed_none out at)

  address_some : (there ≡ 0 → ⊥) → option_read there address ≡ some address
  unfolding option_read
  address_some z = rw (ne_eqb there 0 z)

  pub length_address : (there ≡ 0 → ⊥) → length (address_part (option_read there address)) ≡ 9
  length_address z = ap (λ (o : Option ℕ). length (address_part o)) (address_some z) ∙ length_ue address

  pub address_some_steps : (at : ℕ) (out : List ℕ) {e : ℕ} {out' : List ℕ} → (there ≡ 0 → ⊥) → Placed out at (address_part (some address)) e out' → Placed out at (address_part (option_read there address)) e out'
  address_some_steps at out z p = rw (address_some z) p

-- ---- PDR

module _ (s : Settings) (p : Pdr) where
  pub length_pdi : length (element ie.pdi (pdi_content s p)) ≡ 9 + (length (match_element s p.match) + length (address_part p.address))
  unfolding pdi_content
  length_pdi =
      let a = element ie.source_interface (p.source ∷ []) in
      let b = match_element s p.match in
      let c = address_part p.address in
      rw (length_element) (omega (arith, length-append a (b ++ c), length-append b c, length_element ie.source_interface (p.source ∷ [])))

  pub length_pdr : length (pdr_element s p) ≡ 18 + (length (element ie.pdi (pdi_content s p)) + length (far_element p.far))
  unfolding pdr_element pdr_content
  length_pdr =
      let a = element ie.pdr_id (be 2 p.id) in
      let b = element ie.precedence (be 4 p.precedence) in
      let c = element ie.pdi (pdi_content s p) in
      let d = far_element p.far in
      rw (length_element 1 (a ++ (b ++ (c ++ d))))
      (omega (arith, length-append a (b ++ (c ++ d)), length-append b (c ++ d), length-append c d, length_element ie.pdr_id (be 2 p.id), length_be 2 p.id, length_element ie.precedence (be 4 p.precedence), length_be 4 p.precedence))

module _ (xs : List ℕ) (long : length xs ≡ pdr_width) where
  abbrev pdr : Pdr
  pdr = view_pdr xs

  pub pdr_address_lem : pdr.address ≡ option_read (get_or xs pdr_address_there_at 0) (number (part pdr_address_at 4 xs))
  unfolding view_pdr pdr_from fields_at
  pdr_address_lem = rw (octet_field pdr_address_there_at xs)

  pub length_pdr_address : (address : ℕ) → address ≡ number (part pdr_address_at 4 xs) → length (address_part pdr.address) ≡ length (address_part (option_read (get_or xs pdr_address_there_at 0) address))
  length_pdr_address address w = rw (pdr_address_lem, ← w)

  source_is : pdr.source ∷ [] ≡ part source_at 1 xs
  unfolding view_pdr pdr_from fields_at
  source_is = octet_part source_at xs (omega arith)

  module _ (u : Unit) where
    abbrev st : Settings
    st = settings_of u

    match_is : match_element st pdr.match ≡ match_element st (match_read (get_or xs match_at 0) (number (part teid_at 4 xs)) (get_or xs families_at 0) (number (part named_endpoint_at 1 xs)))
    unfolding view_pdr pdr_from fields_at
    match_is =
        ap₂ (λ (k f : ℕ). match_element st (match_read k (number (part teid_at 4 xs)) f (number (part named_endpoint_at 1 xs)))) (octet_field match_at xs) (octet_field families_at xs)

    pub match_tunnel : get_or xs match_at 0 ≡ 1 → match_element st pdr.match ≡ unit_element st (tunnel_in (number (part teid_at 4 xs)) (get_or xs families_at 0))
    unfolding match_element match_read tunnel_read tunnel_in
    match_tunnel k = match_is ∙ rw (eq-eqb (get_or xs match_at 0) 1 k)

    pub match_endpoint_lem : get_or xs match_at 0 ≡ 2 → match_element st pdr.match ≡ element ie.endpoint_id (part named_endpoint_at 1 xs)
    unfolding match_element match_read
    match_endpoint_lem k =
        let one : get_or xs match_at 0 ≡ 1 → ⊥ = λ e. absurd (omega arith) in
        match_is ∙ rw (ne_eqb (get_or xs match_at 0) 1 one, eq-eqb (get_or xs match_at 0) 2 k) (ap (element ie.endpoint_id) (octet_part named_endpoint_at xs (omega arith)))

    pub match_neither : (get_or xs match_at 0 ≡ 1 → ⊥) → (get_or xs match_at 0 ≡ 2 → ⊥) → match_element st pdr.match ≡ []
    unfolding match_element match_read
    match_neither k l = match_is ∙ rw (ne_eqb (get_or xs match_at 0) 1 k, ne_eqb (get_or xs match_at 0) 2 l)

    pdi_is : pdi_content st pdr ≡ element ie.source_interface (part source_at 1 xs) ++ (match_element st pdr.match ++ address_part pdr.address)
    unfolding pdi_content
    pdi_is = ap (λ (l : List ℕ). element ie.source_interface l ++ (match_element st pdr.match ++ address_part pdr.address)) source_is

    module _ (at : ℕ) (out : List ℕ) where
      pub match_tunnel_steps : (teid : ℕ) {e : ℕ} {out' : List ℕ} → get_or xs match_at 0 ≡ 1 → teid ≡ number (part teid_at 4 xs)
          → Placed out at (unit_element st (tunnel_in teid (get_or xs families_at 0))) e out' → Placed out at (match_element st pdr.match) e out'
      match_tunnel_steps teid k e p = rw (match_tunnel k, ← e) p

      pub match_endpoint_steps : {e : ℕ} {out' : List ℕ} → get_or xs match_at 0 ≡ 2
          → Placed out at (element ie.endpoint_id (part named_endpoint_at 1 xs)) e out' → Placed out at (match_element st pdr.match) e out'
      match_endpoint_steps k p = rw (match_endpoint_lem k) p

      pub match_neither_steps : (get_or xs match_at 0 ≡ 1 → ⊥) → (get_or xs match_at 0 ≡ 2 → ⊥) → Placed out at (match_element st pdr.match) at out
      match_neither_steps k l = rw (match_neither k l) (placed_none out at)

      pub pdi_steps : (address : ℕ) {m n e : ℕ} {out₁ out₂ out₃ out₄ : List ℕ} → at + length (element ie.pdi (pdi_content st pdr)) ≤ length out
          → Placed out (at + 4) (element ie.source_interface (part source_at 1 xs)) m out₁ → Placed out₁ m (match_element st pdr.match) n out₂
          → address ≡ number (part pdr_address_at 4 xs) → Placed out₂ n (address_part (option_read (get_or xs pdr_address_there_at 0) address)) e out₃
          → out₄ ≡ put at (be 2 ie.pdi ++ be 2 (e - (at + 4))) out₃ → Placed out at (element ie.pdi (pdi_content st pdr)) e out₄
      pdi_steps address {m} {n} {e} {out₁} {out₂} {out₃} h p q w v r =
          let l = length_pdi st pdr in
          let k : length (element ie.source_interface (part source_at 1 xs)) ≡ 5 = length_element ie.source_interface (part source_at 1 xs) ∙ ap (λ (n : ℕ). 4 + n) (length_part source_at 1 xs (omega arith)) in
          let z = placed_length p (omega arith) in
          let y = p.ends in
          let v' : Placed out₂ n (address_part pdr.address) e out₃ = rw (pdr_address_lem, ← w) v in
          let both = placed_then q v' (omega arith) in
          let all : Placed out (at + 4) (pdi_content st pdr) e out₃ = rw pdi_is (placed_then p both (omega arith)) in
          placed_group ie.pdi at (at + 4) (pdi_content st pdr) out refl (omega arith) all r

      pub pdr_steps : {a b c e : ℕ} {out₁ out₂ out₃ out₄ out₅ : List ℕ} → T (octets xs) → at + length (pdr_element st pdr) ≤ length out
          → Placed out (at + 4) (element ie.pdr_id (take 2 xs)) a out₁ → Placed out₁ a (element ie.precedence (part precedence_at 4 xs)) b out₂
          → Placed out₂ b (element ie.pdi (pdi_content st pdr)) c out₃ → Placed out₃ c (far_element pdr.far) e out₄
          → length out₁ ≡ length out → length out₂ ≡ length out
          → out₅ ≡ put at (be 2 ie.create_pdr ++ be 2 (e - (at + 4))) out₄ → Placed out at (pdr_element st pdr) e out₅
      unfolding pdr_element pdr_content view_pdr pdr_from fields_at
      pdr_steps {a} {b} {c} {e} {out₁} {out₂} {out₃} {out₄} o h p q r u same₁ same₂ v =
          let l = length_pdr st pdr in
          let j = length_element ie.pdr_id (take 2 xs) in
          let j' = length_part 0 2 xs (omega arith) in
          let k = length_element ie.precedence (part precedence_at 4 xs) in
          let k' = length_part precedence_at 4 xs (omega arith) in
          let m = p.ends in
          let n = q.ends in
          let last = placed_then r u (omega arith) in
          let later = placed_then q last (omega arith) in
          let all = placed_then p later (omega arith) in
          rw (be_part 0 2 xs o (omega arith), be_part precedence_at 4 xs o (omega arith))
          (placed_group ie.create_pdr at (at + 4) (element ie.pdr_id (take 2 xs) ++ (element ie.precedence (part precedence_at 4 xs) ++ (element ie.pdi (pdi_content st pdr) ++ far_element pdr.far))) out refl (omega arith) all v)

  module _ (at : ℕ) (out : List ℕ) where
    pub far_none : get_or xs far_at 0 ≡ 0 → far_element pdr.far ≡ []
    unfolding far_element view_pdr pdr_from fields_at option_read
    far_none z = rw (octet_field far_at xs, eq-eqb (get_or xs far_at 0) 0 z)

    pub far_some : T (octets xs) → (get_or xs far_at 0 ≡ 0 → ⊥) → far_element pdr.far ≡ element ie.far_id (part far_id_at 4 xs)
    unfolding far_element view_pdr pdr_from fields_at option_read
    far_some o z = rw (octet_field far_at xs, ne_eqb (get_or xs far_at 0) 0 z) (ap (element ie.far_id) (be_part far_id_at 4 xs o (omega arith)))

    pub far_none_steps : get_or xs far_at 0 ≡ 0 → Placed out at (far_element pdr.far) at out
    far_none_steps z = rw (far_none z) (placed_none out at)

    pub far_some_steps : {e : ℕ} {out' : List ℕ} → T (octets xs) → (get_or xs far_at 0 ≡ 0 → ⊥) → Placed out at (element ie.far_id (part far_id_at 4 xs)) e out' → Placed out at (far_element pdr.far) e out'
    far_some_steps o z p = rw (far_some o z) p

-- ---- endpoint

pub length_endpoint : (s : Settings) (e : Endpoint) → length (endpoint_element s e) ≡ 9 + (length (unit_element s e.local) + length (address_part e.address))
unfolding endpoint_element endpoint_content
length_endpoint s e =
    let a = element ie.endpoint_id (e.id ∷ []) in
    let b = unit_element s e.local in
    let c = address_part e.address in
    rw (length_element) (omega (arith, length-append a (b ++ c), length-append b c, length_element ie.endpoint_id (e.id ∷ [])))

module _ (xs : List ℕ) (long : length xs ≡ endpoint_width) (u : Unit) where
  pub endpoint_local_lem : unit_element (settings_of u) (view_endpoint xs).local ≡ unit_element (settings_of u) (tunnel_in (number (part endpoint_teid_at 4 xs)) (get_or xs endpoint_families_at 0))
  unfolding view_endpoint endpoint_from fields_at tunnel_read tunnel_in
  endpoint_local_lem = rw (octet_field endpoint_families_at xs)

  pub endpoint_address_lem : (view_endpoint xs).address ≡ option_read (get_or xs endpoint_address_there_at 0) (number (part endpoint_address_at 4 xs))
  unfolding view_endpoint endpoint_from fields_at
  endpoint_address_lem = rw (octet_field endpoint_address_there_at xs)

  pub length_local : (teid : ℕ) → teid ≡ number (part endpoint_teid_at 4 xs) → length (unit_element (settings_of u) (view_endpoint xs).local) ≡ length (unit_element (settings_of u) (tunnel_in teid (get_or xs endpoint_families_at 0)))
  length_local teid w = rw (endpoint_local_lem, ← w)

  pub length_endpoint_address : (address : ℕ) → address ≡ number (part endpoint_address_at 4 xs) → length (address_part (view_endpoint xs).address) ≡ length (address_part (option_read (get_or xs endpoint_address_there_at 0) address))
  length_endpoint_address address w = rw (endpoint_address_lem, ← w)

  id_is : (view_endpoint xs).id ∷ [] ≡ take 1 xs
  unfolding view_endpoint endpoint_from fields_at
  id_is = octet_part 0 xs (omega arith)

  endpoint_is : endpoint_content (settings_of u) (view_endpoint xs)
      ≡ element ie.endpoint_id (take 1 xs) ++ (unit_element (settings_of u) (view_endpoint xs).local ++ address_part (view_endpoint xs).address)
  unfolding endpoint_content
  endpoint_is = ap (λ (l : List ℕ). element ie.endpoint_id l ++ (unit_element (settings_of u) (view_endpoint xs).local ++ address_part (view_endpoint xs).address)) id_is

  pub endpoint_steps : (at teid address : ℕ) (out : List ℕ) {a b e : ℕ} {out₁ out₂ out₃ out₄ : List ℕ} → at + length (endpoint_element (settings_of u) (view_endpoint xs)) ≤ length out
      → Placed out (at + 4) (element ie.endpoint_id (take 1 xs)) a out₁ → teid ≡ number (part endpoint_teid_at 4 xs)
      → Placed out₁ a (unit_element (settings_of u) (tunnel_in teid (get_or xs endpoint_families_at 0))) b out₂
      → address ≡ number (part endpoint_address_at 4 xs) → Placed out₂ b (address_part (option_read (get_or xs endpoint_address_there_at 0) address)) e out₃
      → out₄ ≡ put at (be 2 ie.create_endpoint ++ be 2 (e - (at + 4))) out₃ → Placed out at (endpoint_element (settings_of u) (view_endpoint xs)) e out₄
  unfolding endpoint_element
  endpoint_steps at teid address out {a} {b} {e} {out₁} {out₂} {out₃} h p w q z v r =
      let l = length_endpoint (settings_of u) (view_endpoint xs) in
      let k = length_element ie.endpoint_id (take 1 xs) in
      let k' = length_part 0 1 xs (omega arith) in
      let y = placed_length p (omega arith) in
      let m = p.ends in
      let q' : Placed out₁ a (unit_element (settings_of u) (view_endpoint xs).local) b out₂ = rw (endpoint_local_lem, ← w) q in
      let v' : Placed out₂ b (address_part (view_endpoint xs).address) e out₃ = rw (endpoint_address_lem, ← z) v in
      let both = placed_then q' v' (omega arith) in
      let all : Placed out (at + 4) (endpoint_content (settings_of u) (view_endpoint xs)) e out₃ = rw endpoint_is (placed_then p both (omega arith)) in
      placed_group ie.create_endpoint at (at + 4) (endpoint_content (settings_of u) (view_endpoint xs)) out refl (omega arith) all r

-- ---- FQ-CSID

be_none : (n : ℕ) → be 0 n ≡ []
unfolding be
be_none n = refl

-- the second number of an address of n octets
pub low_narrow : (t n : ℕ) → n ≡ address_length t → n - 8 * (n / 16) ≤ 8
unfolding address_length
low_narrow t n e = by (eqb t 1) e
  where
    by : (b : Bool) → n ≡ pick b 16 4 → n - 8 * (n / 16) ≤ 8
    by true e = omega arith
    by false e = omega arith

-- the words of one CSID
one_word : (n : ℕ) → field_octets (csid_widths 1) (n ∷ 0 ∷ 0 ∷ 0 ∷ []) ≡ be 2 n
unfolding csid_widths field_octets be
one_word n = refl

module _ (xs : List ℕ) (long : length xs ≡ csid_width) (o : T (octets xs)) where
  abbrev width : ℕ
  width = address_length (get_or xs csid_id_type_at 0)

  csid_value : fqcsid_octets (record_csid (view_csid xs)) ≡ (get_or xs csid_id_type_at 0 * 16 + 1) ∷ part csid_address_at width xs ++ (part csid_number_at 2 xs ++ get_or xs 0 0 ∷ [])
  unfolding record_csid fqcsid_octets view_csid csid_from fields_at concat_map
  csid_value = rw (csid_address_lem xs long o, octet_field csid_id_type_at xs, octet_field 0 xs, be_part csid_number_at 2 xs o (omega arith), append-nil (part csid_number_at 2 xs))

  -- the numbers of an address of n octets
  halves : (b : Bool) (n high low : ℕ) → n ≡ pick b 16 4 → high ≡ number (part csid_address_at (8 * (n / 16)) xs) → low ≡ number (part (csid_address_at + 8 * (n / 16)) (n - 8 * (n / 16)) xs)
      → field_octets (pick b (8 ∷ 8 ∷ []) (0 ∷ 4 ∷ [])) (high ∷ low ∷ []) ≡ part csid_address_at (pick b 16 4) xs
  unfolding field_octets
  halves true n high low e p q =
      let p' : high ≡ number (part csid_address_at 8 xs) = rw e at p in
      let q' : low ≡ number (part (csid_address_at + 8) 8 xs) = rw e at q in
      rw (p', q', be_part csid_address_at 8 xs o (omega arith), be_part (csid_address_at + 8) 8 xs o (omega arith), append-nil (part (csid_address_at + 8) 8 xs)) (part_two csid_address_at 8 8 xs)
  halves false n high low e p q =
      let q' : low ≡ number (part csid_address_at 4 xs) = rw e at q in
      rw (q', be_none high, be_part csid_address_at 4 xs o (omega arith), append-nil (part csid_address_at 4 xs))

  pub csid_of_lem : (n high low one : ℕ) → get_or xs 0 0 < 256 → get_or xs csid_id_type_at 0 < 16 → n ≡ width → high ≡ number (part csid_address_at (8 * (n / 16)) xs) → low ≡ number (part (csid_address_at + 8 * (n / 16)) (n - 8 * (n / 16)) xs)
      → one ≡ number (part csid_number_at 2 xs)
      → CsidOf xs (record { id_type = get_or xs csid_id_type_at 0; count = 1; address_high = high; address_low = low; csids_1 = one; csids_2 = 0; csids_3 = 0; csids_4 = 0; node_type = get_or xs 0 0 })
  unfolding address_length address_widths
  csid_of_lem n high low one node few e p q r =
      let v : FqCsid = record { id_type = get_or xs csid_id_type_at 0; count = 1; address_high = high; address_low = low; csids_1 = one; csids_2 = 0; csids_3 = 0; csids_4 = 0; node_type = get_or xs 0 0 } in
      let first : 16 * get_or xs csid_id_type_at 0 + 1 ≡ get_or xs csid_id_type_at 0 * 16 + 1 = omega arith in
      record {
        kind = refl;
        one = refl;
        octets =
            octets_split v
            ∙ rw (first, be_one (get_or xs csid_id_type_at 0 * 16 + 1) (omega arith), halves (eqb (get_or xs csid_id_type_at 0) 1) n high low e p q, one_word one, r, be_part csid_number_at 2 xs o (omega arith), be_one (get_or xs 0 0) node)
            (sym csid_value);
      }

-- the element, from what is written of such an FQ-CSID
module _ (xs : List ℕ) (v : FqCsid) (of : CsidOf xs v) where
  abbrev wide : ℕ
  wide = width_of (fqcsid_widths v.id_type v.count)

  length_value : length (fqcsid_octets (record_csid (view_csid xs))) ≡ wide
  length_value =
      ap length (sym of.octets)
      ∙ length_field_octets (fqcsid_widths v.id_type v.count) (fqcsid_numbers v) (sym (eight_widths v.id_type v.count))

  pub csid_room : (at n : ℕ) → at + length (csid_element (view_csid xs)) ≤ n → at + 4 + wide ≤ n
  unfolding csid_element
  csid_room at n h = omega (arith, length_element ie.fqcsid (fqcsid_octets (record_csid (view_csid xs))), length_value)

  pub csid_steps : (at e : ℕ) (out : List ℕ) {out₁ out₂ : List ℕ} → at + length (csid_element (view_csid xs)) ≤ length out → e ≡ at + 4 + wide
      → out₁ ≡ put (at + 4) (field_octets (fqcsid_widths v.id_type v.count) (fqcsid_numbers v)) out
      → out₂ ≡ put at (be 2 ie.fqcsid ++ be 2 (e - (at + 4))) out₁ → Placed out at (csid_element (view_csid xs)) e out₂
  unfolding csid_element
  csid_steps at e out {out₁} h g p q =
      let x : List ℕ = fqcsid_octets (record_csid (view_csid xs)) in
      let l = length_value in
      let k = csid_room at (length out) h in
      let w : out₁ ≡ put (at + 4) x out = rw of.octets at p in
      placed_element ie.fqcsid at (at + 4) (e - (at + 4)) e x out refl (omega arith) (omega arith) (omega arith) w q

-- A restoration request that was written for a session is read as that session's records.
-- Assumes nothing.
use mathlib.Core.Path.{◌≡◌, refl, ap, ◌∙◌}
use Prim.Native.Nat.{ℕ, suc, ◌+◌, ◌%◌, ◌^◌, ◌≤◌, ◌<◌, zero-le, suc-le-suc}
use native.Mathlib.Nat.{le_trans, le_of_eq, mod-eq_of_lt}
use native.Mathlib.Omega.{arith}
use mathlib.Core.Bool.{Bool, true, false, not, ◌&&◌, ◌||◌}
use mathlib.Core.Option.{Option, none, some}
use mathlib.Core.List.{List, [], ◌∷◌, ◌++◌}
use lib.ListN.{length, length-append}
use lib.Dec.{T, eqb, ltb→lt, lit<, lit≤}
use mir.Facts.{yes_eqb}
use Rattle.octets.specs.Choice.{pick, map_option, is_nil}
use Rattle.octets.specs.Octets.{be, number, number_at, octets, concat_map}
use Rattle.octets.specs.Lists.{member}
use Rattle.octets.proofs.Tests.{both}
use Rattle.octets.proofs.Numbers.{length_be, number_be}
use Rattle.rules.specs.Model.{Settings, Tunnel, Match, neither, tunnel, endpoint, Pdr, Endpoint, Csid, matched_tunnel, matched_endpoint}
use Rattle.rules.specs.Elements.{value, Fteid, UeIp, ue_given, ue_allowed, ue_octets, read_fteid, read_ue_ip, read_fqcsid, address_of, fteid_allowed, fteid_octets, unit_fteid, fqcsid_octets}
use Rattle.laws.proofs.ElementLaws.{fteid_back, ue_back, fqcsid_back}
use Rattle.rules.specs.Sound.{ipv6_allowed, settings_allowed, unit_families, tunnel_allowed, match_allowed, far_allowed, address_allowed, pdr_allowed, csid_allowed}
use Rattle.laws.proofs.LayoutLaws.{csid_address_length, address_short, teid_fits}
use Rattle.laws.proofs.KeptSettings.{settings_kept}
use Rattle.laws.proofs.KeptRules.{given_tests_lem, tunnel_kept, pdr_kept, csid_kept}
use Rattle.laws.proofs.TableLaws.{ipv4_four_lem, ipv6_ok, ipv6_short}
use Rattle.rules.specs.Message.{inside, Element, elements, places_of, opened_in, number_width, establishment}
use Rattle.rules.specs.Reading.{done, and_then, Members, no_members, member_there, number_read, far_read, pdi_in, value_read, member_read, members_read, unopened, pdi_end, pdi_read, pdr_item, endpoint_item, item_from, group_read}
use Rattle.rules.specs.Request.{creates_pdr, creates_endpoint}
use Rattle.laws.proofs.MessageLaws.{Fits, el, after, elements_cons, elements_nil, elements_last, Framed, Inside, framed_nil, framed_cons, framed_last, length_one}
use Rattle.rules.specs.Reply.{element, unit_element, address_part}
use Rattle.rules.specs.Restoration.{match_element, far_element, pdi_content, pdr_content, endpoint_content, record_csid, restored_pdr, restored_endpoint}
use Rattle.rules.specs.Types as ie

-- ---- the unit's F-TEIDs

module _ (s : Settings) (hs : T (settings_allowed s)) where
  ipv4_octets_lem : T (octets s.ipv4)
  ipv4_octets_lem = (settings_kept s hs).ipv4_octets

  ipv6_octets_lem : T (octets s.ipv6)
  ipv6_octets_lem = (settings_kept s hs).ipv6_octets

  four_not_nil : (a : List ℕ) → length a ≡ 4 → T (not (is_nil a))
  four_not_nil [] h = absurd (omega arith)
  four_not_nil (x ∷ a) h = tt

  address4 : (v4 : Bool) → T (address_of 4 (pick v4 s.ipv4 []))
  unfolding address_of
  address4 false = tt
  address4 true = both (is_nil s.ipv4 || eqb (length s.ipv4) 4) (octets s.ipv4) (or_right (is_nil s.ipv4) (eqb (length s.ipv4) 4) (yes_eqb (ipv4_four_lem s hs))) ipv4_octets_lem
    where
      or_right : (a b : Bool) → T b → T (a || b)
      or_right true b h = tt
      or_right false b h = h

  address16 : (v6 : Bool) → T (address_of 16 (pick v6 s.ipv6 []))
  unfolding address_of ipv6_allowed
  address16 false = tt
  address16 true = both (is_nil s.ipv6 || eqb (length s.ipv6) 16) (octets s.ipv6) (ipv6_ok s hs) ipv6_octets_lem

  some_address_lem : (v4 v6 : Bool) → T (v4 || v6) → T (unit_families s v6) → T (not (is_nil (pick v4 s.ipv4 []) && is_nil (pick v6 s.ipv6 [])))
  unfolding unit_families
  some_address_lem true v6 h g = not_left (is_nil s.ipv4) (is_nil (pick v6 s.ipv6 [])) (four_not_nil s.ipv4 (ipv4_four_lem s hs))
    where
      not_left : (a b : Bool) → T (not a) → T (not (a && b))
      not_left true b h = absurd h
      not_left false b h = tt
  some_address_lem false true h g = g
  some_address_lem false false h g = absurd h

  unit_allowed : (e : Bool) (t : Tunnel) → T (tunnel_allowed s t) → T (fteid_allowed e (unit_fteid s t))
  unfolding fteid_allowed unit_fteid
  unit_allowed e t h =
      let g = tunnel_kept s t h in
      given_tests_lem (record { teid = teid_fits s t hs h; ipv4 = address4 t.v4; ipv6 = address16 t.v6; some = some_address_lem t.v4 t.v6 g.family g.unit })

  -- the unit's F-TEID is read back
  pub unit_back : (e : Bool) (t : Tunnel) → T (tunnel_allowed s t) → read_fteid e (fteid_octets (unit_fteid s t)) ≡ value (unit_fteid s t)
  unit_back e t h = fteid_back e (unit_fteid s t) (unit_allowed e t h)

  pick_short : (b : Bool) (a : List ℕ) (n : ℕ) → length a ≤ n → length (pick b a []) ≤ n
  pick_short true a n h = h
  pick_short false a n h = zero-le

  -- at most 25 octets, and 29 with type and length
  pub unit_short : (t : Tunnel) → length (fteid_octets (unit_fteid s t)) ≤ 25
  unfolding fteid_octets unit_fteid be
  unit_short t =
      let a = pick_short t.v4 s.ipv4 4 (le_of_eq (ipv4_four_lem s hs)) in
      let b = pick_short t.v6 s.ipv6 16 (ipv6_short s.ipv6 (ipv6_ok s hs)) in
      let e = length-append (pick t.v4 s.ipv4 []) (pick t.v6 s.ipv6 []) in
      omega arith

  pub small : {n : ℕ} → n ≤ 2048 → n < 256 ^ 2
  small h = le_trans (suc-le-suc h) (lit≤ tt)

  pub unit_fits : (t : Tunnel) → Fits ie.fteid (fteid_octets (unit_fteid s t))
  unfolding Fits
  unit_fits t = (lit< tt, small (le_trans (unit_short t) (lit≤ tt)))

  pub number_one : (c : ℕ) → number (c ∷ []) ≡ c
  unfolding number
  number_one c = omega arith

  -- ---- a PDI: source interface c and match l

  match_elements : ℕ → Match → List Element
  match_elements at neither = []
  match_elements at (tunnel t) = el at ie.fteid (fteid_octets (unit_fteid s t)) ∷ []
  match_elements at (endpoint e) = el at ie.endpoint_id (e ∷ []) ∷ []

  pub one_fits : (t : ℕ) → t < 256 ^ 2 → (c : ℕ) → Fits t (c ∷ [])
  unfolding Fits
  one_fits t h c = (h, lit< tt)

  -- the place after it
  match_end : ℕ → Match → ℕ
  match_end at neither = at
  match_end at (tunnel t) = after at (fteid_octets (unit_fteid s t))
  match_end at (endpoint e) = after at (e ∷ [])

  pub be_fits : (t w n : ℕ) → t < 256 ^ 2 → w ≤ 2048 → Fits t (be w n)
  unfolding Fits
  be_fits t w n h g = (h, small (le_trans (le_of_eq (length_be w n)) g))

  -- an address, in the end of a group
  unfoldable pub address_elements : ℕ → Option ℕ → List Element
  address_elements at none = []
  address_elements at (some a) = el at ie.ue_ip_address (ue_octets (ue_given a)) ∷ []

  ue_length : (a : ℕ) → length (ue_octets (ue_given a)) ≡ 5
  unfolding ue_octets be
  ue_length a = refl

  pub ue_fits : (a : ℕ) → Fits ie.ue_ip_address (ue_octets (ue_given a))
  unfolding Fits
  ue_fits a = (lit< tt, small (le_trans (le_of_eq (ue_length a)) (lit≤ tt)))

  pub address_elements_lem : (at : ℕ) (o : Option ℕ) → elements at (address_part o) ≡ address_elements at o
  unfolding address_part address_elements
  address_elements_lem at none = elements_nil at
  address_elements_lem at (some a) = elements_last at ie.ue_ip_address (ue_octets (ue_given a)) (ue_fits a)

  pub ue_short : (o : Option ℕ) → length (address_part o) ≤ 9
  unfolding address_part
  ue_short none = zero-le
  ue_short (some a) = le_of_eq (length_one ie.ue_ip_address (ue_octets (ue_given a)) ∙ ap (λ (k : ℕ). 4 + k) (ue_length a))

  -- it is read back
  address_back : (a : ℕ) → T (address_allowed (some a)) → read_ue_ip (ue_octets (ue_given a)) ≡ value (ue_given a)
  unfolding address_allowed
  address_back a h = ue_back (ue_given a) (unfold ue_allowed in h)

  match_elements_lem : (at : ℕ) (l : Match) (o : Option ℕ) → elements at (match_element s l ++ address_part o) ≡ match_elements at l ++ address_elements (match_end at l) o
  unfolding match_element match_elements match_end unit_element
  match_elements_lem at neither o = address_elements_lem at o
  match_elements_lem at (tunnel t) o =
      elements_cons ie.fteid (fteid_octets (unit_fteid s t)) (address_part o) (unit_fits t) at
      ∙ ap (λ (es : List Element). el at ie.fteid (fteid_octets (unit_fteid s t)) ∷ es) (address_elements_lem _ o)
  match_elements_lem at (endpoint e) o =
      elements_cons ie.endpoint_id (e ∷ []) (address_part o) (one_fits ie.endpoint_id (lit< tt) e) at
      ∙ ap (λ (es : List Element). el at ie.endpoint_id (e ∷ []) ∷ es) (address_elements_lem _ o)

  match_short : (l : Match) → length (match_element s l) ≤ 29
  unfolding match_element unit_element
  match_short neither = zero-le
  match_short (tunnel t) = le_trans (le_of_eq (length_one ie.fteid (fteid_octets (unit_fteid s t)))) (let h = unit_short t in omega arith)
  match_short (endpoint e) = le_trans (le_of_eq (length_one ie.endpoint_id (e ∷ []))) (lit≤ tt)

  pdi_elements : (at : ℕ) (p : Pdr) → elements at (pdi_content s p)
      ≡ el at ie.source_interface (p.source ∷ []) ∷ (match_elements (after at (p.source ∷ [])) p.match ++ address_elements (match_end (after at (p.source ∷ [])) p.match) p.address)
  unfolding pdi_content
  pdi_elements at p =
      elements_cons ie.source_interface (p.source ∷ []) (match_element s p.match ++ address_part p.address) (one_fits ie.source_interface (lit< tt) p.source) at
      ∙ ap (λ (es : List Element). el at ie.source_interface (p.source ∷ []) ∷ es) (match_elements_lem _ p.match p.address)

  pdi_short : (p : Pdr) → length (pdi_content s p) ≤ 43
  unfolding pdi_content
  pdi_short p =
      let a = length-append (element ie.source_interface (p.source ∷ [])) (match_element s p.match ++ address_part p.address) in
      let b = length_one ie.source_interface (p.source ∷ []) in
      let c = length-append (match_element s p.match) (address_part p.address) in
      let h = match_short p.match in
      let g = ue_short p.address in
      omega arith

  pub source_back : (c : ℕ) → c < 16 → number (c ∷ []) % 16 ≡ c
  source_back c h = ap (λ (n : ℕ). n % 16) (number_one c) ∙ mod-eq_of_lt h

  -- a Create PDR's members before its PDI's, and with them
  abbrev begun : ℕ → ℕ → Members
  begun i n = record { pdr_id = some i; precedence = some n; far = none; pdi = true; source = none; local = none; endpoint_id = none; address = none }

  abbrev placed : ℕ → ℕ → ℕ → Option Fteid → Option ℕ → Option UeIp → Members
  placed i n c o e u = record { pdr_id = some i; precedence = some n; far = none; pdi = true; source = some c; local = o; endpoint_id = e; address = u }

  pdi_members : (a at b q i n c : ℕ) (l : Match) (o : Option ℕ) (live : List ℕ) → c < 16 → T (match_allowed s live l) → T (address_allowed o)
      → and_then (members_read unopened 2 (el a ie.source_interface (c ∷ []) ∷ (match_elements at l ++ address_elements b o)) (begun i n)) (pdi_end q)
      ≡ done (placed i n c (map_option (unit_fteid s) (matched_tunnel l)) (matched_endpoint l) (map_option ue_given o))
  unfolding members_read member_read value_read member_there number_read number_at number_width places_of member pdi_end match_elements address_elements matched_tunnel matched_endpoint match_allowed
  pdi_members a at b q i n c neither none live h k g = λ j. done (placed i n (source_back c h j) none none none)
  pdi_members a at b q i n c neither (some u) live h k g = rw (address_back u g) (λ j. done (placed i n (source_back c h j) none none (some (ue_given u))))
  pdi_members a at b q i n c (tunnel t) none live h k g = rw (unit_back false t k) (λ j. done (placed i n (source_back c h j) (some (unit_fteid s t)) none none))
  pdi_members a at b q i n c (tunnel t) (some u) live h k g =
      rw (unit_back false t k, address_back u g) (λ j. done (placed i n (source_back c h j) (some (unit_fteid s t)) none (some (ue_given u))))
  pdi_members a at b q i n c (endpoint e) none live h k g = λ j. done (placed i n (source_back c h j) none (some (number_one e j)) none)
  pdi_members a at b q i n c (endpoint e) (some u) live h k g =
      rw (address_back u g) (λ j. done (placed i n (source_back c h j) none (some (number_one e j)) (some (ue_given u))))

  pdi_read_lem : (p : Pdr) (live : List ℕ) → p.source < 16 → T (match_allowed s live p.match) → T (address_allowed p.address) → (q i n : ℕ)
      → pdi_read q (pdi_content s p) (begun i n) ≡ done (placed i n p.source (map_option (unit_fteid s) (matched_tunnel p.match)) (matched_endpoint p.match) (map_option ue_given p.address))
  unfolding pdi_read
  pdi_read_lem p live h k g q i n = rw (pdi_elements (inside q) p) (pdi_members _ _ _ q i n p.source p.match p.address live h k g)

  -- ---- a Create PDR

  far_elements : ℕ → Option ℕ → List Element
  far_elements at none = []
  far_elements at (some n) = el at ie.far_id (be 4 n) ∷ []

  far_elements_lem : (at : ℕ) (f : Option ℕ) → elements at (far_element f) ≡ far_elements at f
  unfolding far_element far_elements
  far_elements_lem at none = elements_nil at
  far_elements_lem at (some n) = elements_last at ie.far_id (be 4 n) (be_fits ie.far_id 4 n (lit< tt) (lit≤ tt))

  pdi_fits : (p : Pdr) → Fits ie.pdi (pdi_content s p)
  unfolding Fits
  pdi_fits p = (lit< tt, small (le_trans (pdi_short p) (lit≤ tt)))

  -- the places of a Create PDR's members, from the first one's on
  precedence_at : ℕ → Pdr → ℕ
  precedence_at at p = after at (be 2 p.id)

  pdi_at : ℕ → Pdr → ℕ
  pdi_at at p = after (precedence_at at p) (be 4 p.precedence)

  far_at : ℕ → Pdr → ℕ
  far_at at p = after (pdi_at at p) (pdi_content s p)

  pdr_elements : ℕ → Pdr → List Element
  pdr_elements at p =
      el at ie.pdr_id (be 2 p.id) ∷ el (precedence_at at p) ie.precedence (be 4 p.precedence) ∷ el (pdi_at at p) ie.pdi (pdi_content s p) ∷ far_elements (far_at at p) p.far

  pdr_elements_lem : (at : ℕ) (p : Pdr) → elements at (pdr_content s p) ≡ pdr_elements at p
  unfolding pdr_content pdr_elements precedence_at pdi_at far_at
  pdr_elements_lem at p =
      elements_cons ie.pdr_id (be 2 p.id) _ (be_fits ie.pdr_id 2 p.id (lit< tt) (lit≤ tt)) at
      ∙ ap (λ (es : List Element). el at ie.pdr_id (be 2 p.id) ∷ es)
      (elements_cons ie.precedence (be 4 p.precedence) _ (be_fits ie.precedence 4 p.precedence (lit< tt) (lit≤ tt)) (precedence_at at p)
      ∙ ap (λ (es : List Element). el (precedence_at at p) ie.precedence (be 4 p.precedence) ∷ es)
      (elements_cons ie.pdi (pdi_content s p) (far_element p.far) (pdi_fits p) (pdi_at at p)
      ∙ ap (λ (es : List Element). el (pdi_at at p) ie.pdi (pdi_content s p) ∷ es) (far_elements_lem (far_at at p) p.far)))

  far_short : (f : Option ℕ) → length (far_element f) ≤ 8
  unfolding far_element
  far_short none = zero-le
  far_short (some n) = le_of_eq (length_one ie.far_id (be 4 n) ∙ ap (λ (k : ℕ). 4 + k) (length_be 4 n))

  pub pdr_short : (p : Pdr) → length (pdr_content s p) ≤ 69
  unfolding pdr_content
  pdr_short p =
      let a = length-append (element ie.pdr_id (be 2 p.id)) (element ie.precedence (be 4 p.precedence) ++ (element ie.pdi (pdi_content s p) ++ far_element p.far)) in
      let b = length-append (element ie.precedence (be 4 p.precedence)) (element ie.pdi (pdi_content s p) ++ far_element p.far) in
      let c = length-append (element ie.pdi (pdi_content s p)) (far_element p.far) in
      let d = length_one ie.pdr_id (be 2 p.id) in
      let d' = length_be 2 p.id in
      let e = length_one ie.precedence (be 4 p.precedence) in
      let e' = length_be 4 p.precedence in
      let f = length_one ie.pdi (pdi_content s p) in
      let g = pdi_short p in
      let h = far_short p.far in
      omega arith

  pdr_members : (a b d at q i n : ℕ) (v : List ℕ) (f : Option ℕ) (c : ℕ) (o : Option Fteid) (e : Option ℕ) (u : Option UeIp) → i < 256 ^ 2 → n < 256 ^ 4 → T (far_allowed f)
      → ((j k : ℕ) → pdi_read d v (begun j k) ≡ done (placed j k c o e u))
      → and_then (members_read pdi_read 1 (el a ie.pdr_id (be 2 i) ∷ el b ie.precedence (be 4 n) ∷ el d ie.pdi v ∷ far_elements at f) no_members) (item_from 1 q)
      ≡ done (creates_pdr (record { id = i; precedence = n; far = f; source = c; local = o; endpoint = e; address = u }))
  unfolding members_read member_read value_read member_there number_read far_read pdi_in number_at number_width places_of member far_elements far_allowed be item_from pdr_item
  pdr_members a b d at q i n v none c o e u hi hn hf h =
      rw h (λ j. done (creates_pdr (record { id = number_be 2 i hi j; precedence = number_be 4 n hn j; far = none; source = c; local = o; endpoint = e; address = u })))
  pdr_members a b d at q i n v (some f) c o e u hi hn hf h =
      rw h (λ j. done (creates_pdr (record { id = number_be 2 i hi j; precedence = number_be 4 n hn j; far = some (number_be 4 f (ltb→lt f (2 ^ 32) hf) j); source = c; local = o; endpoint = e; address = u })))

  -- a Create PDR is read as the record
  pub pdr_read : (p : Pdr) (live : List ℕ) → T (pdr_allowed s live p) → (q : ℕ) → group_read 1 q (pdr_content s p) ≡ done (creates_pdr (restored_pdr s p))
  unfolding group_read restored_pdr pdr_elements
  pdr_read p live h q =
      let e = pdr_kept s live p h in
      ap (λ (es : List Element). and_then (members_read pdi_read 1 es no_members) (item_from 1 q)) (pdr_elements_lem (inside q) p)
      ∙ pdr_members _ _ (pdi_at (inside q) p) _ q p.id p.precedence (pdi_content s p) p.far p.source (map_option (unit_fteid s) (matched_tunnel p.match)) (matched_endpoint p.match) (map_option ue_given p.address)
      (ltb→lt p.id (2 ^ 16) e.id) (ltb→lt p.precedence (2 ^ 32) e.precedence) e.far (pdi_read_lem p live (ltb→lt p.source 16 e.source) e.match e.address (pdi_at (inside q) p))

  -- ---- framing a Create PDR, at depth 2 in an establishment

  address_framed : (d g : ℕ) (o : Option ℕ) → ((a : ℕ) → Inside d establishment g ie.ue_ip_address (ue_octets (ue_given a))) → Framed (suc d) establishment g (address_part o)
  unfolding address_part
  address_framed d g none h = framed_nil d establishment g
  address_framed d g (some a) h = framed_last d establishment g ie.ue_ip_address (ue_octets (ue_given a)) (ue_fits a) (h a)

  match_framed : (l : Match) (o : Option ℕ) → Framed 1 establishment 2 (match_element s l ++ address_part o)
  unfolding match_element unit_element Inside opened_in member
  match_framed neither o = address_framed 0 ie.pdi o (λ _ _ _. refl)
  match_framed (tunnel t) o = framed_cons 0 establishment ie.pdi ie.fteid (fteid_octets (unit_fteid s t)) (address_part o) (unit_fits t) (λ _ _. refl) (address_framed 0 ie.pdi o (λ _ _ _. refl))
  match_framed (endpoint e) o = framed_cons 0 establishment ie.pdi ie.endpoint_id (e ∷ []) (address_part o) (one_fits ie.endpoint_id (lit< tt) e) (λ _ _. refl) (address_framed 0 ie.pdi o (λ _ _ _. refl))

  pdi_framed : (p : Pdr) → Framed 1 establishment 2 (pdi_content s p)
  unfolding pdi_content Inside opened_in member
  pdi_framed p =
      framed_cons 0 establishment ie.pdi ie.source_interface (p.source ∷ []) (match_element s p.match ++ address_part p.address) (one_fits ie.source_interface (lit< tt) p.source) (λ _ _. refl)
      (match_framed p.match p.address)

  far_framed : (f : Option ℕ) → Framed 2 establishment 1 (far_element f)
  unfolding far_element Inside opened_in member
  far_framed none = framed_nil 1 establishment 1
  far_framed (some n) = framed_last 1 establishment ie.create_pdr ie.far_id (be 4 n) (be_fits ie.far_id 4 n (lit< tt) (lit≤ tt)) (λ _ _. refl)

  pub pdr_framed : (p : Pdr) → Framed 2 establishment 1 (pdr_content s p)
  unfolding pdr_content Framed Inside opened_in member
  pdr_framed p =
      framed_cons 1 establishment ie.create_pdr ie.pdr_id (be 2 p.id) _ (be_fits ie.pdr_id 2 p.id (lit< tt) (lit≤ tt)) (λ _ _. refl)
      (framed_cons 1 establishment ie.create_pdr ie.precedence (be 4 p.precedence) _ (be_fits ie.precedence 4 p.precedence (lit< tt) (lit≤ tt)) (λ _ _. refl)
      (framed_cons 1 establishment ie.create_pdr ie.pdi (pdi_content s p) (far_element p.far) (pdi_fits p) (pdi_framed p) (far_framed p.far)))

  -- ---- a Create Traffic Endpoint

  endpoint_elements : ℕ → Endpoint → List Element
  endpoint_elements at e =
      el at ie.endpoint_id (e.id ∷ []) ∷ el (after at (e.id ∷ [])) ie.fteid (fteid_octets (unit_fteid s e.local))
      ∷ address_elements (after (after at (e.id ∷ [])) (fteid_octets (unit_fteid s e.local))) e.address

  endpoint_elements_lem : (at : ℕ) (e : Endpoint) → elements at (endpoint_content s e) ≡ endpoint_elements at e
  unfolding endpoint_content endpoint_elements unit_element
  endpoint_elements_lem at e =
      elements_cons ie.endpoint_id (e.id ∷ []) (element ie.fteid (fteid_octets (unit_fteid s e.local)) ++ address_part e.address) (one_fits ie.endpoint_id (lit< tt) e.id) at
      ∙ ap (λ (es : List Element). el at ie.endpoint_id (e.id ∷ []) ∷ es)
      (elements_cons ie.fteid (fteid_octets (unit_fteid s e.local)) (address_part e.address) (unit_fits e.local) _
      ∙ ap (λ (es : List Element). el (after at (e.id ∷ [])) ie.fteid (fteid_octets (unit_fteid s e.local)) ∷ es) (address_elements_lem _ e.address))

  pub endpoint_short : (e : Endpoint) → length (endpoint_content s e) ≤ 43
  unfolding endpoint_content unit_element
  endpoint_short e =
      let a = length-append (element ie.endpoint_id (e.id ∷ [])) (element ie.fteid (fteid_octets (unit_fteid s e.local)) ++ address_part e.address) in
      let b = length_one ie.endpoint_id (e.id ∷ []) in
      let c = length_one ie.fteid (fteid_octets (unit_fteid s e.local)) in
      let d = length-append (element ie.fteid (fteid_octets (unit_fteid s e.local))) (address_part e.address) in
      let h = unit_short e.local in
      let g = ue_short e.address in
      omega arith

  endpoint_members : (a b c q i : ℕ) (t : Tunnel) (o : Option ℕ) → T (tunnel_allowed s t) → T (address_allowed o)
      → and_then (members_read pdi_read ie.create_endpoint (el a ie.endpoint_id (i ∷ []) ∷ el b ie.fteid (fteid_octets (unit_fteid s t)) ∷ address_elements c o) no_members) (item_from ie.create_endpoint q)
      ≡ done (creates_endpoint (record { id = i; local = unit_fteid s t; address = map_option ue_given o }))
  unfolding members_read member_read value_read member_there number_read number_at number_width places_of member item_from endpoint_item address_elements
  endpoint_members a b c q i t none h g = rw (unit_back true t h) (λ j. done (creates_endpoint (record { id = number_one i j; local = unit_fteid s t; address = none })))
  endpoint_members a b c q i t (some u) h g =
      rw (unit_back true t h, address_back u g) (λ j. done (creates_endpoint (record { id = number_one i j; local = unit_fteid s t; address = some (ue_given u) })))

  pub endpoint_read : (e : Endpoint) → T (tunnel_allowed s e.local) → T (address_allowed e.address) → (q : ℕ)
      → group_read ie.create_endpoint q (endpoint_content s e) ≡ done (creates_endpoint (restored_endpoint s e))
  unfolding group_read restored_endpoint endpoint_elements
  endpoint_read e h g q =
      ap (λ (es : List Element). and_then (members_read pdi_read ie.create_endpoint es no_members) (item_from ie.create_endpoint q)) (endpoint_elements_lem (inside q) e)
      ∙ endpoint_members _ _ _ q e.id e.local e.address h g

  pub endpoint_framed : (e : Endpoint) → Framed 2 establishment ie.create_endpoint (endpoint_content s e)
  unfolding endpoint_content unit_element Inside opened_in member
  endpoint_framed e =
      framed_cons 1 establishment ie.create_endpoint ie.endpoint_id (e.id ∷ []) _ (one_fits ie.endpoint_id (lit< tt) e.id) (λ _ _. refl)
      (framed_cons 1 establishment ie.create_endpoint ie.fteid (fteid_octets (unit_fteid s e.local)) (address_part e.address) (unit_fits e.local) (λ _ _. refl)
      (address_framed 1 ie.create_endpoint e.address (λ _ _ _. refl)))

-- ---- an FQ-CSID

pub csid_read_lem : (c : Csid) → T (csid_allowed c) → read_fqcsid (fqcsid_octets (record_csid c)) ≡ value (record_csid c)
unfolding record_csid
csid_read_lem c h =
    let e = csid_kept c h in
    fqcsid_back c.id_type c.address c.csid c.node_type e.address e.csid e.node

pub csid_octets_short : (c : Csid) → T (csid_allowed c) → length (fqcsid_octets (record_csid c)) ≤ 20
unfolding fqcsid_octets record_csid concat_map be
csid_octets_short c h =
    let a = length-append c.address (be 2 c.csid ++ c.node_type ∷ []) in
    let b = csid_address_length c h in
    let d = address_short c.id_type in
    omega arith

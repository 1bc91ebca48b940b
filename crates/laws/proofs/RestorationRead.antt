-- A whole restoration request: its header passes, it is framed, and it is read as the session's records.
-- Assumes nothing.
use mathlib.Core.Path.{◌≡◌, refl, sym, ap, ap₂, ◌∙◌, subst}
use Prim.Native.Nat.{ℕ, ◌*◌, ◌≤◌, zero-le}
use native.Mathlib.Nat.{le_trans, le_of_eq, mul-le-mul_right, le_of_lt}
use native.Mathlib.Omega.{arith}
use mathlib.Core.Bool.{Bool, true, false, not, ◌&&◌, ◌||◌}
use mathlib.Core.Option.{Option, none, some}
use mathlib.Core.List.{List, [], ◌∷◌, ◌++◌, map, append-nil, append_assoc}
use lib.ListN.{length, length-append}
use lib.Dec.{T, ltb, eqb, eqb→eq, leb→le, lt→ltb, lit<, lit≤}
use Rattle.octets.specs.Choice.{pick, map_option}
use Rattle.octets.specs.Lists.{collect, member, any, all, ascending}
use Rattle.octets.specs.Octets.{be, octet_at, bit, octets, concat_map}
use Rattle.octets.proofs.Tests.{pick_yes, and_left, all_head, all_tail, all_cons, below_not_member, below_mono, ascending_head, ascending_tail}
use Rattle.octets.proofs.ListLaws.{collect_append, collect_map}
use Rattle.rules.specs.Limits.{max_restoration}
use Rattle.rules.specs.Model.{Settings, Pdr, Endpoint, Csid, Session, endpoint_id, node_type_of}
use Rattle.rules.specs.Elements.{incorrect, Answer, value, ue_given, ue_strange, Fqcsid, read_fseid, address_of, fqcsid_octets, fseid_octets, node_of}
use Rattle.laws.proofs.ElementLaws.{fseid_back}
use Rattle.rules.specs.Sound.{settings_allowed, pdr_allowed, endpoint_allowed, csid_allowed, session_allowed}
use Rattle.laws.proofs.LayoutLaws.{pdrs_ok, endpoints_ok, csids_ok, few_pdrs, few_endpoints, few_csids, seid_fits}
use Rattle.laws.proofs.KeptRules.{endpoint_kept, session_kept, SenderKept, sender_kept}
use Rattle.rules.specs.Message.{Element, elements, body, body_place, kind_of, header_allowed, at_message, frame, frame_fault, opened_in, opened_at_top, acted_on, establishment, header_length, seid_there, list_place}
use Rattle.rules.specs.Reading.{Reading, done, refusal_at, and_then, named, seid_read, flags_read, csid_count_allowed, with_csid, csid_read, acted_read, element_read, elements_read, finished, alone_in, top_read, read, fault_in, read_fault, asked_in, read_request, session_read}
use Rattle.rules.specs.Request.{Item, creates_pdr, creates_endpoint, sets_csid, cleared, changed, Draft, empty_draft, with_node, with_item, pdr_in, endpoint_in, change_in, gone_pdr_in, gone_endpoint_in, csid_in, clears, strange_address, is_unsupported, restoring_in, request_from}
use Rattle.laws.proofs.MessageLaws.{Fits, el, after, elements_cons, elements_nil, Framed, Inside, framed_nil, framed_cons, length_one, written, as_element, as_elements, after_all, elements_map, framed_map, short_map}
use Rattle.rules.specs.Reply.{element, message}
use Rattle.rules.specs.Restoration.{pdr_content, pdr_element, endpoint_content, endpoint_element, record_csid, csid_element, Sender, sender_allowed, record_elements, restoration, restored_pdr, restored_endpoint, restored_request}
use Rattle.rules.specs.Types as ie
use Rattle.laws.proofs.MessageHeader.{message_body, message_kind, message_length_lem, message_allowed, message_seid}
use Rattle.laws.proofs.RestorationElements.{small, one_fits, pdr_short, pdr_read, pdr_framed, endpoint_short, endpoint_read, endpoint_framed, csid_read_lem, csid_octets_short}

-- a draft with other items, and with more
abbrev having : List Item → Draft → Draft
having is d = record { seid = d.seid; restores = d.restores; nodes = d.nodes; items = is }

abbrev with_items : List Item → Draft → Draft
with_items is d = having (d.items ++ is) d

-- the elements of a list of records, each of which is read as an item
items_read : {A : Type 0} (t : ℕ) (g : A → List ℕ) (p : A → Bool) (f : A → Item) (alone : Bool)
    → ((a : A) → T (p a) → (q : ℕ) (d : Draft) → element_read establishment alone (el q t (g a)) d ≡ done (with_item (f a) d))
    → (rs : List A) → T (all p rs) → (at : ℕ) (rest : List Element) (d : Draft)
    → elements_read establishment alone (as_elements t g p at rs ++ rest) d ≡ elements_read establishment alone rest (with_items (map f rs) d)
unfolding elements_read as_element as_elements
items_read t g p f alone one [] h at rest d = ap (λ (is : List Item). elements_read establishment alone rest (having is d)) (sym (append-nil d.items))
items_read t g p f alone one (r ∷ rs) h at rest d =
    rw (one r (all_head p r rs h) at d)
    (items_read t g p f alone one rs (all_tail p r rs h) (after at (g r)) rest (with_item (f r) d)
    ∙ ap (λ (is : List Item). elements_read establishment alone rest (having is d)) (append_assoc d.items (f r ∷ []) (map f rs)))

-- what is collected where each has it, and where none has
collect_each : {A B : Type 0} (h : A → B) (rs : List A) → collect (λ a. some (h a)) rs ≡ map h rs
unfolding collect
collect_each h [] = refl
collect_each {A} {B} h (r ∷ rs) = ap (λ (l : List B). h r ∷ l) (collect_each h rs)

collect_none : {A B : Type 0} (rs : List A) → collect {B = B} (λ a. none) rs ≡ []
unfolding collect
collect_none [] = refl
collect_none (r ∷ rs) = collect_none rs

any_none : {A : Type 0} (f : A → Item) (g : Item → Bool) → ((a : A) → g (f a) ≡ false) → (rs : List A) (rest : List Item) → any g (map f rs ++ rest) ≡ any g rest
unfolding any
any_none f g e [] rest = refl
any_none f g e (r ∷ rs) rest = ap₂ ◌||◌ (e r) (any_none f g e rs rest)

module _ (s : Settings) (hs : T (settings_allowed s)) (p : Sender) (hp : T (sender_allowed p)) (x : Session) (hx : T (session_allowed s x)) where
  live : List ℕ
  live = map endpoint_id x.endpoints

  -- ---- the elements

  fseid : List ℕ
  fseid = fseid_octets x.seid p.ipv4 p.ipv6

  sender : SenderKept p
  sender = sender_kept p hp

  seid_pos : 1 ≤ x.seid
  seid_pos = leb→le 1 x.seid (session_kept s x hx).records.seid

  -- the F-SEID is read as the session's SEID
  fseid_read : read_fseid fseid ≡ value x.seid
  unfolding fseid
  fseid_read = fseid_back x.seid p.ipv4 p.ipv6 seid_pos (seid_fits s hs x hx) sender.ipv4 sender.ipv6 sender.some

  address_le : (n : ℕ) (a : List ℕ) → T (address_of n a) → length a ≤ n
  unfolding address_of
  address_le n [] h = zero-le
  address_le n (y ∷ a) h = le_of_eq (eqb→eq (length (y ∷ a)) n (and_left (eqb (length (y ∷ a)) n) (octets (y ∷ a)) h))

  fseid_short : length fseid ≤ 29
  unfolding fseid fseid_octets be
  fseid_short =
      let a = address_le 4 p.ipv4 sender.ipv4 in
      let b = address_le 16 p.ipv6 sender.ipv6 in
      let e = length-append p.ipv4 p.ipv6 in
      omega arith

  fseid_fits : Fits ie.fseid fseid
  unfolding Fits
  fseid_fits = (lit< tt, small s hs (le_trans fseid_short (lit≤ tt)))

  pdr_fits_lem : (q : Pdr) → T (pdr_allowed s live q) → Fits ie.create_pdr (pdr_content s q)
  unfolding Fits
  pdr_fits_lem q h = (lit< tt, small s hs (le_trans (pdr_short s hs q) (lit≤ tt)))

  endpoint_fits_lem : (e : Endpoint) → T (endpoint_allowed s e) → Fits ie.create_endpoint (endpoint_content s e)
  unfolding Fits
  endpoint_fits_lem e h = (lit< tt, small s hs (le_trans (endpoint_short s hs e) (lit≤ tt)))

  csid_content : Csid → List ℕ
  csid_content c = fqcsid_octets (record_csid c)

  csid_fits_lem : (c : Csid) → T (csid_allowed c) → Fits ie.fqcsid (csid_content c)
  unfolding Fits csid_content
  csid_fits_lem c h = (lit< tt, small s hs (le_trans (csid_octets_short c h) (lit≤ tt)))

  -- the octets of the records, and the elements they are
  pdr_octets : List ℕ
  pdr_octets = concat_map (written 1 (pdr_content s) (pdr_allowed s live)) x.pdrs

  endpoint_octets : List ℕ
  endpoint_octets = concat_map (written ie.create_endpoint (endpoint_content s) (endpoint_allowed s)) x.endpoints

  csid_octets : List ℕ
  csid_octets = concat_map (written 65 csid_content csid_allowed) x.csids

  -- the places of the flags, and of the first record of each kind
  flags_at : ℕ
  flags_at = after body_place fseid

  pdrs_at : ℕ
  pdrs_at = after flags_at (1 ∷ [])

  endpoints_at : ℕ
  endpoints_at = after_all ie.create_pdr (pdr_content s) (pdr_allowed s live) pdrs_at x.pdrs

  csids_at : ℕ
  csids_at = after_all ie.create_endpoint (endpoint_content s) (endpoint_allowed s) endpoints_at x.endpoints

  pdr_els : List Element
  pdr_els = as_elements ie.create_pdr (pdr_content s) (pdr_allowed s live) pdrs_at x.pdrs

  endpoint_els : List Element
  endpoint_els = as_elements ie.create_endpoint (endpoint_content s) (endpoint_allowed s) endpoints_at x.endpoints

  csid_els : List Element
  csid_els = as_elements ie.fqcsid csid_content csid_allowed csids_at x.csids

  content : List ℕ
  content = element ie.fseid fseid ++ (element ie.session_flags (1 ∷ []) ++ (pdr_octets ++ (endpoint_octets ++ csid_octets)))

  tops : List Element
  tops = el body_place ie.fseid fseid ∷ el flags_at ie.session_flags (1 ∷ []) ∷ (pdr_els ++ (endpoint_els ++ csid_els))

  pdrs_ok_lem : T (all (pdr_allowed s live) x.pdrs)
  unfolding live
  pdrs_ok_lem = pdrs_ok s hs x hx

  content_elements : elements body_place content ≡ tops
  unfolding content tops pdr_octets endpoint_octets csid_octets flags_at pdrs_at endpoints_at csids_at pdr_els endpoint_els csid_els
  content_elements =
      elements_cons ie.fseid fseid _ fseid_fits body_place
      ∙ ap (λ (es : List Element). el body_place ie.fseid fseid ∷ es)
      (elements_cons ie.session_flags (1 ∷ []) _ (one_fits s hs ie.session_flags (lit< tt) 1) flags_at
      ∙ ap (λ (es : List Element). el flags_at ie.session_flags (1 ∷ []) ∷ es)
      (elements_map ie.create_pdr (pdr_content s) (pdr_allowed s live) pdr_fits_lem x.pdrs pdrs_ok_lem pdrs_at (endpoint_octets ++ csid_octets)
      ∙ ap (λ (es : List Element). pdr_els ++ es)
      (elements_map ie.create_endpoint (endpoint_content s) (endpoint_allowed s) endpoint_fits_lem x.endpoints (endpoints_ok s hs x hx) endpoints_at csid_octets
      ∙ ap (λ (es : List Element). endpoint_els ++ es)
      (ap (elements csids_at) (sym (append-nil csid_octets))
      ∙ elements_map ie.fqcsid csid_content csid_allowed csid_fits_lem x.csids (csids_ok s hs x hx) csids_at []
      ∙ ap (λ (es : List Element). csid_els ++ es) (elements_nil _)
      ∙ append-nil csid_els))))

  -- ---- framing

  content_framed : Framed 3 establishment 0 content
  unfolding content pdr_octets endpoint_octets csid_octets Framed Inside opened_in opened_at_top member
  content_framed =
      framed_cons 2 establishment 0 ie.fseid fseid _ fseid_fits (λ _ _. refl)
      (framed_cons 2 establishment 0 ie.session_flags (1 ∷ []) _ (one_fits s hs ie.session_flags (lit< tt) 1) (λ _ _. refl)
      (framed_map ie.create_pdr (pdr_content s) (pdr_allowed s live) 2 establishment 0 pdr_fits_lem (λ q h. pdr_framed s hs q) x.pdrs pdrs_ok_lem (endpoint_octets ++ csid_octets)
      (framed_map ie.create_endpoint (endpoint_content s) (endpoint_allowed s) 2 establishment 0 endpoint_fits_lem (λ e h. endpoint_framed s hs e) x.endpoints (endpoints_ok s hs x hx) csid_octets
      (subst (Framed 3 establishment 0) (append-nil csid_octets)
      (framed_map ie.fqcsid csid_content csid_allowed 2 establishment 0 csid_fits_lem (λ c h _ _. refl) x.csids (csids_ok s hs x hx) [] (framed_nil 2 establishment 0))))))

  -- ---- the length: at most 1,742 octets with the header

  content_short : length content ≤ 1726
  unfolding content
  content_short =
      let a = length-append (element ie.fseid fseid) (element ie.session_flags (1 ∷ []) ++ (pdr_octets ++ (endpoint_octets ++ csid_octets))) in
      let b = length-append (element ie.session_flags (1 ∷ [])) (pdr_octets ++ (endpoint_octets ++ csid_octets)) in
      let c = length-append pdr_octets (endpoint_octets ++ csid_octets) in
      let d = length-append endpoint_octets csid_octets in
      let a' = length_one ie.fseid fseid in
      let b' = length_one ie.session_flags (1 ∷ []) in
      let f = fseid_short in
      let g : length pdr_octets ≤ 16 * 73 = le_trans pdr_part (mul-le-mul_right 73 few_pdrs_lem) in
      let h : length endpoint_octets ≤ 8 * 47 = le_trans endpoint_part (mul-le-mul_right 47 few_endpoints_lem) in
      let i : length csid_octets ≤ 6 * 24 = le_trans csid_part (mul-le-mul_right 24 few_csids_lem) in
      omega arith
    where
      pdr_part : length pdr_octets ≤ length x.pdrs * 73
      pdr_part = unfold pdr_octets in (short_map ie.create_pdr (pdr_content s) (pdr_allowed s live) 69 (λ q h. pdr_short s hs q) x.pdrs pdrs_ok_lem)

      endpoint_part : length endpoint_octets ≤ length x.endpoints * 47
      endpoint_part = unfold endpoint_octets in (short_map ie.create_endpoint (endpoint_content s) (endpoint_allowed s) 43 (λ e h. endpoint_short s hs e) x.endpoints (endpoints_ok s hs x hx))

      csid_part : length csid_octets ≤ length x.csids * 24
      csid_part = unfold csid_octets csid_content in (short_map ie.fqcsid csid_content csid_allowed 20 csid_octets_short x.csids (csids_ok s hs x hx))

      few_pdrs_lem : length x.pdrs ≤ 16
      few_pdrs_lem = few_pdrs s hs x hx

      few_endpoints_lem : length x.endpoints ≤ 8
      few_endpoints_lem = few_endpoints s hs x hx

      few_csids_lem : length x.csids ≤ 6
      few_csids_lem = few_csids s hs x hx

  -- ---- the header

  abbrev msg : List ℕ
  msg = restoration s p x

  msg_content : msg ≡ message establishment p.header (be 3 p.sequence) content
  unfolding restoration record_elements content pdr_octets endpoint_octets csid_octets written pdr_element endpoint_element csid_element fseid csid_content
  msg_content = refl

  pub msg_allowed : T (header_allowed msg)
  msg_allowed = rw msg_content (message_allowed establishment p.header p.sequence content refl (le_trans content_short (lit≤ tt)))

  pub msg_kind : kind_of msg ≡ establishment
  msg_kind = ap kind_of msg_content ∙ message_kind establishment p.header p.sequence content

  msg_body : body msg ≡ content
  msg_body = ap body msg_content ∙ message_body establishment p.header p.sequence content

  msg_place : header_length msg ≡ body_place
  unfolding header_length
  msg_place = ap (λ (b : Bool). pick b body_place list_place) (ap seid_there msg_content ∙ message_seid establishment p.header p.sequence content)

  -- 01: every session fits one request of at most 1,742 octets
  pub msg_short : length msg ≤ max_restoration
  msg_short = let e = ap length msg_content ∙ message_length_lem establishment p.header p.sequence content in let h = content_short in omega arith

  pub msg_framed : frame_fault msg ≡ none
  unfolding frame_fault Framed
  msg_framed = (λ i. frame 3 (msg_kind i) at_message (msg_place i) (msg_body i)) ∙ content_framed 0 body_place

  -- ---- the reading

  abbrev pdr_item : Pdr → Item
  pdr_item q = creates_pdr (restored_pdr s q)

  abbrev endpoint_item : Endpoint → Item
  endpoint_item e = creates_endpoint (restored_endpoint s e)

  abbrev csid_item : Csid → Item
  csid_item c = sets_csid (record_csid c)

  -- after the F-SEID and the flags
  abbrev started : Draft
  started = record { seid = some x.seid; restores = some true; nodes = []; items = [] }

  nodes_up : T (ascending (map node_type_of x.csids))
  nodes_up = (session_kept s x hx).records.csid_order

  module _ (alone : Bool) where
    pdr_item_lem : (q : Pdr) → T (pdr_allowed s live q) → (at : ℕ) (d : Draft) → element_read establishment alone (el at ie.create_pdr (pdr_content s q)) d ≡ done (with_item (pdr_item q) d)
    unfolding element_read acted_read acted_on member
    pdr_item_lem q h at d = rw (pdr_read s hs q live h at)

    endpoint_item_lem : (e : Endpoint) → T (endpoint_allowed s e) → (at : ℕ) (d : Draft) → element_read establishment alone (el at ie.create_endpoint (endpoint_content s e)) d ≡ done (with_item (endpoint_item e) d)
    unfolding element_read acted_read acted_on member
    endpoint_item_lem e h at d = let k = endpoint_kept s e h in rw (endpoint_read s hs e k.local k.address at)

    csid_item_lem : (c : Csid) → T (csid_allowed c) → (at : ℕ) (d : Draft) → T (not (member c.node_type d.nodes))
        → element_read establishment alone (el at ie.fqcsid (csid_content c)) d ≡ done (with_node c.node_type (with_item (csid_item c) d))
    unfolding element_read acted_read acted_on member csid_read csid_count_allowed csid_content fqcsid_octets record_csid node_of
    csid_item_lem c h at d fresh =
        ap (λ (a : Answer Fqcsid). and_then (named 65 at a) (λ v. pick (csid_count_allowed establishment v && not (member (node_of v) d.nodes)) (done (with_csid v d)) (refusal_at incorrect 65 at))) (csid_read_lem c h)
        ∙ pick_yes (true && not (member c.node_type d.nodes)) _ _ fresh

    -- the node types ascend, so none is met twice: every one met before is below the next
    abbrev Below : List ℕ → List Csid → Type 0
    Below ns [] = Unit {0}
    Below ns (c ∷ cs) = T (all (λ n. ltb n c.node_type) ns)

    below_next : (ns : List ℕ) (c : Csid) (cs : List Csid) → T (ascending (map node_type_of (c ∷ cs))) → T (all (λ n. ltb n c.node_type) ns) → Below (c.node_type ∷ ns) cs
    below_next ns c [] h g = tt
    below_next ns c (d ∷ cs) h g =
        let up = ascending_head c.node_type d.node_type (map node_type_of cs) h in
        all_cons (λ n. ltb n d.node_type) c.node_type ns (lt→ltb c.node_type d.node_type up) (below_mono c.node_type d.node_type ns (le_of_lt up) g)

    csids_read_lem : (cs : List Csid) → T (all csid_allowed cs) → T (ascending (map node_type_of cs)) → (at : ℕ) (d : Draft) → Below d.nodes cs
        → and_then (elements_read establishment alone (as_elements ie.fqcsid csid_content csid_allowed at cs) d) (finished establishment) ≡ finished establishment (with_items (map csid_item cs) d)
    unfolding elements_read as_element as_elements finished request_from restoring_in
    csids_read_lem [] h up at d below = ap (λ (is : List Item). finished establishment (having is d)) (sym (append-nil d.items))
    csids_read_lem (c ∷ cs) h up at d below =
        rw (csid_item_lem c (all_head csid_allowed c cs h) at d (below_not_member c.node_type d.nodes below))
        (csids_read_lem cs (all_tail csid_allowed c cs h) (ascending_tail c.node_type (map node_type_of cs) up) (after at (csid_content c)) (with_node c.node_type (with_item (csid_item c) d)) (below_next d.nodes c cs up below)
        ∙ ap (λ (is : List Item). finished establishment (having is d)) (append_assoc d.items (csid_item c ∷ []) (map csid_item cs)))

    below_none : (cs : List Csid) → Below [] cs
    unfolding all
    below_none [] = tt
    below_none (c ∷ cs) = tt

    front_read : elements_read establishment alone tops empty_draft ≡ elements_read establishment alone (pdr_els ++ (endpoint_els ++ csid_els)) started
    unfolding tops elements_read element_read acted_read acted_on member seid_read flags_read octet_at bit
    front_read = rw fseid_read

    tops_read : and_then (elements_read establishment alone tops empty_draft) (finished establishment)
        ≡ finished establishment (with_items (map csid_item x.csids) (with_items (map endpoint_item x.endpoints) (with_items (map pdr_item x.pdrs) started)))
    unfolding pdr_els endpoint_els csid_els
    tops_read =
        ap (λ (r : Reading Draft). and_then r (finished establishment))
        (front_read
        ∙ items_read 1 (pdr_content s) (pdr_allowed s live) pdr_item alone pdr_item_lem x.pdrs pdrs_ok_lem pdrs_at (endpoint_els ++ csid_els) started
        ∙ items_read ie.create_endpoint (endpoint_content s) (endpoint_allowed s) endpoint_item alone endpoint_item_lem x.endpoints (endpoints_ok s hs x hx) endpoints_at csid_els (with_items (map pdr_item x.pdrs) started))
        ∙ csids_read_lem x.csids (csids_ok s hs x hx) nodes_up csids_at (with_items (map endpoint_item x.endpoints) (with_items (map pdr_item x.pdrs) started)) (below_none x.csids)

  -- ---- the request

  items : List Item
  items = map pdr_item x.pdrs ++ (map endpoint_item x.endpoints ++ map csid_item x.csids)

  collected : {B : Type 0} (g : Item → Option B)
      → collect g items ≡ collect (λ q. g (pdr_item q)) x.pdrs ++ (collect (λ e. g (endpoint_item e)) x.endpoints ++ collect (λ c. g (csid_item c)) x.csids)
  unfolding items
  collected {B} g =
      collect_append g (map pdr_item x.pdrs) (map endpoint_item x.endpoints ++ map csid_item x.csids)
      ∙ ap₂ (λ (k l : List B). k ++ l) (collect_map pdr_item g x.pdrs)
      (collect_append g (map endpoint_item x.endpoints) (map csid_item x.csids) ∙ ap₂ (λ (k l : List B). k ++ l) (collect_map endpoint_item g x.endpoints) (collect_map csid_item g x.csids))

  none_such : (g : Item → Bool) → ((q : Pdr) → g (pdr_item q) ≡ false) → ((e : Endpoint) → g (endpoint_item e) ≡ false) → ((c : Fqcsid) → g (sets_csid c) ≡ false) → any g items ≡ false
  unfolding items any
  none_such g a b c =
      any_none pdr_item g a x.pdrs _ ∙ any_none endpoint_item g b x.endpoints _
      ∙ ap (any g) (sym (append-nil (map csid_item x.csids))) ∙ any_none csid_item g (λ d. c (record_csid d)) x.csids []

  -- a record's address is one that the unit has
  given : (o : Option ℕ) → strange_address (map_option ue_given o) ≡ false
  unfolding strange_address ue_strange
  given none = refl
  given (some a) = refl

  items_request : request_from x.seid (having items started) ≡ restored_request s x
  unfolding request_from restored_request restored_pdr restored_endpoint restoring_in pdr_in endpoint_in change_in gone_pdr_in gone_endpoint_in csid_in clears is_unsupported
  items_request =
      let ps = x.pdrs in
      let es = x.endpoints in
      let cs = x.csids in
      λ j. record {
        seid = x.seid;
        restoring = true;
        pdrs = (collected pdr_in ∙ (λ i. collect_each (restored_pdr s) ps i ++ (collect_none es i ++ collect_none cs i)) ∙ append-nil (map (restored_pdr s) ps)) j;
        endpoints = (collected endpoint_in ∙ (λ i. collect_none ps i ++ (collect_each (restored_endpoint s) es i ++ collect_none cs i)) ∙ append-nil (map (restored_endpoint s) es)) j;
        changes = (collected change_in ∙ (λ i. collect_none ps i ++ (collect_none es i ++ collect_none cs i))) j;
        gone_pdrs = (collected gone_pdr_in ∙ (λ i. collect_none ps i ++ (collect_none es i ++ collect_none cs i))) j;
        gone_endpoints = (collected gone_endpoint_in ∙ (λ i. collect_none ps i ++ (collect_none es i ++ collect_none cs i))) j;
        csids =
            (ap (λ (b : Bool). pick b cleared (changed (collect csid_in items))) (none_such clears (λ _. refl) (λ _. refl) (λ _. refl))
            ∙ ap changed (collected csid_in ∙ (λ i. collect_none ps i ++ (collect_none es i ++ collect_each record_csid cs i)))) j;
        unsupported = none_such is_unsupported (λ q. given q.address) (λ e. given e.address) (λ _. refl) j;
        listed = [];
      }

  msg_read : read msg ≡ done (restored_request s x)
  unfolding read top_read session_read finished restoring_in items
  msg_read =
      (λ i. top_read (msg_kind i) (elements (msg_place i) (msg_body i)))
      ∙ ap (top_read establishment) content_elements
      ∙ tops_read (alone_in tops)
      ∙ ap (λ (is : List Item). done (request_from x.seid (having is started)))
      (append_assoc (map pdr_item x.pdrs) (map endpoint_item x.endpoints) (map csid_item x.csids))
      ∙ ap done items_request

  pub msg_sound : read_fault msg ≡ none
  unfolding read_fault fault_in
  msg_sound = ap fault_in msg_read

  pub msg_request : read_request msg ≡ restored_request s x
  unfolding read_request asked_in
  msg_request = ap asked_in msg_read

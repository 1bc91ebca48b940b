-- What is read of a message's octets keeps its widths and rules: a group's members, each thing asked for, and so the request.
-- Assumes nothing.
use mathlib.Core.Path.{◌≡◌, refl, sym, ap, subst}
use Prim.Native.Nat.{ℕ, ◌%◌, ◌^◌, ◌<◌}
use native.Mathlib.Nat.{zero-lt-suc, mod-lt}
use native.Mathlib.Omega.{arith}
use mathlib.Core.Bool.{Bool, true, false, not, ◌&&◌, ◌||◌}
use mathlib.Core.Option.{Option, none, some}
use mathlib.Core.List.{List, [], ◌∷◌}
use lib.ListN.{length}
use lib.Dec.{T, T_not, ltb, eqb, lt→ltb, eqb→eq}
use lib.Pow.{are_bytes}
use Rattle.octets.specs.Choice.{pick, bind_option, is_nil}
use Rattle.octets.specs.Octets.{number_at, octet_at, bit}
use Rattle.octets.specs.Lists.{all, any, member, collect}
use Rattle.octets.proofs.Tests.{pick_either, is_true, all_head, all_tail}
use Rattle.octets.proofs.ListLaws.{Every, OnSome, pick_cases, every_append, every_collect}
use Rattle.laws.proofs.BoundLaws.{clean, clean_elements, clean_body, field_bound}
use Rattle.laws.proofs.ReadLaws.{OnValue, OnDone, anything, named_done, once_done, then_done, need_done, FteidRead, UeRead, CsidRead, SeidRead, fteid_read_lem, ue_read_lem, fqcsid_read, fseid_read}
use Rattle.rules.specs.Elements.{missing, conditional, incorrect, Fteid, Fqcsid, read_fteid, read_ue_ip, read_fqcsid, read_fseid, node_of}
use Rattle.rules.specs.Sound.{far_allowed}
use Rattle.rules.specs.Types as ie
use Rattle.rules.specs.Message.{establishment, modification, set_deletion, kind_of, header_length, body, inside, Element, elements, acted_on, places_of, number_width}
use Rattle.rules.specs.Reading.{Reading, faulty, done, refusal_at, named, Members, no_members, with_pdi, with_local, with_address, member_there, number_read, far_read, pdi_in, value_read, member_read, members_read, unopened, pdi_end, pdi_read, pdr_item, endpoint_item, change_from, item_from, group_read, seid_read, flags_read, csid_count_allowed, with_csid, csid_read, acted_read, element_read, elements_read, finished, alone_in, session_read, list_read, top_read, read, fault_in, read_fault, asked_in, read_request}
use Rattle.rules.specs.Request.{NewPdr, NewEndpoint, Change, Item, creates_pdr, creates_endpoint, updates_pdr, removes_pdr, removes_endpoint, sets_csid, clears_csids, updates_endpoint, CsidChanges, cleared, changed, Request, Draft, empty_draft, with_seid, with_restores, with_node, with_item, pdr_in, endpoint_in, change_in, csid_in, clears, restoring_in, request_from, creates_any, listing}

-- ---- the records

-- the fields of a Create PDR
pub record PdrRead (p : NewPdr) : Type 0 where
  pub id : T (ltb p.id (2 ^ 16))
  pub precedence : T (ltb p.precedence (2 ^ 32))
  pub far : T (far_allowed p.far)
  pub source : T (ltb p.source 16)
  pub local : OnSome (FteidRead false) p.local
  pub endpoint : OnSome (λ e. T (ltb e 256)) p.endpoint
  pub address : OnSome UeRead p.address

-- the fields of a Create Traffic Endpoint
pub record EndpointRead (e : NewEndpoint) : Type 0 where
  pub id : T (ltb e.id 256)
  pub local : FteidRead true e.local
  pub address : OnSome UeRead e.address

-- the fields of an Update PDR
pub record ChangeRead (c : Change) : Type 0 where
  pub precedence : OnSome (λ n. T (ltb n (2 ^ 32))) c.precedence
  pub far : OnSome (λ f. T (far_allowed f)) c.far

-- one thing that is asked for
abbrev pub ItemRead : Item → Type 0
ItemRead (creates_pdr x) = PdrRead x
ItemRead (creates_endpoint x) = EndpointRead x
ItemRead (updates_pdr x) = ChangeRead x
ItemRead (removes_pdr x) = Unit {0}
ItemRead (removes_endpoint x) = Unit {0}
ItemRead (sets_csid x) = CsidRead x
ItemRead clears_csids = Unit {0}
ItemRead updates_endpoint = Unit {0}

-- ---- the members of a group

-- those that are there; in an endpoint (e) without a CHOOSE ID
record MembersRead (e : Bool) (m : Members) : Type 0 where
  pdr_id : OnSome (λ n. T (ltb n (2 ^ 16))) m.pdr_id
  precedence : OnSome (λ n. T (ltb n (2 ^ 32))) m.precedence
  far : OnSome (λ f. T (far_allowed f)) m.far
  source : OnSome (λ n. T (ltb n 16)) m.source
  local : OnSome (FteidRead e) m.local
  endpoint_id : OnSome (λ n. T (ltb n 256)) m.endpoint_id
  address : OnSome UeRead m.address

-- a number is below 256 to its width
number_read_lem : (t w p : ℕ) (v : List ℕ) → number_width t ≡ w → T (are_bytes v) → OnDone (λ n. T (ltb n (256 ^ w))) (number_read t p v)
unfolding number_read
number_read_lem t w p v e h =
    pick_either (OnDone (λ n. T (ltb n (256 ^ w)))) (ltb (length v) (number_width t)) _ _ tt
    (lt→ltb (number_at 0 (number_width t) v) (256 ^ w) (subst (λ (k : ℕ). number_at 0 (number_width t) v < 256 ^ k) e (field_bound (number_width t) v h)))

-- the width of a type that is known
width_of : (t k : ℕ) → T (eqb t k) → number_width t ≡ number_width k
width_of t k c = ap number_width (eqb→eq t k c)

other_width : (a b c : Bool) → T (not a) → T (not b) → T (not c) → ◌≡◌ {A = ℕ} (pick a 2 (pick (b || c) 4 1)) 1
other_width false false false x y z = refl
other_width true b c x y z = absurd x
other_width false true c x y z = absurd y
other_width false false true x y z = absurd z

far_read_lem : (g p : ℕ) (v : List ℕ) → T (are_bytes v) → OnDone (λ f. T (far_allowed f)) (far_read g p v)
unfolding far_read far_allowed number_width
far_read_lem g p v h =
    pick_either (OnDone (λ f. T (far_allowed f))) (eqb g ie.update_pdr && is_nil v) _ _ tt
    (then_done (λ n. T (ltb n (2 ^ 32))) (λ f. T (far_allowed f)) (number_read ie.far_id p v) _ (number_read_lem ie.far_id 4 p v refl h) (λ n k. k))

-- a reader of the PDI's octets keeps the bounds
abbrev Keeps : (ℕ → List ℕ → Members → Reading Members) → Type 0
Keeps inner = (p : ℕ) (v : List ℕ) (m : Members) → T (are_bytes v) → MembersRead false m → OnDone (MembersRead false) (inner p v m)

module _ (inner : ℕ → List ℕ → Members → Reading Members) (keeps : Keeps inner) (g : ℕ) where
  abbrev Kept : Members → Type 0
  Kept m = MembersRead (eqb g ie.create_endpoint) m

  with_pdi_lem : (e : Bool) (m : Members) → MembersRead e m → MembersRead e (with_pdi m)
  with_pdi_lem e m b = record { pdr_id = b.pdr_id; precedence = b.precedence; far = b.far; source = b.source; local = b.local; endpoint_id = b.endpoint_id; address = b.address }

  pdi_in_lem : (p : ℕ) (v : List ℕ) (m : Members) → T (are_bytes v) → Kept m → OnDone Kept (pdi_in inner g p v m)
  unfolding pdi_in
  pdi_in_lem p v m h b =
      pick_cases (OnDone Kept) (eqb g ie.create_pdr) _ _
      (λ c. subst (λ (k : ℕ). MembersRead (eqb k ie.create_endpoint) m → OnDone (MembersRead (eqb k ie.create_endpoint)) (inner p v (with_pdi m))) (sym (eqb→eq g ie.create_pdr c))
      (λ b'. keeps p v (with_pdi m) h (with_pdi_lem false m b')) b)
      (λ _. with_pdi_lem (eqb g ie.create_endpoint) m b)

  value_read_lem : (t p : ℕ) (v : List ℕ) (m : Members) → T (are_bytes v) → Kept m → OnDone Kept (value_read inner g t p v m)
  unfolding value_read number_width
  value_read_lem t p v m h b =
      pick_cases (OnDone Kept) (eqb t ie.pdr_id) _ _
      (λ c. then_done (λ n. T (ltb n (2 ^ 16))) Kept (number_read t p v) _ (number_read_lem t 2 p v (width_of t ie.pdr_id c) h)
      (λ n k. record { pdr_id = k; precedence = b.precedence; far = b.far; source = b.source; local = b.local; endpoint_id = b.endpoint_id; address = b.address }))
      (λ c₁. pick_cases (OnDone Kept) (eqb t ie.precedence) _ _
      (λ c. then_done (λ n. T (ltb n (2 ^ 32))) Kept (number_read t p v) _ (number_read_lem t 4 p v (width_of t ie.precedence c) h)
      (λ n k. record { pdr_id = b.pdr_id; precedence = k; far = b.far; source = b.source; local = b.local; endpoint_id = b.endpoint_id; address = b.address }))
      (λ c₂. pick_cases (OnDone Kept) (eqb t ie.far_id) _ _
      (λ _. then_done (λ f. T (far_allowed f)) Kept (far_read g p v) _ (far_read_lem g p v h)
      (λ f k. record { pdr_id = b.pdr_id; precedence = b.precedence; far = k; source = b.source; local = b.local; endpoint_id = b.endpoint_id; address = b.address }))
      (λ c₃. pick_either (OnDone Kept) (eqb t ie.pdi) _ _ (pdi_in_lem p v m h b)
      (pick_cases (OnDone Kept) (eqb t ie.source_interface) _ _
      (λ c. then_done (λ n. T (ltb n 256)) Kept (number_read t p v) _ (number_read_lem t 1 p v (width_of t ie.source_interface c) h)
      (λ n _. record { pdr_id = b.pdr_id; precedence = b.precedence; far = b.far; source = lt→ltb (n % 16) 16 (mod-lt n (zero-lt-suc 15)); local = b.local; endpoint_id = b.endpoint_id; address = b.address }))
      (λ _. pick_either (OnDone Kept) (eqb t ie.fteid) _ _
      (then_done (FteidRead (eqb g ie.create_endpoint)) Kept (named t p (read_fteid (eqb g ie.create_endpoint) v)) (λ y. done (with_local y m)) (named_done (FteidRead (eqb g ie.create_endpoint)) t p (read_fteid (eqb g ie.create_endpoint) v) (fteid_read_lem (eqb g ie.create_endpoint) v h))
      (λ y k. record { pdr_id = b.pdr_id; precedence = b.precedence; far = b.far; source = b.source; local = k; endpoint_id = b.endpoint_id; address = b.address }))
      (pick_either (OnDone Kept) (eqb t ie.ue_ip_address) _ _
      (then_done UeRead Kept (named t p (read_ue_ip v)) (λ y. done (with_address y m)) (named_done UeRead t p (read_ue_ip v) (ue_read_lem v h))
      (λ y k. record { pdr_id = b.pdr_id; precedence = b.precedence; far = b.far; source = b.source; local = b.local; endpoint_id = b.endpoint_id; address = k }))
      (then_done (λ n. T (ltb n 256)) Kept (number_read t p v) _ (number_read_lem t 1 p v (other_width (eqb t ie.pdr_id) (eqb t ie.precedence) (eqb t ie.far_id) c₁ c₂ c₃) h)
      (λ n k. record { pdr_id = b.pdr_id; precedence = b.precedence; far = b.far; source = b.source; local = b.local; endpoint_id = k; address = b.address }))))))))

  member_read_lem : (e : Element) (m : Members) → T (clean e) → Kept m → OnDone Kept (member_read inner g e m)
  unfolding member_read
  member_read_lem e m h b =
      pick_either (OnDone Kept) (member e.type (places_of g)) _ _ (pick_either (OnDone Kept) (member_there e.type m) _ _ tt (value_read_lem e.type e.place e.content m h b)) b

  members_read_lem : (es : List Element) (m : Members) → T (all clean es) → Kept m → OnDone Kept (members_read inner g es m)
  unfolding members_read
  members_read_lem [] m h b = b
  members_read_lem (e ∷ es) m h b =
      then_done Kept Kept (member_read inner g e m) _ (member_read_lem e m (all_head clean e es h) b) (λ m' b'. members_read_lem es m' (all_tail clean e es h) b')

-- a PDI's members
pdi_read_lem : Keeps pdi_read
unfolding pdi_read pdi_end
pdi_read_lem p v m h b =
    then_done (MembersRead false) (MembersRead false) (members_read unopened ie.pdi (elements (inside p) v) m) (pdi_end p)
    (members_read_lem unopened (λ _ _ m' _ b'. b') ie.pdi (elements (inside p) v) m (clean_elements (inside p) v h) b)
    (λ m' b'. need_done (λ n. T (ltb n 16)) (MembersRead false) missing ie.source_interface p m'.source _ b'.source (λ _ _. b'))

-- ---- what a group makes

module _ (e : Bool) (p : ℕ) (m : Members) (b : MembersRead e m) where
  pdr_from_lem : OnDone ItemRead (pdr_item p m)
  unfolding pdr_item
  pdr_from_lem =
      pick_either (OnDone ItemRead) m.pdi _ _
      (need_done (λ n. T (ltb n (2 ^ 32))) ItemRead missing ie.precedence p m.precedence _ b.precedence
      (λ n hn. need_done (λ i. T (ltb i (2 ^ 16))) ItemRead missing ie.pdr_id p m.pdr_id _ b.pdr_id
      (λ i hi. need_done (λ c. T (ltb c 16)) ItemRead missing ie.source_interface p m.source _ b.source
      (λ c hc. record { id = hi; precedence = hn; far = flat m.far b.far; source = hc; local = weaker m.local b.local; endpoint = b.endpoint_id; address = b.address }))))
      tt
    where
      flat : (o : Option (Option ℕ)) → OnSome (λ f. T (far_allowed f)) o → T (far_allowed (bind_option o (λ f. f)))
      flat none h = unfold far_allowed in tt
      flat (some f) h = h

      weaker : (o : Option Fteid) → OnSome (FteidRead e) o → OnSome (FteidRead false) o
      weaker none h = tt
      weaker (some v) h = record { family = h.family; octet = h.octet; no_choose_id = λ k. absurd k }

  endpoint_from_lem : T e → OnDone ItemRead (endpoint_item p m)
  unfolding endpoint_item
  endpoint_from_lem c =
      need_done (FteidRead true) ItemRead conditional ie.fteid p m.local _ (subst (λ (x : Bool). OnSome (FteidRead x) m.local) (is_true e c) b.local)
      (λ v hv. need_done (λ i. T (ltb i 256)) ItemRead missing ie.endpoint_id p m.endpoint_id _ b.endpoint_id (λ i hi. record { id = hi; local = hv; address = b.address }))

  change_from_lem : OnDone ItemRead (change_from p m)
  unfolding change_from
  change_from_lem = need_done (λ i. T (ltb i (2 ^ 16))) ItemRead missing ie.pdr_id p m.pdr_id _ b.pdr_id (λ i hi. record { precedence = b.precedence; far = b.far })

item_from_lem : (g p : ℕ) (m : Members) → MembersRead (eqb g ie.create_endpoint) m → OnDone ItemRead (item_from g p m)
unfolding item_from
item_from_lem g p m b =
    let e = eqb g ie.create_endpoint in
    pick_either (OnDone ItemRead) (eqb g ie.create_pdr) _ _ (pdr_from_lem e p m b)
    (pick_cases (OnDone ItemRead) e _ _ (endpoint_from_lem e p m b)
    (λ _. pick_either (OnDone ItemRead) (eqb g ie.update_pdr) _ _ (change_from_lem e p m b)
    (pick_either (OnDone ItemRead) (eqb g ie.remove_pdr) _ _
    (need_done (λ i. T (ltb i (2 ^ 16))) ItemRead missing ie.pdr_id p m.pdr_id _ b.pdr_id (λ i hi. tt))
    (need_done (λ i. T (ltb i 256)) ItemRead missing ie.endpoint_id p m.endpoint_id _ b.endpoint_id (λ i hi. tt)))))

group_read_lem : (g p : ℕ) (v : List ℕ) → T (are_bytes v) → OnDone ItemRead (group_read g p v)
unfolding group_read
group_read_lem g p v h =
    then_done (MembersRead (eqb g ie.create_endpoint)) ItemRead (members_read pdi_read g (elements (inside p) v) no_members) (item_from g p)
    (members_read_lem pdi_read pdi_read_lem g (elements (inside p) v) no_members (clean_elements (inside p) v h) (record { pdr_id = tt; precedence = tt; far = tt; source = tt; local = tt; endpoint_id = tt; address = tt }))
    (item_from_lem g p)

-- ---- the top of a message

-- what an element may make of a draft d, if S holds of a SEID that is read, C of an FQ-CSID and I of a group's item
pub record Steps (S : ℕ → Type 0) (C : Fqcsid → Type 0) (I : Item → Type 0) (alone : Bool) (t : ℕ) (d : Draft) (Q : Draft → Type 0) : Type 0 where
  pub skips : Q d
  pub seid : (n : ℕ) → S n → Q (with_seid n d)
  pub restores : (b : Bool) → Q (with_restores b d)
  pub clears : T (eqb t ie.fqcsid) → T alone → Q (with_item clears_csids d)
  pub sets : T (eqb t ie.fqcsid) → (c : Fqcsid) → C c → Q (with_node (node_of c) (with_item (sets_csid c) d))
  pub updates : Q (with_item updates_endpoint d)
  pub makes : (i : Item) → I i → Q (with_item i d)

pub element_step : (S : ℕ → Type 0) (C : Fqcsid → Type 0) (I : Item → Type 0) (kind : ℕ) (alone : Bool) (e : Element) (d : Draft) (Q : Draft → Type 0)
    → OnValue S (read_fseid e.content) → OnValue C (read_fqcsid e.content) → OnDone I (group_read e.type e.place e.content) → Steps S C I alone e.type d Q
    → OnDone Q (element_read kind alone e d)
unfolding element_read acted_read seid_read flags_read csid_read
element_step S C I kind alone e d Q hs hc hi k =
    pick_either (OnDone Q) (member e.type (acted_on kind)) _ _
    (pick_either (OnDone Q) (eqb e.type ie.fseid) _ _
    (once_done Q d.seid ie.fseid e.place _ (then_done S Q (named ie.fseid e.place (read_fseid e.content)) (λ n. done (with_seid n d)) (named_done S ie.fseid e.place (read_fseid e.content) hs) k.seid))
    (pick_either (OnDone Q) (eqb e.type ie.session_flags) _ _
    (once_done Q d.restores ie.session_flags e.place _ (pick_either (OnDone Q) (ltb (length e.content) 1) _ _ tt (k.restores (bit 0 (octet_at e.content 0)))))
    (pick_cases (OnDone Q) (eqb e.type ie.fqcsid) _ _
    (λ t. pick_cases (OnDone Q) (is_nil e.content && eqb kind modification && alone) _ _
    (λ c. k.clears t (last (is_nil e.content) (eqb kind modification) c))
    (λ _. then_done C Q (named ie.fqcsid e.place (read_fqcsid e.content)) (λ c. pick (csid_count_allowed kind c && not (member (node_of c) d.nodes)) (done (with_csid c d)) (refusal_at incorrect ie.fqcsid e.place)) (named_done C ie.fqcsid e.place (read_fqcsid e.content) hc)
    (λ c g. pick_either (OnDone Q) (csid_count_allowed kind c && not (member (node_of c) d.nodes)) (done (with_csid c d)) (refusal_at incorrect ie.fqcsid e.place) (k.sets t c g) tt)))
    (λ _. pick_either (OnDone Q) (eqb e.type ie.update_endpoint) _ _ k.updates (then_done I Q (group_read e.type e.place e.content) (λ i. done (with_item i d)) hi k.makes)))))
    k.skips
  where
    last : (a b : Bool) → T (a && b && alone) → T alone
    last true true h = h
    last true false h = absurd h
    last false b h = absurd h

-- what was read keeps its bounds
abbrev DraftRead : Draft → Type 0
DraftRead d = OnSome SeidRead d.seid × Every ItemRead d.items

element_read_lem : (kind : ℕ) (alone : Bool) (e : Element) (d : Draft) → T (clean e) → DraftRead d → OnDone DraftRead (element_read kind alone e d)
element_read_lem kind alone e d h b =
    element_step SeidRead CsidRead ItemRead kind alone e d DraftRead (fseid_read e.content h) (fqcsid_read e.content h) (group_read_lem e.type e.place e.content h)
    (record {
      skips = b;
      seid = λ n k. (k, b.1);
      restores = λ _. b;
      clears = λ _ _. more clears_csids tt;
      sets = λ _ c k. more (sets_csid c) k;
      updates = more updates_endpoint tt;
      makes = more;
    })
  where
    more : (i : Item) → ItemRead i → DraftRead (with_item i d)
    more i k = (b.0, every_append ItemRead d.items (i ∷ []) b.1 (k, tt))

elements_read_lem : (kind : ℕ) (alone : Bool) (es : List Element) (d : Draft) → T (all clean es) → DraftRead d → OnDone DraftRead (elements_read kind alone es d)
unfolding elements_read
elements_read_lem kind alone [] d h b = b
elements_read_lem kind alone (e ∷ es) d h b =
    then_done DraftRead DraftRead (element_read kind alone e d) _ (element_read_lem kind alone e d (all_head clean e es h) b) (λ d' b'. elements_read_lem kind alone es d' (all_tail clean e es h) b')

-- ---- the request

abbrev pub CsidsRead : CsidChanges → Type 0
CsidsRead cleared = Unit {0}
CsidsRead (changed cs) = Every CsidRead cs

pub record RequestRead (r : Request) : Type 0 where
  pub pdrs : Every PdrRead r.pdrs
  pub endpoints : Every EndpointRead r.endpoints
  pub changes : Every ChangeRead r.changes
  pub csids : CsidsRead r.csids

-- what is collected of an item
item_parts : (i : Item) → ItemRead i → OnSome PdrRead (pdr_in i) × (OnSome EndpointRead (endpoint_in i) × (OnSome ChangeRead (change_in i) × OnSome CsidRead (csid_in i)))
unfolding pdr_in endpoint_in change_in csid_in
item_parts (creates_pdr x) h = (h, (tt, (tt, tt)))
item_parts (creates_endpoint x) h = (tt, (h, (tt, tt)))
item_parts (updates_pdr x) h = (tt, (tt, (h, tt)))
item_parts (removes_pdr x) h = (tt, (tt, (tt, tt)))
item_parts (removes_endpoint x) h = (tt, (tt, (tt, tt)))
item_parts (sets_csid x) h = (tt, (tt, (tt, h)))
item_parts clears_csids h = (tt, (tt, (tt, tt)))
item_parts updates_endpoint h = (tt, (tt, (tt, tt)))

request_of_lem : (n : ℕ) (d : Draft) → Every ItemRead d.items → RequestRead (request_from n d)
unfolding request_from
request_of_lem n d b =
    record {
      pdrs = every_collect pdr_in ItemRead PdrRead (λ i h. (item_parts i h).0) d.items b;
      endpoints = every_collect endpoint_in ItemRead EndpointRead (λ i h. (item_parts i h).1.0) d.items b;
      changes = every_collect change_in ItemRead ChangeRead (λ i h. (item_parts i h).1.1.0) d.items b;
      csids =
          pick_either CsidsRead (any clears d.items) cleared (changed (collect csid_in d.items)) tt
          (every_collect csid_in ItemRead CsidRead (λ i h. (item_parts i h).1.1.1) d.items b);
    }

-- an establishment has its SEID
abbrev Finished : ℕ → Request → Type 0
Finished kind r = RequestRead r × (T (eqb kind establishment) → SeidRead r.seid)

finished_read : (kind : ℕ) (d : Draft) → DraftRead d → OnDone (Finished kind) (finished kind d)
unfolding finished request_from
finished_read kind d b =
    pick_cases (OnDone (Finished kind)) (eqb kind establishment) _ _
    (λ _. pick_either (OnDone (Finished kind)) (restoring_in d || creates_any d.items) _ _
    (need_done SeidRead (Finished kind) missing ie.fseid 0 d.seid _ b.0 (λ n hn. (request_of_lem n d b.1, λ _. hn))) tt)
    (λ no-est. (request_of_lem 0 d b.1, λ est. absurd (T_not (eqb kind establishment) no-est est)))

module _ (msg : List ℕ) (h : T (are_bytes msg)) where
  -- a set deletion creates and changes nothing
  listing_read : (kind : ℕ) → T (eqb kind set_deletion) → (cs : List Fqcsid) → Finished kind (listing cs)
  unfolding listing
  listing_read kind is cs =
      (record { pdrs = tt; endpoints = tt; changes = tt; csids = tt }, λ est. absurd (let a = eqb→eq kind set_deletion is in let b = eqb→eq kind establishment est in omega arith))

  message_read : OnDone (Finished (kind_of msg)) (read msg)
  unfolding read top_read session_read
  message_read =
      let es = elements (header_length msg) (body msg) in
      pick_cases (OnDone (Finished (kind_of msg))) (eqb (kind_of msg) set_deletion) _ _
      (λ is. then_done (λ _. Unit {0}) (Finished (kind_of msg)) (list_read es) (λ cs. done (listing cs)) (anything (list_read es)) (λ cs _. listing_read (kind_of msg) is cs))
      (λ _. then_done DraftRead (Finished (kind_of msg)) (elements_read (kind_of msg) (alone_in es) es empty_draft) (finished (kind_of msg))
      (elements_read_lem (kind_of msg) (alone_in es) es empty_draft (clean_body msg h) (tt, tt)) (finished_read (kind_of msg)))

  -- what a request asks for
  pub request_read : RequestRead (read_request msg)
  unfolding read_request
  request_read = asked (read msg) message_read
    where
      asked : (r : Reading Request) → OnDone (Finished (kind_of msg)) r → RequestRead (asked_in r)
      asked (faulty f) k = unfold asked_in in (request_of_lem 0 empty_draft tt)
      asked (done r) k = unfold asked_in in k.0

  -- the SEID of an establishment without a fault is not 0 and has eight octets
  pub seid_read_lem : T (eqb (kind_of msg) establishment) → read_fault msg ≡ none → SeidRead (read_request msg).seid
  unfolding read_fault read_request
  seid_read_lem est fine = asked (read msg) message_read fine
    where
      asked : (r : Reading Request) → OnDone (Finished (kind_of msg)) r → fault_in r ≡ none → SeidRead (asked_in r).seid
      asked (faulty f) k e = absurd (unfold fault_in in (let z : ◌≡◌ {A = ℕ} 0 1 = cc in omega arith))
      asked (done r) k e = unfold asked_in in (k.1 est)

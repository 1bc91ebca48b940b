-- What the live set reads from an accepted reply is what the reply's reports say.
-- Assumes nothing.
use mathlib.Core.Path.{◌≡◌, refl, sym, ap, ◌∙◌, subst}
use Prim.Native.Nat.{ℕ, suc, ◌^◌, ◌≤◌}
use native.Mathlib.Nat.{le_trans, le_of_eq}
use mathlib.Core.Bool.{Bool, true, false, ◌&&◌, ◌||◌}
use mathlib.Core.Option.{Option, none, some}
use mathlib.Core.List.{List, [], ◌∷◌, ◌++◌, append-nil}
use lib.ListN.{length}
use lib.Dec.{T, ltb, eqb, ltb→lt, lit<, lit≤}
use Rattle.octets.specs.Choice.{pick, value_or, map_option, bind_option}
use Rattle.octets.specs.Octets.{be, number, number_at, put, concat_map}
use Rattle.octets.specs.Lists.{all, find_by}
use Rattle.octets.proofs.Tests.{and_left, and_right, all_head, all_tail}
use Rattle.octets.proofs.ListLaws.{on_some}
use Rattle.octets.proofs.Numbers.{number_be, length_be}
use Rattle.rules.specs.Model.{Settings, Tunnel, peer_of}
use Rattle.rules.specs.Elements.{fteid_octets, unit_fteid, ue_given, ue_octets, fseid_octets}
use Rattle.rules.specs.Sound.{settings_allowed}
use Rattle.rules.specs.Message.{Element, elements, has_type, content_in, content_of, number_width, field, field_or0, kind_of, establishment, header_length, set_deletion}
use Rattle.laws.proofs.MessageLaws.{Fits, el, after, elements_cons, elements_nil, written, as_element, as_elements, after_all, elements_map}
use Rattle.rules.specs.Grants.{Kind, of_pdr, of_endpoint, Got}
use Rattle.rules.specs.Stages.{Verdict}
use Rattle.rules.specs.Reply.{Report, Reports, element, unit_element, tunnel_part, address_part, chosen_elements, created_pdr_content, created_pdr_element, created_endpoint_content, created_endpoint_element, created, offending_element, node_id_element, unit_fseid, accepted_part, reply_body, reply}
use Rattle.laws.proofs.ReplyLaws.{reply_elements_lem, sequence_three, reply_cause_lem}
use Rattle.rules.specs.Live.{reply_cause, created_type, id_element, is_created, teid_in, address_in, created_group, created_teid, created_address, created_got}
use Rattle.rules.specs.Types as ie
use Rattle.rules.specs.Causes as why
use Rattle.laws.proofs.RestorationElements.{unit_fits, small, one_fits, be_fits, number_one, address_elements, address_elements_lem}
use Rattle.invariants.proofs.ReplyLength.{FewReports, pdr_content_short, endpoint_content_short, fseid_length_lem, body_short}
use Rattle.laws.proofs.GrantLaws.{four_octets}
use Rattle.laws.proofs.ReportLaws.{report_fits}

-- what the elements of a Created group say
abbrev got_in : List Element → Got
got_in es = record { teid = teid_in es; address = address_in es }

-- what the group that was found says
abbrev value_of : Option Element → Got
value_of o = got_in (elements 0 (value_or [] (map_option content_in o)))

-- ---- what the reports say

-- the TEID and the address of a report, if any
abbrev pub report_teid : Report → Option ℕ
report_teid g = map_option (λ (t : Tunnel). t.teid) g.local

abbrev pub report_address : Report → Option ℕ
report_address g = g.address

-- a report by its ID
unfoldable pub has_id : ℕ → Report → Bool
has_id i g = eqb g.id i

-- what the report that was found says: 0 for what is not there
abbrev pub said_in : Option Report → Got
said_in o = record { teid = value_or 0 (bind_option o report_teid); address = value_or 0 (bind_option o report_address) }

-- the reports of a kind
abbrev pub reports_of : Kind → Reports → List Report
reports_of of_pdr gs = gs.pdrs
reports_of of_endpoint gs = gs.endpoints

-- what the reports say of a kind and ID
unfoldable pub said : Reports → Kind → ℕ → Got
said gs k i = said_in (find_by (has_id i) (reports_of k gs))

module _ (s : Settings) (hs : T (settings_allowed s)) where
  -- ---- one Created group

  tunnel_elements : ℕ → Option Tunnel → List Element
  tunnel_elements at none = []
  tunnel_elements at (some t) = el at ie.fteid (fteid_octets (unit_fteid s t)) ∷ []

  -- the place after it
  tunnel_end : ℕ → Option Tunnel → ℕ
  tunnel_end at none = at
  tunnel_end at (some t) = after at (fteid_octets (unit_fteid s t))

  -- what was chosen, as elements
  chosen_as : ℕ → Report → List Element
  chosen_as at g = tunnel_elements at g.local ++ address_elements s hs (tunnel_end at g.local) g.address

  chosen_elements_lem : (at : ℕ) (g : Report) → elements at (chosen_elements s g) ≡ chosen_as at g
  unfolding chosen_elements chosen_as
  chosen_elements_lem at g = one g.local
    where
      one : (o : Option Tunnel) → elements at (tunnel_part s o ++ address_part g.address) ≡ tunnel_elements at o ++ address_elements s hs (tunnel_end at o) g.address
      one none = unfold tunnel_part tunnel_elements tunnel_end in (address_elements_lem s hs at g.address)
      one (some t) = unfold tunnel_part unit_element tunnel_elements tunnel_end in (
          elements_cons ie.fteid (fteid_octets (unit_fteid s t)) (address_part g.address) (unit_fits s hs t) at
          ∙ ap (λ (es : List Element). el at ie.fteid (fteid_octets (unit_fteid s t)) ∷ es) (address_elements_lem s hs _ g.address))

  pdr_group : (g : Report) → elements 0 (created_pdr_content s g) ≡ el 0 ie.pdr_id (be 2 g.id) ∷ chosen_as (after 0 (be 2 g.id)) g
  unfolding created_pdr_content
  pdr_group g =
      elements_cons ie.pdr_id (be 2 g.id) (chosen_elements s g) (be_fits s hs ie.pdr_id 2 g.id (lit< tt) (lit≤ tt)) 0
      ∙ ap (λ (es : List Element). el 0 ie.pdr_id (be 2 g.id) ∷ es) (chosen_elements_lem _ g)

  endpoint_group : (g : Report) → elements 0 (created_endpoint_content s g) ≡ el 0 ie.endpoint_id (g.id ∷ []) ∷ chosen_as (after 0 (g.id ∷ [])) g
  unfolding created_endpoint_content
  endpoint_group g =
      elements_cons ie.endpoint_id (g.id ∷ []) (chosen_elements s g) (one_fits s hs ie.endpoint_id (lit< tt) g.id) 0
      ∙ ap (λ (es : List Element). el 0 ie.endpoint_id (g.id ∷ []) ∷ es) (chosen_elements_lem _ g)

  teid_there : (t : Tunnel) → T (four_octets t.teid) → number_at 1 4 (fteid_octets (unit_fteid s t)) ≡ t.teid
  unfolding fteid_octets unit_fteid number_at be
  teid_there t h = number_be 4 t.teid (ltb→lt t.teid (256 ^ 4) h)

  address_there_lem : (a : ℕ) → T (four_octets a) → number_at 1 4 (ue_octets (ue_given a)) ≡ a
  unfolding ue_octets number_at be
  address_there_lem a h = number_be 4 a (ltb→lt a (256 ^ 4) h)

  none_there : number_at 1 4 [] ≡ 0
  unfolding number_at number
  none_there = refl

  -- it says what the report says
  chosen_says : (at : ℕ) (g : Report) → T (report_fits g) → got_in (chosen_as at g) ≡ said_in (some g)
  unfolding chosen_as
  chosen_says at g h = let f = and_right (ltb g.id (256 ^ 2)) (on_some (λ t. four_octets t.teid) g.local && on_some four_octets g.address) h in
      one g.local g.address (tunnel_end at g.local) (and_left (on_some (λ t. four_octets t.teid) g.local) (on_some four_octets g.address) f) (and_right (on_some (λ t. four_octets t.teid) g.local) (on_some four_octets g.address) f)
    where
      one : (o : Option Tunnel) (a : Option ℕ) (b : ℕ) → T (on_some (λ t. four_octets t.teid) o) → T (on_some four_octets a)
          → got_in (tunnel_elements at o ++ address_elements s hs b a) ≡ record { teid = value_or 0 (map_option (λ (t : Tunnel). t.teid) o); address = value_or 0 a }
      one none none b ht ha = unfold tunnel_elements address_elements teid_in address_in content_of find_by has_type number_at number in refl
      one (some t) none b ht ha = unfold tunnel_elements address_elements teid_in address_in content_of find_by has_type in (
          λ j. record { teid = teid_there t ht j; address = none_there j })
      one none (some a) b ht ha = unfold tunnel_elements address_elements teid_in address_in content_of find_by has_type in (
          λ j. record { teid = none_there j; address = address_there_lem a ha j })
      one (some t) (some a) b ht ha = unfold tunnel_elements address_elements teid_in address_in content_of find_by has_type in (
          λ j. record { teid = teid_there t ht j; address = address_there_lem a ha j })

  pdr_id_lem : (g : Report) → T (report_fits g) → field_or0 ie.pdr_id (elements 0 (created_pdr_content s g)) ≡ g.id
  unfolding field_or0 field content_of find_by has_type number_at number_width be
  pdr_id_lem g h =
      ap (field_or0 ie.pdr_id) (pdr_group g)
      ∙ number_be 2 g.id (ltb→lt g.id (256 ^ 2) (and_left (ltb g.id (256 ^ 2)) (on_some (λ t. four_octets t.teid) g.local && on_some four_octets g.address) h))

  endpoint_id_lem : (g : Report) → field_or0 ie.endpoint_id (elements 0 (created_endpoint_content s g)) ≡ g.id
  unfolding field_or0 field content_of find_by has_type number_at number_width
  endpoint_id_lem g = ap (field_or0 ie.endpoint_id) (endpoint_group g) ∙ number_one s hs g.id

  pdr_says : (g : Report) → T (report_fits g) → got_in (elements 0 (created_pdr_content s g)) ≡ said_in (some g)
  unfolding teid_in address_in content_of find_by has_type
  pdr_says g h = ap got_in (pdr_group g) ∙ chosen_says (after 0 (be 2 g.id)) g h

  endpoint_says : (g : Report) → T (report_fits g) → got_in (elements 0 (created_endpoint_content s g)) ≡ said_in (some g)
  unfolding teid_in address_in content_of find_by has_type
  endpoint_says g h = ap got_in (endpoint_group g) ∙ chosen_says (after 0 (g.id ∷ [])) g h

  -- ---- the Created groups

  abbrev as_pdrs : ℕ → List Report → List Element
  as_pdrs = as_elements ie.created_pdr (created_pdr_content s) report_fits

  abbrev as_endpoints : ℕ → List Report → List Element
  as_endpoints = as_elements ie.created_endpoint (created_endpoint_content s) report_fits

  value_none : value_of none ≡ said_in none
  unfolding teid_in address_in content_of find_by number_at number
  value_none = ap got_in (elements_nil 0)

  no_pdr_here : (i at : ℕ) (gs : List Report) → find_by (is_created of_pdr i) (as_endpoints at gs) ≡ none
  unfolding find_by is_created created_type has_type as_element as_elements
  no_pdr_here i at [] = refl
  no_pdr_here i at (g ∷ gs) = no_pdr_here i (after at (created_endpoint_content s g)) gs

  skip_pdrs : (i at : ℕ) (gs : List Report) (es : List Element) → find_by (is_created of_endpoint i) (as_pdrs at gs ++ es) ≡ find_by (is_created of_endpoint i) es
  unfolding find_by is_created created_type has_type as_element as_elements
  skip_pdrs i at [] es = refl
  skip_pdrs i at (g ∷ gs) es = skip_pdrs i (after at (created_pdr_content s g)) gs es

  found_pdr : (i at : ℕ) (gs : List Report) → T (all report_fits gs) → (es : List Element) → find_by (is_created of_pdr i) es ≡ none
      → value_of (find_by (is_created of_pdr i) (as_pdrs at gs ++ es)) ≡ said_in (find_by (has_id i) gs)
  unfolding find_by is_created created_type id_element has_type as_element as_elements has_id
  found_pdr i at [] h es e = ap value_of e ∙ value_none
  found_pdr i at (g ∷ gs) h es e =
      let ok = all_head report_fits g gs h in
      let next = after at (created_pdr_content s g) in
      ap (λ (n : ℕ). value_of (pick (eqb n i) (some (el at ie.created_pdr (created_pdr_content s g))) (find_by (is_created of_pdr i) (as_pdrs next gs ++ es)))) (pdr_id_lem g ok)
      ∙ one (eqb g.id i) (find_by (is_created of_pdr i) (as_pdrs next gs ++ es)) (find_by (has_id i) gs) (pdr_says g ok) (found_pdr i next gs (all_tail report_fits g gs h) es e)
    where
      one : (b : Bool) (o : Option Element) (p : Option Report) → got_in (elements 0 (created_pdr_content s g)) ≡ said_in (some g) → value_of o ≡ said_in p
          → value_of (pick b (some (el at ie.created_pdr (created_pdr_content s g))) o) ≡ said_in (pick b (some g) p)
      one true o p a c = a
      one false o p a c = c

  found_endpoint : (i at : ℕ) (gs : List Report) → T (all report_fits gs) → value_of (find_by (is_created of_endpoint i) (as_endpoints at gs)) ≡ said_in (find_by (has_id i) gs)
  unfolding find_by is_created created_type id_element has_type as_element as_elements has_id
  found_endpoint i at [] h = value_none
  found_endpoint i at (g ∷ gs) h =
      let ok = all_head report_fits g gs h in
      let next = after at (created_endpoint_content s g) in
      ap (λ (n : ℕ). value_of (pick (eqb n i) (some (el at ie.created_endpoint (created_endpoint_content s g))) (find_by (is_created of_endpoint i) (as_endpoints next gs)))) (endpoint_id_lem g)
      ∙ one (eqb g.id i) (find_by (is_created of_endpoint i) (as_endpoints next gs)) (find_by (has_id i) gs) (endpoint_says g ok) (found_endpoint i next gs (all_tail report_fits g gs h))
    where
      one : (b : Bool) (o : Option Element) (p : Option Report) → got_in (elements 0 (created_endpoint_content s g)) ≡ said_in (some g) → value_of o ≡ said_in p
          → value_of (pick b (some (el at ie.created_endpoint (created_endpoint_content s g))) o) ≡ said_in (pick b (some g) p)
      one true o p a c = a
      one false o p a c = c

  -- ---- the whole reply

  -- what is found in octets for a kind and ID, wherever they stand
  abbrev Gives : Kind → ℕ → Got → List ℕ → Type 0
  Gives k i n xs = (at : ℕ) → value_of (find_by (is_created k i) (elements at xs)) ≡ n

  skip_one : (k : Kind) (i : ℕ) (n : Got) (t : ℕ) (v more : List ℕ) → Fits t v → eqb t ie.created_pdr ≡ false → eqb t ie.created_endpoint ≡ false
      → Gives k i n more → Gives k i n (element t v ++ more)
  unfolding find_by is_created has_type created_type
  skip_one of_pdr i n t v more fits e8 e128 h at =
      ap (λ (es : List Element). value_of (find_by (is_created of_pdr i) es)) (elements_cons t v more fits at)
      ∙ ap (λ (b : Bool). value_of (pick (b && eqb (field_or0 (id_element of_pdr) (elements 0 v)) i) (some (el at t v)) (find_by (is_created of_pdr i) (elements (after at v) more)))) e8
      ∙ h (after at v)
  skip_one of_endpoint i n t v more fits e8 e128 h at =
      ap (λ (es : List Element). value_of (find_by (is_created of_endpoint i) es)) (elements_cons t v more fits at)
      ∙ ap (λ (b : Bool). value_of (pick (b && eqb (field_or0 (id_element of_endpoint) (elements 0 v)) i) (some (el at t v)) (find_by (is_created of_endpoint i) (elements (after at v) more)))) e128
      ∙ h (after at v)

  skip_if : (k : Kind) (i : ℕ) (n : Got) (b : Bool) (t : ℕ) (v more : List ℕ) → Fits t v → eqb t ie.created_pdr ≡ false → eqb t ie.created_endpoint ≡ false
      → Gives k i n more → Gives k i n (pick b (element t v) [] ++ more)
  skip_if k i n true t v more fits e8 e128 h = skip_one k i n t v more fits e8 e128 h
  skip_if k i n false t v more fits e8 e128 h = h

  skip_offending : (k : Kind) (i : ℕ) (n : Got) (o : Option ℕ) (more : List ℕ) → Gives k i n more → Gives k i n (offending_element o ++ more)
  unfolding offending_element
  skip_offending k i n none more h = h
  skip_offending k i n (some t) more h = skip_one k i n ie.offending_ie (be 2 t) more (be_fits s hs ie.offending_ie 2 t (lit< tt) (lit≤ tt)) refl refl h

  node_fits : (home : ℕ) → Fits ie.node_id (0 ∷ be 4 home)
  unfolding Fits
  node_fits home = (lit< tt, small s hs (le_trans (le_of_eq (ap suc (length_be 4 home))) (lit≤ tt)))

  fseid_fits : (home n : ℕ) → Fits ie.fseid (fseid_octets n (be 4 home) [])
  unfolding Fits
  fseid_fits home n = (lit< tt, small s hs (le_trans (le_of_eq (fseid_length_lem s hs home n)) (lit≤ tt)))

  pdr_content_fits : (g : Report) → T (report_fits g) → Fits ie.created_pdr (created_pdr_content s g)
  unfolding Fits
  pdr_content_fits g h = (lit< tt, small s hs (le_trans (pdr_content_short s hs g) (lit≤ tt)))

  endpoint_content_fits : (g : Report) → T (report_fits g) → Fits ie.created_endpoint (created_endpoint_content s g)
  unfolding Fits
  endpoint_content_fits g h = (lit< tt, small s hs (le_trans (endpoint_content_short s hs g) (lit≤ tt)))

  module _ (gs : Reports) (fits : T (all report_fits gs.pdrs) × T (all report_fits gs.endpoints)) where
    -- the place after the Created PDRs
    endpoints_from : ℕ → ℕ
    endpoints_from at = after_all ie.created_pdr (created_pdr_content s) report_fits at gs.pdrs

    created_elements : (at : ℕ) → elements at (created s gs) ≡ as_pdrs at gs.pdrs ++ as_endpoints (endpoints_from at) gs.endpoints
    unfolding created endpoints_from created_pdr_element created_endpoint_element written
    created_elements at =
        elements_map ie.created_pdr (created_pdr_content s) report_fits pdr_content_fits gs.pdrs fits.0 at (concat_map (created_endpoint_element s) gs.endpoints)
        ∙ ap (λ (es : List Element). as_pdrs at gs.pdrs ++ es)
        (ap (elements (endpoints_from at)) (sym (append-nil (concat_map (created_endpoint_element s) gs.endpoints)))
        ∙ elements_map ie.created_endpoint (created_endpoint_content s) report_fits endpoint_content_fits gs.endpoints fits.1 (endpoints_from at) []
        ∙ ap (λ (es : List Element). as_endpoints (endpoints_from at) gs.endpoints ++ es) (elements_nil _)
        ∙ append-nil (as_endpoints (endpoints_from at) gs.endpoints))

    -- what is read of the Created groups is what the reports say
    created_value : (k : Kind) (i : ℕ) → Gives k i (said gs k i) (created s gs)
    unfolding said
    created_value of_pdr i at =
        ap (λ (es : List Element). value_of (find_by (is_created of_pdr i) es)) (created_elements at)
        ∙ found_pdr i at gs.pdrs fits.0 (as_endpoints (endpoints_from at) gs.endpoints) (no_pdr_here i (endpoints_from at) gs.endpoints)
    created_value of_endpoint i at =
        ap (λ (es : List Element). value_of (find_by (is_created of_endpoint i) es)) (created_elements at)
        ∙ ap value_of (skip_pdrs i at gs.pdrs (as_endpoints (endpoints_from at) gs.endpoints))
        ∙ found_endpoint i (endpoints_from at) gs.endpoints fits.1

    module _ (kind home n : ℕ) (v : Verdict) (yes' : v.cause ≡ why.accepted) where
      body_found : (k : Kind) (i : ℕ) → Gives k i (said gs k i) (reply_body kind s home n v gs)
      unfolding reply_body node_id_element accepted_part unit_fseid
      body_found k i =
          let t = said gs k i in
          skip_if k i t (eqb kind establishment || eqb kind set_deletion) ie.node_id (0 ∷ be 4 home) _ (node_fits home) refl refl
          (skip_one k i t ie.cause (v.cause ∷ []) _ (one_fits s hs ie.cause (lit< tt) v.cause) refl refl
          (skip_offending k i t v.offending _
          (subst (λ (c : ℕ). Gives k i t (pick (eqb c 1) (accepted_part kind s home n gs) [])) (sym yes')
          (skip_if k i t (eqb kind establishment) ie.fseid (fseid_octets n (be 4 home) []) (created s gs) (fseid_fits home n) refl refl (created_value k i)))))

-- ---- what the live set reads

module _ (s : Settings) (hs : T (settings_allowed s)) (who : ℕ) (msg : List ℕ) (long : header_length msg ≤ length msg) (n : ℕ) (v : Verdict) (yes' : v.cause ≡ why.accepted) (gs : Reports) (few : FewReports gs)
    (space : List ℕ) where
  body_fits : length (reply_body (kind_of msg) s (peer_of s who).address n v gs) ≤ 2000
  body_fits = le_trans (body_short s hs (kind_of msg) (peer_of s who).address n v gs (λ _. few)) (lit≤ tt)

  pub accepted_cause : reply_cause (put 0 (reply s who msg n v gs) space) ≡ 1
  accepted_cause = reply_cause_lem s who msg n v gs space (sequence_three msg long) body_fits ∙ yes'

  pub accepted_got : T (all report_fits gs.pdrs) × T (all report_fits gs.endpoints) → (k : Kind) (i : ℕ) → created_got (put 0 (reply s who msg n v gs) space) k i ≡ said gs k i
  unfolding created_got created_teid created_address created_group
  accepted_got fits k i =
      ap (λ (es : List Element). value_of (find_by (is_created k i) es))
      (reply_elements_lem s who msg n v gs space (sequence_three msg long) body_fits)
      ∙ body_found s hs gs fits (kind_of msg) (peer_of s who).address n v yes' k i 0

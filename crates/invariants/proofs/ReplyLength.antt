-- A reply has at most 1,280 octets, so it always fits the space that outcome 2 lets pass.
-- Assumes nothing.
use mathlib.Core.Path.{◌≡◌, ap, ◌∙◌}
use Prim.Native.Nat.{ℕ, ◌+◌, ◌*◌, ◌≤◌, zero-le}
use native.Mathlib.Nat.{le_trans, le_of_eq, mul-le-mul_right}
use native.Mathlib.Omega.{arith}
use mathlib.Core.Bool.{Bool, true, false, ◌||◌}
use mathlib.Core.Option.{Option, none, some}
use mathlib.Core.List.{List, [], ◌∷◌, ◌++◌, append-nil}
use lib.ListN.{length, length-append}
use lib.Dec.{T, eqb, eqb→eq}
use Rattle.octets.specs.Choice.{pick}
use Rattle.octets.specs.Octets.{be, concat_map}
use Rattle.octets.proofs.Numbers.{length_be}
use Rattle.octets.proofs.ListLaws.{all_always}
use Rattle.rules.specs.Model.{Settings, Tunnel, Sessions, peer_of}
use Rattle.rules.specs.Elements.{fteid_octets, unit_fteid, fseid_octets}
use Rattle.rules.specs.Sound.{settings_allowed}
use Rattle.rules.specs.Message.{kind_of, establishment, header_length, set_deletion}
use Rattle.rules.specs.Reading.{read_request}
use Rattle.laws.proofs.MessageLaws.{length_one, written, short_map}
use Rattle.rules.specs.Grants.{granted}
use Rattle.rules.specs.Stages.{Verdict, verdict}
use Rattle.rules.specs.Reply.{Report, Reports, element, unit_element, tunnel_part, address_part, reports, chosen_elements, created_pdr_content, created_pdr_element, created_endpoint_content, created_endpoint_element, created, offending_element, node_id_element, unit_fseid, accepted_part, reply_body}
use Rattle.rules.specs.Serve.{reply_to}
use Rattle.rules.specs.Types as ie
use Rattle.rules.specs.Causes as why
use Rattle.laws.proofs.ReplyLaws.{sequence_three, length_reply}
use Rattle.laws.proofs.ReportLaws.{few_pdr_reports, few_endpoint_reports}
use Rattle.laws.proofs.RestorationElements.{unit_short, ue_short}
use Rattle.invariants.proofs.VerdictLaws.{passed, few_new_pdrs, few_new_endpoints}

-- at most 16 Created PDRs and 8 Created Endpoints
pub record FewReports (gs : Reports) : Type 0 where
  pub pdrs : length gs.pdrs ≤ 16
  pub endpoints : length gs.endpoints ≤ 8

module _ (s : Settings) (hs : T (settings_allowed s)) where
  -- ---- the Created groups

  tunnel_short : (o : Option Tunnel) → length (tunnel_part s o) ≤ 29
  unfolding tunnel_part unit_element
  tunnel_short none = zero-le
  tunnel_short (some t) = le_trans (le_of_eq (length_one ie.fteid (fteid_octets (unit_fteid s t)))) (let h = unit_short s hs t in omega arith)

  -- what was chosen: an F-TEID and an address
  chosen_short : (g : Report) → length (chosen_elements s g) ≤ 38
  unfolding chosen_elements
  chosen_short g =
      let a = length-append (tunnel_part s g.local) (address_part g.address) in
      let b = tunnel_short g.local in
      let c = ue_short s hs g.address in
      omega arith

  pub pdr_content_short : (g : Report) → length (created_pdr_content s g) ≤ 44
  unfolding created_pdr_content
  pdr_content_short g =
      let a = length-append (element ie.pdr_id (be 2 g.id)) (chosen_elements s g) in
      let b = length_one ie.pdr_id (be 2 g.id) in
      let c = length_be 2 g.id in
      let d = chosen_short g in
      omega arith

  pub endpoint_content_short : (g : Report) → length (created_endpoint_content s g) ≤ 43
  unfolding created_endpoint_content
  endpoint_content_short g =
      let a = length-append (element ie.endpoint_id (g.id ∷ [])) (chosen_elements s g) in
      let b = length_one ie.endpoint_id (g.id ∷ []) in
      let d = chosen_short g in
      omega arith

  -- 16 of at most 48 octets and 8 of at most 47
  created_short : (gs : Reports) → FewReports gs → length (created s gs) ≤ 1144
  unfolding created created_pdr_element created_endpoint_element written
  created_short gs few =
      let ps = concat_map (created_pdr_element s) gs.pdrs in
      let es = concat_map (created_endpoint_element s) gs.endpoints in
      let a = length-append ps es in
      let b : length ps ≤ 16 * 48 = le_trans (short_map ie.created_pdr (created_pdr_content s) (λ _. true) 44 (λ g _. pdr_content_short g) gs.pdrs (all_always (λ _. true) (λ _. tt) gs.pdrs)) (mul-le-mul_right 48 few.pdrs) in
      let c : length es ≤ 8 * 47 = le_trans (short_map ie.created_endpoint (created_endpoint_content s) (λ _. true) 43 (λ g _. endpoint_content_short g) gs.endpoints (all_always (λ _. true) (λ _. tt) gs.endpoints)) (mul-le-mul_right 47 few.endpoints) in
      omega arith

  -- ---- the whole reply

  -- a part that may be absent
  if_short : (b : Bool) (xs : List ℕ) (k : ℕ) → length xs ≤ k → length (pick b xs []) ≤ k
  if_short true xs k h = h
  if_short false xs k h = zero-le

  -- Node ID
  node_short : (kind home : ℕ) → length (node_id_element kind home) ≤ 9
  unfolding node_id_element
  node_short kind home =
      let a = length_one ie.node_id (0 ∷ be 4 home) in
      let b = length_be 4 home in
      if_short (eqb kind establishment || eqb kind set_deletion) (element ie.node_id (0 ∷ be 4 home)) 9 (omega arith)

  -- F-SEID
  pub fseid_length_lem : (home n : ℕ) → length (fseid_octets n (be 4 home) []) ≡ 13
  unfolding fseid_octets
  fseid_length_lem home n =
      let a = length-append (be 8 n) (be 4 home ++ []) in
      let b = length_be 8 n in
      let e = ap length (append-nil (be 4 home)) in
      let f = length_be 4 home in
      omega arith

  fseid_short : (kind home n : ℕ) → length (unit_fseid kind home n) ≤ 17
  unfolding unit_fseid
  fseid_short kind home n =
      let a = length_one ie.fseid (fseid_octets n (be 4 home) []) in
      let b = fseid_length_lem home n in
      if_short (eqb kind establishment) (element ie.fseid (fseid_octets n (be 4 home) [])) 17 (omega arith)

  -- Offending IE
  offending_short : (o : Option ℕ) → length (offending_element o) ≤ 6
  unfolding offending_element
  offending_short none = zero-le
  offending_short (some t) = le_of_eq (length_one ie.offending_ie (be 2 t) ∙ ap (λ (k : ℕ). 4 + k) (length_be 2 t))

  -- what an acceptance adds
  accepted_short : (kind home n : ℕ) (v : Verdict) (gs : Reports) → (T (eqb v.cause why.accepted) → FewReports gs) → length (pick (eqb v.cause why.accepted) (accepted_part kind s home n gs) []) ≤ 1161
  unfolding accepted_part
  accepted_short kind home n v gs few = one (eqb v.cause why.accepted) few
    where
      one : (b : Bool) → (T b → FewReports gs) → length (pick b (unit_fseid kind home n ++ created s gs) []) ≤ 1161
      one true f =
          let a = length-append (unit_fseid kind home n) (created s gs) in
          let b = fseid_short kind home n in
          let c = created_short gs (f tt) in
          omega arith
      one false f = zero-le

  -- all elements of a reply
  pub body_short : (kind home n : ℕ) (v : Verdict) (gs : Reports) → (T (eqb v.cause why.accepted) → FewReports gs) → length (reply_body kind s home n v gs) ≤ 1181
  unfolding reply_body
  body_short kind home n v gs few =
      let node = node_id_element kind home in
      let cause = element ie.cause (v.cause ∷ []) in
      let named = offending_element v.offending in
      let last = pick (eqb v.cause why.accepted) (accepted_part kind s home n gs) [] in
      let a = length-append node (cause ++ (named ++ last)) in
      let b = length-append cause (named ++ last) in
      let c = length-append named last in
      let d = node_short kind home in
      let e = length_one ie.cause (v.cause ∷ []) in
      let f = offending_short v.offending in
      let g = accepted_short kind home n v gs few in
      omega arith

-- ---- every reply

module _ (s : Settings) (hs : T (settings_allowed s)) (who : ℕ) (m : Sessions) (msg : List ℕ) where
  -- what an accepted request reports
  abbrev reported : Reports
  reported = reports (granted s m (read_request msg)) (read_request msg)

  -- its reports are few
  pub reports_few : (verdict s who m msg).cause ≡ why.accepted → FewReports reported
  reports_few e =
      let p = passed s who m msg e in
      record {
        pdrs = le_trans (few_pdr_reports (granted s m (read_request msg)) (read_request msg)) (few_new_pdrs p);
        endpoints = le_trans (few_endpoint_reports (granted s m (read_request msg)) (read_request msg)) (few_new_endpoints p);
      }

  -- what stands behind the header
  pub reply_body_short : length (reply_body (kind_of msg) s (peer_of s who).address (read_request msg).seid (verdict s who m msg) reported) ≤ 1181
  reply_body_short =
      body_short s hs (kind_of msg) (peer_of s who).address (read_request msg).seid (verdict s who m msg) reported (λ h. reports_few (eqb→eq (verdict s who m msg).cause why.accepted h))

  -- a reply has at most 1,197 octets, and so at most 1,280
  pub reply_short : header_length msg ≤ length msg → length (reply_to s who m msg (verdict s who m msg)) ≤ 1197
  unfolding reply_to
  reply_short long =
      let c = reply_body_short in
      let a = length_reply s who msg (read_request msg).seid (verdict s who m msg) reported [] (sequence_three msg long) (omega arith) in
      omega arith

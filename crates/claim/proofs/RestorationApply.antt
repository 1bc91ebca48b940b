-- What a restoration request does: it puts its session into the table.
-- Assumes nothing.
use mathlib.Core.Path.{◌≡◌, refl, sym, ap, ap₂, ◌∙◌}
use Prim.Native.Nat.{ℕ, ◌≤◌, ◌<◌}
use native.Mathlib.Nat.{le_trans}
use native.Mathlib.Omega.{arith}
use mathlib.Core.Bool.{Bool, true, false, not, ◌&&◌, ◌||◌}
use mathlib.Core.Option.{Option, none, some}
use mathlib.Core.List.{List, [], ◌∷◌, ◌++◌, map, append-nil}
use lib.ListN.{length}
use lib.Dec.{T, leb, ltb, eqb, ltb→lt, lt→ltb, lit≤}
use lib.Seq.{append_snoc}
use mir.Facts.{no_leb, no_ltb}
use Rattle.octets.specs.Choice.{pick, map_option}
use Rattle.octets.specs.Lists.{keep, all, ascending, insert_by, insert_all, any_in}
use Rattle.octets.specs.Octets.{put}
use Rattle.octets.proofs.Tests.{pick_yes, pick_no, all_head, all_tail, all_cons, no_eqb, ascending_head, ascending_tail}
use Rattle.rules.specs.Model.{Settings, Tunnel, Match, neither, tunnel, endpoint, Pdr, Endpoint, Csid, Session, Sessions, endpoint_id, pdr_id, node_type_of, matched_tunnel, matched_endpoint, session_teids, held_teids, session_addresses, held_addresses, key_for, session_key, is_peer}
use Rattle.rules.specs.Elements.{unit_fteid, ue_given}
use Rattle.rules.specs.Limits.{max_message, min_space}
use Rattle.rules.specs.Layout.{encode}
use Rattle.rules.specs.Sound.{settings_allowed, tunnel_allowed, match_allowed, pdr_allowed, endpoint_allowed, session_allowed, sessions_allowed, sound}
use Rattle.laws.proofs.KeptRules.{pdr_kept, endpoint_kept, session_kept}
use Rattle.laws.proofs.LayoutLaws.{pdrs_ok, endpoints_ok}
use Rattle.laws.proofs.TableLaws.{sound_encode, encoded_settings, sessions_back}
use Rattle.rules.specs.Message.{header_seid, header_allowed, served, frame_fault, establishment, modification, deletion, set_deletion}
use Rattle.rules.specs.Request.{Request}
use Rattle.rules.specs.Grants.{Kind, Got, granted}
use Rattle.rules.specs.Stages.{new_session, at_entry, is_live, plain, judge, entry_session, judged, from_reading, verdict_from, unknown_session, verdict, unnamed}
use Rattle.rules.specs.Apply.{tunnel_from, named_match, match_from, address_got, address_from, made_pdr, made_endpoint, update_all, other_node, set_csid, set_csids, follow_csids, pdrs_after, endpoints_after, apply, put_session, follow, pdr_by}
use Rattle.rules.specs.Serve.{unserved, sessions_after, reply_to, answered, answer, serve_sound, serve, serve_of}
use Rattle.rules.specs.Restoration.{Sender, sender_allowed, restoration, restored_pdr, restored_endpoint, restored_request, record_csid}
use Rattle.rules.specs.Causes as why
use Rattle.laws.proofs.RestorationRead.{msg_allowed, msg_kind, msg_short, msg_framed, msg_sound, msg_request}
use Rattle.claim.proofs.RestorationJudge.{v4_same, v6_same, unit_families_lem, restored_judged, RoomFor}
use Rattle.laws.proofs.PeerLaws.{known_peer}

-- ---- putting in what ascends

module _ {A : Type 0} (key : A → ℕ) where
  -- the keys of a list are below the first of another
  abbrev pub Under : List A → List A → Type 0
  Under acc [] = Unit {0}
  Under acc (r ∷ rs) = T (all (λ y. ltb (key y) (key r)) acc)

  insert_end : (a : A) (acc : List A) → T (all (λ y. ltb (key y) (key a)) acc) → insert_by key a acc ≡ acc ++ a ∷ []
  unfolding insert_by
  insert_end a [] h = refl
  insert_end a (y ∷ acc) h =
      let less = ltb→lt (key y) (key a) (all_head (λ z. ltb (key z) (key a)) y acc h) in
      pick_no (leb (key a) (key y)) _ _ (no_leb less) ∙ ap (λ (ys : List A). y ∷ ys) (insert_end a acc (all_tail (λ z. ltb (key z) (key a)) y acc h))

  under_end : (acc : List A) (r r' : A) → key r < key r' → T (all (λ y. ltb (key y) (key r)) acc) → T (all (λ y. ltb (key y) (key r')) (acc ++ r ∷ []))
  under_end [] r r' up h = all_cons (λ y. ltb (key y) (key r')) r [] (lt→ltb (key r) (key r') up) (unfold all in tt)
  under_end (y ∷ acc) r r' up h =
      let less = ltb→lt (key y) (key r) (all_head (λ z. ltb (key z) (key r)) y acc h) in
      all_cons (λ z. ltb (key z) (key r')) y (acc ++ r ∷ []) (lt→ltb (key y) (key r') (omega arith)) (under_end acc r r' up (all_tail (λ z. ltb (key z) (key r)) y acc h))

  pub under_next : (acc : List A) (r : A) (rs : List A) → T (ascending (map key (r ∷ rs))) → T (all (λ y. ltb (key y) (key r)) acc) → Under (acc ++ r ∷ []) rs
  under_next acc r [] up h = tt
  under_next acc r (r' ∷ rs) up h = under_end acc r r' (ascending_head (key r) (key r') (map key rs) up) h

  pub insert_all_up : (rs acc : List A) → T (ascending (map key rs)) → Under acc rs → insert_all key rs acc ≡ acc ++ rs
  unfolding insert_all
  insert_all_up [] acc up h = sym (append-nil acc)
  insert_all_up (r ∷ rs) acc up h =
      ap (insert_all key rs) (insert_end r acc h)
      ∙ insert_all_up rs (acc ++ r ∷ []) (ascending_tail (key r) (map key rs) up) (under_next acc r rs up h)
      ∙ append_snoc acc r rs

  pub under_nil : (rs : List A) → Under [] rs
  unfolding all
  under_nil [] = tt
  under_nil (r ∷ rs) = tt

-- FQ-CSIDs of other node types stay
keep_others : (n : ℕ) (ds : List Csid) → T (all (λ y. ltb y.node_type n) ds) → keep (other_node n) ds ≡ ds
unfolding keep other_node
keep_others n [] h = refl
keep_others n (d ∷ ds) h =
    let less = ltb→lt d.node_type n (all_head (λ y. ltb y.node_type n) d ds h) in
    pick_yes (not (eqb d.node_type n)) _ _ (no_eqb d.node_type n (omega arith))
    ∙ ap (λ (es : List Csid). d ∷ es) (keep_others n ds (all_tail (λ y. ltb y.node_type n) d ds h))

csids_set : (cs ds : List Csid) → T (ascending (map node_type_of cs)) → Under node_type_of ds cs → set_csids (map record_csid cs) ds ≡ ds ++ cs
unfolding set_csids set_csid record_csid
csids_set [] ds up h = sym (append-nil ds)
csids_set (c ∷ cs) ds up h =
    ap (set_csids (map record_csid cs)) (ap (insert_by node_type_of c) (keep_others c.node_type ds h) ∙ insert_end node_type_of c ds h)
    ∙ csids_set cs (ds ++ c ∷ []) (ascending_tail c.node_type (map node_type_of cs) up) (under_next node_type_of ds c cs up h)
    ∙ append_snoc ds c cs

module _ (s : Settings) (hs : T (settings_allowed s)) where
  tunnel_again : (n : ℕ) (t : Tunnel) → T (tunnel_allowed s t) → tunnel_from n (unit_fteid s t) ≡ t
  unfolding tunnel_from unit_fteid
  tunnel_again n t h = λ i. record { teid = t.teid; v4 = v4_same s hs t.v4 i; v6 = v6_same s hs t.v6 (unit_families_lem s hs t h) i }

  match_again : (n : ℕ) (live : List ℕ) (l : Match) → T (match_allowed s live l) → match_from n (map_option (unit_fteid s) (matched_tunnel l)) (matched_endpoint l) ≡ l
  unfolding match_from named_match matched_tunnel matched_endpoint match_allowed
  match_again n live neither h = refl
  match_again n live (tunnel t) h = ap tunnel (tunnel_again n t h)
  match_again n live (endpoint e) h = refl

  address_again : (n : ℕ) (o : Option ℕ) → address_from n (map_option ue_given o) ≡ o
  unfolding address_from address_got
  address_again n none = refl
  address_again n (some a) = refl

  pdrs_again : (got : Kind → ℕ → Got) (live : List ℕ) (ps : List Pdr) → T (all (pdr_allowed s live) ps) → map (made_pdr got) (map (restored_pdr s) ps) ≡ ps
  unfolding made_pdr restored_pdr
  pdrs_again got live [] h = refl
  pdrs_again got live (p ∷ ps) h =
      let e = pdr_kept s live p (all_head (pdr_allowed s live) p ps h) in
      λ i. pdr_by (restored_pdr s p) (match_again (got Kind.of_pdr p.id).teid live p.match e.match i) (address_again (got Kind.of_pdr p.id).address p.address i)
      ∷ pdrs_again got live ps (all_tail (pdr_allowed s live) p ps h) i

  endpoints_again : (got : Kind → ℕ → Got) (es : List Endpoint) → T (all (endpoint_allowed s) es) → map (made_endpoint got) (map (restored_endpoint s) es) ≡ es
  unfolding made_endpoint restored_endpoint
  endpoints_again got [] h = refl
  endpoints_again got (e ∷ es) h =
      λ i. record { id = e.id; local = tunnel_again (got Kind.of_endpoint e.id).teid e.local (endpoint_kept s e (all_head (endpoint_allowed s) e es h)).local i; address = address_again (got Kind.of_endpoint e.id).address e.address i }
      ∷ endpoints_again got es (all_tail (endpoint_allowed s) e es h) i

  module _ (x : Session) (hx : T (session_allowed s x)) where
    up_pdrs : T (ascending (map pdr_id x.pdrs))
    up_pdrs = (session_kept s x hx).records.pdr_order

    up_endpoints : T (ascending (map endpoint_id x.endpoints))
    up_endpoints = (session_kept s x hx).records.endpoint_order

    up_csids : T (ascending (map node_type_of x.csids))
    up_csids = (session_kept s x hx).records.csid_order

    -- the request makes the session
    pub applied : (got : Kind → ℕ → Got) → apply got (restored_request s x) (new_session x.peer x.seid) ≡ x
    unfolding apply restored_request new_session pdrs_after endpoints_after follow_csids update_all keep
    applied got =
        λ i. record {
          peer = x.peer;
          seid = x.seid;
          pdrs = (ap (λ (ps : List Pdr). insert_all pdr_id ps []) (pdrs_again got (map endpoint_id x.endpoints) x.pdrs (pdrs_ok s hs x hx))
              ∙ insert_all_up pdr_id x.pdrs [] up_pdrs (under_nil pdr_id x.pdrs)) i;
          endpoints = (ap (λ (es : List Endpoint). insert_all endpoint_id es []) (endpoints_again got x.endpoints (endpoints_ok s hs x hx))
              ∙ insert_all_up endpoint_id x.endpoints [] up_endpoints (under_nil endpoint_id x.endpoints)) i;
          csids = csids_set x.csids [] up_csids (under_nil node_type_of x.csids) i;
        }

    -- ---- the call

    module _ (m : Sessions) (fresh : is_live (session_key x) m ≡ false) (room : RoomFor s x m)
        (separate : T (not (any_in (session_teids x) (held_teids m)))) (separate_addresses : T (not (any_in (session_addresses s x) (held_addresses s m)))) (p : Sender) (hp : T (sender_allowed p)) where
      abbrev msg : List ℕ
      msg = restoration s p x

      msg_verdict : verdict s x.peer m msg ≡ plain why.accepted
      unfolding verdict unknown_session unnamed verdict_from from_reading judged entry_session
      msg_verdict =
          ap (λ (k : ℕ). pick (not (unnamed k) && not (is_live (key_for x.peer (header_seid msg)) m)) (plain why.no_session) (verdict_from s x.peer m msg (frame_fault msg))) (msg_kind s hs p hp x hx)
          ∙ ap (verdict_from s x.peer m msg) (msg_framed s hs p hp x hx)
          ∙ ap (from_reading s x.peer m msg) (msg_sound s hs p hp x hx)
          ∙ ap₂ (λ (k : ℕ) (r : Request). judge k s x.peer m (at_entry k x.peer (header_seid msg) r m) r) (msg_kind s hs p hp x hx) (msg_request s hs p hp x hx)
          ∙ at_new
        where
          at_new : judge establishment s x.peer m (at_entry establishment x.peer (header_seid msg) (restored_request s x) m) (restored_request s x) ≡ plain why.accepted
          at_new = unfold at_entry unnamed restored_request in (restored_judged s hs x hx m fresh room separate separate_addresses)

      msg_after : sessions_after s x.peer m msg ≡ put_session x m
      unfolding sessions_after follow at_entry unnamed
      msg_after =
          ap₂ (λ (k : ℕ) (r : Request). follow (granted s m r) k x.peer (header_seid msg) r m) (msg_kind s hs p hp x hx) (msg_request s hs p hp x hx)
          ∙ ap (λ (y : Session). put_session y m) made
        where
          made : apply (granted s m (restored_request s x)) (restored_request s x) (new_session x.peer (restored_request s x).seid) ≡ x
          made = unfold restored_request in (applied (granted s m (restored_request s x)))

      -- a restoration into a table of other sessions is accepted, and puts its session in
      pub restored_call : T (sessions_allowed s m) → (space : List ℕ) → min_space ≤ length space
          → serve (encode s m) x.peer msg space ≡ record { outcome = 0; place = 0; space = put 0 (reply_to s x.peer m msg (plain why.accepted)) space; table = encode s (put_session x m) }
      unfolding serve serve_of serve_sound answer answered served
      restored_call hm space long =
          let t = encode s m in
          let short : length msg ≤ max_message = le_trans (msg_short s hs p hp x hx) (lit≤ tt) in
          pick_yes (is_peer x.peer) _ _ (known_peer s x hx)
          ∙ pick_yes (sound t) _ _ (sound_encode s hs m hm)
          ∙ ap₂ (λ (s' : Settings) (m' : Sessions). serve_sound s' x.peer m' t msg space) (encoded_settings s hs m hm) (sessions_back s hs m hm)
          ∙ pick_no (ltb (length space) min_space) _ _ (no_ltb long)
          ∙ pick_no (ltb max_message (length msg)) _ _ (no_ltb short)
          ∙ pick_no (not (header_allowed msg)) _ _ (twice (header_allowed msg) (msg_allowed s hs p hp x hx))
          ∙ ap (λ (k : ℕ). pick (not (eqb k establishment || eqb k modification || eqb k deletion || eqb k set_deletion)) (unserved 5 space t) (answer s x.peer m msg space t)) (msg_kind s hs p hp x hx)
          ∙ ap (answered s x.peer m msg space t) msg_verdict
          ∙ ap (λ (m' : Sessions). record { outcome = 0; place = 0; space = put 0 (reply_to s x.peer m msg (plain why.accepted)) space; table = encode s m' }) msg_after
        where
          twice : (b : Bool) → T b → T (not (not b))
          twice true h = tt
          twice false h = absurd h

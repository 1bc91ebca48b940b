-- Sessions restored one after the other, in any order, into an empty table make the table that holds them.
-- Assumes nothing.
use mathlib.Core.Path.{◌≡◌, refl, sym, ap, ap₂, ◌∙◌, subst}
use Prim.Native.Nat.{ℕ, ◌≤◌}
use native.Mathlib.Nat.{le_trans, le_of_eq}
use mathlib.Core.Bool.{Bool, true, ◌&&◌}
use mathlib.Core.List.{List, [], ◌∷◌, map, Permᴰ}
use lib.ListN.{length, length-map}
use lib.Dec.{T, leb, eqb, leb→le}
use Rattle.octets.specs.Octets.{octets, put}
use Rattle.octets.specs.Lists.{all, all_pairs, insert_by, insert_all}
use Rattle.octets.proofs.Tests.{each, all_head, all_tail, all_cons, of_true}
use Rattle.octets.proofs.Ordered.{all_perm, pairs_head, pairs_tail, pairs_perm, other_key, insert_all_perm, insert_all_lem, ascending_other}
use Rattle.rules.specs.Model.{Settings, Session, Sessions, session_key}
use Rattle.rules.specs.Limits.{min_space}
use Rattle.rules.specs.Layout.{encode}
use Rattle.laws.proofs.LayoutLaws.{few_pdrs, few_endpoints}
use Rattle.laws.proofs.ReportLaws.{few_pdr_reports, few_endpoint_reports}
use Rattle.rules.specs.Sound.{settings_allowed, session_allowed, apart, sessions_allowed}
use Rattle.rules.specs.Reading.{read_request}
use Rattle.rules.specs.Request.{Request}
use Rattle.rules.specs.Grants.{granted}
use Rattle.rules.specs.Stages.{plain}
use Rattle.rules.specs.Apply.{put_session}
use Rattle.rules.specs.Reply.{reports}
use Rattle.rules.specs.Serve.{Served, reply_to, serve}
use Rattle.rules.specs.Live.{accepted_event, reply_cause}
use Rattle.rules.specs.Restoration.{Sender, sender_allowed, restoration, restored_pdr, restored_endpoint, restored_request}
use Rattle.laws.proofs.RestorationRead.{msg_allowed, msg_request}
use Rattle.invariants.proofs.ReplyLength.{FewReports}
use Rattle.invariants.proofs.GrantReply.{accepted_cause}
use Rattle.claim.proofs.RestorationApply.{restored_call, insert_all_up, under_nil}
use Rattle.rules.specs.Calls.{table_after_call, event_of, table_after_all, events_of}
use Rattle.rules.specs.Claim.{Restore, restored, restore_allowed, restore_call, restore_calls}
use Rattle.rules.specs.Causes as why
use Rattle.laws.proofs.HeaderLaws.{header_long}
use Rattle.invariants.proofs.Beside.{apart_turn, other_seid_turn, separate_all, separate_addresses, fresh_seid, put_fresh, insert_allowed, empty_allowed, insert_apart}
use Rattle.laws.proofs.PeerLaws.{known_peer, peers_kept_lem}
use Rattle.laws.proofs.KeptRules.{SessionsKept, sessions_kept}
use Rattle.claim.proofs.PeersRestored.{Weighs, weighs_first, weighs_next, weighs_kept, room_next}
use Rattle.claim.proofs.RestorationJudge.{RoomFor}

-- ---- the reply is an acceptance

module _ (s : Settings) (hs : T (settings_allowed s)) where
  module _ (x : Session) (hx : T (session_allowed s x)) (p : Sender) (hp : T (sender_allowed p)) (m : Sessions) where
    abbrev msg : List ℕ
    msg = restoration s p x

    -- no more reports than records
    few : FewReports (reports (granted s m (read_request msg)) (read_request msg))
    few =
        let got = granted s m (read_request msg) in
        let e = msg_request s hs p hp x hx in
        record {
          pdrs = le_trans (few_pdr_reports got (read_request msg)) (le_trans (le_of_eq (ap (λ (r : Request). length r.pdrs) e ∙ restored_pdrs)) (few_pdrs s hs x hx));
          endpoints = le_trans (few_endpoint_reports got (read_request msg)) (le_trans (le_of_eq (ap (λ (r : Request). length r.endpoints) e ∙ restored_endpoints)) (few_endpoints s hs x hx));
        }
      where
        restored_pdrs : length (restored_request s x).pdrs ≡ length x.pdrs
        restored_pdrs = unfold restored_request in (length-map x.pdrs (restored_pdr s))

        restored_endpoints : length (restored_request s x).endpoints ≡ length x.endpoints
        restored_endpoints = unfold restored_request in (length-map x.endpoints (restored_endpoint s))

    pub restored_cause : (space : List ℕ) → reply_cause (put 0 (reply_to s x.peer m msg (plain why.accepted)) space) ≡ 1
    unfolding reply_to
    restored_cause space = accepted_cause s hs x.peer msg (header_long msg (msg_allowed s hs p hp x hx)) (read_request msg).seid (plain why.accepted) refl (reports (granted s m (read_request msg)) (read_request msg)) few space

-- ---- one after the other

-- what stands beside a list of sessions stands beside it with one more
beside_insert : (r : Session → Session → Bool) → ((x y : Session) → T (r x y) → T (r y x)) → (x : Session) (m xs : Sessions)
    → T (all (r x) xs) → T (all (λ y. all (r y) m) xs) → T (all (λ y. all (r y) (insert_by session_key x m)) xs)
unfolding all
beside_insert r turn x m [] h k = tt
beside_insert r turn x m (y ∷ xs) h k =
    all_cons (λ z. all (r z) (insert_by session_key x m)) y xs
    (insert_all_lem session_key (r y) x m (turn x y (all_head (r x) y xs h)) (all_head (λ z. all (r z) m) y xs k))
    (beside_insert r turn x m xs (all_tail (r x) y xs h) (all_tail (λ z. all (r z) m) y xs k))

-- sessions that can be put in one after the other
pub record Ready (s : Settings) (m : Sessions) (xs : Sessions) : Type 0 where
  pub sound : T (sessions_allowed s m)
  pub allowed : T (all (session_allowed s) xs)
  pub seids : T (all_pairs (other_key session_key) xs)
  pub separate : T (all_pairs (apart s) xs)
  pub new_seids : T (all (λ x. all (other_key session_key x) m) xs)
  pub beside : T (all (λ x. all (apart s x) m) xs)
  pub weighs : Weighs s m xs

ready_next : (s : Settings) (m : Sessions) (x : Session) (xs : Sessions) → Ready s m (x ∷ xs) → Ready s (insert_by session_key x m) xs
ready_next s m x xs r =
    let next = weighs_next s x m xs r.weighs in
    let far = insert_apart s x m (all_head (λ y. all (apart s y) m) x xs r.beside) (sessions_kept s m r.sound).separate in
    record {
      sound = insert_allowed s x m r.sound (all_head (session_allowed s) x xs r.allowed) (all_head (λ y. all (other_key session_key y) m) x xs r.new_seids)
          (all_head (λ y. all (apart s y) m) x xs r.beside) (weighs_kept s (insert_by session_key x m) xs far next);
      allowed = all_tail (session_allowed s) x xs r.allowed;
      seids = pairs_tail (other_key session_key) x xs r.seids;
      separate = pairs_tail (apart s) x xs r.separate;
      new_seids = beside_insert (other_key session_key) other_seid_turn x m xs (pairs_head (other_key session_key) x xs r.seids) (all_tail (λ y. all (other_key session_key y) m) x xs r.new_seids);
      beside = beside_insert (apart s) (apart_turn s) x m xs (pairs_head (apart s) x xs r.separate) (all_tail (λ y. all (apart s y) m) x xs r.beside);
      weighs = next;
    }

-- Claim.restore_allowed by name
pub record RestoreKept (r : Restore) : Type 0 where
  pub sender : T (sender_allowed r.sender)
  pub octets : T (octets r.space)
  pub room : min_space ≤ length r.space

-- from the tests to the names
pub restore_kept : (r : Restore) → T (restore_allowed r) → RestoreKept r
unfolding restore_allowed
restore_kept r h =
    let e = each (sender_allowed r.sender ∷ octets r.space ∷ leb min_space (length r.space) ∷ []) h in
    record { sender = e.0; octets = e.1.0; room = leb→le min_space (length r.space) e.1.1.0 }

module _ (s : Settings) (hs : T (settings_allowed s)) where
  -- one restoration: the table after it, and its acceptance
  module _ (m : Sessions) (r : Restore) (ok : T (restore_allowed r)) (xs : Sessions) (ready : Ready s m (r.session ∷ xs)) where
    given : RestoreKept r
    given = restore_kept r ok

    abbrev x : Session
    x = r.session

    hx : T (session_allowed s x)
    hx = all_head (session_allowed s) x xs ready.allowed

    other : T (all (other_key session_key x) m)
    other = all_head (λ y. all (other_key session_key y) m) x xs ready.new_seids

    fits : RoomFor s x m
    fits = room_next s x m xs (known_peer s x hx) (sessions_kept s m ready.sound).separate ready.weighs

    call : serve (encode s m) x.peer (restoration s r.sender x) r.space
        ≡ record { outcome = 0; place = 0; space = put 0 (reply_to s x.peer m (restoration s r.sender x) (plain why.accepted)) r.space; table = encode s (put_session x m) }
    call =
        restored_call s hs x hx m (fresh_seid x m other) fits (separate_all s x m (all_head (λ y. all (apart s y) m) x xs ready.beside))
        (separate_addresses s x m (all_head (λ y. all (apart s y) m) x xs ready.beside)) r.sender given.sender
        ready.sound r.space given.room

    table_after_lem : table_after_call (encode s m) (restore_call s r) ≡ encode s (insert_by session_key x m)
    unfolding table_after_call restore_call
    table_after_lem = ap (λ (v : Served). v.table) call ∙ ap (encode s) (put_fresh x m other)

    is_accepted : T (accepted_event (event_of (encode s m) (restore_call s r)))
    unfolding accepted_event event_of restore_call
    is_accepted = of_true (ap₂ (λ (o : ℕ) (l : List ℕ). eqb o 0 && eqb (reply_cause l) 1) (ap (λ (v : Served). v.outcome) call) (ap (λ (v : Served). v.space) call) ∙ ap (λ (c : ℕ). eqb c 1) (restored_cause s hs x hx r.sender given.sender m r.space))

  run_table : (rs : List Restore) (m : Sessions) → T (all restore_allowed rs) → Ready s m (map restored rs)
      → table_after_all (encode s m) (restore_calls s rs) ≡ encode s (insert_all session_key (map restored rs) m)
  unfolding table_after_all restore_calls insert_all
  run_table [] m ok ready = refl
  run_table (r ∷ rs) m ok ready =
      ap (λ (t : List ℕ). table_after_all t (restore_calls s rs)) (table_after_lem m r (all_head restore_allowed r rs ok) (map restored rs) ready)
      ∙ run_table rs (insert_by session_key r.session m) (all_tail restore_allowed r rs ok) (ready_next s m r.session (map restored rs) ready)

  run_accepted : (rs : List Restore) (m : Sessions) → T (all restore_allowed rs) → Ready s m (map restored rs)
      → T (all accepted_event (events_of (encode s m) (restore_calls s rs)))
  unfolding events_of restore_calls all
  run_accepted [] m ok ready = tt
  run_accepted (r ∷ rs) m ok ready =
      all_cons accepted_event (event_of (encode s m) (restore_call s r)) (events_of (table_after_call (encode s m) (restore_call s r)) (restore_calls s rs))
      (is_accepted m r (all_head restore_allowed r rs ok) (map restored rs) ready)
      (subst (λ (t : List ℕ). T (all accepted_event (events_of t (restore_calls s rs)))) (sym (table_after_lem m r (all_head restore_allowed r rs ok) (map restored rs) ready))
      (run_accepted rs (insert_by session_key r.session m) (all_tail restore_allowed r rs ok) (ready_next s m r.session (map restored rs) ready)))

  -- ---- in any order

  module _ (m : Sessions) (hm : T (sessions_allowed s m)) (rs : List Restore) (ok : T (all restore_allowed rs)) (order : Permᴰ m (map restored rs)) where
    kept : SessionsKept s m
    kept = sessions_kept s m hm

    ready : Ready s [] (map restored rs)
    unfolding all
    ready =
        record {
          sound = empty_allowed s hs;
          allowed = all_perm (session_allowed s) order kept.sessions;
          seids = pairs_perm (other_key session_key) other_seid_turn order (ascending_other session_key m kept.order);
          separate = pairs_perm (apart s) (apart_turn s) order kept.separate;
          new_seids = nothing (map restored rs);
          beside = nothing (map restored rs);
          weighs = weighs_first s m (map restored rs) kept.separate (peers_kept_lem s m hm) order;
        }
      where
        nothing : (xs : Sessions) → T (all (λ x. true) xs)
        nothing [] = tt
        nothing (y ∷ ys) = nothing ys

    -- the restored table is the table of the sessions
    pub restored_table : table_after_all (encode s []) (restore_calls s rs) ≡ encode s m
    restored_table =
        run_table rs [] ok ready
        ∙ ap (encode s) (sym (insert_all_perm session_key order (ascending_other session_key m kept.order) []) ∙ insert_all_up session_key m [] kept.order (under_nil session_key m))

    -- and every restoration is accepted
    pub restored_accepted : T (all accepted_event (events_of (encode s []) (restore_calls s rs)))
    restored_accepted = run_accepted rs [] ok ready

-- The accident does not happen in any run of the exported calls: released is removed, and no two patients have one TEID or one address of the pool.
-- Assumes nothing.
use mathlib.Core.Path.{◌≡◌, refl, sym, ap, ◌∙◌, subst}
use Prim.Native.Nat.{ℕ, ◌-◌, ◌≤◌}
use native.Mathlib.Omega.{arith}
use mathlib.Core.Bool.{Bool, true, false, not}
use mathlib.Core.Option.{Option, none, some}
use mathlib.Core.List.{List, [], ◌∷◌, ◌++◌, map}
use lib.ListN.{length}
use lib.Dec.{T, T_not, not_T, eqb, eqb→eq}
use Rattle.rules.specs.Elements.{UeIp, ue_chooses}
use Rattle.octets.specs.Choice.{pick, value_or, map_option, is_some, cons_option}
use Rattle.octets.specs.Lists.{member, all, any, find_by, keep, collect}
use Rattle.octets.proofs.Tests.{is_true, is_false, all_cons, pick_no, pick_yes, of_true}
use Rattle.octets.proofs.Ordered.{keep_passes}
use Rattle.octets.proofs.ListLaws.{Every, by_test, or_right, all_every, all_map, found_knows, or_by_right, or_by_left}
use Rattle.octets.proofs.MemberLaws.{member_passes}
use Rattle.rules.specs.Model.{Settings, Session, Sessions, teid_of, session_holdings, session_teids, held_teids, free_count, free_teids, in_address_pool, session_addresses, held_addresses, free_address_count, free_addresses}
use Rattle.rules.specs.Layout.{view_settings, view_sessions}
use Rattle.rules.specs.Sound.{in_pool, sessions_allowed, sound, broken, free, count_free, marked}
use Rattle.rules.specs.Message.{kind_of, deletion, set_deletion}
use Rattle.rules.specs.Reading.{read_request}
use Rattle.rules.specs.Request.{Request, NewPdr, NewEndpoint}
use Rattle.rules.specs.Grants.{Kind, of_pdr, of_endpoint, chosen_address, choices, Grant, grant_of, grant_teid, is_grant_for, grants, granted_teid, need}
use Rattle.rules.specs.Stages.{new_session, new_pdr_address, new_endpoint_address, addresses_of, entry_session, unnamed, at_entry}
use Rattle.rules.specs.Apply.{kept_pdr, kept_endpoint}
use Rattle.rules.specs.Serve.{Served, serve}
use Rattle.rules.specs.Live.{replied, accepted_event, created_teid, created_address}
use Rattle.rules.specs.Claim.{map_of, address_map_of, Holds}
use Rattle.pool.proofs.TakenLaws.{means_test, map_means, pool_from}
use Rattle.pool.proofs.AddressLaws.{as_pool, address_map_means}
use Rattle.invariants.proofs.GrantLaws.{enough}
use Rattle.invariants.proofs.GrantedTeids.{as_grant, granted_from, granted_grants, granted_all}
use Rattle.invariants.proofs.PoolLaws.{free_in_pool, free_not_held, addresses_in_pool, addresses_not_held}
use Rattle.invariants.proofs.FreeAddresses.{address_free_there, free_address_count_lem}
use Rattle.invariants.proofs.OneHolder.{one_teid_holder, one_address_holder}
use Rattle.invariants.proofs.ChangedAddresses.{staying_addresses}
use Rattle.invariants.proofs.FreeTeids.{free_there, held_in_pool, free_count_lem}
use Rattle.laws.proofs.NeedLaws.{enough_given}
use Rattle.laws.proofs.KeptSettings.{settings_kept}
use Rattle.laws.proofs.KeptRules.{sessions_kept, TableKept, table_kept}
use Rattle.invariants.proofs.ChangedHolds.{staying_holdings}
use Rattle.invariants.proofs.ServeLaws.{serve_sound_lem}
use Rattle.invariants.proofs.AcceptedCall.{chooses_address, AcceptedCall, accepted_call, next_removed, next_deleted, next_listed, next_removed_address, next_deleted_address, next_listed_address, address_chosen}
use Rattle.pfcp_session.specs.Calls.{count_answer, count_call, address_count_call, RequestCall}
use Rattle.promises.specs.Runs.{Run, live_after, table_after, HostClaim}
use Rattle.promises.specs.Accident.{entries_after, Accepted, OutOfUse, Released, AddressReleased, unremoved, spared, goes_of, ReleasedIsRemoved, holds, OneHolder, chooses_ip, fresh_address, fresh_pdr, fresh_endpoint, NoTwoPatients}
use Rattle.promises.proofs.RunLaws.{request_step, host_claim}
use Rattle.laws.proofs.HeaderLaws.{unnamed_sets}

-- ---- what a run leaves

-- a table whose TEIDs are counted is not broken
pub counted_sound : (t : List ℕ) (n : ℕ) → count_free t ≡ free n → T (sound t)
unfolding count_free
counted_sound t n e = one (sound t) (free_count (view_settings t) (view_sessions t)) e
  where
    one : (b : Bool) (k : ℕ) → pick b (free k) broken ≡ free n → T b
    one true k e' = tt
    one false k e' = let z : ◌≡◌ {A = ℕ} 0 1 = cc in absurd (omega arith)

module _ (run : Run) where
  -- the host's claim of it
  pub left : Holds run.settings (live_after run) (table_after run)
  unfolding HostClaim
  left = (host_claim run).holds

  -- so the table keeps its rules
  kept : TableKept (table_after run)
  kept = table_kept (table_after run) (counted_sound (table_after run) _ left.count)

-- ---- numbers of a pool that are out of use

-- one that no record holds, by its bit and the free ones
unused : {held words given : List ℕ} {first n : ℕ} → marked words (n - first) ≡ member n held → T (not (member n held)) → T (member n given) → OutOfUse held words given first n
unused {held} {words} {given} {first} {n} b g f = record { unheld = g; unmarked = b ∙ is_false (member n held) g; free = f }

module _ (t : List ℕ) (k : TableKept t) where
  abbrev s : Settings
  s = view_settings t

  abbrev m : Sessions
  m = view_sessions t

  -- the bit of a TEID of the pool, or of an address, says whether a record holds it
  bit_says : (n : ℕ) → T (in_pool s n) → marked (map_of t) (n - s.first) ≡ member n (held_teids m)
  unfolding map_of
  bit_says n h = means_test s.first (map_of t) (held_teids m) n (map_means s m k.settings (held_in_pool s m k.sessions)) (pool_from s n h)

  address_bit_says : (a : ℕ) → T (in_address_pool s a) → marked (address_map_of t) (a - s.first_address) ≡ member a (held_addresses s m)
  unfolding address_map_of
  address_bit_says a h = means_test s.first_address (address_map_of t) (held_addresses s m) a (address_map_means s m k.settings) (pool_from (as_pool s) a (unfold in_pool in_address_pool in h))

  -- one of the pool that no record holds
  out_of_use : (n : ℕ) → T (in_pool s n) → T (not (member n (held_teids m))) → Released t n
  out_of_use n h g = unused (bit_says n h) g (free_there s m n h g)

  address_out_of_use : (a : ℕ) → T (in_address_pool s a) → T (not (member a (held_addresses s m))) → AddressReleased t a
  address_out_of_use a h g = unused (address_bit_says a h) g (address_free_there s m a h g)

  -- a free one
  free_out : (n : ℕ) → T (member n (free_teids s m)) → Released t n
  free_out n h = out_of_use n (member_passes (in_pool s) n (free_teids s m) h (free_in_pool s m)) (member_passes (λ u. not (member u (held_teids m))) n (free_teids s m) h (free_not_held s m))

  address_free_out : (a : ℕ) → T (member a (free_addresses s m)) → AddressReleased t a
  address_free_out a h =
      address_out_of_use a (member_passes (in_address_pool s) a (free_addresses s m) h (addresses_in_pool s m)) (member_passes (λ u. not (member u (held_addresses s m))) a (free_addresses s m) h (addresses_not_held s m))

-- ---- members and tests

any_front : {A : Type 0} (p : A → Bool) (xs ys : List A) → T (any p xs) → T (any p (xs ++ ys))
unfolding any
any_front p [] ys h = absurd h
any_front p (x ∷ xs) ys h = by_test (p x) (λ e. or_by_left (p x) (any p (xs ++ ys)) e) (λ e. or_by_right (p x) (any p (xs ++ ys)) (any_front p xs ys (or_right (p x) (any p xs) h e)))

any_behind : {A : Type 0} (p : A → Bool) (xs ys : List A) → T (any p ys) → T (any p (xs ++ ys))
unfolding any
any_behind p [] ys h = h
any_behind p (x ∷ xs) ys h = or_by_right (p x) (any p (xs ++ ys)) (any_behind p xs ys h)

-- a number that passes a test and is not among those of a list that pass it is not in the list
stays : (p : ℕ → Bool) (n : ℕ) (xs : List ℕ) → T (p n) → T (member n xs) → T (member n (keep p xs))
unfolding member keep
stays p n [] h e = absurd e
stays p n (y ∷ ys) h e =
    by_test (eqb n y)
    (λ s. subst (λ (b : Bool). T (member n (pick b (y ∷ keep p ys) (keep p ys)))) (sym (is_true (p y) (subst (λ (z : ℕ). T (p z)) (eqb→eq n y s) h))) (or_by_left (eqb n y) (member n (keep p ys)) s))
    (λ s. two (p y) (stays p n ys h (or_right (eqb n y) (member n ys) e s)))
  where
    two : (b : Bool) → T (member n (keep p ys)) → T (member n (pick b (y ∷ keep p ys) (keep p ys)))
    two true f = or_by_right (eqb n y) (member n (keep p ys)) f
    two false f = f

not_kept : (p : ℕ → Bool) (n : ℕ) (xs : List ℕ) → T (p n) → T (not (member n (keep p xs))) → T (not (member n xs))
not_kept p n xs h g = not_T (member n xs) (λ e. T_not (member n (keep p xs)) g (stays p n xs h e))

-- a CHOOSE in the claim's words
as_chosen : (o : Option UeIp) → T (chooses_ip o) → T (chooses_address o)
unfolding chooses_ip chooses_address
as_chosen none h = h
as_chosen (some v) h = subst (λ (b : Bool). T (is_some (pick b (some v) none))) (sym (is_true (ue_chooses v) h)) tt

-- ---- an accepted request

-- 0 is no TEID of a pool, so no record holds it
zero_unheld : (t : List ℕ) → TableKept t → T (not (member 0 (held_teids (view_sessions t))))
zero_unheld t k =
    let s = view_settings t in
    let m = view_sessions t in
    let one = (settings_kept s k.settings).pool.first in
    not_T (member 0 (held_teids m)) (λ h. let low = pool_from s 0 (member_passes (in_pool s) 0 (held_teids m) h (held_in_pool s m k.sessions)) in omega arith)

-- no record holds what is granted
grants_unheld : (s : Settings) (m : Sessions) (r : Request) → need r ≤ length (free_teids s m) → T (all (λ g. not (member (grant_teid g) (held_teids m))) (grants s m r))
unfolding grants grant_of
grants_unheld s m r few =
    let unheld : ℕ → Bool = λ n. not (member n (held_teids m)) in
    let given = granted_from [] (free_teids s m) (choices r) in
    subst (λ (gs : List Grant). T (all (λ g. unheld (grant_teid g)) gs)) (sym (granted_grants (choices r) [] (free_teids s m)))
    (subst T (sym (all_map as_grant (λ g. unheld (grant_teid g)) given))
    (granted_all unheld (λ i n. unheld n) (λ i n h. h) (choices r) [] (free_teids s m) [] (λ i. unfold member find_by in refl) (unfold all in tt) (free_not_held s m) (enough_given r (length (free_teids s m)) few)))

module _ (run : Run) (who : ℕ) (msg space : List ℕ) (r : RequestCall) (a : Accepted run who msg space r) where
  -- the table at entry, and what the rules leave
  abbrev t : List ℕ
  t = table_after run

  abbrev out : Served
  out = serve t who msg space

  same : ◌≡◌ {A = Served} (record { outcome = r.outcome; place = r.place; space = r.space; table = r.table }) out
  same = request_step t who msg space r a.call

  call : AcceptedCall t who msg space
  call = accepted_call t who msg space a.message (subst (λ (o : Served). T (accepted_event (replied who msg o.outcome o.space))) same a.reply)

  -- the session that the request is about: in a set deletion, one without records
  abbrev x : Session
  x = entry_session who (view_sessions t) msg

  about_none : T (eqb (kind_of msg) set_deletion) → x ≡ new_session who (read_request msg).seid
  unfolding entry_session at_entry
  about_none d = pick_yes (unnamed (kind_of msg)) (new_session who (read_request msg).seid) _ (of_true (unnamed_sets (kind_of msg) (eqb→eq (kind_of msg) set_deletion d)))

  -- what it spares of a session that it does not delete
  spared_is : T (not (eqb (kind_of msg) deletion)) → spared msg x ≡ unremoved (read_request msg) x
  unfolding spared
  spared_is d = pick_no (eqb (kind_of msg) deletion) (new_session x.peer x.seid) (unremoved (read_request msg) x) d

  -- the table that it leaves
  kept_out : TableKept out.table
  kept_out = table_kept out.table (serve_sound_lem t who msg space a.message call.answered.table)

  next_out : (n : ℕ) → T (member n (free_teids (view_settings out.table) (view_sessions out.table))) → Released r.table n
  next_out n h = subst (λ (o : Served). Released o.table n) (sym same) (free_out out.table kept_out n h)

  next_address_out : (n : ℕ) → T (member n (free_addresses (view_settings out.table) (view_sessions out.table))) → AddressReleased r.table n
  next_address_out n h = subst (λ (o : Served). AddressReleased o.table n) (sym same) (address_free_out out.table kept_out n h)

  -- a TEID that only removed records held
  removed_out : (n : ℕ) → T (member n (session_teids x)) → T (not (member n (session_teids (spared msg x)))) → Released r.table n
  removed_out n h gone =
      next_out n
      (by_test (eqb (kind_of msg) set_deletion) (λ d. absurd (none d (subst (λ (y : Session). T (member n (session_teids y))) (about_none d) h)))
      (λ ns. by_test (eqb (kind_of msg) deletion) (λ d. next_deleted t who msg space a.message call d n h) (λ d. next_removed t who msg space a.message call ns d n h (staying d))))
    where
      none : T (eqb (kind_of msg) set_deletion) → T (member n (session_teids (new_session who (read_request msg).seid))) → ⊥
      none d g = unfold new_session session_teids session_holdings collect member in g

      staying : T (not (eqb (kind_of msg) deletion)) → T (not (member n (map teid_of (staying_holdings (read_request msg) x))))
      staying d = unfold session_teids session_holdings unremoved kept_pdr kept_endpoint in (subst (λ (y : Session). T (not (member n (session_teids y)))) (spared_is d) gone)

  -- and an address of the pool
  address_removed_out : (n : ℕ) → T (member n (session_addresses (view_settings t) x)) → T (not (member n (session_addresses (view_settings t) (spared msg x)))) → AddressReleased r.table n
  address_removed_out n h gone =
      next_address_out n
      (by_test (eqb (kind_of msg) set_deletion) (λ d. absurd (none d (subst (λ (y : Session). T (member n (session_addresses (view_settings t) y))) (about_none d) h)))
      (λ ns. by_test (eqb (kind_of msg) deletion) (λ d. next_deleted_address t who msg space a.message call d n h)
      (λ d. next_removed_address t who msg space a.message call ns d n h (staying d))))
    where
      none : T (eqb (kind_of msg) set_deletion) → T (member n (session_addresses (view_settings t) (new_session who (read_request msg).seid))) → ⊥
      none d g = unfold new_session session_addresses collect keep member in g

      pooled : T (in_address_pool (view_settings t) n)
      pooled = unfold session_addresses in (member_passes (in_address_pool (view_settings t)) n _ h (keep_passes (in_address_pool (view_settings t)) _))

      staying : T (not (eqb (kind_of msg) deletion)) → T (not (member n (staying_addresses (read_request msg) x)))
      staying d =
          unfold session_addresses unremoved kept_pdr kept_endpoint in (
          not_kept (in_address_pool (view_settings t)) n (staying_addresses (read_request msg) x) pooled
          (subst (λ (y : Session). T (not (member n (session_addresses (view_settings t) y)))) (spared_is d) gone))

  -- what the sessions held that a set deletion takes out
  listed_out : T (eqb (kind_of msg) set_deletion) → (n : ℕ) → T (member n (held_teids (keep (goes_of who msg) (view_sessions t)))) → Released r.table n
  listed_out d n h = next_out n (next_listed t who msg space a.message call d n (unfold goes_of in h))

  address_listed_out : T (eqb (kind_of msg) set_deletion) → (n : ℕ) → T (member n (held_addresses (view_settings t) (keep (goes_of who msg) (view_sessions t)))) → AddressReleased r.table n
  address_listed_out d n h = next_address_out n (next_listed_address t who msg space a.message call d n (unfold goes_of in h))

  -- a TEID that the reply grants
  granted_unheld : (k : Kind) (id : ℕ) → T (not (member (created_teid r.space k id) (held_teids (view_sessions t))))
  unfolding granted_teid
  granted_unheld k id =
      subst (λ (n : ℕ). T (not (member n (held_teids m)))) (sym (ap (λ (o : Served). created_teid o.space k id) same ∙ call.teids k id)) (one (find_by (is_grant_for k id) gs) refl)
    where
      m : Sessions
      m = view_sessions t

      gs : List Grant
      gs = grants (view_settings t) m (read_request msg)

      one : (o : Option Grant) → find_by (is_grant_for k id) gs ≡ o → T (not (member (value_or 0 (map_option grant_teid o)) (held_teids m)))
      one none e = zero_unheld t (kept run)
      one (some g) e =
          found_knows (λ g'. T (not (member (grant_teid g') (held_teids m)))) (is_grant_for k id) gs g
          (all_every (λ g'. not (member (grant_teid g') (held_teids m))) gs (grants_unheld (view_settings t) m (read_request msg) (enough call.answered.peer (kept run).sessions call.passed))) e

  -- an address that the reply grants to a record that chooses one
  abbrev held : List ℕ
  held = held_addresses (view_settings t) (view_sessions t)

  chosen_unheld : T (any ue_chooses (addresses_of (read_request msg))) → T (not (member (chosen_address (view_settings t) (view_sessions t)) held))
  chosen_unheld h = (address_chosen t who msg space a.message call h).unheld

  fresh_each : {A : Type 0} (key : A → ℕ) (ip : A → Option UeIp) (k : Kind) (xs : List A) → Every (λ y. T (chooses_address (ip y)) → created_address out.space k (key y) ≡ chosen_address (view_settings t) (view_sessions t)) xs
      → (T (any ue_chooses (collect ip xs)) → T (any ue_chooses (addresses_of (read_request msg))))
      → T (all (λ y. fresh_address r.space held k (key y) (ip y)) xs)
  unfolding all any collect chooses_ip
  fresh_each key ip k [] given part = tt
  fresh_each {A} key ip k (y ∷ xs) given part =
      all_cons (λ z. fresh_address r.space held k (key z) (ip z)) y xs (one (ip y) given.0 (λ h. part (here (ip y) h)))
      (fresh_each key ip k xs given.1 (λ h. part (later (ip y) h)))
    where
      here : (o : Option UeIp) → T (chooses_ip o) → T (any ue_chooses (cons_option o (collect ip xs)))
      here none h = absurd h
      here (some v) h = or_by_left (ue_chooses v) (any ue_chooses (collect ip xs)) h

      later : (o : Option UeIp) → T (any ue_chooses (collect ip xs)) → T (any ue_chooses (cons_option o (collect ip xs)))
      later none h = h
      later (some v) h = or_by_right (ue_chooses v) (any ue_chooses (collect ip xs)) h

      one : (o : Option UeIp) → (T (chooses_address o) → created_address out.space k (key y) ≡ chosen_address (view_settings t) (view_sessions t)) → (T (chooses_ip o) → T (any ue_chooses (addresses_of (read_request msg))))
          → T (fresh_address r.space held k (key y) o)
      one o g chosen = unfold fresh_address in (
          by_test (chooses_ip o)
          (λ h. or_by_right (not (chooses_ip o)) (not (member (created_address r.space k (key y)) held))
          (subst (λ (n : ℕ). T (not (member n held))) (sym (ap (λ (v : Served). created_address v.space k (key y)) same ∙ g (as_chosen o h))) (chosen_unheld (chosen h))))
          (λ h. or_by_left (not (chooses_ip o)) (not (member (created_address r.space k (key y)) held)) h))

  fresh_pdrs : T (all (fresh_pdr r.space held) (read_request msg).pdrs)
  unfolding fresh_pdr
  fresh_pdrs = fresh_each (λ (y : NewPdr). y.id) new_pdr_address of_pdr (read_request msg).pdrs call.pdr_addresses (λ h. unfold addresses_of in (any_behind ue_chooses (collect new_endpoint_address (read_request msg).endpoints) (collect new_pdr_address (read_request msg).pdrs) h))

  fresh_endpoints : T (all (fresh_endpoint r.space held) (read_request msg).endpoints)
  unfolding fresh_endpoint
  fresh_endpoints = fresh_each (λ (y : NewEndpoint). y.id) new_endpoint_address of_endpoint (read_request msg).endpoints call.endpoint_addresses (λ h. unfold addresses_of in (any_front ue_chooses (collect new_endpoint_address (read_request msg).endpoints) (collect new_pdr_address (read_request msg).pdrs) h))

-- ---- sessions apart

one_holder : (s : Settings) (m : Sessions) → T (sessions_allowed s m) → OneHolder s m
unfolding holds
one_holder s m h =
    let k = sessions_kept s m h in
    record {
      keys = k.order;
      teids = λ i j n d a. not_T (holds session_teids m j n) (λ b. one_teid_holder s m i j n k.separate d a b);
      addresses = λ i j n d a. not_T (holds (session_addresses s) m j n) (λ b. one_address_holder s m i j n k.separate d a b);
    }

-- ---- the two theorems

pub released_is_removed : (run : Run) → ReleasedIsRemoved run
unfolding entries_after count_call address_count_call free_count free_address_count
released_is_removed run =
    let k = kept run in
    let l = left run in
    let s = run.settings in
    let m = live_after run in
    let t = table_after run in
    let in_table : (n : ℕ) → T (in_pool s n) → T (in_pool (view_settings t) n) = λ n h. subst (λ (u : Settings). T (in_pool u n)) (sym l.settings) h in
    let address-in-table : (a : ℕ) → T (in_address_pool s a) → T (in_address_pool (view_settings t) a) = λ a h. subst (λ (u : Settings). T (in_address_pool u a)) (sym l.settings) h in
    let allowed : T (sessions_allowed s m) = subst (λ (u : Settings). T (sessions_allowed u m)) l.settings (subst (λ (w : Sessions). T (sessions_allowed (view_settings t) w)) l.records k.sessions) in
    record {
      records = ap held_teids l.records;
      marks = λ n h. means_test s.first (map_of t) (held_teids m) n l.marks (pool_from s n h);
      count = ap count_answer l.count ∙ ap (λ (n : ℕ). record { outcome = 0; count = n }) (sym (free_count_lem s m allowed));
      unheld = λ n h g. out_of_use t k n (in_table n h) (subst (λ (w : Sessions). T (not (member n (held_teids w)))) (sym l.records) g);
      removed = λ who msg space r a n h g. removed_out run who msg space r a n h g;
      listed = λ who msg space r a d n h. listed_out run who msg space r a d n h;
      address_records = ap (held_addresses s) l.records;
      address_marks = λ a h. means_test s.first_address (address_map_of t) (held_addresses s m) a l.address_marks (pool_from (as_pool s) a (unfold in_pool in_address_pool in h));
      address_count = ap count_answer l.address_count ∙ ap (λ (n : ℕ). record { outcome = 0; count = n }) (sym (free_address_count_lem s m));
      address_unheld = λ a h g.
          address_out_of_use t k a (address-in-table a h)
          (subst (λ (u : Settings). T (not (member a (held_addresses u (view_sessions t))))) (sym l.settings) (subst (λ (w : Sessions). T (not (member a (held_addresses s w)))) (sym l.records) g));
      address_removed = λ who msg space r a n h g.
          address_removed_out run who msg space r a n (subst (λ (u : Settings). T (member n (session_addresses u (entry_session who (view_sessions t) msg)))) (sym l.settings) h)
          (subst (λ (u : Settings). T (not (member n (session_addresses u (spared msg (entry_session who (view_sessions t) msg)))))) (sym l.settings) g);
      address_listed = λ who msg space r a d n h.
          address_listed_out run who msg space r a d n (subst (λ (u : Settings). T (member n (held_addresses u (keep (goes_of who msg) (view_sessions t))))) (sym l.settings) h);
    }

pub no_two_patients : (run : Run) → NoTwoPatients run
unfolding entries_after
no_two_patients run =
    let l = left run in
    let t = table_after run in
    let table' = subst (λ (u : Settings). OneHolder u (view_sessions t)) l.settings (one_holder (view_settings t) (view_sessions t) (kept run).sessions) in
    record {
      live = subst (OneHolder run.settings) l.records table';
      table = table';
      granted = λ who msg space r a k id. granted_unheld run who msg space r a k id;
      pdr_addresses = λ who msg space r a. subst (λ (u : Settings). T (all (fresh_pdr r.space (held_addresses u (view_sessions t))) (read_request msg).pdrs)) l.settings (fresh_pdrs run who msg space r a);
      endpoint_addresses = λ who msg space r a. subst (λ (u : Settings). T (all (fresh_endpoint r.space (held_addresses u (view_sessions t))) (read_request msg).endpoints)) l.settings (fresh_endpoints run who msg space r a);
    }

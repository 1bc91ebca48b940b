-- An accepted call of `serve`: what it passed, the table it leaves, the TEIDs and the address in its reply, and that a TEID or an address which its removals leave
-- unheld is free at the next call.
-- Assumes nothing.
use mathlib.Core.Path.{◌≡◌, sym, ap, ap₂, ◌∙◌, subst}
use Prim.Native.Nat.{ℕ}
use mathlib.Core.Bool.{Bool, true, false, not, ◌||◌, ◌&&◌}
use mathlib.Core.Option.{Option, none, some}
use mathlib.Core.List.{List, map}
use lib.Dec.{T, eqb, eqb→eq}
use Rattle.octets.specs.Choice.{pick, bind_option, is_some}
use Rattle.octets.specs.Octets.{octets}
use Rattle.octets.specs.Lists.{member, any, all_pairs, keep}
use Rattle.octets.proofs.Tests.{and_left, and_right}
use Rattle.octets.proofs.ListLaws.{Every, every_imply, pairs_imply}
use Rattle.rules.specs.Model.{Settings, Session, Sessions, teid_of, session_teids, held_teids, free_teids, session_addresses, held_addresses, free_addresses, is_peer, has_peer}
use Rattle.rules.specs.Layout.{encode, view_settings, view_sessions}
use Rattle.laws.proofs.TableLaws.{sessions_back, encoded_settings}
use Rattle.rules.specs.Sound.{sessions_allowed, in_pool}
use Rattle.rules.specs.Message.{kind_of, deletion, set_deletion}
use Rattle.rules.specs.Reading.{read_request}
use Rattle.rules.specs.Request.{Request}
use Rattle.rules.specs.Grants.{Kind, of_pdr, of_endpoint, grants, granted_teid, chosen_address, Got, granted}
use Rattle.rules.specs.Stages.{same_choice, addresses_of, verdict, entry_session}
use Rattle.rules.specs.Elements.{UeIp, ue_chooses}
use Rattle.rules.specs.Reply.{chosen_ip, pdr_report, endpoint_report, reports}
use Rattle.rules.specs.Serve.{Served, sessions_after, reply_to, answered, answer, serve}
use Rattle.rules.specs.Live.{replied, accepted_event, reply_cause, created_teid, created_address, created_got}
use Rattle.rules.specs.Causes as why
use Rattle.invariants.proofs.VerdictLaws.{Passed, passed}
use Rattle.invariants.proofs.GrantLaws.{enough}
use Rattle.laws.proofs.ReportLaws.{granted_reports_fit}
use Rattle.invariants.proofs.ReplyLength.{reports_few}
use Rattle.invariants.proofs.GrantReply.{report_address, said, accepted_got}
use Rattle.invariants.proofs.Reported.{said_teids, said_pdr_addresses, said_endpoint_addresses}
use Rattle.laws.proofs.HeaderLaws.{header_long}
use Rattle.invariants.proofs.Accepting.{SoundAfter}
use Rattle.laws.proofs.KeptRequest.{RulesKept}
use Rattle.invariants.proofs.FreeTeids.{free_there}
use Rattle.invariants.proofs.FreeAddresses.{ChosenFree, chosen_there}
use Rattle.invariants.proofs.NewHolds.{choices_other}
use Rattle.invariants.proofs.ChangedHolds.{staying_holdings}
use Rattle.invariants.proofs.ChangedAddresses.{staying_addresses}
use Rattle.invariants.proofs.Allocation.{pdr_choose_id, pdrs_share, Allocates, allocates}
use Rattle.invariants.proofs.Freed.{removed_free, deleted_free, listed_free, removed_address_free, deleted_address_free, listed_address_free}
use Rattle.laws.proofs.KeptRules.{table_kept}
use Rattle.invariants.proofs.ServeLaws.{Answers, answers, answered_zero, served_cause, sessions_after_lem}
use Rattle.rules.specs.Apply.{goes_session}

-- an accepted request's TEIDs are given by 01's rules
pub passed_allocates : (s : Settings) (who : ℕ) (m : Sessions) (msg : List ℕ) → T (is_peer who) → T (sessions_allowed s m) → Passed s who m msg → Allocates s m (read_request msg)
passed_allocates s who m msg hw hm p =
    let r = read_request msg in
    let k = p.rules in
    allocates s m r (choices_other r k.created_pdrs_once k.created_endpoints_once) (enough hw hm p)

-- ---- an accepted call

-- does a record choose an address
unfoldable pub chooses_address : Option UeIp → Bool
chooses_address o = is_some (bind_option o (λ v. pick (ue_chooses v) (some v) none))

-- then its report has one
reported : (a : ℕ) (o : Option UeIp) → T (chooses_address o) → T (is_some (bind_option o (chosen_ip a)))
unfolding chooses_address chosen_ip
reported a none h = h
reported a (some v) h = one (ue_chooses v) h
  where
    one : (b : Bool) → T (is_some (pick b (some v) none)) → T (is_some (pick b (some a) none))
    one true k = tt
    one false k = k

module _ (t : List ℕ) (who : ℕ) (msg space : List ℕ) where
  -- the settings, sessions and request at entry, and what the call leaves
  abbrev pub s : Settings
  s = view_settings t

  abbrev pub m : Sessions
  m = view_sessions t

  abbrev pub r : Request
  r = read_request msg

  abbrev pub out : Served
  out = serve t who msg space

  -- what an accepted call is known to have done
  pub record AcceptedCall : Type 0 where
    pub answered : Answers t who msg space
    pub passed : Passed s who m msg
    pub allowed : T (sessions_allowed s (sessions_after s who m msg))
    pub table : out.table ≡ encode s (sessions_after s who m msg)
    pub settings : view_settings out.table ≡ s
    pub sessions : view_sessions out.table ≡ sessions_after s who m msg
    pub teids : (k : Kind) (i : ℕ) → created_teid out.space k i ≡ granted_teid (grants s m r) k i
    pub allocated : Allocates s m r
    -- the address of each record that chooses one
    pub pdr_addresses : Every (λ p. T (chooses_address p.address) → created_address out.space of_pdr p.id ≡ chosen_address s m) r.pdrs
    pub endpoint_addresses : Every (λ e. T (chooses_address e.address) → created_address out.space of_endpoint e.id ≡ chosen_address s m) r.endpoints

  -- the sessions after it keep the rules
  after_allowed : T (octets msg) → Answers t who msg space → Passed s who m msg → T (sessions_allowed s (sessions_after s who m msg))
  unfolding SoundAfter
  after_allowed ho a p = let k = table_kept t a.table in sessions_after_lem s who m msg a.peer k.settings k.sessions ho a.kind p

  -- they are what the table holds
  table_there : (verdict s who m msg).cause ≡ why.accepted → (answer s who m msg space t).table ≡ encode s (sessions_after s who m msg)
  unfolding answer answered
  table_there c = ap (λ (n : ℕ). pick (eqb n 1) (encode s (sessions_after s who m msg)) t) c

  -- the reply's Created groups say what the reports say
  got_there : T (octets msg) → Answers t who msg space → (verdict s who m msg).cause ≡ why.accepted → (k : Kind) (i : ℕ)
      → created_got (answer s who m msg space t).space k i ≡ said (reports (granted s m r) r) k i
  unfolding answer answered reply_to
  got_there ho a c k i =
      let ok = (table_kept t a.table).settings in
      accepted_got s ok who msg (header_long msg a.header) r.seid (verdict s who m msg) c (reports (granted s m r) r) (reports_few s ok who m msg c) space (granted_reports_fit s ok m msg ho) k i

  -- what the request kept of its IDs
  rules : Passed s who m msg → RulesKept s m (entry_session who m msg) r
  rules p = p.rules

  module _ (ho : T (octets msg)) (a : Answers t who msg space) (p : Passed s who m msg) (c : (verdict s who m msg).cause ≡ why.accepted) where
    -- the TEIDs of the grants
    teids_there : (k : Kind) (i : ℕ) → created_teid (answer s who m msg space t).space k i ≡ granted_teid (grants s m r) k i
    unfolding created_got
    teids_there k i = ap {B = ℕ} (λ (g : Got). g.teid) (got_there ho a c k i) ∙ said_teids s m r (rules p).created_pdrs_once (rules p).created_endpoints_once k i

    -- and the chosen address
    address_said : (k : Kind) (i : ℕ) → created_address (answer s who m msg space t).space k i ≡ (said (reports (granted s m r) r) k i).address
    unfolding created_got
    address_said k i = ap {B = ℕ} (λ (g : Got). g.address) (got_there ho a c k i)

    pdr_addresses_there : Every (λ q. T (chooses_address q.address) → created_address (answer s who m msg space t).space of_pdr q.id ≡ chosen_address s m) r.pdrs
    unfolding pdr_report
    pdr_addresses_there =
        every_imply (λ q. T (is_some (report_address (pdr_report (granted s m r) q))) → (said (reports (granted s m r) r) of_pdr q.id).address ≡ chosen_address s m)
        (λ q. T (chooses_address q.address) → created_address (answer s who m msg space t).space of_pdr q.id ≡ chosen_address s m)
        (λ q f g. address_said of_pdr q.id ∙ f (reported _ q.address g)) r.pdrs (said_pdr_addresses s m r (rules p).created_pdrs_once (rules p).created_endpoints_once)

    endpoint_addresses_there : Every (λ q. T (chooses_address q.address) → created_address (answer s who m msg space t).space of_endpoint q.id ≡ chosen_address s m) r.endpoints
    unfolding endpoint_report
    endpoint_addresses_there =
        every_imply (λ q. T (is_some (report_address (endpoint_report (granted s m r) q))) → (said (reports (granted s m r) r) of_endpoint q.id).address ≡ chosen_address s m)
        (λ q. T (chooses_address q.address) → created_address (answer s who m msg space t).space of_endpoint q.id ≡ chosen_address s m)
        (λ q f g. address_said of_endpoint q.id ∙ f (reported _ q.address g)) r.endpoints (said_endpoint_addresses s m r (rules p).created_pdrs_once (rules p).created_endpoints_once)

  -- outcome 0 and the reply's cause 1
  pub accepted_call : T (octets msg) → T (accepted_event (replied who msg out.outcome out.space)) → AcceptedCall
  unfolding accepted_event
  accepted_call ho h =
      let zero' = and_left (eqb out.outcome 0) (eqb (reply_cause out.space) 1) h in
      let one' = eqb→eq (reply_cause out.space) 1 (and_right (eqb out.outcome 0) (eqb (reply_cause out.space) 1) h) in
      let a = answers t who msg space zero' in
      let cause = sym (served_cause t who msg space ho zero') ∙ one' in
      let p = passed s who m msg cause in
      let e = answered_zero t who msg space a in
      let ok = after_allowed ho a p in
      let hs = (table_kept t a.table).settings in
      let table' : out.table ≡ encode s (sessions_after s who m msg) = ap {B = List ℕ} (λ (o : Served). o.table) e ∙ table_there cause in
      record {
        answered = a;
        passed = p;
        allowed = ok;
        table = table';
        settings = ap view_settings table' ∙ encoded_settings s hs (sessions_after s who m msg) ok;
        sessions = ap view_sessions table' ∙ sessions_back s hs (sessions_after s who m msg) ok;
        teids = λ k i. ap (λ (o : Served). created_teid o.space k i) e ∙ teids_there ho a p cause k i;
        allocated = passed_allocates s who m msg a.peer (table_kept t a.table).sessions p;
        pdr_addresses = subst (λ (o : Served). Every (λ q. T (chooses_address q.address) → created_address o.space of_pdr q.id ≡ chosen_address s m) r.pdrs) (sym e) (pdr_addresses_there ho a p cause);
        endpoint_addresses =
            subst (λ (o : Served). Every (λ q. T (chooses_address q.address) → created_address o.space of_endpoint q.id ≡ chosen_address s m) r.endpoints) (sym e) (endpoint_addresses_there ho a p cause);
      }

  -- ---- the reply, and the next call on the table that it leaves

  -- the session at entry, and the TEIDs that are free at the next call
  abbrev pub x : Session
  x = entry_session who m msg

  abbrev pub free_next : List ℕ
  free_next = free_teids (view_settings out.table) (view_sessions out.table)

  -- and the addresses
  abbrev pub free_addresses_next : List ℕ
  free_addresses_next = free_addresses (view_settings out.table) (view_sessions out.table)

  module _ (ho : T (octets msg)) (c : AcceptedCall) where
    -- the reply's Created group of each record that CHOOSEs has the TEID that it was given
    pub reply_given : Every (λ d. created_teid out.space d.choice.kind d.choice.id ≡ d.teid) c.allocated.given
    reply_given =
        every_imply (λ d. granted_teid (grants s m r) d.choice.kind d.choice.id ≡ d.teid)
        (λ d. created_teid out.space d.choice.kind d.choice.id ≡ d.teid) (λ d e. c.teids d.choice.kind d.choice.id ∙ e) c.allocated.given c.allocated.looked_up

    -- the reply gives two PDRs with one CHOOSE ID one TEID
    pub reply_shares : T (all_pairs (λ p q. not (same_choice (pdr_choose_id p) (pdr_choose_id q)) || eqb (created_teid out.space of_pdr p.id) (created_teid out.space of_pdr q.id)) r.pdrs)
    reply_shares =
        pairs_imply (λ p q. not (same_choice (pdr_choose_id p) (pdr_choose_id q)) || eqb (looked p.id) (looked q.id))
        (λ p q. not (same_choice (pdr_choose_id p) (pdr_choose_id q)) || eqb (created_teid out.space of_pdr p.id) (created_teid out.space of_pdr q.id))
        (λ p q h. subst T (ap₂ (λ (i j : ℕ). not (same_choice (pdr_choose_id p) (pdr_choose_id q)) || eqb i j) (sym (c.teids of_pdr p.id)) (sym (c.teids of_pdr q.id))) h) r.pdrs
        (pdrs_share s m r c.allocated)
      where
        looked : ℕ → ℕ
        looked = granted_teid (grants s m r) of_pdr

    -- any TEID of the pool that no record holds afterwards
    pub next_free_lem : (n : ℕ) → T (in_pool s n) → T (not (member n (held_teids (view_sessions out.table))))
        → T (member n free_next)
    next_free_lem n h g = free_there (view_settings out.table) (view_sessions out.table) n (subst (λ (z : Settings). T (in_pool z n)) (sym c.settings) h) g

    -- what is free by the sessions is free by the table
    at_next : (n : ℕ) → T (member n (free_teids s (sessions_after s who m msg)))
        → T (member n free_next)
    at_next n h = subst (λ (z : Settings). T (member n (free_teids z (view_sessions out.table)))) (sym c.settings) (subst (λ (l : Sessions). T (member n (free_teids s l))) (sym c.sessions) h)

    -- a TEID of the session at entry that none of its staying records holds, after an establishment or a modification
    pub next_removed : T (not (eqb (kind_of msg) set_deletion)) → T (not (eqb (kind_of msg) deletion)) → (n : ℕ) → T (member n (session_teids x))
        → T (not (member n (map teid_of (staying_holdings r x))))
        → T (member n free_next)
    next_removed ns nd n h gone = at_next n (removed_free s who m msg c.answered.peer (table_kept t c.answered.table).sessions ho ns c.passed n h nd gone)

    -- a deletion is no set deletion
    no_sets : T (eqb (kind_of msg) deletion) → T (not (eqb (kind_of msg) set_deletion))
    no_sets d = subst (λ (k : ℕ). T (not (eqb k set_deletion))) (sym (eqb→eq (kind_of msg) deletion d)) tt

    -- every TEID of the session at entry, after a deletion
    pub next_deleted : T (eqb (kind_of msg) deletion) → (n : ℕ) → T (member n (session_teids x))
        → T (member n free_next)
    next_deleted d n h = at_next n (deleted_free s who m msg c.answered.peer (table_kept t c.answered.table).sessions ho (no_sets d) c.passed n h d)

    -- every TEID of the sessions that a set deletion takes out
    pub next_listed : T (eqb (kind_of msg) set_deletion) → (n : ℕ) → T (member n (held_teids (keep (λ z. has_peer who z && goes_session r.listed z) m)))
        → T (member n free_next)
    next_listed d n h = at_next n (listed_free s who m msg (table_kept t c.answered.table).sessions d n h)

    -- the address that the request's CHOOSEs get is of the pool, held by no session at entry, and the lowest such
    pub address_chosen : T (any ue_chooses (addresses_of r)) → ChosenFree s m (chosen_address s m)
    address_chosen h = chosen_there s m r c.passed.address h

    -- what is free at the next call, as of TEIDs
    at_next_address : (a : ℕ) → T (member a (free_addresses s (sessions_after s who m msg))) → T (member a free_addresses_next)
    at_next_address a h =
        subst (λ (z : Settings). T (member a (free_addresses z (view_sessions out.table)))) (sym c.settings) (subst (λ (l : Sessions). T (member a (free_addresses s l))) (sym c.sessions) h)

    pub next_removed_address : T (not (eqb (kind_of msg) set_deletion)) → T (not (eqb (kind_of msg) deletion)) → (a : ℕ) → T (member a (session_addresses s x)) → T (not (member a (staying_addresses r x))) → T (member a free_addresses_next)
    next_removed_address ns nd a h gone = at_next_address a (removed_address_free s who m msg c.answered.peer (table_kept t c.answered.table).sessions ho ns c.passed a h nd gone)

    pub next_deleted_address : T (eqb (kind_of msg) deletion) → (a : ℕ) → T (member a (session_addresses s x)) → T (member a free_addresses_next)
    next_deleted_address d a h =
        at_next_address a (deleted_address_free s who m msg c.answered.peer (table_kept t c.answered.table).sessions ho (no_sets d) c.passed a h d)

    pub next_listed_address : T (eqb (kind_of msg) set_deletion) → (a : ℕ) → T (member a (held_addresses s (keep (λ z. has_peer who z && goes_session r.listed z) m))) → T (member a free_addresses_next)
    next_listed_address d a h = at_next_address a (listed_address_free s who m msg (table_kept t c.answered.table).sessions d a h)

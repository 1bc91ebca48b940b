-- A set deletion (02 (vii)): its verdict, and what an accepted one leaves.
-- Assumes nothing.
use mathlib.Core.Path.{◌≡◌, refl, sym, ap, ◌∙◌}
use mathlib.Core.Option.{none}
use mathlib.Core.List.{List}
use Prim.Native.Nat.{ℕ, ◌-◌}
use native.Mathlib.Omega.{arith}
use lib.Dec.{T, eqb}
use lib.ListN.{length, take, drop}
use Rattle.octets.specs.Octets.{put}
use Rattle.octets.specs.Lists.{keep}
use Rattle.octets.proofs.Put.{part_from}
use Rattle.rules.specs.Model.{Settings, is_peer}
use Rattle.rules.specs.Layout.{encode, view_settings, view_sessions}
use Rattle.rules.specs.Elements.{Fqcsid}
use Rattle.rules.specs.Message.{list_place, elements, header_length, body, kind_of, establishment, frame_fault}
use Rattle.rules.specs.Reading as reading
use Rattle.rules.specs.Reading.{Reading, faulty, done, and_then, list_read, top_read, asked_in, fault_in, read_fault, read_request}
use Rattle.rules.specs.Request.{listing}
use Rattle.rules.specs.Stages.{Verdict, plain, new_session, at_entry, entry_session, judged, unknown_session}
use Rattle.rules.specs.Apply.{stays_session, follow}
use Rattle.rules.specs.Grants.{granted}
use Rattle.rules.specs.Reply.{no_reports, reply}
use Rattle.rules.specs.Serve.{sessions_after, reply_to}
use Rattle.rules.specs.Causes as why
use Rattle.laws.proofs.PeerLaws.{PeersKept, peers_kept_lem}
use Rattle.laws.proofs.KeptRules.{table_kept}
use Rattle.laws.proofs.HeaderLaws.{unnamed_sets}
use Rattle.frame.specs.Framed as frame
use Rattle.reading.specs.Verdicts.{stopped, got, numbered, outcome, fine}
use Rattle.writing.specs.Placed.{written}
use Rattle.reply.specs.Parts.{Listing}
use Rattle.reply.specs.Naming.{refusal}
use Rattle.sets.specs.Listed.{blank, gotten}
use Rattle.changes.specs.Answers.{Live, verdict_on, Answers, Replies, Refusing}
use Rattle.engine.specs.Steps.{AskedList}
use Rattle.changes.proofs.VerdictSteps.{read_through}
use Rattle.engine.proofs.Faults.{framed, read_fine, frame_asks, frame_replies, then_asks, then_replies}
use Rattle.engine.proofs.Deleting.{listing_empty, no_reports_lem, accepted_empty}
use Rattle.std.specs.Prelude.{None, Some, Result, Ok, Err}
use Rattle.frame.specs.declared.Spot.{Spot}
use Rattle.reading.specs.declared.Fault.{Fault}

-- a fault told without a value is the same fault
same_fault : {A : Type 0} (v : Result (Unit {0}) Fault) (u : Unit {0}) (a : A) (c k p : ℕ) → outcome v u ≡ stopped c k p → outcome v a ≡ stopped c k p
same_fault (Ok _) u a c k p h = let z : ◌≡◌ {A = ℕ} 0 1 = cc in absurd (omega arith)
same_fault (Err y) u a c k p h = let e : y.cause ≡ c = cc in let f : y.kind ≡ k = cc in let g : y.place ≡ p = cc in λ i. stopped (e i) (f i) (g i)

same_value : {A : Type 0} (v : Result (Unit {0}) Fault) (u : Unit {0}) (a : A) → outcome v u ≡ got u → outcome v a ≡ got a
same_value (Ok _) u a h = refl
same_value (Err y) u a h = let z : ◌≡◌ {A = ℕ} 0 1 = cc in absurd (omega arith)

module _ (t : List ℕ) (who : ℕ) (msg : List ℕ) (l : Listing msg) where
  -- it names no session
  pub listing_live : Live t who msg
  unfolding unknown_session
  listing_live = rw (unnamed_sets (kind_of msg) l.kind)

  -- what it lists
  abbrev lists : Reading (List Fqcsid)
  lists = list_read (elements list_place (take (length msg - 8) (drop 8 msg)))

  read_is : reading.read msg ≡ and_then lists (λ cs. done (listing cs))
  unfolding reading.read top_read body header_length
  read_is = rw (l.kind, l.seid, part_from 8 msg)

  pub list_read_lem : (v : Result (Unit {0}) Fault) → outcome v tt ≡ numbered (blank lists) → outcome v (read_request msg) ≡ numbered (reading.read msg)
  unfolding read_request asked_in
  list_read_lem v h = rw read_is (go lists h)
    where
      go : (r : Reading (List Fqcsid)) → outcome v tt ≡ numbered (blank r) → outcome v (asked_in (and_then r (λ cs. done (listing cs)))) ≡ numbered (and_then r (λ cs. done (listing cs)))
      go (faulty f) e = same_fault v tt _ _ _ _ e
      go (done cs) e = same_value v tt (listing cs) e

  -- without a fault
  module _ (fine : read_fault msg ≡ none) where
    pub request_is : read_request msg ≡ listing (gotten lists)
    unfolding read_fault fault_in read_request asked_in
    request_is = rw read_is (go lists (rw read_is at fine))
      where
        go : (r : Reading (List Fqcsid)) → fault_in (and_then r (λ cs. done (listing cs))) ≡ none → asked_in (and_then r (λ cs. done (listing cs))) ≡ listing (gotten r)
        go (faulty f) h = absurd (unfold fault_in in (let z : ◌≡◌ {A = ℕ} 0 1 = cc in omega arith))
        go (done cs) h = refl

    entry_is : entry_session who (view_sessions t) msg ≡ new_session who (read_request msg).seid
    unfolding entry_session at_entry
    entry_is = rw (unnamed_sets (kind_of msg) l.kind)

    pub list_accepts : T (is_peer who) → PeersKept (view_settings t) (view_sessions t) → frame_fault msg ≡ none → verdict_on t who msg ≡ plain why.accepted
    unfolding judged new_session listing
    list_accepts known peers fr =
        let s = view_settings t in
        let m = view_sessions t in
        read_through s who m msg listing_live fr fine
        ∙ rw (entry_is, request_is)
        (accepted_empty s m (new_session who 0) (listing (gotten lists)) (listing_empty (gotten lists)) who known peers (kind_of msg) (ap (λ (n : ℕ). eqb n establishment) l.kind) (omega arith) (omega arith))

    pub after_is : sessions_after (view_settings t) who (view_sessions t) msg ≡ keep (stays_session who (gotten lists)) (view_sessions t)
    unfolding sessions_after follow listing
    after_is = rw (l.kind, request_is)

    pub reply_is : verdict_on t who msg ≡ plain why.accepted → reply (view_settings t) who msg 0 (refusal why.accepted None) no_reports ≡ reply_to (view_settings t) who (view_sessions t) msg (verdict_on t who msg)
    unfolding reply_to listing
    reply_is accepts =
        let e = listing_empty (gotten lists) in
        sym (rw (accepts, request_is, no_reports_lem (view_settings t) (view_sessions t) (new_session who 0) (listing (gotten lists)) e (granted (view_settings t) (view_sessions t) (listing (gotten lists)))))

-- ---- from what the code's readers answer

module _ (t : List ℕ) (who : ℕ) (msg out : List ℕ) (a : AskedList t who msg out) where
  abbrev head : Listing msg
  head = a.list

  pub list_frame_asks : (f : Result (Unit {0}) Spot) (x : Spot) → frame.framing_fault f ≡ frame_fault msg → f ≡ Err x → Refusing t who msg out why.wrong_length (Some x.kind)
  list_frame_asks = frame_asks t who msg out (listing_live t who msg head)

  pub list_frame_replies : (f : Result (Unit {0}) Spot) (x : Spot) (used : ℕ) (out' : List ℕ) → frame.framing_fault f ≡ frame_fault msg → f ≡ Err x → Answers t who msg out used out' t → Replies t who msg out used x.place out' t
  list_frame_replies = frame_replies t who msg out (listing_live t who msg head)

  pub list_asks : (f : Result (Unit {0}) Spot) (v : Result (Unit {0}) Fault) (y : Fault) → frame.framing_fault f ≡ frame_fault msg → f ≡ Ok tt
      → outcome v tt ≡ numbered (blank (list_read (elements list_place (take (length msg - 8) (drop 8 msg))))) → v ≡ Err y → Refusing t who msg out y.cause (Some y.kind)
  list_asks f v y fe fq e q = then_asks t who msg out (listing_live t who msg head) f v y fe fq (list_read_lem t who msg head v e) q

  pub list_replies : (f : Result (Unit {0}) Spot) (v : Result (Unit {0}) Fault) (y : Fault) (used : ℕ) (out' : List ℕ) → frame.framing_fault f ≡ frame_fault msg → f ≡ Ok tt
      → outcome v tt ≡ numbered (blank (list_read (elements list_place (take (length msg - 8) (drop 8 msg))))) → v ≡ Err y → Answers t who msg out used out' t → Replies t who msg out used y.place out' t
  list_replies f v y used out' fe fq e q x = then_replies t who msg out (listing_live t who msg head) f v y used out' fe fq (list_read_lem t who msg head v e) q x

  pub list_fine : (v : Result (Unit {0}) Fault) → outcome v tt ≡ numbered (blank (list_read (elements list_place (take (length msg - 8) (drop 8 msg))))) → v ≡ fine
      → blank (list_read (elements list_place (take (length msg - 8) (drop 8 msg)))) ≡ done tt
  list_fine v e q = go (blank (list_read (elements list_place (take (length msg - 8) (drop 8 msg))))) (sym (ap (λ (w : Result (Unit {0}) Fault). outcome w tt) q) ∙ e)
    where
      go : (r : Reading (Unit {0})) → got tt ≡ numbered r → r ≡ done tt
      go (faulty f) h = let z : ◌≡◌ {A = ℕ} 0 1 = cc in absurd (omega arith)
      go (done u) h = refl

  pub listed_through : (s : Settings) (f : Result (Unit {0}) Spot) (v : Result (Unit {0}) Fault) (used : ℕ) (out' t' : List ℕ) → s ≡ view_settings t → frame.framing_fault f ≡ frame_fault msg → f ≡ Ok tt
      → outcome v tt ≡ numbered (blank (list_read (elements list_place (take (length msg - 8) (drop 8 msg))))) → v ≡ fine
      → (used, out') ≡ written (reply s who msg 0 (refusal why.accepted None) no_reports) out
      → t' ≡ encode (view_settings t) (keep (stays_session who (gotten (list_read (elements list_place (take (length msg - 8) (drop 8 msg)))))) (view_sessions t))
      → Replies t who msg out used 0 out' t'
  listed_through s f v used out' t' is fe fq e q w' d =
      let w = rw is at w' in
      let live = listing_live t who msg head in
      let fr = framed t who msg out live f fe fq in
      let rd = read_fine t who msg out live v (list_read_lem t who msg head v e) q in
      let ok = list_accepts t who msg head rd a.peer (peers_kept_lem (view_settings t) (view_sessions t) (table_kept t a.table.sound).sessions) fr in
      let same = reply_is t who msg head rd ok in
      record {
        answers = record {
          long = ap (λ (p : ℕ × List ℕ). p.0) w ∙ ap length same;
          space = ap (λ (p : ℕ × List ℕ). p.1) w ∙ ap (λ (x : List ℕ). put 0 x out) same;
          table = d ∙ ap (encode (view_settings t)) (sym (after_is t who msg head rd)) ∙ rw ok;
        };
        placed = sym (ap (λ (x : Verdict). x.place) ok);
      }

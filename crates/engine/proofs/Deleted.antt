-- What a deletion of a live session without a fault leaves.
-- Assumes nothing.
use Rattle.std.specs.Prelude.{Ok}
use mathlib.Core.Path.{◌≡◌, refl, sym, ap, ◌∙◌, subst}
use mathlib.Core.Bool.{Bool, true, false, not}
use mathlib.Core.Option.{none}
use mathlib.Core.List.{List, []}
use Prim.Native.Nat.{ℕ, ◌≤◌, ◌<◌}
use borrow.Author.Tests.{eq-eqb}
use lib.Dec.{T, eqb, leb→le}
use lib.ListN.{length}
use Rattle.octets.specs.Octets.{put}
use Rattle.rules.specs.Limits.{max_pdrs, max_endpoints}
use Rattle.rules.specs.Model.{Settings, Sessions, key_for}
use Rattle.rules.specs.Layout.{encode, view_settings, view_sessions}
use Rattle.rules.specs.Sound.{settings_allowed, sessions_allowed}
use Rattle.rules.specs.Message.{kind_of, header_seid, frame_fault, establishment, deletion, set_deletion}
use Rattle.rules.specs.Reading.{read_fault, read_request}
use Rattle.rules.specs.Stages.{Verdict, plain, entry_session, judged, unknown_session}
use Rattle.rules.specs.Grants.{granted}
use Rattle.rules.specs.Reply.{no_reports, reply}
use Rattle.rules.specs.Apply.{follow}
use Rattle.rules.specs.Serve.{sessions_after, reply_to}
use Rattle.rules.specs.Causes as why
use Rattle.laws.proofs.PeerLaws.{peers_kept_lem}
use Rattle.laws.proofs.KeptRules.{TableKept, table_kept}
use Rattle.invariants.proofs.Changed.{entry_known}
use Rattle.areas.specs.Counted.{count_in, place_in, removed_in}
use Rattle.areas.proofs.Steps.{found_room}
use Rattle.unit.specs.declared.Settings.{Settings as Unit}
use Rattle.unit.specs.Meaning.{settings_of}
use Rattle.unit.proofs.FieldLaws.{limit_is}
use Rattle.session.specs.Areas.{table_area}
use Rattle.session.proofs.Saved.{session_taken}
use Rattle.octets.specs.Lists.{keep}
use Rattle.created.specs.Groups.{reports_of, all_reports}
use Rattle.writing.specs.Placed.{written}
use Rattle.frame.specs.Framed.{framing_fault}
use Rattle.engine.proofs.Faults.{framed}
use Rattle.changes.specs.Answers.{Asked, Live, verdict_on, Answers, Replies}
use Rattle.changes.proofs.VerdictSteps.{read_through}
use Rattle.engine.proofs.Deleting.{deletion_fine, deletion_empty, no_reports_lem, accepted_empty}
use Rattle.std.specs.Prelude.{Result, Ok}
use Rattle.frame.specs.declared.Spot.{Spot}

-- the table without the session
deleted_table : (s : Settings) → T (settings_allowed s) → (who : ℕ) (m : Sessions) → T (sessions_allowed s m) → (msg : List ℕ) → eqb (kind_of msg) set_deletion ≡ false → eqb (kind_of msg) deletion ≡ true
    → (p : ℕ) → place_in (table_area s.limit) (key_for who (header_seid msg)) (encode s m) ≡ Ok p → removed_in (table_area s.limit) p (encode s m) ≡ encode s (sessions_after s who m msg)
unfolding sessions_after follow
deleted_table s hs who m hm msg ns e p there = session_taken s hs m hm (key_for who (header_seid msg)) p there ∙ ap (encode s) (rw (ns, e))

module _ (t : List ℕ) (who : ℕ) (msg out : List ℕ) (a : Asked t who msg out) (live : Live t who msg) (fr : frame_fault msg ≡ none) where
  abbrev s : Settings
  s = view_settings t

  abbrev m : Sessions
  m = view_sessions t

  kept : TableKept t
  kept = table_kept t a.table

  known : T (not (unknown_session who m msg))
  known = subst (λ (b : Bool). T (not b)) (sym live) tt

  module _ (del : kind_of msg ≡ deletion) where
    rd : read_fault msg ≡ none
    rd = deletion_fine msg del

    accepts : verdict_on t who msg ≡ plain why.accepted
    unfolding judged
    accepts =
        let k = (entry_known s who m msg a.peer kept.sessions a.octets (subst (λ (b : Bool). T (not b)) (sym a.named) tt) known rd).kept in
        read_through s who m msg live fr rd
        ∙ accepted_empty s m (entry_session who m msg) (read_request msg) (deletion_empty msg del) who a.peer (peers_kept_lem s m kept.sessions) (kind_of msg) (ap (λ (n : ℕ). eqb n establishment) del)
        (leb→le (length (entry_session who m msg).pdrs) max_pdrs k.records.few_pdrs) (leb→le (length (entry_session who m msg).endpoints) max_endpoints k.records.few_endpoints)

    same_reply_lem : reply s who msg 0 (plain why.accepted) no_reports ≡ reply_to s who m msg (verdict_on t who msg)
    unfolding reply_to
    same_reply_lem =
        let e = deletion_empty msg del in
        λ i. reply s who msg (sym e.seid i) (sym accepts i) (sym (no_reports_lem s m (entry_session who m msg) (read_request msg) e (granted s m (read_request msg))) i)

    pub deleted_answers : (p used : ℕ) (out' t' : List ℕ) → place_in (table_area s.limit) (key_for who (header_seid msg)) t ≡ Ok p → (used, out') ≡ written (reply s who msg 0 (plain why.accepted) no_reports) out
        → t' ≡ removed_in (table_area s.limit) p t → Answers t who msg out used out' t'
    deleted_answers p used out' t' there w d =
        record {
          long = ap (λ (p : ℕ × List ℕ). p.0) w ∙ ap length same_reply_lem;
          space = ap (λ (p : ℕ × List ℕ). p.1) w ∙ ap (λ (l : List ℕ). put 0 l out) same_reply_lem;
          table = d ∙ ap (removed_in (table_area s.limit) p) (sym kept.encoded)
              ∙ deleted_table s kept.settings who m kept.sessions msg a.named (eq-eqb (kind_of msg) deletion del) p (ap (place_in (table_area s.limit) (key_for who (header_seid msg))) kept.encoded ∙ there)
              ∙ rw accepts;
        }

-- no rows tell nothing
nothing_told : all_reports [] ≡ no_reports
unfolding reports_of keep
nothing_told = refl

-- one session at least stands in the table, and no more than it has room for
module _ (u : Unit) {t : List ℕ} {who : ℕ} {msg out : List ℕ} (a : Asked t who msg out) {p : ℕ} (there : place_in (table_area (view_settings t).limit) (key_for who (header_seid msg)) t ≡ Ok p) (is : settings_of u ≡ view_settings t) where
  pub deleted_within : p < count_in (table_area u.limit) t
  deleted_within = rw (limit_is u (view_settings t) is) (found_room (table_area (view_settings t).limit) t (key_for who (header_seid msg)) p there).0

  pub deleted_room : count_in (table_area u.limit) t ≤ u.limit
  deleted_room = rw (limit_is u (view_settings t) is) (found_room (table_area (view_settings t).limit) t (key_for who (header_seid msg)) p there).1

-- from what the code's readers answer
pub deleted_through : (u : Unit) (t : List ℕ) (who : ℕ) (msg out : List ℕ) (f : Result (Prim.Unit {0}) Spot) (p used : ℕ) (out' t' : List ℕ) → Asked t who msg out → Live t who msg → kind_of msg ≡ deletion
    → place_in (table_area (view_settings t).limit) (key_for who (header_seid msg)) t ≡ Ok p → settings_of u ≡ view_settings t
    → framing_fault f ≡ frame_fault msg → f ≡ Ok tt
    → (used, out') ≡ written (reply (settings_of u) who msg 0 (plain why.accepted) (all_reports [])) out → t' ≡ removed_in (table_area u.limit) p t → Replies t who msg out used 0 out' t'
deleted_through u t who msg out f p used out' t' a live del there is fe fq w d =
    let fr = framed t who msg out live f fe fq in
    record { answers = deleted_answers t who msg out a live fr del p used out' t' there (rw (is, nothing_told) at w) (d ∙ ap (λ (n : ℕ). removed_in (table_area n) p t) (limit_is u (view_settings t) is)); placed = sym (ap (λ (x : Verdict). x.place) (accepts t who msg out a live fr del)) }

-- An establishment or a modification from its reading on.
-- Assumes nothing.
use Rattle.std.specs.Prelude.{Some, Result, Ok, Err}
use mathlib.Core.Path.{◌≡◌, refl, sym, ap, ◌∙◌, subst}
use mathlib.Core.Option.{Option, none, some}
use mathlib.Core.List.{List}
use Prim.Native.Nat.{ℕ, ◌*◌, ◌≤◌, ◌<◌, ◌^◌}
use native.Mathlib.Omega.{arith}
use lib.ListN.{length}
use Rattle.rules.specs.Layout.{view_settings, view_sessions, session_width}
use Rattle.rules.specs.Elements.{cause_of}
use Rattle.rules.specs.Message.{Spot, frame_fault, kind_of}
use Rattle.rules.specs.Stages.{Verdict, entry_session, judged}
use Rattle.rules.specs.Reading as rules
use Rattle.rules.specs.Reading.{faulty, done, read, fault_in, read_fault, asked_in, read_request}
use Rattle.rules.specs.Request.{Request}
use Rattle.plan.specs.Rows.{row_width, rows_of, request_in}
use Rattle.stages.proofs.VerdictLaws.{judge_plain}
use Rattle.request.specs.Requests.{refused, whole, result_of, from_framing, reading_of, meant, rows_left, Read}
use Rattle.request.specs.declared.Plan.{Plan}
use Rattle.reading.specs.declared.Fault.{Fault}
use Rattle.unit.specs.Meaning.{settings_of}
use Rattle.unit.proofs.FieldLaws.{limit_is}
use Rattle.stages.specs.declared.Known.{Known}
use Rattle.stages.specs.declared.Told.{Told}
use Rattle.changes.specs.Answers.{OnlyNull, Answers, Replies, Refusing}
use Rattle.changes.specs.Steps.{Changing, Readable, Fetching, told_of, Fetched, Entered}
use Rattle.changes.proofs.Entering.{Entering, fetch_asks, entered}
use Rattle.changes.proofs.Faults.{Faulted, replies_fault, not_framed_refuses, not_read_refuses}
use Rattle.changes.proofs.VerdictSteps.{read_through}

-- a request that was read whole has no fault
record Faultless (msg : List ℕ) (r : Request) : Type 0 where
  framed : frame_fault msg ≡ none
  fine : read msg ≡ done r

faultless : (msg : List ℕ) (r : Request) → whole r ≡ reading_of msg → Faultless msg r
unfolding reading_of from_framing
faultless msg r = by_frame (frame_fault msg) refl
  where
    by_read : (g : rules.Reading Request) → whole r ≡ result_of g → g ≡ done r
    by_read (done q) h = cc
    by_read (faulty x) h = let z : ◌≡◌ {A = ℕ} 0 1 = cc in absurd (omega arith)

    by_frame : (f : Option Spot) → frame_fault msg ≡ f → whole r ≡ from_framing msg f → Faultless msg r
    by_frame none e h = record { framed = e; fine = by_read (read msg) h }
    by_frame (some u) e h = let z : ◌≡◌ {A = ℕ} 0 1 = cc in absurd (omega arith)

module _ {k : Known} {t msg out : List ℕ} {at : ℕ} (ch : Changing k t msg out at) {r : Result Plan Fault} {plan : List ℕ} (given : Read msg r plan) where
  -- a fault
  module _ {fault : Fault} (is : r ≡ Err fault) where
    abbrev c : ℕ
    c = fault.cause

    abbrev e : ℕ
    e = fault.kind

    abbrev p : ℕ
    p = fault.place

    pub fault_refuses : Faulted t k.share.peer msg out c e p
    unfolding reading_of from_framing
    fault_refuses = by_frame (frame_fault msg) refl (sym (ap (λ (x : Result Plan Fault). meant x plan) is) ∙ given.result)
      where
        by_read : (g : rules.Reading Request) → read msg ≡ g → frame_fault msg ≡ none → refused c e p ≡ result_of g → Faulted t k.share.peer msg out c e p
        by_read (done y) q f h = let z : ◌≡◌ {A = ℕ} 0 1 = cc in absurd (omega arith)
        by_read (faulty x) q f h =
            let ec : cause_of x.cause ≡ c = cc in
            let ek : x.type ≡ e = cc in
            let ep : x.place ≡ p = cc in
            not_read_refuses t k.share.peer msg out ch.live f x q c e p ec ek ep

        by_frame : (f : Option Spot) → frame_fault msg ≡ f → refused c e p ≡ from_framing msg f → Faulted t k.share.peer msg out c e p
        by_frame none q h = by_read (read msg) refl q h
        by_frame (some u) q h =
            let ec : c ≡ 68 = cc in
            let ek : e ≡ u.type = cc in
            let ep : p ≡ u.place = cc in
            rw (ec, ek, ep) (not_framed_refuses t k.share.peer msg out ch.live u q)

    pub fault_asks : Refusing t k.share.peer msg out c (Some e)
    fault_asks = fault_refuses.refusing

    pub fault_replies : {used : ℕ} {out' : List ℕ} → Answers t k.share.peer msg out used out' t → Replies t k.share.peer msg out used p out' t
    fault_replies a = replies_fault fault_refuses a

  -- none
  module _ {w : Plan} (is : r ≡ Ok w) where
    abbrev request : Request
    request = request_in w.seid w.restoring w.noted (rows_of w.rows plan)

    is_whole : whole request ≡ reading_of msg
    is_whole = sym (ap (λ (x : Result Plan Fault). meant x plan) is) ∙ given.result

    none_at_fault : Faultless msg request
    none_at_fault = faultless msg request is_whole

    is_read : read_request msg ≡ request
    unfolding read_request asked_in
    is_read = ap asked_in none_at_fault.fine

    no_fault : read_fault msg ≡ none
    unfolding read_fault fault_in
    no_fault = ap fault_in none_at_fault.fine

    rows_within : w.rows * row_width ≤ length plan
    rows_within = let h : row_width * w.rows ≤ length plan = subst (λ (x : Result Plan Fault). row_width * rows_left x ≤ length plan) is given.room in omega arith

    readable : (place : Result ℕ ℕ) → Readable k (told_of w place) t msg out plan
    readable place =
        record {
          asked = ch.asked;
          kind_is = ch.kind_is;
          other = ch.other;
          verdict = read_through (view_settings t) k.share.peer (view_sessions t) msg ch.live none_at_fault.framed no_fault;
          means = is_read;
          rows = rows_within;
          only_null = subst (λ (x : Result Plan Fault). OnlyNull (rows_of (rows_left x) plan)) is given.only_null;
        }

    -- the rows are the request's
    pub reads : {q : Told} {slot : List ℕ} → Fetched t k.u.limit k.kind k.share.peer at w q slot → Readable k q t msg out plan
    reads f = subst (λ (d : Told). Readable k d t msg out plan) (sym f.told) (readable f.at)

    -- stages 4 to 6 have no place
    pub judged_replies : {used : ℕ} {out' t' : List ℕ} → Answers t k.share.peer msg out used out' t' → Replies t k.share.peer msg out used 0 out' t'
    unfolding judged
    judged_replies a =
        record {
          answers = a;
          placed =
              sym (ap (λ (v : Verdict). v.place)
              ((readable (Err 0)).verdict ∙ judge_plain (kind_of msg) (view_settings t) k.share.peer (view_sessions t) (entry_session k.share.peer (view_sessions t) msg) (read_request msg)));
        }

    -- the session at entry: what fetching it asks, and that it is it
    module _ (same : settings_of k.u ≡ view_settings t) (fits : w.seid < 2 ^ 64) where
      entering : Entering k w.seid t msg at
      unfolding request_in
      entering =
          record { peer = ch.asked.peer; table = ch.asked.table; table_long = ch.asked.table_long; kind_is = ch.kind_is; named = ch.asked.named; new = λ e. sym (ap (λ (x : Request). x.seid) is_read); fits = fits; found = ch.found }

      pub fetches : {slot : List ℕ} → length slot ≡ session_width → Fetching t slot k.u.limit k.kind w.seid at
      fetches l = fetch_asks k w t msg at entering (limit_is k.u (view_settings t) same) l

      pub enters : {q : Told} {slot : List ℕ} → Fetched t k.u.limit k.kind k.share.peer at w q slot → Entered k q t msg slot
      enters f = entered k w t msg at entering (limit_is k.u (view_settings t) same) f

-- Stages 4 to 6 of a request that was read: what the code's cause means.
-- Assumes nothing.
use Rattle.std.specs.Prelude.{None}
use mathlib.Core.Path.{◌≡◌, sym, ap, ◌∙◌, subst}
use mathlib.Core.Bool.{false}
use mathlib.Core.List.{List}
use Prim.Native.Nat.{ℕ, ◌≤◌, ◌<◌, ◌^◌}
use native.Mathlib.Omega.{arith}
use lib.Dec.{T, ltb→lt, ltb}
use lib.ListN.{length, take, replicate}
use lib.Seq.{sets, length-take-le}
use Rattle.octets.specs.Lists.{all}
use Rattle.rules.specs.Limits.{max_pdrs, max_pool, max_addresses}
use Rattle.rules.specs.Model.{Settings, Session, Sessions, held_teids, held_addresses}
use Rattle.rules.specs.Layout.{view_session, view_settings, view_sessions}
use Rattle.rules.specs.Sound.{settings_allowed}
use Rattle.rules.specs.Reading.{read_request}
use Rattle.rules.specs.Request.{Request}
use Rattle.rules.specs.Stages.{removed_pdrs, entry_session, Verdict, plain, judge, judged, reasons}
use Rattle.laws.proofs.ReasonLaws.{first_passes}
use Rattle.laws.proofs.KeptSettings.{settings_kept}
use Rattle.laws.proofs.KeptRules.{TableKept, table_kept}
use Rattle.invariants.proofs.FreeTeids.{held_in_pool}
use Rattle.pool.proofs.TakenLaws.{Means, map_means}
use Rattle.pool.proofs.AddressLaws.{address_map_means}
use Rattle.plan.specs.Rows.{rows_of, request_in}
use Rattle.plan.specs.RowRules.{request_of}
use Rattle.unit.specs.Meaning.{settings_of}
use Rattle.stages.specs.Rules.{Slot, Gone, AtEntry}
use Rattle.stages.specs.declared.Known.{Known}
use Rattle.stages.specs.declared.Told.{Told}
use Rattle.stages.proofs.SlotLaws.{removed_rows}
use Rattle.stages.proofs.EntryLaws.{gone_few, gone_stored, at_entry}
use Rattle.stages.proofs.VerdictLaws.{judge_plain}
use Rattle.changes.specs.Answers.{verdict_on, Refusing, Accepting}
use Rattle.changes.specs.Steps.{Counted, Entered, Readable}

-- a cause is one octet
judge_small : (kind : ℕ) (s : Settings) (who : ℕ) (m : Sessions) (x : Session) (r : Request) → (judge kind s who m x r).cause < 256
unfolding judge reasons all
judge_small kind s who m x r = ltb→lt (judge kind s who m x r).cause 256 (first_passes (λ n. ltb n 256) (reasons kind s who m x r) tt tt)

pool_small : (s : Settings) → T (settings_allowed s) → s.size ≤ max_pool
pool_small s h = (settings_kept s h).pool.few

pool_below : (s : Settings) → T (settings_allowed s) → s.first < 2 ^ 32
pool_below s h = omega (arith, (settings_kept s h).pool.some, (settings_kept s h).pool.last)

addresses_few : (s : Settings) → T (settings_allowed s) → s.address_count ≤ max_addresses
addresses_few s h = (settings_kept s h).addresses.few

addresses_below : (s : Settings) → T (settings_allowed s) → s.first_address < 2 ^ 32
addresses_below s h = omega (arith, (settings_kept s h).addresses.some, (settings_kept s h).addresses.last)

module _ {k : Known} {q : Told} {t msg out plan words ips slot stored : List ℕ} {n : ℕ} (r : Readable k q t msg out plan) (h : Counted k t words ips) (e : Entered k q t msg slot)
    (count : n ≡ length (removed_pdrs (request_of false (rows_of q.rows plan)) (view_session slot).pdrs))
    (ids : stored ≡ sets (replicate 16 0) 0 (removed_pdrs (request_of false (rows_of q.rows plan)) (view_session slot).pdrs)) where
  abbrev who : ℕ
  who = k.share.peer

  abbrev request : Request
  request = request_in q.seid q.restoring q.noted (rows_of q.rows plan)

  kept : TableKept t
  kept = table_kept t r.asked.table

  -- the PDRs that go are the rules'
  found : Gone slot (rows_of q.rows plan) (take n stored)
  found = gone_stored slot stored (rows_of q.rows plan) n e.place count ids

  marked_held : Means (view_settings t).first words (held_teids (view_sessions t))
  marked_held =
      subst (λ (w : List ℕ). Means (view_settings t).first w (held_teids (view_sessions t))) (sym h.marks)
      (map_means (view_settings t) (view_sessions t) kept.settings (held_in_pool (view_settings t) (view_sessions t) kept.sessions))

  marked_addresses : Means (view_settings t).first_address ips (held_addresses (view_settings t) (view_sessions t))
  marked_addresses =
      subst (λ (w : List ℕ). Means (view_settings t).first_address w (held_addresses (view_settings t) (view_sessions t))) (sym h.address_marks)
      (address_map_means (view_settings t) (view_sessions t) kept.settings)

  -- what stages 4 to 6 ask
  pub entry_asks : AtEntry k q t words ips slot (take n stored) plan
  entry_asks = at_entry h.settings r.asked.table e.place r.rows found h.long marked_held h.own h.address_long marked_addresses h.address_count e.known

  abbrev judgement : Verdict
  judgement = judge k.kind (settings_of k.u) who (view_sessions t) (view_session slot) request

  same_judgement : verdict_on t who msg ≡ judgement
  unfolding judged
  same_judgement = r.verdict ∙ (λ i. judge (sym r.kind_is i) (sym h.settings i) who (view_sessions t) (sym e.viewed i) (r.means i))

  same_removed : take n stored ≡ removed_pdrs (read_request msg) (entry_session who (view_sessions t) msg).pdrs
  same_removed =
      found ∙ sym (removed_rows q.seid q.restoring q.noted (rows_of q.rows plan) (view_session slot).pdrs)
      ∙ (λ i. removed_pdrs (sym r.means i) (e.viewed i).pdrs)

  module _ {c : ℕ} (is : c ≡ judgement.cause) where
    same_verdict : verdict_on t who msg ≡ plain c
    same_verdict = same_judgement ∙ judge_plain k.kind (settings_of k.u) who (view_sessions t) (view_session slot) request ∙ ap plain (sym is)

    pub settle_refuses : (c ≡ 1 → ⊥) → Refusing t k.share.peer msg out c None
    settle_refuses o =
        record {
          place = 0;
          verdict = same_verdict;
          small = subst (λ (z : ℕ). z < 256) (sym is) (judge_small k.kind (settings_of k.u) who (view_sessions t) (view_session slot) request);
          other = o;
        }

    pub settle_accepts : c ≡ 1 → Accepting k q t words ips msg slot (take n stored) plan out
    settle_accepts o =
        record {
          asked = r.asked;
          verdict = same_verdict ∙ ap plain o;
          other = r.other;
          means = r.means;
          rows = r.rows;
          only_null = r.only_null;
          entry = e.entry;
          slot_long = e.place.long;
          place = e.stands;
          removed = same_removed;
          marks = h.marks;
          map_long = h.long;
          settings = h.settings;
          first = pool_below (view_settings t) kept.settings;
          size = pool_small (view_settings t) kept.settings;
          address_marks = h.address_marks;
          address_map_long = h.address_long;
          first_address = addresses_below (view_settings t) kept.settings;
          addresses = addresses_few (view_settings t) kept.settings;
        }

-- no more PDRs go than there is room for
module _ {slot : List ℕ} (stored : List ℕ) (rows : List (List ℕ)) {n : ℕ} (p : Slot slot) (count : n ≡ length (removed_pdrs (request_of false rows) (view_session slot).pdrs)) (long : length stored ≡ max_pdrs) where
  pub gone_within : n ≤ length stored
  gone_within = omega (arith, count, long, gone_few (request_of false rows) slot p)

  pub gone_part : n ≡ length (take n stored)
  gone_part = sym (length-take-le n stored gone_within)

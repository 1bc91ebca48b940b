-- Demand 3 of runs in which repeats get the old reply, the store that the calls tell, and that none of the last eight reaches the engine again. Assumes
-- nothing.
use mathlib.Core.Path.{◌≡◌, refl, sym, ap, ap₂, ◌∙◌, subst}
use Prim.Native.Nat.{ℕ}
use mathlib.Core.Bool.{Bool, true, false, not, ◌&&◌}
use mathlib.Core.Option.{some}
use mathlib.Core.List.{List, [], ◌∷◌}
use lib.Dec.{T, eqb}
use Rattle.octets.specs.Choice.{pick}
use Rattle.octets.specs.Octets.{octets}
use Rattle.octets.specs.Lists.{all}
use Rattle.octets.proofs.Tests.{and_left, and_right, both, is_true, is_false}
use Rattle.octets.proofs.ListLaws.{by_test}
use Rattle.rules.specs.Model.{is_peer}
use Rattle.rules.specs.Layout.{encode}
use Rattle.rules.specs.Claim.{step_allowed, last_table, live_set, Promise}
use Rattle.rules.specs.Store.{Entry, store_octets, store_entries, store_sound, stored_reply}
use Rattle.store.proofs.StoreLaws.{Keeping, none_kept, entries_back, octets_sound}
use Rattle.rules.specs.Repeats.{Once, engine_reply, request_once, reaches}
use Rattle.repeats.proofs.Reaching.{reaches_engine, reaches_used, rests_table, Told, told}
use Rattle.repeats.proofs.Repeating.{stored_rests, stored_table, stored_store, stored_reply_lem, stored_told}
use Rattle.pfcp_session.specs.Calls.{request_call, once_call, request_answer, reply_of}
use Rattle.promises.specs.Runs.{requested, counted, counted_addresses, HostRan, claim_step, steps_of, Run, live_after, table_after, HostClaim}
use Rattle.promises.specs.Traffic.{TrafficStep, once, other, table_of, TrafficRan, engine_call, reached, traffic_table, traffic_allowed, Traffic, traffic_live, traffic_after, TrafficClaim, Handed, last_store, now_stored, told_stored, StoreTold, OnceEach, AtMostOnce}
use Rattle.promises.proofs.RunLaws.{host_claim}

-- ---- the requests that reach the engine

-- a peer's, that is not stored and whose number is newer
abbrev pub arrives : ℕ → List ℕ → List ℕ → Bool
arrives who store msg = is_peer who && reaches store msg

module _ (t : List ℕ) (who : ℕ) (store msg space : List ℕ) (r : Once) (e : r ≡ once_call t who store msg space) where
  engine_call_lem : T (arrives who store msg) → engine_call r ≡ request_call t who msg space
  unfolding once_call request_call request_answer reply_of engine_reply
  engine_call_lem h =
      let hw = and_left (is_peer who) (reaches store msg) h in
      let hr = and_right (is_peer who) (reaches store msg) h in
      let s = reaches_engine t who store msg space hw hr in
      ap engine_call e ∙ (λ i. record { outcome = (s i).outcome; used = reaches_used t who store msg space hw hr i; place = (s i).place; space = (s i).space; table = (s i).table })

  still_table : T (not (arrives who store msg)) → r.table ≡ t
  unfolding once_call
  still_table h = ap (λ (x : Once). x.table) e ∙ rests_table t who store msg space h

-- a run of the calls that reach the engine, which leaves the same table
reached_ran : (t : List ℕ) (steps : List TrafficStep) → TrafficRan t steps → HostRan t (reached steps)
unfolding reached
reached_ran t [] h = tt
reached_ran t (once who store msg space r ∷ steps) h =
    by_test {X = HostRan t (reached (once who store msg space r ∷ steps))} (arrives who store msg)
    (λ y. rw (is_true (arrives who store msg) y) (engine_call_lem t who store msg space r h.0 y, reached_ran r.table steps h.1))
    (λ n. rw (is_false (arrives who store msg) n) (subst (λ (u : List ℕ). HostRan u (reached steps)) (still_table t who store msg space r h.0 n) (reached_ran r.table steps h.1)))
reached_ran t (other (requested who msg space r) ∷ steps) h = (h.0.0, reached_ran r.table steps h.1)
reached_ran t (other (counted c) ∷ steps) h = (h.0.0, reached_ran t steps h.1)
reached_ran t (other (counted_addresses c) ∷ steps) h = (h.0.0, reached_ran t steps h.1)

reached_table : (t : List ℕ) (steps : List TrafficStep) → TrafficRan t steps → last_table t (steps_of (reached steps)) ≡ traffic_table t steps
unfolding reached traffic_table last_table claim_step
reached_table t [] h = refl
reached_table t (once who store msg space r ∷ steps) h =
    by_test (arrives who store msg)
    (λ y. rw (is_true (arrives who store msg) y) (reached_table r.table steps h.1))
    (λ n. rw (is_false (arrives who store msg) n) (ap (λ (u : List ℕ). last_table u (steps_of (reached steps))) (sym (still_table t who store msg space r h.0 n)) ∙ reached_table r.table steps h.1))
reached_table t (other (requested who msg space r) ∷ steps) h = reached_table r.table steps h.1
reached_table t (other (counted c) ∷ steps) h = reached_table t steps h.1
reached_table t (other (counted_addresses c) ∷ steps) h = reached_table t steps h.1

reached_allowed : (steps : List TrafficStep) → T (all traffic_allowed steps) → T (all step_allowed (steps_of (reached steps)))
unfolding reached all claim_step step_allowed traffic_allowed
reached_allowed [] h = tt
reached_allowed (once who store msg space r ∷ steps) h =
    by_test (arrives who store msg)
    (λ y. rw (is_true (arrives who store msg) y) (both (octets msg && octets space) (all step_allowed (steps_of (reached steps))) (and_left (octets msg && octets space) (all traffic_allowed steps) h) (reached_allowed steps (and_right (octets msg && octets space) (all traffic_allowed steps) h))))
    (λ n. rw (is_false (arrives who store msg) n) (reached_allowed steps (and_right (octets msg && octets space) (all traffic_allowed steps) h)))
reached_allowed (other x ∷ steps) h = both (step_allowed (claim_step x)) (all step_allowed (steps_of (reached steps))) (and_left (step_allowed (claim_step x)) (all traffic_allowed steps) h) (reached_allowed steps (and_right (step_allowed (claim_step x)) (all traffic_allowed steps) h))

-- the run of the engine
pub engine_run : Traffic → Run
engine_run run = record {
  settings = run.settings;
  found = run.found;
  made = run.made;
  steps = reached run.steps;
  making = run.making;
  success = run.success;
  allowed = reached_allowed run.steps run.allowed;
  ran = reached_ran run.made.table run.steps run.ran;
}

pub traffic_claim : TrafficClaim
unfolding TrafficClaim traffic_live traffic_after HostClaim live_after table_after engine_run
traffic_claim run =
    subst (λ (t : List ℕ). Promise run.settings (live_set (steps_of (reached run.steps))) t) (reached_table run.made.table run.steps run.ran) (host_claim (engine_run run))

-- what is said of a run of the engine is said of these settings, this live set and this table
pub engine_settings : (run : Traffic) → (engine_run run).settings ≡ run.settings
unfolding engine_run
engine_settings run = refl

pub engine_live : (run : Traffic) → live_after (engine_run run) ≡ traffic_live run
unfolding live_after traffic_live engine_run
engine_live run = refl

pub engine_table : (run : Traffic) → table_after (engine_run run) ≡ traffic_after run
unfolding table_after traffic_after engine_run
engine_table run = reached_table run.made.table run.steps run.ran

-- equal settings and equal live sets leave equal octets, whatever was repeated, dropped or refused on the way
pub traffic_same : (a b : Traffic) → a.settings ≡ b.settings → traffic_live a ≡ traffic_live b → traffic_after a ≡ traffic_after b
unfolding TrafficClaim
traffic_same a b e f = (traffic_claim a).holds.encoded ∙ ap₂ encode e f ∙ sym (traffic_claim b).holds.encoded

-- ---- the store that the calls tell

record Telling (s : List ℕ) (es : List Entry) : Type 0 where
  written : s ≡ store_octets es
  keeping : Keeping es

module _ (peer : ℕ) where
  handed_told : (t s : List ℕ) (es : List Entry) (steps : List TrafficStep) → Telling s es → TrafficRan t steps → Handed peer s steps → Telling (last_store peer s steps) (told_stored peer es steps)
  unfolding last_store told_stored now_stored once_call
  handed_told t s es [] k r h = k
  handed_told t s es (once who store msg space x ∷ steps) k r h = go (λ s' es' k' h'. handed_told x.table s' es' steps k' r.1 h') (eqb who peer) h.0 h.1
    where
      go : ((s' : List ℕ) (es' : List Entry) → Telling s' es' → Handed peer s' steps → Telling (last_store peer s' steps) (told_stored peer es' steps)) → (b : Bool) → (T b → store ≡ s)
          → Handed peer (pick b x.store s) steps → Telling (last_store peer (pick b x.store s) steps) (told_stored peer (pick b (now_stored es msg x) es) steps)
      go next true f g =
          let w : x ≡ request_once t who (store_octets es) msg space = r.0 ∙ ap (λ (u : List ℕ). request_once t who u msg space) (f tt ∙ k.written) in
          let a = subst (Told es msg) (sym w) (told t who msg space es k.keeping) in
          next x.store (now_stored es msg x) (record { written = a.store; keeping = a.keeping }) g
      go next false f g = next s es k g
  handed_told t s es (other y ∷ steps) k r h = handed_told (table_of t y) s es steps k r.1 h

  from_emptied : (t : List ℕ) (steps : List TrafficStep) → TrafficRan t steps → Handed peer (store_octets []) steps → Telling (last_store peer (store_octets []) steps) (told_stored peer [] steps)
  from_emptied t steps r h = handed_told t (store_octets []) [] steps (record { written = refl; keeping = none_kept }) r h

pub store_told : StoreTold
unfolding StoreTold
store_told t peer steps r h = (from_emptied peer t steps r h).written

-- ---- at most once

once_each : (t : List ℕ) (who : ℕ) (store : List ℕ) (es : List Entry) → Telling store es → OnceEach t who store es
unfolding once_call
once_each t who store es k =
    record {
      few = k.keeping.few;
      apart = k.keeping.apart;
      repeated = λ msg reply space e.
          let i : stored_reply msg (store_entries store) ≡ some reply = ap (stored_reply msg) (ap store_entries k.written ∙ entries_back k.keeping) ∙ e in
          record {
            rests = stored_rests t who store msg space reply i;
            table = stored_table t who store msg space reply i;
            kept = stored_store t who store msg space reply i;
            same = stored_reply_lem t who store msg space reply i;
            told = λ w. stored_told t who store msg space reply i w (subst (λ (s : List ℕ). T (store_sound s)) (sym k.written) (octets_sound k.keeping));
          };
    }

pub at_most_once : AtMostOnce
unfolding AtMostOnce
at_most_once t peer steps r h = once_each (traffic_table t steps) peer (last_store peer (store_octets []) steps) (told_stored peer [] steps) (from_emptied peer t steps r h)

-- Demand 3 from one fact about one request (`Keeps`): a run leaves what its calls compute, the table holds the live set, restorations in any
-- order make it again, and no history can be told from it.
-- Assumes nothing.
use mathlib.Core.Path.{◌≡◌, refl, sym, ap, ap₂, ◌∙◌, subst}
use Prim.Native.Nat.{ℕ}
use mathlib.Core.List.{List, [], ◌∷◌, map, Permᴰ}
use lib.Dec.{T}
use Rattle.octets.specs.Lists.{all}
use Rattle.octets.proofs.Tests.{all_head, all_tail, all_cons, pick_yes}
use Rattle.rules.specs.Model.{Settings, Sessions, free_count, free_address_count}
use Rattle.rules.specs.Layout.{encode, view_settings, view_sessions}
use Rattle.rules.specs.Sound.{settings_allowed, sessions_allowed, sound, make, free, broken, count_free, marked, taken_map, count_addresses, address_map}
use Rattle.rules.specs.Serve.{Served, serve}
use Rattle.rules.specs.Live.{Event, replied, accepted_event, live, live_from, reply_cause}
use Rattle.rules.specs.Calls.{Call, call_allowed, table_after_call, event_of, table_after_all, events_of}
use Rattle.rules.specs.Causes as why
use Rattle.rules.specs.Claim.{Step, asked, told, told_addresses, step_allowed, Ran, last_table, event_in, live_set, Restore, restored, restore_allowed, restore_calls, call_in, map_of, address_map_of, Holds, Restores, Demand3, EachItsDue}
use Rattle.laws.proofs.TableLaws.{sessions_back, encoded_settings, sound_encode}
use Rattle.claim.proofs.RestoreAll.{restored_table, restored_accepted}
use Rattle.invariants.proofs.Beside.{empty_allowed}
use Rattle.claim.proofs.Sequence.{kept_all, made_empty, made_settings}
use Rattle.invariants.proofs.Steps.{Keeps}
use Rattle.laws.proofs.PeerLaws.{peers_kept_lem}
use Rattle.pool.proofs.TakenLaws.{map_means}
use Rattle.pool.proofs.AddressLaws.{address_map_means}
use Rattle.invariants.proofs.FreeTeids.{held_in_pool}
use Rattle.invariants.proofs.PeersAfter.{guaranteed_passes}
use Rattle.invariants.proofs.ServeLaws.{answers, served_cause}
use Rattle.invariants.proofs.NoRoom.{cause_75}
use Rattle.octets.specs.Choice.{one_of}
use mathlib.Core.Bool.{Bool, true, false, not}
use mir.Facts.{yes_eqb}
use Rattle.rules.specs.Stages.{verdict, too_many_sessions, too_many_pdrs, too_many_endpoints, too_few_teids, room_lacks, entry_session}
use Rattle.rules.specs.Message.{kind_of}
use Rattle.rules.specs.Reading.{read_request}
use Rattle.octets.specs.Octets.{octets}

-- ---- a run leaves what its calls compute

abbrev calls : List Step → List Call
calls steps = map call_in steps

run_table : (t : List ℕ) (steps : List Step) → Ran t steps → last_table t steps ≡ table_after_all t (calls steps)
unfolding last_table call_in table_after_all table_after_call
run_table t [] h = refl
run_table t (asked who msg space r ∷ steps) h =
    run_table r.table steps h.1 ∙ ap (λ (q : Served). table_after_all q.table (calls steps)) h.0
run_table t (told c ∷ steps) h = run_table t steps h.1
run_table t (told_addresses c ∷ steps) h = run_table t steps h.1

run_events : (t : List ℕ) (steps : List Step) → Ran t steps → map event_in steps ≡ events_of t (calls steps)
unfolding event_in call_in events_of event_of table_after_call
run_events t [] h = refl
run_events t (asked who msg space r ∷ steps) h =
    ap (λ (es : List Event). replied who msg r.outcome r.space ∷ es) (run_events r.table steps h.1)
    ∙ ap (λ (q : Served). replied who msg q.outcome q.space ∷ events_of q.table (calls steps)) h.0
run_events t (told c ∷ steps) h = ap (λ (es : List Event). event_in (told c) ∷ es) (run_events t steps h.1)
run_events t (told_addresses c ∷ steps) h = ap (λ (es : List Event). event_in (told_addresses c) ∷ es) (run_events t steps h.1)

run_allowed : (steps : List Step) → T (all step_allowed steps) → T (all call_allowed (calls steps))
unfolding step_allowed call_in call_allowed all
run_allowed [] h = tt
run_allowed (asked who msg space r ∷ steps) h =
    all_cons call_allowed (call_in (asked who msg space r)) (calls steps) (all_head step_allowed (asked who msg space r) steps h) (run_allowed steps (all_tail step_allowed (asked who msg space r) steps h))
run_allowed (told c ∷ steps) h =
    all_cons call_allowed (call_in (told c)) (calls steps) tt (run_allowed steps (all_tail step_allowed (told c) steps h))
run_allowed (told_addresses c ∷ steps) h =
    all_cons call_allowed (call_in (told_addresses c)) (calls steps) tt (run_allowed steps (all_tail step_allowed (told_addresses c) steps h))

-- ---- restorations of the sessions that a table encodes

module _ (s : Settings) (hs : T (settings_allowed s)) (m : Sessions) (hm : T (sessions_allowed s m)) (t : List ℕ) (encoded : t ≡ encode s m) where
  -- run on an empty table in any order, they leave that table
  pub restores_table : (b : List ℕ) (rs : List Restore) (again : List Step) → T (make s b).made → T (all restore_allowed rs)
      → Ran (make s b).table again → calls again ≡ restore_calls s rs → Permᴰ m (map restored rs)
      → Restores t (make s b).table again
  restores_table b rs again hb ok ran are order =
      let e : (make s b).table ≡ encode s [] = made_empty s b hb in
      let same : last_table (make s b).table again ≡ t =
      run_table (make s b).table again ran
      ∙ ap₂ (λ (u : List ℕ) (cs : List Call). table_after_all u cs) e are
      ∙ restored_table s hs m hm rs ok order
      ∙ sym encoded in
      record {
        each =
            subst (λ (es : List Event). T (all accepted_event es))
            (sym (run_events (make s b).table again ran ∙ ap₂ (λ (u : List ℕ) (cs : List Call). events_of u cs) e are))
            (restored_accepted s hs m hm rs ok order);
        octets_equal = same;
      }

-- ---- the claim

module _ (keeps : Keeps) (s : Settings) where
  -- a table that encodes sessions holds them
  held : T (settings_allowed s) → (m : Sessions) → T (sessions_allowed s m) → (t : List ℕ) → t ≡ encode s m → Holds s m t
  unfolding count_free free_count map_of count_addresses free_address_count address_map_of
  held hs m hm t e =
      let settings : view_settings t ≡ s = ap view_settings e ∙ encoded_settings s hs m hm in
      let records : view_sessions t ≡ m = ap view_sessions e ∙ sessions_back s hs m hm in
      let yes : T (sound t) = subst (λ (u : List ℕ). T (sound u)) (sym e) (sound_encode s hs m hm) in
      record {
        settings = settings;
        records = records;
        encoded = e;
        count =
            pick_yes (sound t) (free (free_count (view_settings t) (view_sessions t))) broken yes
            ∙ ap₂ (λ (u : Settings) (n : Sessions). free (free_count u n)) settings records;
        marks = λ i. ap (λ (words : List ℕ). marked words i) (ap₂ taken_map settings records) ∙ map_means s m hs (held_in_pool s m hm) i;
        address_count =
            pick_yes (sound t) (free (free_address_count (view_settings t) (view_sessions t))) broken yes
            ∙ ap₂ (λ (u : Settings) (n : Sessions). free (free_address_count u n)) settings records;
        address_marks = λ i. ap (λ (words : List ℕ). marked words i) (ap₂ address_map settings records) ∙ address_map_means s m hs i;
      }

  module _ (a : List ℕ) (steps : List Step) (ha : T (make s a).made) (ho : T (all step_allowed steps)) (hr : Ran (make s a).table steps) where
    -- what a run leaves: sessions that keep the rules, and their octets
    record Left (m : Sessions) (t : List ℕ) : Type 0 where
      settings : T (settings_allowed s)
      sessions : T (sessions_allowed s m)
      table : t ≡ encode s m

    left : Left (live_set steps) (last_table (make s a).table steps)
    unfolding live_set live
    left =
        let hs = made_settings s a ha in
        let e : (make s a).table ≡ encode s [] = made_empty s a ha in
        let k = kept_all keeps s hs (calls steps) [] (empty_allowed s hs) (run_allowed steps ho) in
        let same : live_from [] (events_of (encode s []) (calls steps)) ≡ live_from [] (map event_in steps)
        = ap (λ (t : List ℕ). live_from [] (events_of t (calls steps))) (sym e) ∙ ap (live_from []) (sym (run_events (make s a).table steps hr)) in
        record {
          settings = hs;
          sessions = subst (λ (n : Sessions). T (sessions_allowed s n)) same k.sound;
          table =
              run_table (make s a).table steps hr ∙ ap (λ (t : List ℕ). table_after_all t (calls steps)) e ∙ k.table ∙ ap (encode s) same;
        }

-- demand 3, from the fact about one request
pub claim : Keeps → Demand3
unfolding Demand3
claim keeps s a steps ha ho hr =
    let l = left keeps s a steps ha ho hr in
    let m = live_set steps in
    let t = last_table (make s a).table steps in
    record {
      holds = held keeps s l.settings m l.sessions t l.table;
      restores = restores_table s l.settings m l.sessions t l.table;
      no_history = λ b again hb hc ran lives.
          let k = left keeps s b again hb hc ran in
          k.table ∙ ap (encode s) lives ∙ sym l.table;
    }

-- ---- each peer its due (02 (xiv))

-- the first three of four tests, where the last one fails
first_three : (a b c d : Bool) → T (one_of (a ∷ b ∷ c ∷ d ∷ [])) → T (not d) → T (one_of (a ∷ b ∷ c ∷ []))
first_three true b c d h g = tt
first_three false true c d h g = tt
first_three false false true d h g = tt
first_three false false false true h g = absurd g
first_three false false false false h g = absurd h

-- a 75 that is not for want of TEIDs
for_others : (t : List ℕ) (who : ℕ) (msg space : List ℕ) → T (octets msg) → (s : Settings) (m : Sessions) → view_settings t ≡ s → view_sessions t ≡ m
    → (serve t who msg space).outcome ≡ 0 → reply_cause (serve t who msg space).space ≡ why.no_room → T (not (too_few_teids s who m (read_request msg)))
    → T (one_of (too_many_sessions s who (kind_of msg) m ∷ too_many_pdrs (entry_session who m msg) (read_request msg) ∷ too_many_endpoints (entry_session who m msg) (read_request msg) ∷ []))
unfolding room_lacks
for_others t who msg space hm s m es em zero' e passes =
    let cause = ap₂ (λ (s' : Settings) (m' : Sessions). (verdict s' who m' msg).cause) (sym es) (sym em) ∙ sym (served_cause t who msg space hm (yes_eqb zero')) ∙ e in
    first_three (too_many_sessions s who (kind_of msg) m) (too_many_pdrs (entry_session who m msg) (read_request msg)) (too_many_endpoints (entry_session who m msg) (read_request msg)) (too_few_teids s who m (read_request msg))
    (cause_75 s who m msg cause).1 passes

pub dues : Keeps → EachItsDue
unfolding EachItsDue
dues keeps s a steps ha ho hr =
    let l = left keeps s a steps ha ho hr in
    let m = live_set steps in
    let t = last_table (make s a).table steps in
    let k = peers_kept_lem s m l.sessions in
    let h = held keeps s l.settings m l.sessions t l.table in
    record {
      limited = k.teids;
      guaranteed = λ who r hw g. guaranteed_passes s who m r hw l.settings k g;
      answered = λ who msg space hm g zero' e.
          for_others t who msg space hm s m h.settings h.records zero' e
          (guaranteed_passes s who m (read_request msg) (answers t who msg space (yes_eqb zero')).peer l.settings k g);
    }

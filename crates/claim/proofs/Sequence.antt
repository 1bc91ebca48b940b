-- Calls one after the other, from one fact about one request: an accepted request keeps the rules and changes the table as it changes the live set.
-- Assumes nothing.
use mathlib.Core.Path.{◌≡◌, refl, sym, ap, ap₂, ◌∙◌, subst}
use Prim.Native.Nat.{ℕ}
use mathlib.Core.Bool.{Bool, true, false, ◌&&◌}
use mathlib.Core.List.{List, [], ◌∷◌}
use lib.ListN.{length}
use lib.Dec.{T, eqb}
use Rattle.octets.specs.Choice.{pick}
use Rattle.octets.specs.Octets.{octets}
use Rattle.octets.specs.Lists.{all}
use Rattle.octets.proofs.Tests.{and_left, and_right, all_head, all_tail}
use Rattle.rules.specs.Model.{Settings, Sessions}
use Rattle.rules.specs.Layout.{table_length, encode}
use Rattle.rules.specs.Sound.{settings_allowed, sessions_allowed, make, Made}
use Rattle.rules.specs.Live.{accepted_event, live_step, live_from}
use Rattle.rules.specs.Calls.{Call, request, count, count_ips, call_allowed, table_after_call, event_of, table_after_all, events_of}
use Rattle.invariants.proofs.Steps.{Kept, Keeps}

module _ (keeps : Keeps) (s : Settings) (hs : T (settings_allowed s)) where
  one : (m : Sessions) (c : Call) → T (sessions_allowed s m) → T (call_allowed c) → Kept s m (table_after_call (encode s m) c) (event_of (encode s m) c)
  unfolding Keeps call_allowed table_after_call event_of live_step accepted_event
  one m (request who msg space) hm hc = keeps s who m msg space hs hm (and_left (octets msg) (octets space) hc) (and_right (octets msg) (octets space) hc)
  one m count hm hc = record { after = m; sound = hm; table = refl; live = refl }
  one m count_ips hm hc = record { after = m; sound = hm; table = refl; live = refl }

  -- calls one after the other
  pub record KeptAll (m : Sessions) (cs : List Call) : Type 0 where
    pub sound : T (sessions_allowed s (live_from m (events_of (encode s m) cs)))
    pub table : table_after_all (encode s m) cs ≡ encode s (live_from m (events_of (encode s m) cs))

  pub kept_all : (cs : List Call) (m : Sessions) → T (sessions_allowed s m) → T (all call_allowed cs) → KeptAll m cs
  unfolding table_after_all events_of live_from
  kept_all [] m hm hc = record { sound = hm; table = refl }
  kept_all (c ∷ cs) m hm hc =
      let k = one m c hm (all_head call_allowed c cs hc) in
      let ih = kept_all cs k.after k.sound (all_tail call_allowed c cs hc) in
      let same : live_from k.after (events_of (encode s k.after) cs) ≡ live_from (live_step m (event_of (encode s m) c)) (events_of (table_after_call (encode s m) c) cs)
      = ap₂ (λ (n : Sessions) (t : List ℕ). live_from n (events_of t cs)) (sym k.live) (sym k.table) in
      record {
        sound = subst (λ (n : Sessions). T (sessions_allowed s n)) same ih.sound;
        table = ap (λ (t : List ℕ). table_after_all t cs) k.table ∙ ih.table ∙ ap (encode s) same;
      }

-- an empty table that was made is the empty table
pub made_empty : (s : Settings) (a : List ℕ) → T (make s a).made → (make s a).table ≡ encode s []
unfolding make
made_empty s a h = go (settings_allowed s && eqb (length a) (table_length s.limit)) h
  where
    go : (b : Bool) → T (pick {X = Made} b (record { made = true; table = encode s [] }) (record { made = false; table = a })).made
        → (pick {X = Made} b (record { made = true; table = encode s [] }) (record { made = false; table = a })).table ≡ encode s []
    go true h = refl
    go false h = absurd h

pub made_settings : (s : Settings) (a : List ℕ) → T (make s a).made → T (settings_allowed s)
unfolding make
made_settings s a h = and_left (settings_allowed s) (eqb (length a) (table_length s.limit)) (go (settings_allowed s && eqb (length a) (table_length s.limit)) h)
  where
    go : (b : Bool) → T (pick {X = Made} b (record { made = true; table = encode s [] }) (record { made = false; table = a })).made → T b
    go true h = tt
    go false h = h

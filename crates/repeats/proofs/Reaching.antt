-- Which requests reach the engine: these leave what it leaves, the others leave the table; and what the calls alone say is stored. Assumes nothing.
use mathlib.Core.Path.{◌≡◌, refl, sym, ap, ◌∙◌, subst}
use Prim.Native.Nat.{ℕ}
use mathlib.Core.Bool.{Bool, true, false, not, ◌&&◌}
use mathlib.Core.Option.{Option, none}
use mathlib.Core.List.{List}
use lib.ListN.{length, take}
use lib.Dec.{T, T_not, eqb}
use borrow.Author.Tests.{eq-eqb}
use Rattle.octets.specs.Choice.{pick, is_some}
use Rattle.octets.proofs.Tests.{and_left, and_right, of_true, is_true, is_false}
use Rattle.rules.specs.Model.{is_peer}
use Rattle.rules.specs.Serve.{Served, serve}
use Rattle.invariants.proofs.ServeLaws.{answers, unserved_nothing}
use Rattle.rules.specs.Store.{Entry, entry, store_octets, store_entries, store_sound, stored_reply, remember}
use Rattle.rules.specs.Repeats.{takes, Once, engine_reply, request_once, reaches}
use Rattle.store.proofs.StoreLaws.{Keeping, octets_sound, entries_back}
use Rattle.repeats.proofs.ServedLaws.{front_of_lem}
use Rattle.repeats.proofs.StoreKept.{once_cases, keeps, engine_space}

-- what the engine left
abbrev pub as_served : Once → Served
as_served x = record { outcome = x.outcome; place = x.place; space = x.space; table = x.table }

abbrev pub used_of : List ℕ → ℕ → List ℕ → ℕ → ℕ
used_of t who msg o = pick (eqb o 0) (length (engine_reply t who msg)) 0

module _ (t : List ℕ) (who : ℕ) (store msg space : List ℕ) where
  sound_there : T (reaches store msg) → T (store_sound store)
  unfolding reaches
  sound_there h = and_left (store_sound store) (not (is_some (stored_reply msg (store_entries store)))) (and_left (store_sound store && not (is_some (stored_reply msg (store_entries store)))) (takes (store_entries store) msg) h)

  pub none_there : T (reaches store msg) → T (not (is_some (stored_reply msg (store_entries store))))
  unfolding reaches
  none_there h = and_right (store_sound store) (not (is_some (stored_reply msg (store_entries store)))) (and_left (store_sound store && not (is_some (stored_reply msg (store_entries store)))) (takes (store_entries store) msg) h)

  newer_there : T (reaches store msg) → T (takes (store_entries store) msg)
  unfolding reaches
  newer_there h = and_right (store_sound store && not (is_some (stored_reply msg (store_entries store)))) (takes (store_entries store) msg) h

  pub reaches_engine : T (is_peer who) → T (reaches store msg) → as_served (request_once t who store msg space) ≡ serve t who msg space
  reaches_engine hw r =
      once_cases t who store msg space (λ (x : Once). as_served x ≡ serve t who msg space)
      (λ n. absurd (T_not (is_peer who) n hw))
      (λ h. absurd (T_not (store_sound store) h (sound_there r)))
      (λ h n. sym (unserved_nothing t who msg space n))
      (λ h z q i. absurd (subst (λ (o : Option (List ℕ)). T (not (is_some o))) i (none_there r)))
      (λ h z i k. absurd (T_not (takes (store_entries store) msg) k (newer_there r)))
      (λ h z i k. refl)

  pub reaches_used : T (is_peer who) → T (reaches store msg) → (request_once t who store msg space).used ≡ used_of t who msg (serve t who msg space).outcome
  reaches_used hw r =
      once_cases t who store msg space (λ (x : Once). x.used ≡ used_of t who msg (serve t who msg space).outcome)
      (λ n. absurd (T_not (is_peer who) n hw))
      (λ h. absurd (T_not (store_sound store) h (sound_there r)))
      (λ h n. sym (ap (λ (b : Bool). pick b (length (engine_reply t who msg)) 0) (is_false (eqb (serve t who msg space).outcome 0) n)))
      (λ h z q i. absurd (subst (λ (o : Option (List ℕ)). T (not (is_some o))) i (none_there r)))
      (λ h z i k. absurd (T_not (takes (store_entries store) msg) k (newer_there r)))
      (λ h z i k. sym (ap (λ (b : Bool). pick b (length (engine_reply t who msg)) 0) (eq-eqb (serve t who msg space).outcome 0 z)))

  -- any other request leaves the table
  pub rests_table : T (not (is_peer who && reaches store msg)) → (request_once t who store msg space).table ≡ t
  unfolding reaches
  rests_table r =
      once_cases t who store msg space (λ (x : Once). x.table ≡ t) (λ n. refl) (λ h. refl) (λ h n. refl) (λ h z q i. refl) (λ h z i k. refl)
      (λ h z i k. absurd (subst (λ (b : Bool). T (not b)) (all_four (answers t who msg space (of_true (eq-eqb (serve t who msg space).outcome 0 z))).peer h i k) r))
    where
      all_four : T (is_peer who) → T (store_sound store) → stored_reply msg (store_entries store) ≡ none → T (takes (store_entries store) msg)
          → (is_peer who && (store_sound store && not (is_some (stored_reply msg (store_entries store))) && takes (store_entries store) msg)) ≡ true
      all_four w h i k = rw (is_true (is_peer who) w, is_true (store_sound store) h, i, is_true (takes (store_entries store) msg) k)

-- ---- what the calls say is stored

-- the entries after a call, by its message, outcome and reply
abbrev pub after : List Entry → List ℕ → Once → List Entry
after es msg x = pick (eqb x.outcome 0 && not (is_some (stored_reply msg es))) (remember (entry msg (take x.used x.space)) es) es

pub record Told (es : List Entry) (msg : List ℕ) (x : Once) : Type 0 where
  pub store : x.store ≡ store_octets (after es msg x)
  pub keeping : Keeping (after es msg x)

told_same : (es : List Entry) (msg : List ℕ) (x : Once) → Keeping es → x.store ≡ store_octets es → (eqb x.outcome 0 && not (is_some (stored_reply msg es))) ≡ false → Told es msg x
told_same es msg x k e h = record { store = rw h e; keeping = rw h k }

told_new : (es : List Entry) (msg : List ℕ) (x : Once) (q : List ℕ) → take x.used x.space ≡ q → Keeping (remember (entry msg q) es) → x.store ≡ store_octets (remember (entry msg q) es)
    → (eqb x.outcome 0 && not (is_some (stored_reply msg es))) ≡ true → Told es msg x
told_new es msg x q t k e h = record { store = rw (h, t) e; keeping = rw (h, t) k }

pub told : (t : List ℕ) (who : ℕ) (msg space : List ℕ) (es : List Entry) → Keeping es → Told es msg (request_once t who (store_octets es) msg space)
told t who msg space es k =
    once_cases t who (store_octets es) msg space (λ (x : Once). Told es msg x)
    (λ n. told_same es msg _ k refl refl)
    (λ h. absurd (T_not (store_sound (store_octets es)) h (octets_sound k)))
    (λ h n. told_same es msg _ k refl (rw (is_false (eqb (serve t who msg space).outcome 0) n)))
    (λ h z r i. told_same es msg _ k refl (rw (sym (ap (stored_reply msg) back) ∙ i)))
    (λ h z i j. told_same es msg _ k refl refl)
    (λ h z i j.
    let a = answers t who msg space (of_true (eq-eqb (serve t who msg space).outcome 0 z)) in
    let q = engine_reply t who msg in
    told_new es msg _ q (ap (take (length q)) (engine_space t who msg space a) ∙ front_of_lem q space)
    (subst (λ (l : List Entry). Keeping (remember (entry msg q) l)) back (keeps t who (store_octets es) msg space h z i))
    (ap (λ (l : List Entry). store_octets (remember (entry msg q) l)) back)
    (rw (eq-eqb (serve t who msg space).outcome 0 z, sym (ap (stored_reply msg) back) ∙ i)))
  where
    back : store_entries (store_octets es) ≡ es
    back = entries_back k

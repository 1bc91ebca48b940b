-- What a store is good for: no request breaks one, equal octets get the stored reply and change nothing, and a request that got a reply is stored.
-- Assumes nothing.
use mathlib.Core.Path.{◌≡◌, refl, sym, ap, ◌∙◌}
use Prim.Native.Nat.{ℕ, ◌≤◌}
use native.Mathlib.Omega.{arith}
use mathlib.Core.Bool.{Bool, true, false, not}
use mathlib.Core.Option.{Option, none, some}
use mathlib.Core.List.{List, [], ◌∷◌, ◌++◌}
use lib.ListN.{length}
use lib.Dec.{T, T_not, ltb, eqb}
use borrow.Author.Tests.{eq-eqb, eqb-true}
use Rattle.octets.specs.Choice.{pick, rest, is_some, map_option}
use Rattle.octets.specs.Octets.{put}
use Rattle.octets.specs.Lists.{all, find_by}
use Rattle.octets.proofs.ListLaws.{pick_cases}
use Rattle.octets.proofs.Numbers.{same_refl}
use Rattle.octets.proofs.Tests.{of_true, is_true, is_false, all_tail, all_head}
use Rattle.rules.specs.Limits.{min_space}
use Rattle.rules.specs.Model.{is_peer}
use Rattle.rules.specs.Sound.{sound}
use Rattle.rules.specs.Serve.{Served, answered, answer, serve}
use Rattle.invariants.proofs.ServeLaws.{Answers, answers, answered_zero}
use Rattle.rules.specs.Store.{request_allowed, Entry, entry, store_entries, store_sound, stored_reply, has_message, reply_of, differ, remember, max_entries}
use Rattle.rules.specs.Repeats.{takes, Once, unanswered, again, engine_reply, anew, by_store, request_once}
use Rattle.store.proofs.EntryLaws.{is_allowed_lem}
use Rattle.store.proofs.EntriesLaws.{stored_none}
use Rattle.store.proofs.StoreLaws.{Keeping, octets_sound, entries_back}
use Rattle.store.proofs.StoreLaws.{sound as Store-is}
use Rattle.store.proofs.KeepLaws.{remembered}
use Rattle.repeats.proofs.ServedLaws.{is_request_lem, reply_some, reply_few, resting_is, answered_request}
use Rattle.repeats.proofs.OnceLaws.{resting_none}

module _ (t : List ℕ) (who : ℕ) (store msg space : List ℕ) where
  -- every case of a request
  pub once_cases : (P : Once → Type 0)
      → (T (not (is_peer who)) → P (unanswered 7 t store space))
      → (T (not (store_sound store)) → P (unanswered 1 t store space))
      → (T (store_sound store) → T (not (eqb (serve t who msg space).outcome 0)) → P (unanswered (serve t who msg space).outcome t store space))
      → (T (store_sound store) → (serve t who msg space).outcome ≡ 0 → (r : List ℕ) → stored_reply msg (store_entries store) ≡ some r → P (again r t store space))
      → (T (store_sound store) → (serve t who msg space).outcome ≡ 0 → stored_reply msg (store_entries store) ≡ none → T (not (takes (store_entries store) msg)) → P (unanswered 6 t store space))
      → (T (store_sound store) → (serve t who msg space).outcome ≡ 0 → stored_reply msg (store_entries store) ≡ none → T (takes (store_entries store) msg) → P (anew (serve t who msg space) (engine_reply t who msg) store msg))
      → P (request_once t who store msg space)
  unfolding request_once
  once_cases P stranger broken other same old new =
      pick_cases P (is_peer who) _ (unanswered 7 t store space)
      (λ _. pick_cases P (store_sound store) _ (unanswered 1 t store space)
      (λ h. pick_cases P (eqb (serve t who msg space).outcome 0) _ (unanswered (serve t who msg space).outcome t store space)
      (λ z. let e = eqb-true (serve t who msg space).outcome 0 (is_true _ z) in by_reply (stored_reply msg (store_entries store)) refl h e)
      (λ n. other h n))
      (λ h. broken h))
      (λ n. stranger n)
    where
      by_reply : (o : Option (List ℕ)) → stored_reply msg (store_entries store) ≡ o → T (store_sound store) → (serve t who msg space).outcome ≡ 0 → P (by_store o t who store msg space)
      by_reply (some r) p h e = unfold by_store in (same h e r p)
      by_reply none p h e =
          unfold by_store in
          (pick_cases P (takes (store_entries store) msg) (anew (serve t who msg space) (engine_reply t who msg) store msg) (unanswered 6 t store space) (λ k. new h e p k) (λ k. old h e p k))

  -- what is kept may stand in a store
  pub keeps : T (store_sound store) → (serve t who msg space).outcome ≡ 0 → stored_reply msg (store_entries store) ≡ none → Keeping (remember (entry msg (engine_reply t who msg)) (store_entries store))
  keeps h e n =
      let a = answers t who msg space (of_true (eq-eqb (serve t who msg space).outcome 0 e)) in
      remembered (entry msg (engine_reply t who msg)) (store_entries store) (Store-is store h).keeping
      (is_allowed_lem (entry msg (engine_reply t who msg)) (is_request_lem msg a.short a.header a.kind) (reply_some t who msg) (reply_few t who msg space a)) n

  -- no request breaks a store that is not broken
  pub store_kept : T (store_sound store) → T (store_sound (request_once t who store msg space).store)
  store_kept h =
      once_cases (λ (x : Once). T (store_sound x.store)) (λ _. h) (λ _. h) (λ _ _. h) (λ _ _ r _. h) (λ _ _ _ _. h)
      (λ k e n _. octets_sound (keeps k e n))

  -- and one that is broken stays as it was
  pub broken_kept : T (is_peer who) → T (not (store_sound store)) → request_once t who store msg space ≡ unanswered 1 t store space
  unfolding request_once
  broken_kept hw h = rw (is_true (is_peer who) hw, is_false (store_sound store) h)

  -- equal octets get the stored reply, and change nothing
  pub stored_again : (r : List ℕ) → T (is_peer who) → T (store_sound store) → stored_reply msg (store_entries store) ≡ some r → (serve t who msg space).outcome ≡ 0 → request_once t who store msg space ≡ again r t store space
  unfolding request_once by_store
  stored_again r hw h e z = rw (is_true (is_peer who) hw, is_true (store_sound store) h, eq-eqb (serve t who msg space).outcome 0 z, e)

-- ---- a request that got a reply is stored

has_own : (msg q : List ℕ) → has_message msg (entry msg q) ≡ true
unfolding has_message
has_own msg q = same_refl msg

found_last : (p : Entry → Bool) (es : List Entry) (x : Entry) → T (all (λ e. not (p e)) es) → p x ≡ true → find_by p (es ++ (x ∷ [])) ≡ some x
unfolding find_by
found_last p [] x h e = rw e
found_last p (y ∷ es) x h e = rw (is_false (p y) (all_head (λ z. not (p z)) y es h)) (found_last p es x (all_tail (λ z. not (p z)) y es h) e)

pub stored_now : (msg q : List ℕ) (es : List Entry) → stored_reply msg es ≡ none → stored_reply msg (remember (entry msg q) es) ≡ some q
unfolding stored_reply remember
stored_now msg q es e = ap (map_option reply_of) (go (ltb (length es) max_entries))
  where
    others : T (all (λ x. not (has_message msg x)) es)
    others = unfold differ in (stored_none (entry msg q) es (ap is_some (unfold stored_reply in e)))

    still : (l : List Entry) → T (all (λ x. not (has_message msg x)) l) → T (all (λ x. not (has_message msg x)) (rest l))
    still [] h = h
    still (y ∷ l) h = all_tail (λ x. not (has_message msg x)) y l h

    go : (b : Bool) → find_by (has_message msg) (pick b es (rest es) ++ (entry msg q ∷ [])) ≡ some (entry msg q)
    go true = found_last (has_message msg) es (entry msg q) others (has_own msg q)
    go false = found_last (has_message msg) (rest es) (entry msg q) (still es others) (has_own msg q)

-- a request that got a reply, with the octets of the reply; they are stored
pub record Replies (x : Once) (msg space : List ℕ) : Type 0 where
  pub reply : List ℕ
  pub request : T (request_allowed msg)
  pub used : x.used ≡ length reply
  pub written : x.space ≡ put 0 reply space
  pub sound : T (store_sound x.store)
  pub stored : stored_reply msg (store_entries x.store) ≡ some reply

pub engine_space : (t : List ℕ) (who : ℕ) (msg space : List ℕ) → Answers t who msg space → (serve t who msg space).space ≡ put 0 (engine_reply t who msg) space
unfolding answer answered engine_reply
engine_space t who msg space a = ap (λ (v : Served). v.space) (answered_zero t who msg space a)

pub replies : (t : List ℕ) (who : ℕ) (store msg space : List ℕ) → (request_once t who store msg space).outcome ≡ 0 → Replies (request_once t who store msg space) msg space
replies t who store msg space =
    once_cases t who store msg space (λ (x : Once). x.outcome ≡ 0 → Replies x msg space)
    (λ h e. absurd (omega (arith, e)))
    (λ h e. absurd (omega (arith, e)))
    (λ h n e. absurd (T_not (eqb (serve t who msg space).outcome 0) n (of_true (eq-eqb (serve t who msg space).outcome 0 e))))
    (λ h z r i e. record { reply = r; request = asked z; used = refl; written = refl; sound = h; stored = i })
    (λ h z n k e. absurd (omega (arith, e)))
    (λ h z n k e.
    let w = keeps t who store msg space h z n in
    record {
      reply = engine_reply t who msg;
      request = asked z;
      used = refl;
      written = engine_space t who msg space (answers t who msg space (of_true (eq-eqb (serve t who msg space).outcome 0 z)));
      sound = octets_sound w;
      stored = ap (stored_reply msg) (entries_back w) ∙ stored_now msg (engine_reply t who msg) (store_entries store) n;
    })
  where
    asked : (serve t who msg space).outcome ≡ 0 → T (request_allowed msg)
    asked z = answered_request t who msg space z

-- a repeat of a peer's gets it again, on any table that is not broken and in any reply space that outcome 2 lets pass, and changes nothing
pub repeat_told : (x : Once) (msg space : List ℕ) (r : Replies x msg space) (t' : List ℕ) (who : ℕ) (space' : List ℕ) → T (is_peer who) → T (sound t') → min_space ≤ length space'
    → request_once t' who x.store msg space' ≡ again r.reply t' x.store space'
repeat_told x msg space r t' who space' hw h l =
    stored_again t' who x.store msg space' r.reply hw r.sound r.stored (resting_is t' who msg space' hw r.request ∙ sym (resting_none t' space' (is_true (sound t') h) l))

-- A request that is stored: it does not reach the engine, nothing changes, and it gets the stored reply. Assumes nothing.
use mathlib.Core.Path.{◌≡◌, refl, sym, ap, ◌∙◌, subst}
use Prim.Native.Nat.{ℕ, ◌≤◌}
use native.Mathlib.Omega.{arith}
use mathlib.Core.Bool.{Bool, true, false, not, ◌&&◌}
use mathlib.Core.Option.{Option, none, some}
use mathlib.Core.List.{List, [], ◌∷◌}
use lib.ListN.{length}
use lib.Dec.{T, T_not, not_T, eqb}
use borrow.Author.Tests.{eq-eqb}
use Rattle.octets.specs.Choice.{pick, is_some, value_or, map_option}
use Rattle.octets.specs.Lists.{all, find_by}
use Rattle.octets.proofs.Numbers.{same_eq}
use Rattle.octets.proofs.Tests.{and_left, and_right, of_true, is_true, all_head, all_tail}
use Rattle.rules.specs.Limits.{min_space}
use Rattle.rules.specs.Model.{is_peer}
use Rattle.rules.specs.Sound.{sound}
use Rattle.rules.specs.Serve.{serve}
use Rattle.rules.specs.Store.{Entry, request_allowed, reply_allowed, entry_allowed, store_entries, store_sound, has_message, reply_of, stored_reply}
use Rattle.rules.specs.Repeats.{Once, again, request_once, reaches}
use Rattle.store.proofs.StoreLaws.{sound as Store-is}
use Rattle.repeats.proofs.ServedLaws.{resting_is}
use Rattle.repeats.proofs.OnceLaws.{resting_none}
use Rattle.repeats.proofs.StoreKept.{once_cases, stored_again}
use Rattle.repeats.proofs.Reaching.{none_there, rests_table}

apart : {X : Type 0} (r : List ℕ) → none ≡ some r → X
apart r e = absurd (subst (λ (o : Option (List ℕ)). T (not (is_some o))) e tt)

-- what is stored would get none of outcomes 3 to 5
pub stored_request : (msg r : List ℕ) (es : List Entry) → T (all entry_allowed es) → stored_reply msg es ≡ some r → T (request_allowed msg)
unfolding stored_reply find_by
stored_request msg r [] h e = apart r e
stored_request msg r (x ∷ es) h e = go (has_message msg x) refl (stored_request msg r es (all_tail entry_allowed x es h)) e
  where
    own : has_message msg x ≡ true → T (request_allowed msg)
    own b =
        subst (λ (l : List ℕ). T (request_allowed l)) (sym (same_eq msg x.message (unfold has_message in of_true b)))
        (and_left (request_allowed x.message) (reply_allowed (length x.reply)) (unfold entry_allowed in all_head entry_allowed x es h))

    go : (b : Bool) → has_message msg x ≡ b → (map_option reply_of (find_by (has_message msg) es) ≡ some r → T (request_allowed msg))
        → map_option reply_of (pick b (some x) (find_by (has_message msg) es)) ≡ some r → T (request_allowed msg)
    go true b rest f = own b
    go false b rest f = rest f

module _ (t : List ℕ) (who : ℕ) (store msg space r : List ℕ) (e : stored_reply msg (store_entries store) ≡ some r) where
  pub stored_rests : T (not (reaches store msg))
  stored_rests = not_T (reaches store msg) (λ h. subst (λ (o : Option (List ℕ)). T (not (is_some o))) e (none_there t who store msg space h))

  pub stored_table : (request_once t who store msg space).table ≡ t
  stored_table = rests_table t who store msg space (not_T (is_peer who && reaches store msg) (λ h. T_not (reaches store msg) stored_rests (and_right (is_peer who) (reaches store msg) h)))

  pub stored_store : (request_once t who store msg space).store ≡ store
  stored_store =
      once_cases t who store msg space (λ (x : Once). x.store ≡ store) (λ n. refl) (λ h. refl) (λ h n. refl) (λ h z q i. refl) (λ h z i k. refl) (λ h z i k. apart r (sym i ∙ e))

  pub stored_reply_lem : (request_once t who store msg space).outcome ≡ 0 → request_once t who store msg space ≡ again r t store space
  stored_reply_lem =
      once_cases t who store msg space (λ (x : Once). x.outcome ≡ 0 → x ≡ again r t store space)
      (λ n o. absurd (omega (arith, o)))
      (λ h o. absurd (omega (arith, o)))
      (λ h n o. absurd (T_not (eqb (serve t who msg space).outcome 0) n (of_true (eq-eqb (serve t who msg space).outcome 0 o))))
      (λ h z q i o. ap (λ (l : List ℕ). again l t store space) (ap (value_or []) (sym i ∙ e)))
      (λ h z i k o. absurd (omega (arith, o)))
      (λ h z i k o. apart r (sym i ∙ e))

  -- of a peer, where the table and the store are not broken and the reply space has room
  pub stored_told : T (is_peer who) → T (store_sound store) → T (sound t) → min_space ≤ length space → (request_once t who store msg space).outcome ≡ 0
  stored_told w h g l =
      ap (λ (x : Once). x.outcome)
      (stored_again t who store msg space r w h e
      (resting_is t who msg space w (stored_request msg r (store_entries store) (Store-is store h).keeping.allowed e) ∙ sym (resting_none t space (is_true (sound t) g) l)))

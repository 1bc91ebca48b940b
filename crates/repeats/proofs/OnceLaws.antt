-- Each way of a request is a case of `request_once`. Assumes nothing.
use mathlib.Core.Path.{◌≡◌, refl, sym, ap, ◌∙◌, subst}
use Prim.Native.Nat.{ℕ, ◌-◌, ◌≤◌, ◌<◌}
use native.Mathlib.Omega.{arith}
use mathlib.Core.Bool.{Bool, true, false}
use mathlib.Core.Option.{none, some}
use mathlib.Core.List.{List}
use lib.ListN.{length, take}
use lib.Dec.{T, ltb, eqb}
use borrow.Author.Tests.{eq-eqb, ne_eqb, lt-ltb, le-ltb, ltb-false}
use Rattle.octets.specs.Choice.{pick}
use Rattle.octets.specs.Octets.{put, part}
use Rattle.octets.proofs.Tests.{of_true, is_true}
use Rattle.octets.proofs.Put.{length_part}
use Rattle.rules.specs.Limits.{min_space}
use Rattle.rules.specs.Model.{is_peer}
use Rattle.rules.specs.Sound.{sound}
use Rattle.rules.specs.Serve.{Served, unserved, serve}
use Rattle.engine.specs.Steps.{Serves}
use Rattle.rules.specs.Store.{entry, store_octets, store_entries, store_sound, stored_reply, remember, request_allowed, max_reply}
use Rattle.rules.specs.Repeats.{takes, Once, unanswered, again, engine_reply, by_store, request_once}
use Rattle.store.specs.Answers.{Keepable}
use Rattle.store.proofs.EntryLaws.{is_allowed_lem}
use Rattle.store.proofs.HeldLaws.{stored_short}
use Rattle.repeats.specs.Steps.{resting_outcome, Resting, silent, repeated, dropped, renewed}
use Rattle.repeats.proofs.ServedLaws.{resting_is, other_outcome, nothing_written, Replied, replied}
use Rattle.std.specs.Prelude.{Result}
use Rattle.changes.specs.declared.Replied as code
use Rattle.engine.specs.Outcomes.{number_of, outcome_of, used_of, place_of}
use Rattle.engine.specs.declared.outcome.Outcome.{Outcome}
use Rattle.engine.specs.declared.outcome.Outcome.TheVariants.{Broken, LittleSpace, TooLong, Malformed, NotServed, Old, NoPeer}

-- a call that leaves table and store
abbrev pub stays : List ℕ → List ℕ → Resting → Once
stays t store r = record { outcome = r.outcome; used = r.used; place = r.place; space = r.space; table = t; store = store }

-- ---- outcomes 1 and 2 without the engine

module _ (t space : List ℕ) where
  pub resting_broken : sound t ≡ false → 1 ≡ resting_outcome t space
  unfolding resting_outcome
  resting_broken h = rw h

  pub resting_small : sound t ≡ true → length space < min_space → 2 ≡ resting_outcome t space
  unfolding resting_outcome
  resting_small h l = rw (h, lt-ltb (length space) min_space l)

  pub resting_none : sound t ≡ true → min_space ≤ length space → 0 ≡ resting_outcome t space
  unfolding resting_outcome
  resting_none h l = rw (h, le-ltb (length space) min_space l)

  -- where neither stands there is room
  pub resting_room : resting_outcome t space ≡ 0 → min_space ≤ length space
  unfolding resting_outcome
  resting_room = go (sound t) (ltb (length space) min_space) refl
    where
      go : (a b : Bool) → ltb (length space) min_space ≡ b → ◌≡◌ {A = ℕ} (pick a (pick b 2 0) 1) 0 → min_space ≤ length space
      go true true p e = absurd (omega arith)
      go true false p e = ltb-false (length space) min_space p
      go false b p e = absurd (omega arith)

  module _ (o : ℕ) (o_is : o ≡ resting_outcome t space) where
    pub repeat_none : (r : List ℕ) (n u p : ℕ) → (o ≡ 0 → ⊥) → (n ≡ o) × (u ≡ 0) × (p ≡ 0) → ◌≡◌ {A = Resting} (record { outcome = n; used = u; place = p; space = space }) (repeated t r space)
    unfolding repeated
    repeat_none r n u p h e = rw (← o_is, ne_eqb o 0 h) (λ i. record { outcome = e.0 i; used = e.1 i; place = e.2 i; space = space })

    pub repeat_some : (r : List ℕ) (k : ℕ) (space' : List ℕ) → o ≡ 0 → k ≡ length r → space' ≡ put 0 r space → ◌≡◌ {A = Resting} (record { outcome = 0; used = k; place = 0; space = space' }) (repeated t r space)
    unfolding repeated
    repeat_some r k space' h l e = rw (← o_is, eq-eqb o 0 h) (λ i. record { outcome = 0; used = l i; place = 0; space = e i })

    pub drop_none : (n u p : ℕ) → (o ≡ 0 → ⊥) → (n ≡ o) × (u ≡ 0) × (p ≡ 0) → ◌≡◌ {A = Resting} (record { outcome = n; used = u; place = p; space = space }) (dropped t space)
    unfolding dropped
    drop_none n u p h e = rw (← o_is, ne_eqb o 0 h) (λ i. record { outcome = e.0 i; used = e.1 i; place = e.2 i; space = space })

    pub drop_some : (n u p : ℕ) → o ≡ 0 → (n ≡ 6) × (u ≡ 0) × (p ≡ 0) → ◌≡◌ {A = Resting} (record { outcome = n; used = u; place = p; space = space }) (dropped t space)
    unfolding dropped
    drop_some n u p h e = rw (← o_is, eq-eqb o 0 h) (λ i. record { outcome = e.0 i; used = e.1 i; place = e.2 i; space = space })

-- ---- what the engine leaves

pub nonzero : (o : Outcome) → number_of o ≡ 0 → ⊥
nonzero Broken e = omega (arith, e)
nonzero LittleSpace e = omega (arith, e)
nonzero TooLong e = omega (arith, e)
nonzero Malformed e = omega (arith, e)
nonzero NotServed e = omega (arith, e)
nonzero Old e = omega (arith, e)
nonzero NoPeer e = omega (arith, e)

-- of an answer that is taken apart
pub serves_as : (t : List ℕ) (who : ℕ) (msg out : List ℕ) {r x : Result code.Replied Outcome} {out' t' : List ℕ} → r ≡ x → Serves t who msg out (outcome_of r) (used_of r) (place_of r) out' t'
    → Serves t who msg out (outcome_of x) (used_of x) (place_of x) out' t'
serves_as t who msg out {out' = out'} {t' = t'} e s = subst (λ (y : Result code.Replied Outcome). Serves t who msg out (outcome_of y) (used_of y) (place_of y) out' t') e s

module _ (t : List ℕ) (who : ℕ) (store msg out : List ℕ) (o u p : ℕ) (out' t' : List ℕ) (s : Serves t who msg out o u p out' t') where
  outcome_is : (serve t who msg out).outcome ≡ o
  outcome_is = ap (λ (v : Served). v.outcome) (sym s.served)

  -- nothing, where the outcome is another
  pub left_nothing : (o ≡ 0 → ⊥) → ◌≡◌ {A = Once} (record { outcome = o; used = u; place = p; space = out'; table = t'; store = store }) (unanswered (serve t who msg out).outcome t store out)
  left_nothing n =
      let e : record { outcome = o; place = p; space = out'; table = t' } ≡ unserved (serve t who msg out).outcome out t = s.served ∙ nothing_written t who msg out (λ z. n (sym outcome_is ∙ z)) in
      let z : u ≡ 0 = s.long ∙ rw (ne_eqb o 0 n) in
      (λ i. record { outcome = (e i).outcome; used = z i; place = (e i).place; space = (e i).space; table = (e i).table; store = store })

  pub renew_none : (o ≡ 0 → ⊥) → ◌≡◌ {A = Once} (record { outcome = o; used = u; place = p; space = out'; table = t'; store = store }) (renewed t who store msg out)
  unfolding renewed
  renew_none n = left_nothing n ∙ rw (ne_eqb (serve t who msg out).outcome 0 (λ z. n (sym outcome_is ∙ z)))

  module _ (z : o ≡ 0) where
    is_replied : Replied t who msg out u out'
    is_replied = replied t who msg out o u p out' t' s z

    pub reply_fits : u ≤ length out'
    reply_fits = is_replied.fits

    pub keepable : T (store_sound store) → Keepable store msg (take u out')
    keepable h = record { store = h; entry = is_allowed_lem (entry msg (take u out')) is_replied.request is_replied.some is_replied.few }

    pub renew_some : (store' : List ℕ) → store' ≡ store_octets (remember (entry msg (take u out')) (store_entries store))
        → ◌≡◌ {A = Once} (record { outcome = o; used = u; place = p; space = out'; table = t'; store = store' }) (renewed t who store msg out)
    unfolding renewed
    renew_some store' e =
        let v = s.served in
        let l = is_replied.long in
        let k : store' ≡ store_octets (remember (entry msg (engine_reply t who msg)) (store_entries store)) = e ∙ ap (λ (x : List ℕ). store_octets (remember (entry msg x) (store_entries store))) is_replied.is in
        (λ i. record { outcome = (v i).outcome; used = l i; place = (v i).place; space = (v i).space; table = (v i).table; store = k i })
        ∙ rw (eq-eqb (serve t who msg out).outcome 0 (outcome_is ∙ z))

-- ---- the whole

module _ (t : List ℕ) (who : ℕ) (store msg space : List ℕ) where
  pub once_stranger : (b : Bool) (n u p : ℕ) → b ≡ is_peer who → b ≡ false → (n ≡ 7) × (u ≡ 0) × (p ≡ 0)
      → ◌≡◌ {A = Once} (record { outcome = n; used = u; place = p; space = space; table = t; store = store }) (request_once t who store msg space)
  unfolding request_once
  once_stranger b n u p e h i = rw (← e, h) (λ j. record { outcome = i.0 j; used = i.1 j; place = i.2 j; space = space; table = t; store = store })

module _ (t : List ℕ) (who : ℕ) (hw : T (is_peer who)) (store msg space : List ℕ) where
  mine : is_peer who ≡ true
  mine = is_true (is_peer who) hw

  pub once_broken : (b : Bool) (n u p : ℕ) → b ≡ store_sound store → b ≡ false → (n ≡ 1) × (u ≡ 0) × (p ≡ 0)
      → ◌≡◌ {A = Once} (record { outcome = n; used = u; place = p; space = space; table = t; store = store }) (request_once t who store msg space)
  unfolding request_once
  once_broken b n u p e h i = rw (mine, ← e, h) (λ j. record { outcome = i.0 j; used = i.1 j; place = i.2 j; space = space; table = t; store = store })

  module _ (b : Bool) (e : b ≡ store_sound store) (h : b ≡ true) where
    pub is_sound_lem : T (store_sound store)
    is_sound_lem = of_true (sym e ∙ h)

    module _ (q : Bool) (f : q ≡ request_allowed msg) where
      pub once_other : q ≡ false → (o u p : ℕ) (out' t' : List ℕ) → Serves t who msg space o u p out' t'
          → ◌≡◌ {A = Once} (record { outcome = o; used = u; place = p; space = out'; table = t'; store = store }) (request_once t who store msg space)
      unfolding request_once
      once_other g o u p out' t' s =
          let n : (serve t who msg space).outcome ≡ 0 → ⊥ = other_outcome t who msg space (sym f ∙ g) in
          left_nothing t who store msg space o u p out' t' s (λ z. n (outcome_is t who store msg space o u p out' t' s ∙ z)) ∙ rw (mine, ← e, h, ne_eqb (serve t who msg space).outcome 0 n)

      module _ (g : q ≡ true) where
        pub is_request_lem : T (request_allowed msg)
        is_request_lem = of_true (sym f ∙ g)

        rests : (serve t who msg space).outcome ≡ resting_outcome t space
        rests = resting_is t who msg space hw is_request_lem

        module _ (r : List ℕ) (stored : stored_reply msg (store_entries store) ≡ some r) where
          pub reply_short : length r ≤ max_reply
          reply_short = stored_short store is_sound_lem msg r stored

          pub once_again : (n u p : ℕ) (out' : List ℕ)
              → ◌≡◌ {A = Resting} (record { outcome = n; used = u; place = p; space = out' }) (repeated t r space)
              → ◌≡◌ {A = Once} (record { outcome = n; used = u; place = p; space = out'; table = t; store = store }) (request_once t who store msg space)
          unfolding request_once repeated
          once_again n u p out' w = ap (stays t store) w ∙ sym (rw (mine, ← e, h, stored, rests) (unfold by_store in (go (eqb (resting_outcome t space) 0))))
            where
              go : (z : Bool)
                  → pick z (again r t store space) (unanswered (resting_outcome t space) t store space)
                  ≡ stays t store (pick z (record { outcome = 0; used = length r; place = 0; space = put 0 r space }) (silent (resting_outcome t space) space))
              go true = refl
              go false = refl

        module _ (not_stored : stored_reply msg (store_entries store) ≡ none) where
          module _ (k : Bool) (j : k ≡ takes (store_entries store) msg) where
            pub once_dropped : k ≡ false → (n u p : ℕ)
                → ◌≡◌ {A = Resting} (record { outcome = n; used = u; place = p; space = space }) (dropped t space)
                → ◌≡◌ {A = Once} (record { outcome = n; used = u; place = p; space = space; table = t; store = store }) (request_once t who store msg space)
            unfolding request_once dropped
            once_dropped l n u p w = ap (stays t store) w ∙ sym (rw (mine, ← e, h, not_stored, rests) (unfold by_store in (rw (← j, l) (go (eqb (resting_outcome t space) 0)))))
              where
                go : (z : Bool)
                    → pick z (unanswered 6 t store space) (unanswered (resting_outcome t space) t store space)
                    ≡ stays t store (pick z (silent 6 space) (silent (resting_outcome t space) space))
                go true = refl
                go false = refl

            pub once_renewed : k ≡ true → (x : Once) → x ≡ renewed t who store msg space → x ≡ request_once t who store msg space
            unfolding request_once renewed
            once_renewed l x w = w ∙ sym (rw (mine, ← e, h, not_stored) (unfold by_store in (rw (← j, l))))

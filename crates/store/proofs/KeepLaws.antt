-- Keeping an entry: the octets after the oldest went, after one more was put behind the others, and that no store breaks so. Assumes nothing.
use Rattle.std.proofs.Common.{◌≡◌, ℕ, suc, ◌+◌, ◌-◌, ◌<◌, ◌≤◌, Bool, true, false, not, T, ltb, List, [], ◌∷◌, ◌++◌, length, get_or, take, set, replicate, sym, refl, ap, ◌∙◌, subst, ap₂, append_assoc, le_refl, not-suc-le-zero, arith, length-append, take_all, ltb-true, le-ltb, lt-ltb, eq-eqb, ne_eqb}
use mathlib.Core.Option.{Option, none}
use Rattle.octets.specs.Choice.{pick, rest, is_some}
use Rattle.octets.specs.Octets.{be, part, put, zeros, same_octets, concat_map}
use Rattle.octets.specs.Lists.{all, all_pairs}
use Rattle.octets.proofs.Bools.{both_ways}
use Rattle.octets.proofs.ListLaws.{all_append, all_imply, pairs_append}
use Rattle.octets.proofs.Numbers.{same_eq, same_refl, length_be, length_zeros, zeros_split}
use Rattle.octets.proofs.Ordered.{pairs_tail}
use Rattle.octets.proofs.Put.{put_over, put_put, put_whole, part_of, next_put}
use Rattle.octets.proofs.Tests.{all_tail, all_cons, of_true}
use Rattle.rules.specs.Store.{Entry, entry, entry_octets, entry_allowed, max_entries, differ, has_message, store_length, store_octets, store_sound, store_entries, stored_reply, remember, empty}
use Rattle.store.specs.Fronts.{span_of}
use Rattle.store.proofs.EntryLaws.{length_entry, entry_short}
use Rattle.store.proofs.EntriesLaws.{all_octets, octets_first, length_cons, entries_short, stored_none}
use Rattle.store.proofs.StoreLaws.{Keeping, sound, room_left, octets_are, keeping_fits, entries_back, octets_sound}
use Rattle.store.proofs.HeldLaws.{tail, shape, count_is, span_is, octets_append, octets_one}

-- ---- an entry written

pub entry_written : (at : ℕ) (m r s s₁ s₂ s₃ s₄ : List ℕ) → at + length (entry_octets (entry m r)) ≤ length s
    → s₁ ≡ put at (be 2 (length m)) s → s₂ ≡ put (at + 2) m s₁ → s₃ ≡ put (at + 2 + length m) (be 2 (length r)) s₂ → s₄ ≡ put (at + 2 + length m + 2) r s₃
    → s₄ ≡ put at (entry_octets (entry m r)) s
unfolding entry_octets
entry_written at m r s s₁ s₂ s₃ s₄ h e₁ e₂ e₃ e₄ =
    let l = length_entry (entry m r) in
    let b = length_be 2 (length m) in
    let c = length_be 2 (length r) in
    let f₂ = next_put at (at + 2) (be 2 (length m)) m s e₁ e₂ (omega arith) (omega arith) in
    let l₂ = length-append (be 2 (length m)) m in
    let f₃ = next_put at (at + 2 + length m) (be 2 (length m) ++ m) (be 2 (length r)) s f₂ e₃ (omega arith) (omega arith) in
    let l₃ = length-append (be 2 (length m) ++ m) (be 2 (length r)) in
    let f₄ = next_put at (at + 2 + length m + 2) ((be 2 (length m) ++ m) ++ be 2 (length r)) r s f₃ e₄ (omega arith) (omega arith) in
    f₄ ∙ ap (λ (x : List ℕ). put at x s) (simp append_assoc)

-- ---- one more behind the others

module _ (s : List ℕ) (h : T (store_sound s)) (x : Entry) (a : T (entry_allowed x)) where
  es : List Entry
  es = store_entries s

  -- where it goes
  pub all_span : (r : ℕ) → r ≡ span_of (get_or s 0 0) (tail s) → r ≡ length (all_octets (store_entries s))
  all_span r e =
      span_is s h (length (store_entries s)) r (le_refl _) (e ∙ ap (λ (k : ℕ). span_of k (tail s)) (count_is s h))
      ∙ ap (λ (l : List Entry). length (all_octets l)) (take_all (length (store_entries s)) (store_entries s) (le_refl _))

  module _ (few : length (store_entries s) < max_entries) where
    room : suc (length (all_octets (store_entries s)) + length (entry_octets x)) ≤ store_length
    room =
        let w = sound s h in
        let l = entries_short (store_entries s) w.keeping.allowed in
        let m = entry_short x a in
        omega arith

    pub add_room : (r : ℕ) → r ≡ span_of (get_or s 0 0) (tail s) → 1 + r + length (entry_octets x) ≤ length s
    add_room r e = let w = sound s h in let p = all_span r e in let q = room in omega (arith, w.long)

    pub added : (r : ℕ) (s₁ : List ℕ) → r ≡ span_of (get_or s 0 0) (tail s) → s₁ ≡ put (1 + r) (entry_octets x) s → set s₁ 0 (get_or s 0 0 + 1) ≡ store_octets (store_entries s ++ (x ∷ []))
    added r s₁ e f =
        let n = length (store_entries s) in
        let A = all_octets (store_entries s) in
        let E = entry_octets x in
        let k = room_left (store_entries s ++ (x ∷ [])) in
        let oa : all_octets (store_entries s ++ (x ∷ [])) ≡ A ++ E = octets_append (store_entries s) (x ∷ []) ∙ ap (λ (l : List ℕ). A ++ l) (octets_one x) in
        let la : length (all_octets (store_entries s ++ (x ∷ []))) ≡ length A + length E = ap length oa ∙ length-append A E in
        let q = room in
        let kk : room_left (store_entries s) ≡ length E + k = omega arith in
        let whole : s ≡ (n ∷ A) ++ (zeros (length E) ++ zeros k) = shape s h ∙ ap (λ (z : List ℕ). n ∷ (A ++ z)) (ap zeros kk ∙ zeros_split (length E) k) in
        let p : put (1 + r) E s ≡ (n ∷ A) ++ (E ++ zeros k) =
        ap (put (1 + r) E) whole ∙ put_over (n ∷ A) (zeros (length E)) (zeros k) E (1 + r) (omega (arith, all_span r e)) (sym (length_zeros (length E))) in
        let m : length (store_entries s ++ (x ∷ [])) ≡ n + 1 = length-append (store_entries s) (x ∷ []) in
        ap₂ (λ (l : List ℕ) (i : ℕ). set l 0 (i + 1)) (f ∙ p) (count_is s h)
        ∙ ap (λ (l : List ℕ). (n + 1) ∷ l) (sym (append_assoc A E (zeros k)))
        ∙ sym (octets_are (store_entries s ++ (x ∷ [])) ∙ ap₂ (λ (i : ℕ) (l : List ℕ). i ∷ (l ++ zeros k)) m oa)

-- ---- without the oldest

module _ (s : List ℕ) (h : T (store_sound s)) (held : 0 < length (store_entries s)) (used gone : ℕ) (used-is : used ≡ span_of (get_or s 0 0) (tail s)) (gone-is : gone ≡ span_of 1 (tail s)) where
  pub record Oldest : Type 0 where
    pub first : Entry
    pub others : List Entry
    pub split : store_entries s ≡ first ∷ others
    pub reach : used ≡ length (entry_octets first) + length (all_octets others)
    pub width : gone ≡ length (entry_octets first)

  oldest : Oldest
  oldest = go (store_entries s) refl held
    where
      go : (l : List Entry) → store_entries s ≡ l → 0 < length l → Oldest
      go [] e p = absurd (not-suc-le-zero p)
      go (x ∷ l) e p = record {
        first = x;
        others = l;
        split = e;
        reach =
            span_is s h (length (store_entries s)) used (le_refl _) (used-is ∙ ap (λ (k : ℕ). span_of k (tail s)) (count_is s h))
            ∙ ap (λ (y : List Entry). length (all_octets y)) (take_all (length (store_entries s)) (store_entries s) (le_refl _) ∙ e)
            ∙ length_cons x l;
        width = span_is s h 1 gone (subst (λ (y : List Entry). 1 ≤ length y) (sym e) p) gone-is ∙ ap (λ (y : List Entry). length (all_octets (take 1 y))) e ∙ ap length (octets_one x);
      }

  fits : suc (length (all_octets (store_entries s))) ≤ store_length
  fits = keeping_fits (sound s h).keeping

  all_used : length (all_octets (store_entries s)) ≡ used
  all_used = let o = oldest in ap (λ (y : List Entry). length (all_octets y)) o.split ∙ length_cons o.first o.others ∙ sym o.reach

  pub forget_room : (gone ≤ used) × (1 + used ≤ length s)
  forget_room = let o = oldest in let f = fits in let w = sound s h in (omega arith, omega (arith, all_used, w.long))

  pub forgotten : (s₁ s₂ : List ℕ) → s₁ ≡ put 1 (part (1 + gone) (used - gone) s) s → s₂ ≡ put (1 + (used - gone)) (zeros gone) s₁
      → set s₂ 0 (get_or s 0 0 - 1) ≡ store_octets (rest (store_entries s))
  forgotten s₁ s₂ e₁ e₂ =
      let o = oldest in
      let n = length (store_entries s) in
      let X = entry_octets o.first in
      let R = all_octets o.others in
      let Z = zeros (room_left (store_entries s)) in
      let whole : s ≡ (n ∷ []) ++ ((X ++ R) ++ Z) = shape s h ∙ ap (λ (y : List ℕ). n ∷ (y ++ Z)) (ap all_octets o.split ∙ octets_first o.first o.others) in
      let d : used - gone ≡ length R = omega arith in
      let whole' : s ≡ (n ∷ X) ++ (R ++ Z) = whole ∙ ap (λ (y : List ℕ). n ∷ y) (append_assoc X R Z) in
      let moved : part (1 + gone) (used - gone) s ≡ R = ap (part (1 + gone) (used - gone)) whole' ∙ part_of (n ∷ X) R Z (1 + gone) (used - gone) (omega arith) (sym d) in
      let room = forget_room in
      let both : s₂ ≡ put 1 (R ++ zeros gone) s =
      e₂ ∙ ap₂ (λ (k : ℕ) (y : List ℕ). put (1 + k) (zeros gone) y) d (e₁ ∙ ap (λ (y : List ℕ). put 1 y s) moved) ∙ put_put 1 (length R) R (zeros gone) s refl (omega arith) in
      let lx = length-append X R in
      let lr = length-append R (zeros gone) in
      let lz = length_zeros gone in
      let p : put 1 (R ++ zeros gone) s ≡ (n ∷ []) ++ ((R ++ zeros gone) ++ Z) =
      ap (put 1 (R ++ zeros gone)) whole ∙ put_over (n ∷ []) (X ++ R) Z (R ++ zeros gone) 1 refl (omega arith) in
      let k : room_left o.others ≡ gone + room_left (store_entries s) = let f = fits in omega (arith, all_used) in
      let z : (R ++ zeros gone) ++ Z ≡ R ++ zeros (room_left o.others) = append_assoc R (zeros gone) Z ∙ ap (λ (y : List ℕ). R ++ y) (sym (ap zeros k ∙ zeros_split gone (room_left (store_entries s)))) in
      let c : get_or s 0 0 - 1 ≡ length o.others = ap (λ (i : ℕ). i - 1) (count_is s h ∙ ap length o.split) ∙ omega arith in
      ap₂ (λ (y : List ℕ) (i : ℕ). set y 0 i) (both ∙ p) c
      ∙ ap (λ (y : List ℕ). length o.others ∷ y) z
      ∙ sym (ap (λ (y : List Entry). store_octets (rest y)) o.split ∙ octets_are o.others)

pub rest_few : (es : List Entry) → length es ≤ max_entries → length (rest es) < max_entries
rest_few [] h = omega arith
rest_few (y ∷ es) h = omega arith

-- ---- no store breaks

keeping_rest : (es : List Entry) → Keeping es → Keeping (rest es)
keeping_rest [] k = k
keeping_rest (x ∷ es) k = record { few = omega (arith, k.few); allowed = all_tail entry_allowed x es k.allowed; apart = pairs_tail differ x es k.apart }

pub forgotten_sound : (s s' : List ℕ) → T (store_sound s) → s' ≡ store_octets (rest (store_entries s)) → T (store_sound s') × (store_entries s' ≡ rest (store_entries s))
forgotten_sound s s' h e =
    let k = keeping_rest (store_entries s) (sound s h).keeping in
    (subst (λ (y : List ℕ). T (store_sound y)) (sym e) (octets_sound k), ap store_entries e ∙ entries_back k)

same_turn : (a b : List ℕ) → same_octets a b ≡ same_octets b a
same_turn a b = both_ways (same_octets a b) (same_octets b a) (λ h. turned a b h) (λ h. turned b a h)
  where
    turned : (c d : List ℕ) → T (same_octets c d) → T (same_octets d c)
    turned c d h = of_true (ap (λ (y : List ℕ). same_octets y c) (sym (same_eq c d h)) ∙ same_refl c)

module _ (x : Entry) (es : List Entry) (k : Keeping es) (a : T (entry_allowed x)) (new : T (all (differ x) es)) (few : length es < max_entries) where
  pub keeping_more : Keeping (es ++ (x ∷ []))
  unfolding differ has_message all all_pairs
  keeping_more =
      let one : T (all entry_allowed (x ∷ [])) = all_cons entry_allowed x [] a tt in
      let across : T (all (λ y. all (differ y) (x ∷ [])) es) =
      all_imply (differ x) (λ y. all (differ y) (x ∷ [])) (λ y d. all_cons (differ y) x [] (subst (λ (b : Bool). T (not b)) (same_turn x.message y.message) d) tt) es new in
      record {
        few = rw (length-append es (x ∷ [])) (omega (arith, few));
        allowed = all_append entry_allowed es (x ∷ []) k.allowed one;
        apart = pairs_append differ es (x ∷ []) k.apart tt across;
      }

pub remembered : (x : Entry) (es : List Entry) → Keeping es → T (entry_allowed x) → stored_reply x.message es ≡ none → Keeping (remember x es)
unfolding remember
remembered x es k a none_held = go (ltb (length es) max_entries) refl
  where
    new : T (all (differ x) es)
    new = stored_none x es (ap (λ (o : Option (List ℕ)). is_some o) none_held)

    still : (l : List Entry) → T (all (differ x) l) → T (all (differ x) (rest l))
    still [] h = h
    still (y ∷ l) h = all_tail (differ x) y l h

    go : (b : Bool) → ltb (length es) max_entries ≡ b → Keeping (pick b es (rest es) ++ (x ∷ []))
    go true p = keeping_more x es k a new (ltb-true (length es) max_entries p)
    go false p = keeping_more x (rest es) (keeping_rest es k) a (still es new) (rest_few es k.few)

-- ---- which way it goes

pub kept_few : (x : Entry) (es : List Entry) → length es < max_entries → remember x es ≡ es ++ (x ∷ [])
unfolding remember
kept_few x es h = rw (lt-ltb (length es) max_entries h)

pub kept_full : (x : Entry) (es : List Entry) → max_entries ≤ length es → remember x es ≡ rest es ++ (x ∷ [])
unfolding remember
kept_full x es h = rw (le-ltb (length es) max_entries h)

-- ---- emptying

zeros_more : (n k : ℕ) → n ≡ suc k → zeros n ≡ 0 ∷ zeros k
unfolding zeros
zeros_more n k e = ap (λ (i : ℕ). replicate i 0) e

none_octets : store_octets [] ≡ zeros store_length
unfolding concat_map
none_octets = octets_are [] ∙ sym (zeros_more store_length (room_left []) (omega arith))

module _ (s : List ℕ) where
  pub not_emptied : (length s ≡ store_length → ⊥) → record { done = false; store = s } ≡ empty s
  unfolding empty
  not_emptied h = rw (ne_eqb (length s) store_length h)

  pub emptied : (s₁ : List ℕ) → length s ≡ store_length → s₁ ≡ put 0 (zeros store_length) s → record { done = true; store = s₁ } ≡ empty s
  unfolding empty
  emptied s₁ h e =
      rw (eq-eqb (length s) store_length h)
      (ap (λ (y : List ℕ). record { done = true; store = y }) (e ∙ put_whole (zeros store_length) s (length_zeros store_length ∙ sym h) ∙ sym none_octets))

-- ---- keeping

module _ (x : Entry) (s : List ℕ) (h : T (store_sound s)) where
  pub pushed_few : (s₁ : List ℕ) → get_or s 0 0 < max_entries → s₁ ≡ store_octets (store_entries s ++ (x ∷ [])) → s₁ ≡ store_octets (remember x (store_entries s))
  pushed_few s₁ l e = e ∙ ap store_octets (sym (kept_few x (store_entries s) (rw (← count_is s h) l)))

  pub pushed_full : (s₁ s₂ : List ℕ) → max_entries ≤ get_or s 0 0 → s₁ ≡ store_octets (rest (store_entries s)) → s₂ ≡ store_octets (store_entries s₁ ++ (x ∷ []))
      → s₂ ≡ store_octets (remember x (store_entries s))
  pushed_full s₁ s₂ l e f =
      f
      ∙ ap (λ (es : List Entry). store_octets (es ++ (x ∷ []))) (forgotten_sound s s₁ h e).1
      ∙ ap store_octets (sym (kept_full x (store_entries s) (rw (← count_is s h) l)))

pub room_again : (s s₁ : List ℕ) → T (store_sound s) → s₁ ≡ store_octets (rest (store_entries s)) → length (store_entries s₁) < max_entries
room_again s s₁ h e = rw (forgotten_sound s s₁ h e).1 (rest_few (store_entries s) (sound s h).keeping.few)

-- A store that is not broken has the octets of its entries; these are read back, and are not broken. Assumes nothing.
use Rattle.std.proofs.Common.{◌≡◌, ℕ, zero, suc, ◌+◌, ◌-◌, ◌<◌, ◌≤◌, Bool, true, false, T, eqb, leb, List, [], ◌∷◌, ◌++◌, length, get_or, take, drop, sym, refl, ap, ◌∙◌, subst, ap₂, arith, le→leb, eqb→eq, leb→le, length-append, drop-cons, eq-eqb, ne_eqb}
use borrow.Author.Tests.{lt-leb}
use Rattle.octets.specs.Octets.{octet_at, same_octets, all_zero, zeros, padded, octets}
use Rattle.octets.specs.Lists.{all, all_pairs}
use Rattle.octets.proofs.Bools.{both_ways}
use Rattle.octets.proofs.Digits.{drop_octets}
use Rattle.octets.proofs.Numbers.{same_eq, same_refl, length_padded}
use Rattle.octets.proofs.Put.{part_from}
use Rattle.octets.proofs.Tests.{and_left, and_right, each, all_of_each, of_true, is_true}
use Rattle.rules.specs.Store.{Entry, max_entries, store_length, entry_allowed, differ, store_octets, store_entries, store_sound, entries_up_to}
use Rattle.store.specs.Fronts.{sound_from}
use Rattle.store.proofs.EntriesLaws.{all_octets, length_entries, entries_short, read_entries, read_sound, sounds}

-- entries that a store may have
pub record Keeping (es : List Entry) : Type 0 where
  pub few : length es ≤ max_entries
  pub allowed : T (all entry_allowed es)
  pub apart : T (all_pairs differ es)

-- no entries
pub none_kept : Keeping []
unfolding all all_pairs
none_kept = record { few = omega arith; allowed = tt; apart = tt }

zero_zeros : (z : List ℕ) → all_zero z ≡ true → z ≡ zeros (length z)
unfolding all_zero zeros
zero_zeros [] e = refl
zero_zeros (x ∷ z) e = ap₂ ◌∷◌ (eqb→eq x 0 (and_left (eqb x 0) (all_zero z) (of_true e))) (zero_zeros z (is_true _ (and_right (eqb x 0) (all_zero z) (of_true e))))

zeros_zero : (n : ℕ) → all_zero (zeros n) ≡ true
unfolding all_zero zeros
zeros_zero zero = refl
zeros_zero (suc n) = zeros_zero n

-- the room behind entries
abbrev pub room_left : List Entry → ℕ
room_left es = store_length - suc (length (all_octets es))

pub octets_are : (es : List Entry) → store_octets es ≡ length es ∷ (all_octets es ++ zeros (room_left es))
unfolding store_octets padded
octets_are es = refl

module _ {es : List Entry} (k : Keeping es) where
  pub keeping_fits : suc (length (all_octets es)) ≤ store_length
  keeping_fits = let a = entries_short es k.allowed in let b = k.few in omega arith

  pub length_store : length (store_octets es) ≡ store_length
  unfolding store_octets
  length_store = length_padded store_length (length es ∷ all_octets es) keeping_fits

  pub entries_back : store_entries (store_octets es) ≡ es
  unfolding store_entries octet_at
  entries_back = ap (λ (s : List ℕ). entries_up_to (get_or s 0 0) (drop 1 s)) (octets_are es) ∙ read_entries es (zeros (room_left es)) k.allowed

  pub octets_sound : T (store_sound (store_octets es))
  unfolding store_sound
  octets_sound =
      rw entries_back
      (all_of_each
      (eqb (length (store_octets es)) store_length ∷ leb (length es) max_entries ∷ all entry_allowed es ∷ all_pairs differ es ∷ same_octets (store_octets es) (store_octets es) ∷ [])
      (of_true (eq-eqb (length (store_octets es)) store_length length_store), (le→leb (length es) max_entries k.few, (k.allowed, (k.apart, (of_true (same_refl (store_octets es)), tt))))))

-- ---- a store that is not broken

pub record Sound (s : List ℕ) : Type 0 where
  pub long : length s ≡ store_length
  pub keeping : Keeping (store_entries s)
  pub written : s ≡ store_octets (store_entries s)

pub sound : (s : List ℕ) → T (store_sound s) → Sound s
unfolding store_sound
sound s h =
    let es = store_entries s in
    let t = each (eqb (length s) store_length ∷ leb (length es) max_entries ∷ all entry_allowed es ∷ all_pairs differ es ∷ same_octets s (store_octets es) ∷ []) h in
    record {
      long = eqb→eq (length s) store_length t.0;
      keeping = record { few = leb→le (length es) max_entries t.1.0; allowed = t.1.1.0; apart = t.1.1.1.0 };
      written = same_eq s (store_octets es) t.1.1.1.1.0;
    }

-- ---- the code's tests

module _ (s : List ℕ) where
  pub other_length : (length s ≡ store_length → ⊥) → false ≡ store_sound s
  unfolding store_sound
  other_length n = rw (ne_eqb (length s) store_length n)

  module _ (long : length s ≡ store_length) where
    counted : length (store_entries s) ≡ get_or s 0 0
    unfolding store_entries octet_at
    counted = length_entries (get_or s 0 0) (drop 1 s)

    pub too_many : max_entries < get_or s 0 0 → false ≡ store_sound s
    unfolding store_sound
    too_many h = rw (eq-eqb (length s) store_length long, lt-leb (length (store_entries s)) max_entries (rw counted h))

    module _ (o : T (octets s)) (few : get_or s 0 0 ≤ max_entries) where
      split : s ≡ get_or s 0 0 ∷ drop 1 s
      split = drop-cons s 0 0 (omega arith)

      -- a sound walk is a sound store's
      walk_sound_lem : T (sound_from (get_or s 0 0) (drop 1 s)) → T (store_sound s)
      walk_sound_lem h =
          let i = sounds (get_or s 0 0) (drop 1 s) (drop_octets 1 s o) h in
          let es = entries_up_to (get_or s 0 0) (drop 1 s) in
          let n : length es ≡ get_or s 0 0 = length_entries (get_or s 0 0) (drop 1 s) in
          let k : Keeping es = record { few = rw n few; allowed = i.allowed; apart = i.apart } in
          let l : length s ≡ suc (length (all_octets es) + length i.left) = ap length split ∙ ap suc (ap length i.written ∙ length-append (all_octets es) i.left) in
          let z : length i.left ≡ room_left es = omega arith in
          let whole : s ≡ store_octets es =
          split ∙ ap₂ (λ (a : ℕ) (b : List ℕ). a ∷ b) (sym n) (i.written ∙ ap (λ (b : List ℕ). all_octets es ++ b) (zero_zeros i.left i.zero ∙ ap zeros z)) ∙ sym (octets_are es) in
          subst (λ (x : List ℕ). T (store_sound x)) (sym whole) (octets_sound k)

      -- and the other way round
      sound_walk : T (store_sound s) → T (sound_from (get_or s 0 0) (drop 1 s))
      sound_walk h =
          let w = sound s h in
          let es = store_entries s in
          let e : s ≡ length es ∷ (all_octets es ++ zeros (room_left es)) = w.written ∙ octets_are es in
          subst (λ (x : List ℕ). T (sound_from (get_or x 0 0) (drop 1 x))) (sym e) (of_true (read_sound es (zeros (room_left es)) w.keeping.allowed w.keeping.apart (zeros_zero (room_left es))))

      pub by_walk : (r : Bool) → r ≡ sound_from (get_or s 0 0) (take (length s - 1) (drop 1 s)) → r ≡ store_sound s
      by_walk r e = e ∙ ap (sound_from (get_or s 0 0)) (part_from 1 s) ∙ both_ways (sound_from (get_or s 0 0) (drop 1 s)) (store_sound s) walk_sound_lem sound_walk

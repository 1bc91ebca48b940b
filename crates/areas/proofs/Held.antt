-- Octets that hold records of any type in an area: what is counted and found there, and that putting a record in, taking one out, changing one
-- and taking all out leave octets that hold the changed list, in ascending order of the key.
-- Assumes nothing.
use Rattle.std.specs.Prelude.{Result, Ok, Err}
use mathlib.Core.Path.{◌≡◌, refl, sym, ap, ap₂, subst, ◌∙◌}
use mathlib.Core.Bool.{Bool, true, false, not}
use mathlib.Core.Option.{none, some}
use mathlib.Core.List.{List, [], ◌∷◌, ◌++◌, append_assoc, map}
use Prim.Native.Nat.{ℕ, zero, suc, ◌+◌, ◌-◌, ◌*◌, ◌^◌, ◌≤◌, ◌<◌}
use native.Mathlib.Omega.{arith}
use native.Mathlib.Nat.{lt_of_le_of_lt}
use borrow.Author.Tests.{le-ltb, lt-ltb}
use lib.Dec.{T, eqb, ltb}
use lib.ListN.{length, get_or, set, length-append, length-set, length-drop}
use lib.Seq.{length-take-le}
use Rattle.octets.specs.Choice.{pick}
use Rattle.octets.specs.Octets.{slices, be, number, number_at, part, put, zeros, padded, concat_map}
use Rattle.octets.specs.Lists.{all, keep, find_by, insert_by, ascending}
use Rattle.octets.proofs.Put.{put_over, part_of}
use Rattle.octets.proofs.Numbers.{length_be, number_be}
use Rattle.octets.proofs.Tests.{all_head, all_tail, all_at, all_cons, no_eqb}
use Rattle.octets.proofs.Ordered.{ne_of, keep_all, keep_passes, keep_ascending, other_key, insert_all_lem, insert_length, insert_ascending}
use Rattle.areas.specs.Records.{key_of, lookup, inserted, removed, replaced}
use Rattle.areas.proofs.LookupLaws.{get_d_slices}
use Rattle.areas.proofs.AreaLaws as slot
use Rattle.areas.proofs.AreaLaws.{Wide, insert_held, remove_held, replace_held, held_slices, held_length}
use Rattle.areas.proofs.Places.{insert_at, remove_at, other_than, found_within, absent_within, absent_record, remove_found, change_found, insert_absent, replace_found}
use Rattle.areas.specs.declared.Area.{Area}
use Rattle.areas.specs.Counted.{count_in, area_in, place_in, inserted_in, removed_in, replaced_in, cleared_in, at_place, with_record, without_record}

-- nothing is taken out where nothing is found
keep_none : {A : Type 0} (q : A → Bool) (rs : List A) → find_by q rs ≡ none → keep (λ r. not (q r)) rs ≡ rs
unfolding keep find_by
keep_none q [] e = refl
keep_none {A} q (r ∷ rs) e = go (q r) e (λ h. keep_none q rs h)
  where
    go : (b : Bool) → pick b (some r) (find_by q rs) ≡ none → (find_by q rs ≡ none → keep (λ r. not (q r)) rs ≡ rs)
        → pick (not b) (r ∷ keep (λ r. not (q r)) rs) (keep (λ r. not (q r)) rs) ≡ r ∷ rs
    go true e k = absurd (let z : ◌≡◌ {A = ℕ} 0 1 = cc in omega arith)
    go false e k = ap (λ (l : List A). r ∷ l) (k e)

module _ {A : Type 0} (key : A → ℕ) where
  -- the other records' keys differ, said either way round
  others : (x : A) (rs : List A) → T (all (other_than key (key x)) rs) → T (all (other_key key x) rs)
  unfolding all
  others x [] h = tt
  others x (r ∷ rs) h =
      all_cons (other_key key x) r rs (no_eqb (key x) (key r) (λ e. ne_of (key r) (key x) (all_head (other_than key (key x)) r rs h) (sym e)))
      (others x rs (all_tail (other_than key (key x)) r rs h))

  -- a change that keeps keys and a test
  map_all : (p : A → Bool) (g : A → A) → ((r : A) → T (p r) → T (p (g r))) → (rs : List A) → T (all p rs) → T (all p (map g rs))
  unfolding all
  map_all p g keeps [] h = tt
  map_all p g keeps (r ∷ rs) h = all_cons p (g r) (map g rs) (keeps r (all_head p r rs h)) (map_all p g keeps rs (all_tail p r rs h))

  map_keys : (g : A → A) → ((r : A) → key (g r) ≡ key r) → (rs : List A) → map key (map g rs) ≡ map key rs
  map_keys g same [] = refl
  map_keys g same (r ∷ rs) = λ i. same r i ∷ map_keys g same rs i

one_less : {A : Type 0} (n : ℕ) (rs : List A) → n < length rs → length (remove_at n rs) + 1 ≡ length rs
unfolding remove_at
one_less n rs h = simp (length-append, length-drop, length-take-le n rs (omega arith)) (omega arith)

none_padded : (n : ℕ) → zeros n ≡ padded n []
unfolding padded
none_padded n = ap zeros (let e : n ≡ n - 0 = omega arith in e)

-- Records with octets f and key `key`; those that pass the test p have the area's width, and their key in their first octets.
module _ {A : Type 0} (f : A → List ℕ) (key : A → ℕ) (a : Area) (p : A → Bool)
    (good : (r : A) → T (p r) → (length (f r) ≡ a.width) × (key_of a.key (f r) ≡ key r)) where
  abbrev size : ℕ
  size = a.room * a.width

  -- s holds rs: its count and its area, between octets that do not matter
  pub record Held (pre mid post : List ℕ) (rs : List A) (s : List ℕ) : Type 0 where
    pub octets : s ≡ pre ++ (be a.count_width (length rs) ++ (mid ++ (padded size (concat_map f rs) ++ post)))
    pub before : length pre ≡ a.count_at
    pub gap : a.count_at + (a.count_width + length mid) ≡ a.at
    pub counted : a.room < 256 ^ a.count_width
    pub passes : T (all p rs)
    pub fits : length rs ≤ a.room
    pub up : T (ascending (map key rs))

  wide : (rs : List A) → T (all p rs) → Wide f a.width rs
  wide [] h = tt
  wide (r ∷ rs) h = ((good r (all_head p r rs h)).0, wide rs (all_tail p r rs h))

  keyed : (rs : List A) → T (all p rs) → map (key_of a.key) (map f rs) ≡ map key rs
  keyed [] h = refl
  keyed (r ∷ rs) h = λ i. (good r (all_head p r rs h)).1 i ∷ keyed rs (all_tail p r rs h) i

  -- what stands before the area, grouped by places
  regroup : (pre c mid ar post : List ℕ) → pre ++ (c ++ (mid ++ (ar ++ post))) ≡ (pre ++ (c ++ mid)) ++ (ar ++ post)
  regroup pre c mid ar post = simp append_assoc

  module _ {pre mid post : List ℕ} {rs : List A} {s : List ℕ} (h : Held pre mid post rs s) where
    abbrev tail : List ℕ
    tail = mid ++ (padded size (concat_map f rs) ++ post)

    pub count_held : count_in a s ≡ length rs
    unfolding count_in number_at
    count_held =
        ap (λ (l : List ℕ). number (part a.count_at a.count_width l)) h.octets
        ∙ ap number (part_of pre (be a.count_width (length rs)) tail a.count_at a.count_width h.before (length_be a.count_width (length rs)))
        ∙ number_be a.count_width (length rs) (lt_of_le_of_lt h.fits h.counted)

    ahead : (c : List ℕ) → length c ≡ a.count_width → length (pre ++ (c ++ mid)) ≡ a.at
    ahead c e = simp length-append (omega (arith, h.before, h.gap))

    is_area : slot.Area f a.width a.room rs (padded size (concat_map f rs))
    is_area = record { octets = refl; wide = wide rs h.passes; fits = h.fits }

    pub area_held : area_in a s ≡ padded size (concat_map f rs)
    unfolding area_in
    area_held =
        ap (λ (l : List ℕ). part a.at size l) (h.octets ∙ regroup pre (be a.count_width (length rs)) mid (padded size (concat_map f rs)) post)
        ∙ part_of (pre ++ (be a.count_width (length rs) ++ mid)) (padded size (concat_map f rs)) post a.at size
        (ahead (be a.count_width (length rs)) (length_be a.count_width (length rs))) (held_length f is_area)

    pub place_held : (x : ℕ) → place_in a x s ≡ lookup x (map key rs)
    unfolding place_in
    place_held x =
        rw (count_held, le-ltb a.room (length rs) h.fits, area_held)
        (ap (λ (l : List (List ℕ)). lookup x (map (key_of a.key) l)) (held_slices f is_area) ∙ ap (lookup x) (keyed rs h.passes))

    -- the record at a place
    pub record_held : (d : A) (n : ℕ) → n < length rs → part (n * a.width) a.width (area_in a s) ≡ f (get_or rs n d)
    record_held d n l =
        sym (get_d_slices a.width (length rs) n (area_in a s) l)
        ∙ ap (λ (v : List ℕ). get_or (slices a.width (length rs) v) n []) area_held
        ∙ ap (λ (v : List (List ℕ)). get_or v n []) (held_slices f is_area)
        ∙ mapped rs n l
      where
        mapped : (xs : List A) (n : ℕ) → n < length xs → get_or (map f xs) n [] ≡ f (get_or xs n d)
        mapped [] n l = absurd (omega arith)
        mapped (x ∷ xs) zero l = refl
        mapped (x ∷ xs) (suc n) l = mapped xs n (omega arith)

    -- another area, then another count
    area_put : (ar : List ℕ) → length ar ≡ size → put a.at ar s ≡ pre ++ (be a.count_width (length rs) ++ (mid ++ (ar ++ post)))
    area_put ar e =
        let c : List ℕ = be a.count_width (length rs) in
        ap (put a.at ar) (h.octets ∙ regroup pre c mid (padded size (concat_map f rs)) post)
        ∙ put_over (pre ++ (c ++ mid)) (padded size (concat_map f rs)) post ar a.at (ahead c (length_be a.count_width (length rs))) (e ∙ sym (held_length f is_area))
        ∙ sym (regroup pre c mid ar post)

    both_put : (n : ℕ) (ar : List ℕ) → length ar ≡ size
        → put a.count_at (be a.count_width n) (put a.at ar s) ≡ pre ++ (be a.count_width n ++ (mid ++ (ar ++ post)))
    both_put n ar e =
        ap (put a.count_at (be a.count_width n)) (area_put ar e)
        ∙ put_over pre (be a.count_width (length rs)) (mid ++ (ar ++ post)) (be a.count_width n) a.count_at h.before
        (length_be a.count_width n ∙ sym (length_be a.count_width (length rs)))

    -- the octets with another list of records, from their area
    held_again : (rs' : List A) (s' ar : List ℕ) → slot.Area f a.width a.room rs' ar
        → s' ≡ put a.count_at (be a.count_width (length rs')) (put a.at ar s) → T (all p rs') → T (ascending (map key rs')) → Held pre mid post rs' s'
    held_again rs' s' ar k e ok up' =
        record {
          octets = e ∙ both_put (length rs') ar (held_length f k) ∙ ap (λ (l : List ℕ). pre ++ (be a.count_width (length rs') ++ (mid ++ (l ++ post)))) k.octets;
          before = h.before;
          gap = h.gap;
          counted = h.counted;
          passes = ok;
          fits = k.fits;
          up = up';
        }

    -- a record by its key: over the one that is there, or put in
    module _ (r : A) (ok : T (p r)) where
      abbrev with : List A
      with = insert_by key r (keep (other_than key (key r)) rs)

      pub with_passes : T (all p with)
      with_passes = insert_all_lem key p r (keep (other_than key (key r)) rs) ok (keep_all (other_than key (key r)) p rs h.passes)

      pub with_up : T (ascending (map key with))
      with_up =
          insert_ascending key r (keep (other_than key (key r)) rs) (others key r (keep (other_than key (key r)) rs) (keep_passes (other_than key (key r)) rs))
          (keep_ascending (other_than key (key r)) key rs h.up)

      place_key : place_in a (key_of a.key (f r)) s ≡ lookup (key r) (map key rs)
      place_key = ap (λ (x : ℕ). place_in a x s) (good r ok).1 ∙ place_held (key r)

      over_found : (n : ℕ) → lookup (key r) (map key rs) ≡ Ok n → Held pre mid post with (replaced_in a n (f r) s)
      unfolding replaced_in
      over_found n e =
          let ar : List ℕ = replaced n (f r) (area_in a s) in
          let same : set rs n r ≡ with = replace_found key r n rs h.up e in
          let k : slot.Area f a.width a.room (set rs n r) ar = replace_held f is_area refl (found_within key (key r) n rs e) r (good r ok).0 (ap (replaced n (f r)) area_held) in
          let long : length with ≡ length rs = sym (ap length same) ∙ length-set rs n r in
          held_again with (put a.at ar s) ar (subst (λ (l : List A). slot.Area f a.width a.room l ar) same k)
          (area_put ar (held_length f k) ∙ sym (both_put (length rs) ar (held_length f k)) ∙ ap (λ (n : ℕ). put a.count_at (be a.count_width n) (put a.at ar s)) (sym long))
          with_passes with_up

      put_absent : (n : ℕ) → lookup (key r) (map key rs) ≡ Err n → length rs < a.room → Held pre mid post with (inserted_in a n (f r) s)
      unfolding inserted_in
      put_absent n e less =
          let ar : List ℕ = inserted (count_in a s) n (f r) (area_in a s) in
          let stay : keep (other_than key (key r)) rs ≡ rs = keep_none (λ y. eqb (key y) (key r)) rs (absent_record key (key r) n rs h.up e) in
          let same : insert_at n r rs ≡ with = insert_absent key r n rs e ∙ ap (insert_by key r) (sym stay) in
          let k : slot.Area f a.width a.room (insert_at n r rs) ar
          = insert_held f is_area refl r (good r ok).0 (absent_within key (key r) n rs e) less (ap₂ (λ (c : ℕ) (l : List ℕ). inserted c n (f r) l) count_held area_held) in
          let long : count_in a s + 1 ≡ length with = rw (count_held, insert_length key r (keep (other_than key (key r)) rs), stay) (omega arith) in
          held_again with (put a.count_at (be a.count_width (count_in a s + 1)) (put a.at ar s)) ar
          (subst (λ (l : List A). slot.Area f a.width a.room l ar) same k)
          (ap (λ (n : ℕ). put a.count_at (be a.count_width n) (put a.at ar s)) long)
          with_passes with_up

      absent_long : (n : ℕ) → lookup (key r) (map key rs) ≡ Err n → length with ≤ a.room → length rs < a.room
      absent_long n e l =
          let stay : keep (other_than key (key r)) rs ≡ rs = keep_none (λ y. eqb (key y) (key r)) rs (absent_record key (key r) n rs h.up e) in
          let g = insert_length key r (keep (other_than key (key r)) rs) ∙ ap (λ (l : List A). suc (length l)) stay in
          omega (arith, g, l)

      pub with_held : length with ≤ a.room → Held pre mid post with (with_record a (f r) s)
      unfolding with_record
      with_held l =
          subst (λ (q : Result ℕ ℕ). Held pre mid post with (at_place q (λ n. replaced_in a n (f r) s) (λ n. pick (ltb (count_in a s) a.room) (inserted_in a n (f r) s) s)))
          (sym place_key) (go (lookup (key r) (map key rs)) refl)
        where
          go : (q : Result ℕ ℕ) → lookup (key r) (map key rs) ≡ q
              → Held pre mid post with (at_place q (λ n. replaced_in a n (f r) s) (λ n. pick (ltb (count_in a s) a.room) (inserted_in a n (f r) s) s))
          go (Ok n) e = over_found n e
          go (Err n) e =
              let less = absent_long n e l in
              rw (count_held, lt-ltb (length rs) a.room less) (put_absent n e less)

    -- the record of a key taken out
    module _ (x : ℕ) where
      abbrev left : List A
      left = keep (other_than key x) rs

      out_found : (n : ℕ) → lookup x (map key rs) ≡ Ok n → Held pre mid post left (removed_in a n s)
      unfolding removed_in
      out_found n e =
          let ar : List ℕ = removed a.width (count_in a s) n (area_in a s) in
          let within : n < length rs = found_within key x n rs e in
          let same : remove_at n rs ≡ left = remove_found key x n rs h.up e in
          let k : slot.Area f a.width a.room (remove_at n rs) ar
          = remove_held f is_area refl within (ap₂ (λ (c : ℕ) (l : List ℕ). removed a.width c n l) count_held area_held) in
          let gone : length (remove_at n rs) + 1 ≡ length rs = one_less n rs within in
          let long : count_in a s - 1 ≡ length left = rw (count_held, ← same) (omega arith) in
          held_again left (put a.count_at (be a.count_width (count_in a s - 1)) (put a.at ar s)) ar
          (subst (λ (l : List A). slot.Area f a.width a.room l ar) same k)
          (ap (λ (n : ℕ). put a.count_at (be a.count_width n) (put a.at ar s)) long)
          (keep_all (other_than key x) p rs h.passes) (keep_ascending (other_than key x) key rs h.up)

      pub without_held : Held pre mid post left (without_record a x s)
      unfolding without_record
      without_held =
          subst (λ (q : Result ℕ ℕ). Held pre mid post left (at_place q (λ n. removed_in a n s) (λ n. s))) (sym (place_held x)) (go (lookup x (map key rs)) refl)
        where
          go : (q : Result ℕ ℕ) → lookup x (map key rs) ≡ q → Held pre mid post left (at_place q (λ n. removed_in a n s) (λ n. s))
          go (Ok n) e = out_found n e
          go (Err n) e = subst (λ (l : List A). Held pre mid post l s) (sym (keep_none (λ y. eqb (key y) x) rs (absent_record key x n rs h.up e))) h

    -- one record changed, its key kept
    pub changed_held : (d : A) (x n : ℕ) (g : A → A) → ((r : A) → T (other_than key x r) → g r ≡ r) → ((r : A) → T (p r) → T (p (g r))) → ((r : A) → key (g r) ≡ key r)
        → lookup x (map key rs) ≡ Ok n → Held pre mid post (map g rs) (replaced_in a n (f (g (get_or rs n d))) s)
    unfolding replaced_in
    changed_held d x n g other keeps same e =
        let r : A = g (get_or rs n d) in
        let ar : List ℕ = replaced n (f r) (area_in a s) in
        let within : n < length rs = found_within key x n rs e in
        let ok' : T (all p (map g rs)) = map_all key p g keeps rs h.passes in
        let eq : set rs n r ≡ map g rs = change_found key x n rs h.up d g other e in
        let okr : T (p r) = keeps (get_or rs n d) (all_at p d rs n within h.passes) in
        let k : slot.Area f a.width a.room (set rs n r) ar = replace_held f is_area refl within r (good r okr).0 (ap (replaced n (f r)) area_held) in
        let long : length (map g rs) ≡ length rs = sym (ap length eq) ∙ length-set rs n r in
        held_again (map g rs) (put a.at ar s) ar (subst (λ (l : List A). slot.Area f a.width a.room l ar) eq k)
        (area_put ar (held_length f k) ∙ sym (both_put (length rs) ar (held_length f k)) ∙ ap (λ (n : ℕ). put a.count_at (be a.count_width n) (put a.at ar s)) (sym long))
        ok' (subst (λ (l : List ℕ). T (ascending l)) (sym (map_keys key g same rs)) h.up)

    -- every record taken out
    pub cleared_held : Held pre mid post [] (cleared_in a s)
    unfolding cleared_in concat_map
    cleared_held =
        held_again [] (cleared_in a s) (zeros size) (record { octets = none_padded size; wide = tt; fits = omega arith }) refl (unfold all in tt) (unfold ascending in tt)

-- Records with keys, after some are taken out by key and new ones are put in: how many, in which order, and which.
-- Assumes nothing.
use mathlib.Core.Path.{◌≡◌, refl, sym, subst}
use Prim.Native.Nat.{ℕ, ◌+◌, ◌-◌, ◌≤◌}
use native.Mathlib.Omega.{arith}
use mathlib.Core.Bool.{Bool, not}
use mathlib.Core.List.Permᴰ
use mathlib.Core.List.{List, [], ◌∷◌, ◌++◌, map, append_assoc, Permᴰ}
use lib.ListN.{length}
use lib.Dec.{T, eqb}
use Rattle.octets.specs.Lists.{member, any_in, all_in, has_repeat, without, ascending, all, keep, insert_all}
use Rattle.octets.proofs.Ordered.{other_key, keep_all, keep_ascending, ascending_other, all_perm}
use Rattle.octets.proofs.ListLaws.{by_test, or_right, all_imply, all_append, all_map, pairs_map, map-append}
use Rattle.octets.proofs.MemberLaws.{absent_each, none_in, all_in_lem, once_differ, kept_key, without_keys, member_front, member_behind, member_perm}
use Rattle.octets.proofs.Bools.{not_or}
use Rattle.invariants.proofs.InsertLaws.{map_perm, insert_all_append, insert_all_length, insert_all_ascending, removed_length, removed_exact}

-- ---- orders of lists one after the other

module _ {A : Type 0} where
  -- the first two of three change places
  swap_front : (xs ys zs : List A) → Permᴰ (xs ++ (ys ++ zs)) (ys ++ (xs ++ zs))
  swap_front [] ys zs = Permᴰ.refl (ys ++ zs)
  swap_front (x ∷ xs) ys zs = Permᴰ.trans (Permᴰ.cons refl (swap_front xs ys zs)) (Permᴰ.symm (Permᴰ.middle x ys (xs ++ zs)))

  -- the inner two of four change places
  pub swap_inner : (as' bs cs ds : List A) → Permᴰ ((as' ++ bs) ++ (cs ++ ds)) ((as' ++ cs) ++ (bs ++ ds))
  swap_inner as' bs cs ds =
      subst (λ (l : List A). Permᴰ l ((as' ++ cs) ++ (bs ++ ds))) (sym (append_assoc as' bs (cs ++ ds)))
      (subst (λ (l : List A). Permᴰ (as' ++ (bs ++ (cs ++ ds))) l) (sym (append_assoc as' cs (bs ++ ds))) (Permᴰ.append_left as' (swap_front bs cs ds)))

  -- two lists, each in another order
  pub append_perm : {xs ys zs ws : List A} → Permᴰ xs ys → Permᴰ zs ws → Permᴰ (xs ++ zs) (ys ++ ws)
  append_perm {xs} {ys} {zs} {ws} π σ = Permᴰ.trans (Permᴰ.append_right zs π) (Permᴰ.append_left ys σ)

-- a number in one of two lists
member_either : (k : ℕ) (xs ys : List ℕ) → T (member k (xs ++ ys)) → T (not (member k xs)) → T (member k ys)
unfolding member
member_either k [] ys h g = h
member_either k (x ∷ xs) ys h g =
    let n = not_or (eqb k x) (member k xs) g in
    member_either k xs ys (or_right (eqb k x) (member k (xs ++ ys)) h n.0) n.1

-- ---- records taken out and put in

module _ {A : Type 0} (key : A → ℕ) (gone : List ℕ) (new old : List A) where
  -- the records after it
  abbrev pub after : List A
  after = insert_all key new (keep (kept_key key gone) old)

  -- each new one and each that stays
  pub after_perm : Permᴰ after (new ++ keep (kept_key key gone) old)
  after_perm = insert_all_append key new (keep (kept_key key gone) old)

  -- how many
  pub after_length : T (not (has_repeat gone)) → T (all_in gone (map key old)) → length after ≤ length old - length gone + length new
  after_length once live =
      let a = insert_all_length key new (keep (kept_key key gone) old) in
      let b = removed_length key gone old once (all_in_lem gone (map key old) live) in
      omega arith

  -- and exactly so many, where the keys ascend
  pub after_count : T (not (has_repeat gone)) → T (all_in gone (map key old)) → T (ascending (map key old)) → length after ≡ length old - length gone + length new
  after_count once live up =
      let a = insert_all_length key new (keep (kept_key key gone) old) in
      let b = removed_length key gone old once (all_in_lem gone (map key old) live) in
      let c = removed_exact key gone old (ascending_other key old up) in
      omega arith

  -- in ascending order, where the new keys are new and differ
  pub after_ascending : T (not (has_repeat (map key new))) → T (not (any_in (map key new) (map key old))) → T (ascending (map key old)) → T (ascending (map key after))
  after_ascending once fresh up =
      insert_all_ascending key new (keep (kept_key key gone) old) (subst T (pairs_map key (λ a b. not (eqb a b)) new) (once_differ (map key new) once))
      (all_imply (λ a. not (member (key a) (map key old))) (λ a. all (other_key key a) (keep (kept_key key gone) old))
      (λ a h. keep_all (kept_key key gone) (other_key key a) old (subst T (all_map key (λ n. not (eqb (key a) n)) old) (absent_each (key a) (map key old) h))) new
      (subst T (all_map key (λ n. not (member n (map key old))) new) (none_in (map key new) (map key old) fresh)))
      (keep_ascending (kept_key key gone) key old up)

  -- a test of the new ones and of those that stay
  pub after_all_lem : (p : A → Bool) → T (all p new) → T (all p (keep (kept_key key gone) old)) → T (all p after)
  after_all_lem p hn ho = all_perm p (Permᴰ.symm after_perm) (all_append p new (keep (kept_key key gone) old) hn ho)

  -- the keys that stay and the new keys are there
  pub after_keys : (k : ℕ) → T (member k (without (map key old) gone ++ map key new)) → T (member k (map key after))
  after_keys k h =
      member_perm k (Permᴰ.symm (map_perm key after_perm))
      (subst (λ (l : List ℕ). T (member k l)) (sym (map-append key new (keep (kept_key key gone) old)))
      (by_test (member k (without (map key old) gone))
      (λ m. member_behind k (map key new) (map key (keep (kept_key key gone) old)) (subst (λ (l : List ℕ). T (member k l)) (without_keys key gone old) m))
      (λ m. member_front k (map key new) (map key (keep (kept_key key gone) old)) (member_either k (without (map key old) gone) (map key new) h m))))

-- The walk over the slots is refused just where a session is not allowed, two hold a TEID or an address of the pool in common, or a slot is
-- not what it is read as.
-- Assumes nothing.
use mathlib.Core.Path.{◌≡◌, refl, sym, ap, ◌∙◌}
use Prim.Native.Nat.{ℕ, zero, suc, ◌+◌, ◌*◌, ◌≤◌}
use native.Mathlib.Nat.{suc-mul, zero-add}
use native.Mathlib.Omega.{arith}
use mathlib.Core.Bool.{Bool, true, false, not, ◌&&◌}
use mathlib.Core.List.{List, [], ◌∷◌, ◌++◌, map, append_assoc}
use lib.ListN.{length, drop, replicate, length-drop}
use lib.Seq.{length-take-le}
use lib.Dec.{T, eqb}
use Rattle.octets.specs.Octets.{slices, same_octets, octets, concat_map}
use Rattle.octets.specs.Choice.{pick, flag}
use Rattle.octets.specs.Lists.{all, any, all_pairs, distinct}
use Rattle.octets.proofs.ListLaws.{all_append, all_front, all_behind}
use Rattle.octets.proofs.Ordered.{pairs_head, pairs_tail}
use Rattle.octets.proofs.Digits.{take_octets, drop_octets}
use Rattle.rules.specs.Model.{Settings, Session, Sessions, session_teids, held_teids, session_addresses, held_addresses, has_peer, of_peer, holdings}
use Rattle.rules.specs.Layout.{session_octets, view_session, session_width}
use Rattle.octets.specs.Octets.{octet_at}
use Rattle.rules.specs.Sound.{session_allowed, apart, in_pool, records_allowed, marked}
use Rattle.laws.proofs.DistinctLaws.{distinct_both, distinct_apart}
use Rattle.invariants.proofs.Beside.{separate_all}
use Rattle.invariants.proofs.Totals.{total, peer_teids, peer_sessions, holdings_total, count_total}
use Rattle.pool.proofs.TakenLaws.{new_marks_distinct}
use Rattle.marking.specs.Walk.{session_marks, table_marks, apart_teids, apart_addresses, address_offsets, address_marks}
use Rattle.marking.proofs.MapWalk.{sessions_marks}
use Rattle.marking.proofs.AddressWalk.{address_marks_lem}
use Rattle.pool.specs.Map.{marks, new_marks, offsets}
use Rattle.pool.proofs.Marks.{offsets_append, marks_append, new_append}
use Rattle.marking.specs.Offsets.{held_offsets}
use Rattle.records.specs.Kept.{kept}
use Rattle.records.specs.Slot.{slot_sound}
use Rattle.records.proofs.SlotLaws.{allowed_split, slot_law}
use Rattle.marking.specs.Marking.{slot_holds, slot_teids, slot_free, in_turn, slot_keeps, slots_keep, slots_free, teids_in, addresses_in, new_by, slots_by}
use Rattle.marking.proofs.Admitting.{records_pooled}
use Rattle.octets.proofs.Bools.{and-false}

-- every slot is whole, and of octets
abbrev pub Whole : List (List ℕ) → Type 0
Whole [] = Unit {0}
Whole (xs ∷ xss) = (length xs ≡ session_width) × T (octets xs) × Whole xss

pub slots_whole : (n : ℕ) (a : List ℕ) → n * session_width ≤ length a → T (octets a) → Whole (slices session_width n a)
unfolding slices
slots_whole zero a h o = tt
slots_whole (suc n) a h o =
    let rows : suc n * session_width ≡ n * session_width + session_width = suc-mul n session_width in
    (length-take-le session_width a (omega arith), take_octets session_width a o, slots_whole n (drop session_width a) (rw length-drop (omega arith)) (drop_octets session_width a o))

-- a slot is just what it is read as
abbrev pub canonical : List ℕ → Bool
canonical xs = same_octets (session_octets (view_session xs)) xs

regroup : (a c s t d : Bool) → (((a && c) && s) && (t && d)) ≡ ((a && (s && t)) && (c && d))
regroup true true true t d = refl
regroup true true false t d = refl
regroup true false s t d = sym (and-false (s && t))
regroup false c s t d = refl

module _ (u : Settings) where
  slots_marks : (ws : List ℕ) (xss : List (List ℕ)) → Whole xss
      → in_turn (slot_keeps u) (slot_teids u) ws xss ≡ (table_marks (records_allowed u) u.first ws (map view_session xss) && all canonical xss)
  unfolding in_turn slot_keeps slot_teids table_marks all slot_holds session_teids
  slots_marks ws [] w = refl
  slots_marks ws (xs ∷ xss) w =
      let own : slot_sound u xs ≡ (records_allowed u (view_session xs) && canonical xs) = slot_law xs w.0 u w.1 ∙ unfold kept in refl in
      let after : List ℕ = marks ws (slot_teids u xs) in
      (λ i. (own i && session_marks u.first ws [] (slot_holds xs)) && slots_marks after xss w.2 i)
      ∙ regroup (records_allowed u (view_session xs)) (canonical xs) (session_marks u.first ws [] (slot_holds xs))
      (table_marks (records_allowed u) u.first after (map view_session xss)) (all canonical xss)

  -- from an empty map of n words
  pub slots_law : (n : ℕ) (xss : List (List ℕ)) → u.size ≤ 64 * n → Whole xss
      → slots_keep u (replicate n 0) xss ≡ ((all (session_allowed u) (map view_session xss) && all_pairs apart_teids (map view_session xss)) && all canonical xss)
  unfolding slots_keep
  slots_law n xss h w =
      slots_marks (replicate n 0) xss w
      ∙ ap (λ (b : Bool). b && all canonical xss) (sessions_marks u (records_allowed u) (records_pooled u) n (map view_session xss) h (allowed_split u))

  -- the offsets of their TEIDs
  pub teids_are : (xss : List (List ℕ)) → teids_in u xss ≡ offsets u.first (held_teids (map view_session xss))
  unfolding teids_in concat_map slot_teids slot_holds held_teids session_teids offsets
  teids_are [] = refl
  teids_are (xs ∷ xss) =
      ap (λ (l : List ℕ). slot_teids u xs ++ l) (teids_are xss) ∙ sym (offsets_append u.first (session_teids (view_session xs)) (held_teids (map view_session xss)))

-- ---- addresses

module _ (s : Settings) where
  turns_are : (ws : List ℕ) (xss : List (List ℕ)) → in_turn (slot_free s) (held_offsets s) ws xss ≡ address_marks ws (map (address_offsets s) (map view_session xss))
  unfolding in_turn slot_free address_marks held_offsets
  turns_are ws [] = refl
  turns_are ws (xs ∷ xss) = ap (λ (b : Bool). not (any (marked ws) (held_offsets s xs)) && b) (turns_are (marks ws (held_offsets s xs)) xss)

  pub free_law : (n : ℕ) (xss : List (List ℕ)) → s.address_count ≤ 64 * n → slots_free s (replicate n 0) xss ≡ all_pairs (apart_addresses s) (map view_session xss)
  unfolding slots_free
  free_law n xss h = turns_are (replicate n 0) xss ∙ address_marks_lem s n (map view_session xss) h

  -- the offsets of their addresses
  pub addresses_are : (xss : List (List ℕ)) → addresses_in s xss ≡ offsets s.first_address (held_addresses s (map view_session xss))
  unfolding addresses_in concat_map held_addresses offsets held_offsets address_offsets
  addresses_are [] = refl
  addresses_are (xs ∷ xss) =
      ap (λ (l : List ℕ). held_offsets s xs ++ l) (addresses_are xss) ∙ sym (offsets_append s.first_address (session_addresses s (view_session xs)) (held_addresses s (map view_session xss)))

-- ---- by peers (02 (xiv))

-- all TEIDs, session by session
own : Session → ℕ
own x = distinct (session_teids x)

at_most : (m : Sessions) → distinct (held_teids m) ≤ total own m
unfolding total held_teids distinct own
at_most [] = omega arith
at_most (x ∷ m) = let a = distinct_both (session_teids x) (held_teids m) in let b = at_most m in omega arith

module _ (s : Settings) where
  in_all : (m : Sessions) → T (all_pairs (apart s) m) → distinct (held_teids m) ≡ total own m
  unfolding total held_teids distinct own
  in_all [] h = refl
  in_all (x ∷ m) h =
      let a = distinct_apart (session_teids x) (held_teids m) (separate_all s x m (pairs_head (apart s) x m h)) in
      let b = in_all m (pairs_tail (apart s) x m h) in
      omega arith

  module _ (n : ℕ) (fits : s.size ≤ 64 * n) (who : ℕ) where
    -- with the TEIDs of the sessions before marked
    new_from : (pre : List ℕ) (xss : List (List ℕ)) → T (all (in_pool s) pre) → T (all (in_pool s) (held_teids (map view_session xss)))
        → distinct (pre ++ held_teids (map view_session xss)) ≡ distinct pre + total own (map view_session xss)
        → new_by s who (marks (replicate n 0) (offsets s.first pre)) xss ≡ total (peer_teids who) (map view_session xss)
    unfolding new_by total held_teids slot_teids slot_holds session_teids has_peer view_session own
    new_from pre [] hp h e = refl
    new_from pre (xs ∷ xss) hp h e =
        let x = view_session xs in
        let m = map view_session xss in
        let ts = session_teids x in
        let z : List ℕ = replicate n 0 in
        let off : List ℕ → List ℕ = offsets s.first in
        let ht : T (all (in_pool s) ts) = all_front (in_pool s) ts (held_teids m) h in
        let hm : T (all (in_pool s) (held_teids m)) = all_behind (in_pool s) ts (held_teids m) h in
        let hpt : T (all (in_pool s) (pre ++ ts)) = all_append (in_pool s) pre ts hp ht in
        let joined : distinct ((pre ++ ts) ++ held_teids m) ≡ distinct (pre ++ (ts ++ held_teids m)) = ap distinct (append_assoc pre ts (held_teids m)) in
        let a = distinct_both (pre ++ ts) (held_teids m) in
        let b = distinct_both pre ts in
        let c = at_most m in
        let both' : distinct (pre ++ ts) ≡ distinct pre + own x = omega arith in
        let later : distinct ((pre ++ ts) ++ held_teids m) ≡ distinct (pre ++ ts) + total own m = omega arith in
        let all_new = new_marks_distinct s n (pre ++ ts) fits hpt in
        let pre-new = new_marks_distinct s n pre fits hp in
        let split : new_marks z (off (pre ++ ts)) ≡ new_marks z (off pre) + new_marks (marks z (off pre)) (off ts) = ap (new_marks z) (offsets_append s.first pre ts) ∙ new_append z (off pre) (off ts) in
        let new : new_marks (marks z (off pre)) (off ts) ≡ own x = omega arith in
        let after : marks (marks z (off pre)) (off ts) ≡ marks z (off (pre ++ ts)) = sym (ap (marks z) (offsets_append s.first pre ts) ∙ marks_append z (off pre) (off ts)) in
        (λ i. pick (eqb (octet_at xs 0) who) (new i) 0 + new_by s who (after i) xss)
        ∙ ap (λ (k : ℕ). pick (eqb (octet_at xs 0) who) (own x) 0 + k) (new_from (pre ++ ts) xss hpt hm later)

    pub by_peer : (xss : List (List ℕ)) → T (all (in_pool s) (held_teids (map view_session xss))) → T (all_pairs (apart s) (map view_session xss))
        → new_by s who (replicate n 0) xss ≡ holdings who (map view_session xss)
    unfolding offsets marks
    by_peer xss h a = new_from [] xss (unfold all in tt) h (unfold distinct in (in_all (map view_session xss) a ∙ sym (zero-add (total own (map view_session xss))))) ∙ sym (holdings_total s who (map view_session xss) a)

slots_sum : (who : ℕ) (xss : List (List ℕ)) → slots_by who xss ≡ total (peer_sessions who) (map view_session xss)
unfolding slots_by total has_peer view_session
slots_sum who [] = refl
slots_sum who (xs ∷ xss) = ap (λ (k : ℕ). flag (eqb (octet_at xs 0) who) + k) (slots_sum who xss)

pub slots_by_lem : (who : ℕ) (xss : List (List ℕ)) → slots_by who xss ≡ length (of_peer who (map view_session xss))
slots_by_lem who xss = slots_sum who xss ∙ sym (count_total who (map view_session xss))

-- Entries one after the other: the walks over their octets, and what a sound walk says. Assumes nothing.
use Rattle.std.proofs.Common.{◌≡◌, ℕ, zero, suc, ◌+◌, ◌*◌, ◌≤◌, Bool, true, false, not, ◌&&◌, T, List, [], ◌∷◌, ◌++◌, length, take, drop, sym, refl, ap, ◌∙◌, subst, ap₂, append_assoc, not-suc-le-zero, arith, length-append}
use mathlib.Core.Option.{Option, none, some}
use Rattle.octets.specs.Choice.{pick, is_some, map_option}
use Rattle.octets.specs.Octets.{part, same_octets, all_zero, concat_map, octets}
use Rattle.octets.specs.Lists.{all, all_pairs, find_by}
use Rattle.octets.proofs.Digits.{drop_octets}
use Rattle.octets.proofs.Tests.{and_left, and_right, is_true, is_false, all_head, all_tail, all_cons}
use Rattle.octets.proofs.Ordered.{pairs_head, pairs_tail, pairs_cons}
use Rattle.octets.proofs.ListLaws.{none_found}
use Rattle.rules.specs.Store.{Entry, entry_octets, entry_room, message_length, entry_in, entry_length, entries_up_to, entry_allowed, has_message, differ, reply_of, stored_reply}
use Rattle.store.specs.Fronts.{whole_front, span_of, reply_among, sound_from}
use Rattle.store.proofs.EntryLaws.{entry_short, message_part, reply_part, read_entry, read_length, read_rest, read_whole, whole_allowed, whole_octets}

-- the entries' octets
abbrev pub all_octets : List Entry → List ℕ
all_octets es = concat_map entry_octets es

pub octets_cons : (x : Entry) (es : List Entry) (z : List ℕ) → all_octets (x ∷ es) ++ z ≡ entry_octets x ++ (all_octets es ++ z)
unfolding concat_map
octets_cons x es z = append_assoc (entry_octets x) (concat_map entry_octets es) z

pub octets_first : (x : Entry) (es : List Entry) → all_octets (x ∷ es) ≡ entry_octets x ++ all_octets es
unfolding concat_map
octets_first x es = refl

pub length_cons : (x : Entry) (es : List Entry) → length (all_octets (x ∷ es)) ≡ length (entry_octets x) + length (all_octets es)
unfolding concat_map
length_cons x es = length-append (entry_octets x) (concat_map entry_octets es)

pub length_entries : (n : ℕ) (s : List ℕ) → length (entries_up_to n s) ≡ n
unfolding entries_up_to
length_entries zero s = refl
length_entries (suc n) s = ap suc (length_entries n (drop (entry_length s) s))

pub entries_short : (es : List Entry) → T (all entry_allowed es) → length (all_octets es) ≤ length es * entry_room
unfolding concat_map
entries_short [] h = omega arith
entries_short (x ∷ es) h =
    let a = entry_short x (all_head entry_allowed x es h) in
    let b = entries_short es (all_tail entry_allowed x es h) in
    let l = length-append (entry_octets x) (concat_map entry_octets es) in
    omega arith

-- ---- the walks over octets that entries have

pub read_entries : (es : List Entry) (z : List ℕ) → T (all entry_allowed es) → entries_up_to (length es) (all_octets es ++ z) ≡ es
unfolding entries_up_to
read_entries [] z h = refl
read_entries (x ∷ es) z h =
    let a = all_head entry_allowed x es h in
    rw (octets_cons x es z, read_entry x a (all_octets es ++ z), read_rest x a (all_octets es ++ z)) (ap (λ (l : List Entry). x ∷ l) (read_entries es z (all_tail entry_allowed x es h)))

pub read_span : (k : ℕ) (es : List Entry) (z : List ℕ) → T (all entry_allowed es) → k ≤ length es → span_of k (all_octets es ++ z) ≡ length (all_octets (take k es))
unfolding span_of concat_map
read_span zero es z h l = refl
read_span (suc k) [] z h l = absurd (not-suc-le-zero l)
read_span (suc k) (x ∷ es) z h l =
    let a = all_head entry_allowed x es h in
    let n = length-append (entry_octets x) (concat_map entry_octets (take k es)) in
    rw (octets_cons x es z, read_whole x a (all_octets es ++ z), read_rest x a (all_octets es ++ z), read_length x a (all_octets es ++ z), read_span k es z (all_tail entry_allowed x es h) (omega arith)) (sym n)

pub read_reply : (es : List Entry) (z msg : List ℕ) → T (all entry_allowed es) → reply_among (length es) (all_octets es ++ z) msg ≡ stored_reply msg es
unfolding reply_among stored_reply find_by
read_reply [] z msg h = refl
read_reply (x ∷ es) z msg h =
    let a = all_head entry_allowed x es h in
    rw (octets_cons x es z, read_whole x a (all_octets es ++ z), read_rest x a (all_octets es ++ z), message_part x a (all_octets es ++ z), reply_part x a (all_octets es ++ z), read_reply es z msg (all_tail entry_allowed x es h))
    (unfold has_message in (one (same_octets msg x.message)))
  where
    one : (b : Bool) → pick b (some x.reply) (map_option reply_of (find_by (has_message msg) es)) ≡ map_option reply_of (pick b (some x) (find_by (has_message msg) es))
    one true = refl
    one false = refl

-- where each fails a test, none is found
none_passes : (p : Entry → Bool) (l : List Entry) → T (all (λ e. not (p e)) l) → is_some (find_by p l) ≡ false
unfolding find_by
none_passes p [] g = refl
none_passes p (e ∷ l) g = rw (is_false (p e) (all_head (λ y. not (p y)) e l g)) (none_passes p l (all_tail (λ y. not (p y)) e l g))

message_in : (s : List ℕ) → (entry_in s).message ≡ part 2 (message_length s) s
unfolding entry_in
message_in s = refl

-- no later entry has the message
module _ (x : Entry) (es : List Entry) where
  some_mapped : (o : Option Entry) → is_some (map_option reply_of o) ≡ is_some o
  some_mapped none = refl
  some_mapped (some e) = refl

  pub none_stored : T (all (differ x) es) → is_some (stored_reply x.message es) ≡ false
  unfolding stored_reply differ
  none_stored h = some_mapped (find_by (has_message x.message) es) ∙ none_passes (has_message x.message) es h

  pub stored_none : is_some (stored_reply x.message es) ≡ false → T (all (differ x) es)
  unfolding stored_reply differ
  stored_none h = none_found (has_message x.message) es (subst (λ (b : Bool). T (not b)) (sym (sym (some_mapped (find_by (has_message x.message) es)) ∙ h)) tt)

pub read_sound : (es : List Entry) (z : List ℕ) → T (all entry_allowed es) → T (all_pairs differ es) → all_zero z ≡ true → sound_from (length es) (all_octets es ++ z) ≡ true
unfolding sound_from concat_map
read_sound [] z h p e = e
read_sound (x ∷ es) z h p e =
    let a = all_head entry_allowed x es h in
    let r = all_tail entry_allowed x es h in
    rw (octets_cons x es z, read_whole x a (all_octets es ++ z), read_rest x a (all_octets es ++ z), message_part x a (all_octets es ++ z), read_reply es z x.message r, none_stored x es (pairs_head differ x es p)) (read_sound es z r (pairs_tail differ x es p) e)

-- ---- what a sound walk says

pub record Sounds (n : ℕ) (s : List ℕ) : Type 0 where
  pub left : List ℕ
  pub written : s ≡ all_octets (entries_up_to n s) ++ left
  pub zero : all_zero left ≡ true
  pub allowed : T (all entry_allowed (entries_up_to n s))
  pub apart : T (all_pairs differ (entries_up_to n s))

pub sounds : (n : ℕ) (s : List ℕ) → T (octets s) → T (sound_from n s) → Sounds n s
unfolding sound_from entries_up_to concat_map all all_pairs
sounds zero s o h = record { left = s; written = refl; zero = is_true _ h; allowed = tt; apart = tt }
sounds (suc n) s o h =
    let rest = drop (entry_length s) s in
    let x = entry_in s in
    let a = whole_front s in
    let b = not (is_some (reply_among n rest (part 2 (message_length s) s))) in
    let ab = and_left (a && b) (sound_from n rest) h in
    let w : whole_front s ≡ true = is_true _ (and_left a b ab) in
    let i = sounds n rest (drop_octets (entry_length s) s o) (and_right (a && b) (sound_from n rest) h) in
    let es = entries_up_to n rest in
    let split : s ≡ entry_octets x ++ rest = whole_octets s o w in
    let again : reply_among n rest x.message ≡ stored_reply x.message es =
    ap₂ (λ (k : ℕ) (l : List ℕ). reply_among k l x.message) (sym (length_entries n rest)) i.written ∙ read_reply es i.left x.message i.allowed in
    let free : is_some (reply_among n rest x.message) ≡ false = is_false _ (subst (λ (l : List ℕ). T (not (is_some (reply_among n rest l)))) (sym (message_in s)) (and_right a b ab)) in
    record {
      left = i.left;
      written = split ∙ ap (λ (l : List ℕ). entry_octets x ++ l) i.written ∙ sym (append_assoc (entry_octets x) (concat_map entry_octets es) i.left);
      zero = i.zero;
      allowed = all_cons entry_allowed x es (whole_allowed s o w) i.allowed;
      apart = pairs_cons differ x es (stored_none x es (ap is_some (sym again) ∙ free)) i.apart;
    }

-- What the octets of a store that is not broken hold: its count, how far its entries reach, the reply to a message, the newest entry.
-- Assumes nothing.
use Rattle.std.proofs.Common.{◌≡◌, ℕ, suc, ◌+◌, ◌-◌, ◌<◌, ◌≤◌, Bool, true, T, List, [], ◌∷◌, ◌++◌, length, get_or, take, drop, sym, refl, ap, ◌∙◌, subst, ap₂, append_assoc, append-nil, not-suc-le-zero, arith, length-append, length-drop, drop-drop, drop_at}
use mathlib.Core.Option.{Option, none, some}
use lib.Seq.{drop-append-add}
use Rattle.octets.specs.Choice.{value_or, map_option}
use Rattle.octets.specs.Octets.{be, zeros, concat_map}
use Rattle.octets.specs.Lists.{all, find_by}
use Rattle.octets.proofs.ListLaws.{Every, every_imply, all_every, all_behind, found_knows}
use Rattle.octets.proofs.Numbers.{length_be}
use Rattle.octets.proofs.Put.{part_from}
use Rattle.octets.proofs.Tests.{all_head}
use Rattle.rules.specs.Message.{header_length}
use Rattle.rules.specs.Store.{Entry, entry_octets, entry_allowed, store_sound, store_entries, store_length, stored_reply, newest, has_message, reply_of, max_reply}
use Rattle.rules.specs.Repeats.{number_of, newer, takes, takes_after}
use Rattle.store.specs.Fronts.{span_of, reply_among}
use Rattle.store.proofs.RequestTests.{request_header}
use Rattle.store.proofs.EntryLaws.{allowed}
use Rattle.store.proofs.EntriesLaws.{all_octets, read_span, read_reply}
use Rattle.store.proofs.StoreLaws.{Sound, sound, room_left, octets_are}
use Rattle.store.proofs.NumberLaws.{header_front, number_front}

-- the octets behind the count, as a slice has them
abbrev pub tail : List ℕ → List ℕ
tail s = take (length s - 1) (drop 1 s)

module _ (s : List ℕ) (h : T (store_sound s)) where
  w : Sound s
  w = sound s h

  pub shape : s ≡ length (store_entries s) ∷ (all_octets (store_entries s) ++ zeros (room_left (store_entries s)))
  shape = w.written ∙ octets_are (store_entries s)

  pub count_is : get_or s 0 0 ≡ length (store_entries s)
  count_is = ap (λ (x : List ℕ). get_or x 0 0) shape

  pub count_few : get_or s 0 0 ≤ 8
  count_few = rw count_is w.keeping.few

  pub store_long : length s ≡ store_length
  store_long = w.long

  pub tail_is : tail s ≡ all_octets (store_entries s) ++ zeros (room_left (store_entries s))
  tail_is = part_from 1 s ∙ ap (λ (x : List ℕ). drop 1 x) shape

  pub span_is : (k r : ℕ) → k ≤ length (store_entries s) → r ≡ span_of k (tail s) → r ≡ length (all_octets (take k (store_entries s)))
  span_is k r l e = e ∙ ap (span_of k) tail_is ∙ read_span k (store_entries s) (zeros (room_left (store_entries s))) w.keeping.allowed l

  -- ---- the reply to a message

  pub among_is : (msg : List ℕ) → reply_among (get_or s 0 0) (tail s) msg ≡ stored_reply msg (store_entries s)
  among_is msg = ap₂ (λ (k : ℕ) (x : List ℕ). reply_among k x msg) count_is tail_is ∙ read_reply (store_entries s) (zeros (room_left (store_entries s))) msg w.keeping.allowed

-- ---- the newest entry

-- a list's last element, and those before it
pub record Ending (es : List Entry) : Type 0 where
  pub init : List Entry
  pub last : Entry
  pub split : es ≡ init ++ (last ∷ [])
  pub newest : newest es ≡ some last
  pub front : take (length es - 1) es ≡ init

pub ending : (es : List Entry) → 0 < length es → Ending es
unfolding newest
ending [] h = absurd (not-suc-le-zero h)
ending (x ∷ []) h = record { init = []; last = x; split = refl; newest = refl; front = refl }
ending (x ∷ y ∷ es) h =
    let i = ending (y ∷ es) (omega arith) in
    let k : length (x ∷ y ∷ es) - 1 ≡ suc (length (y ∷ es) - 1) = omega arith in
    record {
      init = x ∷ i.init;
      last = i.last;
      split = ap (λ (l : List Entry). x ∷ l) i.split;
      newest = ap (λ (o : Option Entry). some (value_or x o)) i.newest;
      front = ap (λ (n : ℕ). take n (x ∷ y ∷ es)) k ∙ ap (λ (l : List Entry). x ∷ l) i.front;
    }

pub octets_append : (as' bs : List Entry) → all_octets (as' ++ bs) ≡ all_octets as' ++ all_octets bs
unfolding concat_map
octets_append [] bs = refl
octets_append (x ∷ as') bs = ap (λ (l : List ℕ). entry_octets x ++ l) (octets_append as' bs) ∙ sym (append_assoc (entry_octets x) (all_octets as') (all_octets bs))

pub octets_one : (x : Entry) → all_octets (x ∷ []) ≡ entry_octets x
unfolding concat_map
octets_one x = append-nil (entry_octets x)

module _ (s : List ℕ) (h : T (store_sound s)) (msg : List ℕ) where
  none_held : (es : List Entry) → length es ≡ 0 → true ≡ takes es msg
  unfolding takes newest takes_after
  none_held [] e = refl
  none_held (x ∷ es) e = absurd (omega arith)

  pub takes_any : get_or s 0 0 ≡ 0 → true ≡ takes (store_entries s) msg
  takes_any e = none_held (store_entries s) (sym (count_is s h) ∙ e)

  module _ (n : ℕ) (n-is : n ≡ get_or s 0 0) (some-held : n ≡ 0 → ⊥) (r : ℕ) (r-is : r ≡ span_of (n - 1) (tail s)) where
    es : List Entry
    es = store_entries s

    long : 0 < length (store_entries s)
    long = omega (arith, some-held, count_is s h)

    end : Ending (store_entries s)
    end = ending (store_entries s) long

    last_octets : List ℕ
    last_octets = be 2 (length end.last.reply) ++ (end.last.reply ++ zeros (room_left (store_entries s)))

    reach : r ≡ length (all_octets end.init)
    reach =
        let k : n - 1 ≡ length (store_entries s) - 1 = ap (λ (i : ℕ). i - 1) (n-is ∙ count_is s h) in
        span_is s h (n - 1) r (omega (arith, count_is s h)) r-is ∙ ap (λ (l : List Entry). length (all_octets l)) (ap (λ (i : ℕ). take i (store_entries s)) k ∙ end.front)

    entry_flat : entry_octets end.last ++ zeros (room_left (store_entries s)) ≡ be 2 (length end.last.message) ++ (end.last.message ++ last_octets)
    unfolding entry_octets last_octets
    entry_flat = simp append_assoc

    at_last : drop 1 s ≡ all_octets end.init ++ (entry_octets end.last ++ zeros (room_left (store_entries s)))
    at_last =
        ap (λ (x : List ℕ). drop 1 x) (shape s h)
        ∙ ap (λ (x : List ℕ). x ++ zeros (room_left (store_entries s))) (ap all_octets end.split ∙ octets_append end.init (end.last ∷ []) ∙ ap (λ (x : List ℕ). all_octets end.init ++ x) (octets_one end.last))
        ∙ append_assoc (all_octets end.init) (entry_octets end.last) (zeros (room_left (store_entries s)))

    newest_octets : take (length s - (3 + r)) (drop (3 + r) s) ≡ end.last.message ++ last_octets
    newest_octets =
        let k : 3 + r ≡ 1 + (length (all_octets end.init) + 2) = omega (arith, reach) in
        part_from (3 + r) s
        ∙ ap (λ (i : ℕ). drop i s) k
        ∙ sym (drop-drop (length (all_octets end.init) + 2) 1 s)
        ∙ ap (drop (length (all_octets end.init) + 2)) at_last
        ∙ drop-append-add (all_octets end.init) (entry_octets end.last ++ zeros (room_left (store_entries s))) 2
        ∙ ap (drop 2) entry_flat
        ∙ drop_at (be 2 (length end.last.message)) (end.last.message ++ last_octets) 2 (length_be 2 (length end.last.message))

    last_whole : header_length end.last.message ≤ length end.last.message
    last_whole =
        let a = subst (λ (l : List Entry). T (all entry_allowed l)) end.split (sound s h).keeping.allowed in
        request_header end.last.message (allowed end.last (all_head entry_allowed end.last [] (all_behind entry_allowed end.init (end.last ∷ []) a))).request

    pub newest_header : header_length (take (length s - (3 + r)) (drop (3 + r) s)) ≤ length (take (length s - (3 + r)) (drop (3 + r) s))
    newest_header =
        rw (newest_octets, header_front end.last.message last_octets last_whole)
        (omega (arith, last_whole, length-append end.last.message last_octets))

    pub newest_place : 3 + r ≤ length s
    newest_place =
        let l = ap length at_last in
        let e = length-append (all_octets end.init) (entry_octets end.last ++ zeros (room_left (store_entries s))) in
        let f = ap length entry_flat in
        let g = length-append (be 2 (length end.last.message)) (end.last.message ++ last_octets) in
        let b = length_be 2 (length end.last.message) in
        let d = length-drop 1 s in
        omega (arith, reach)

    pub takes_newer : (a b : ℕ) (t : Bool) → a ≡ number_of msg → b ≡ number_of (take (length s - (3 + r)) (drop (3 + r) s)) → t ≡ newer a b → t ≡ takes (store_entries s) msg
    unfolding takes takes_after
    takes_newer a b t ea eb et =
        et ∙ ap₂ newer ea (eb ∙ ap number_of newest_octets ∙ number_front end.last.message last_octets last_whole) ∙ sym (ap (λ (o : Option Entry). takes_after o msg) end.newest)

-- a stored reply is not too long
pub stored_short : (s : List ℕ) → T (store_sound s) → (msg r : List ℕ) → stored_reply msg (store_entries s) ≡ some r → length r ≤ max_reply
unfolding stored_reply
stored_short s h msg r e = go (find_by (has_message msg) (store_entries s)) refl e
  where
    fits : Every (λ x. length x.reply ≤ max_reply) (store_entries s)
    fits = every_imply (λ x. T (entry_allowed x)) (λ x. length x.reply ≤ max_reply) (λ x a. (allowed x a).fits) (store_entries s) (all_every entry_allowed (store_entries s) (sound s h).keeping.allowed)

    go : (o : Option Entry) → find_by (has_message msg) (store_entries s) ≡ o → map_option reply_of o ≡ some r → length r ≤ max_reply
    go none p q = absurd (let z : ◌≡◌ {A = ℕ} 0 1 = cc in omega arith)
    go (some x) p q = let i : x.reply ≡ r = cc in subst (λ (l : List ℕ). length l ≤ max_reply) i (found_knows (λ y. length y.reply ≤ max_reply) (has_message msg) (store_entries s) x fits p)

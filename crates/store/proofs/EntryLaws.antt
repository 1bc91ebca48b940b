-- An entry's octets are read back, and octets with a whole entry at the front are the entry's and the others. Assumes nothing.
use Rattle.std.proofs.Common.{◌≡◌, ℕ, ◌+◌, ◌<◌, ◌≤◌, true, ◌&&◌, T, ltb, leb, List, [], ◌++◌, length, drop, sym, refl, ap, ◌∙◌, ap₂, append_assoc, arith, le→leb, lt→ltb, length-append, take-append-drop, drop_at, ltb-true, lt-ltb, le-leb, leb-true}
use Rattle.octets.specs.Octets.{be, number, number_at, part, octets}
use Rattle.octets.proofs.Numbers.{length_be, number_be}
use Rattle.octets.proofs.Digits.{be_part}
use Rattle.octets.proofs.Put.{part_of, part_two, length_part}
use Rattle.octets.proofs.Tests.{and_left, and_right, both, is_true}
use Rattle.rules.specs.Limits.{max_message}
use Rattle.rules.specs.Message.{header_allowed, served, kind_of}
use Rattle.rules.specs.Store.{Entry, entry, entry_octets, entry_room, max_reply, message_length, reply_length, entry_in, entry_length, request_allowed, reply_allowed, entry_allowed}
use Rattle.store.specs.Fronts.{whole_front}
use Rattle.store.proofs.FrontLaws.{Whole, is_whole}

-- what an allowed entry is known to be
pub record Allowed (x : Entry) : Type 0 where
  pub request : T (request_allowed x.message)
  pub short : length x.message ≤ max_message
  pub some : 0 < length x.reply
  pub fits : length x.reply ≤ max_reply

request_short : (msg : List ℕ) → T (request_allowed msg) → length msg ≤ max_message
unfolding request_allowed
request_short msg h =
    leb-true _ _ (is_true _ (and_left (leb (length msg) max_message) (header_allowed msg) (and_left (leb (length msg) max_message && header_allowed msg) (served (kind_of msg)) h)))

pub allowed : (x : Entry) → T (entry_allowed x) → Allowed x
unfolding entry_allowed reply_allowed
allowed x h =
    let a = request_allowed x.message in
    let n = length x.reply in
    let c = and_right a (ltb 0 n && leb n max_reply) h in
    record {
      request = and_left a (ltb 0 n && leb n max_reply) h;
      short = request_short x.message (and_left a (ltb 0 n && leb n max_reply) h);
      some = ltb-true _ _ (is_true _ (and_left (ltb 0 n) (leb n max_reply) c));
      fits = leb-true _ _ (is_true _ (and_right (ltb 0 n) (leb n max_reply) c));
    }

pub is_allowed_lem : (x : Entry) → T (request_allowed x.message) → 0 < length x.reply → length x.reply ≤ max_reply → T (entry_allowed x)
unfolding entry_allowed reply_allowed
is_allowed_lem x h s f =
    let n = length x.reply in
    both (request_allowed x.message) (ltb 0 n && leb n max_reply) h (both (ltb 0 n) (leb n max_reply) (lt→ltb 0 n s) (le→leb n max_reply f))

pub length_entry : (x : Entry) → length (entry_octets x) ≡ 4 + length x.message + length x.reply
unfolding entry_octets
length_entry x = simp (length-append, length_be) (omega arith)

pub entry_short : (x : Entry) → T (entry_allowed x) → length (entry_octets x) ≤ entry_room
entry_short x h = let a = allowed x h in omega (arith, length_entry x)

-- ---- what was written is read

module _ (x : Entry) (h : T (entry_allowed x)) (z : List ℕ) where
  m : List ℕ
  m = x.message

  r : List ℕ
  r = x.reply

  s : List ℕ
  s = entry_octets x ++ z

  flat : s ≡ be 2 (length x.message) ++ (x.message ++ (be 2 (length x.reply) ++ (x.reply ++ z)))
  unfolding s entry_octets
  flat = simp append_assoc

  is : Allowed x
  is = allowed x h

  message_length_lem : message_length s ≡ length x.message
  unfolding message_length number_at
  message_length_lem =
      ap (λ (l : List ℕ). number (part 0 2 l)) flat
      ∙ ap number (part_of [] (be 2 (length x.message)) (x.message ++ (be 2 (length x.reply) ++ (x.reply ++ z))) 0 2 refl (length_be 2 (length x.message)))
      ∙ number_be 2 (length x.message) (omega (arith, is.short))

  front_two : length (be 2 (length x.message) ++ x.message) ≡ 2 + length x.message
  front_two = simp (length-append, length_be)

  reply_length_lem : reply_length s ≡ length x.reply
  unfolding reply_length number_at
  reply_length_lem =
      ap₂ (λ (k : ℕ) (l : List ℕ). number (part (2 + k) 2 l)) message_length_lem (flat ∙ sym (append_assoc (be 2 (length x.message)) x.message (be 2 (length x.reply) ++ (x.reply ++ z))))
      ∙ ap number (part_of (be 2 (length x.message) ++ x.message) (be 2 (length x.reply)) (x.reply ++ z) (2 + length x.message) 2 front_two (length_be 2 (length x.reply)))
      ∙ number_be 2 (length x.reply) (omega (arith, is.fits))

  pub message_part : part 2 (message_length (entry_octets x ++ z)) (entry_octets x ++ z) ≡ x.message
  unfolding s
  message_part =
      ap₂ (λ (k : ℕ) (l : List ℕ). part 2 k l) message_length_lem flat
      ∙ part_of (be 2 (length x.message)) x.message (be 2 (length x.reply) ++ (x.reply ++ z)) 2 (length x.message) (length_be 2 (length x.message)) refl

  pub reply_part : part (4 + message_length (entry_octets x ++ z)) (reply_length (entry_octets x ++ z)) (entry_octets x ++ z) ≡ x.reply
  unfolding s
  reply_part =
      let a = be 2 (length x.message) ++ (x.message ++ be 2 (length x.reply)) in
      let long : length a ≡ 4 + length x.message = simp (length-append, length_be) (omega arith) in
      let split : entry_octets x ++ z ≡ a ++ (x.reply ++ z) = flat ∙ sym (simp append_assoc) in
      ap (λ (k : ℕ). part (4 + k) (reply_length (entry_octets x ++ z)) (entry_octets x ++ z)) message_length_lem
      ∙ ap₂ (λ (k : ℕ) (l : List ℕ). part (4 + length x.message) k l) reply_length_lem split
      ∙ part_of a x.reply z (4 + length x.message) (length x.reply) long refl

  pub read_entry : entry_in (entry_octets x ++ z) ≡ x
  unfolding entry_in
  read_entry = ap₂ entry message_part reply_part

  pub read_length : entry_length (entry_octets x ++ z) ≡ length (entry_octets x)
  unfolding entry_length s
  read_length = ap₂ (λ (i j : ℕ). 4 + i + j) message_length_lem reply_length_lem ∙ sym (length_entry x)

  pub read_rest : drop (entry_length (entry_octets x ++ z)) (entry_octets x ++ z) ≡ z
  read_rest = drop_at (entry_octets x) z (entry_length (entry_octets x ++ z)) (sym read_length)

  pub read_whole : whole_front (entry_octets x ++ z) ≡ true
  unfolding whole_front reply_allowed s
  read_whole =
      let l = length-append (entry_octets x) z in
      let k = length_entry x in
      let a : leb (4 + message_length (entry_octets x ++ z)) (length (entry_octets x ++ z)) ≡ true = le-leb (4 + message_length (entry_octets x ++ z)) (length (entry_octets x ++ z)) (rw message_length_lem (omega arith)) in
      let b : request_allowed (part 2 (message_length (entry_octets x ++ z)) (entry_octets x ++ z)) ≡ true = ap request_allowed message_part ∙ is_true _ is.request in
      let d : leb (entry_length (entry_octets x ++ z)) (length (entry_octets x ++ z)) ≡ true = le-leb (entry_length (entry_octets x ++ z)) (length (entry_octets x ++ z)) (rw read_length (omega arith)) in
      rw (a, b, d, reply_length_lem, lt-ltb 0 (length x.reply) is.some, le-leb (length x.reply) max_reply is.fits)

-- ---- what is read was written

module _ (s : List ℕ) (o : T (octets s)) (h : whole_front s ≡ true) where
  w : Whole s
  w = is_whole s h

  high : 4 + message_length s + reply_length s ≤ length s
  unfolding entry_length
  high = w.high

  size : entry_length s ≡ 2 + (message_length s + (2 + reply_length s))
  unfolding entry_length
  size = omega arith

  first : be 2 (message_length s) ≡ part 0 2 s
  unfolding message_length number_at
  first = be_part 0 2 s o (omega (arith, w.there))

  second : be 2 (reply_length s) ≡ part (2 + message_length s) 2 s
  unfolding reply_length number_at
  second = be_part (2 + message_length s) 2 s o (omega (arith, w.there))

  pub whole_allowed : T (entry_allowed (entry_in s))
  unfolding entry_in
  whole_allowed =
      let e = length_part (4 + message_length s) (reply_length s) s high in
      is_allowed_lem (entry (part 2 (message_length s) s) (part (4 + message_length s) (reply_length s) s)) w.request (omega (arith, w.some)) (omega (arith, w.fits))

  pub whole_octets : s ≡ entry_octets (entry_in s) ++ drop (entry_length s) s
  unfolding entry_in entry_octets
  whole_octets =
      let i = message_length s in
      let j = reply_length s in
      let hi = high in
      let em : length (part 2 i s) ≡ i = length_part 2 i s (omega arith) in
      let er : length (part (4 + i) j s) ≡ j = length_part (4 + i) j s (omega arith) in
      let q : part (2 + i) 2 s ++ part (4 + i) j s ≡ part (2 + i) (2 + j) s = let k : 2 + i + 2 ≡ 4 + i = omega arith in rw (← k) (part_two (2 + i) 2 j s) in
      let p : part 2 i s ++ part (2 + i) (2 + j) s ≡ part 2 (i + (2 + j)) s = part_two 2 i (2 + j) s in
      let n : part 0 2 s ++ part 2 (i + (2 + j)) s ≡ part 0 (2 + (i + (2 + j))) s = part_two 0 2 (i + (2 + j)) s in
      let flat : (be 2 i ++ (part 2 i s ++ (be 2 j ++ part (4 + i) j s))) ++ drop (entry_length s) s ≡ s =
      rw (first, second, q, p, n, ← size) (take-append-drop (entry_length s) s) in
      sym (rw (em, er) flat)

-- The entry at the front of some octets, by the tests in turn, and what it is known to be. Assumes nothing.
use Rattle.std.proofs.Common.{◌≡◌, ℕ, ◌+◌, ◌-◌, ◌<◌, ◌≤◌, Bool, true, false, ◌&&◌, T, ltb, leb, List, length, take, drop, sym, ap, ◌∙◌, arith, ltb-true, lt-ltb, le-leb, leb-true}
use borrow.Author.Tests.{lt-leb}
use Rattle.octets.specs.Octets.{part, number, number_at}
use Rattle.octets.proofs.Tests.{and_left, and_right, is_true, of_true}
use Rattle.rules.specs.Store.{message_length, reply_length, entry_length, request_allowed, reply_allowed, max_reply}
use Rattle.store.specs.Fronts.{whole_front, Front}

-- ---- the code's tests

module _ (s : List ℕ) where
  pub cut_front : length s < 4 + message_length s → whole_front s ≡ false
  unfolding whole_front
  cut_front h = rw (lt-leb (4 + message_length s) (length s) h)

  pub short_front : length s < 4 → whole_front s ≡ false
  short_front h = cut_front (omega arith)

  module _ (n : ℕ) (size : n ≡ number (part 0 2 s)) where
    is_size : n ≡ message_length s
    unfolding message_length number_at
    is_size = size

    pub cut_message : length s - 2 < 2 + n → 4 ≤ length s → whole_front s ≡ false
    cut_message h l = cut_front (rw (← is_size) (omega arith))

    module _ (there : 2 + n ≤ length s - 2) (long : 4 ≤ length s) (b : Bool) (request : b ≡ request_allowed (take (2 + n - 2) (drop 2 s))) where
      is_there : leb (4 + message_length s) (length s) ≡ true
      is_there = le-leb (4 + message_length s) (length s) (rw (← is_size) (omega arith))

      is_request_lem : request_allowed (part 2 (message_length s) s) ≡ b
      is_request_lem = let e : 2 + n - 2 ≡ n = omega arith in ap (λ (k : ℕ). request_allowed (part 2 k s)) (sym (e ∙ is_size)) ∙ sym request

      pub no_request : b ≡ false → whole_front s ≡ false
      unfolding whole_front
      no_request h = rw (is_there, is_request_lem, h)

      module _ (fine : b ≡ true) (k : ℕ) (reply : k ≡ number (part (2 + n) 2 s)) where
        is_reply : k ≡ reply_length s
        unfolding reply_length number_at
        is_reply = reply ∙ ap (λ (i : ℕ). number (part (2 + i) 2 s)) is_size

        is_end : entry_length s ≡ 4 + n + k
        unfolding entry_length
        is_end = rw (← is_size, ← is_reply)

        pub no_reply : k ≡ 0 → whole_front s ≡ false
        unfolding whole_front reply_allowed
        no_reply h = rw (is_there, is_request_lem, fine, ← is_reply, h)

        pub long_reply : max_reply < k → whole_front s ≡ false
        unfolding whole_front reply_allowed
        long_reply h = rw (is_there, is_request_lem, fine, ← is_reply, lt-ltb 0 k (omega arith), lt-leb k max_reply h)

        module _ (some : k ≡ 0 → ⊥) (fits : k ≤ max_reply) where
          is_allowed_lem : reply_allowed (reply_length s) ≡ true
          unfolding reply_allowed
          is_allowed_lem = rw (← is_reply, lt-ltb 0 k (omega (arith, some)), le-leb k max_reply fits)

          pub cut_reply : length s - 2 - (2 + n) < k → whole_front s ≡ false
          unfolding whole_front
          cut_reply h = rw (is_there, is_request_lem, fine, is_allowed_lem, lt-leb (entry_length s) (length s) (rw is_end (omega arith)))

          pub an_entry : k ≤ length s - 2 - (2 + n) → Front s (record { message_end = 2 + n; end = 2 + n + 2 + k })
          an_entry h = record {
            whole = unfold whole_front in (rw (is_there, is_request_lem, fine, is_allowed_lem, le-leb (entry_length s) (length s) (rw is_end (omega arith))));
            message = rw is_size;
            size = rw (← is_size, ← is_reply) (omega arith);
            high = omega arith;
            some = rw (← is_reply) (omega (arith, some));
          }

-- the four tests of an entry at the front
pub record Whole (s : List ℕ) : Type 0 where
  pub there : 4 + message_length s ≤ length s
  pub request : T (request_allowed (part 2 (message_length s) s))
  pub some : 0 < reply_length s
  pub fits : reply_length s ≤ max_reply
  pub high : entry_length s ≤ length s

pub is_whole : (s : List ℕ) → whole_front s ≡ true → Whole s
unfolding whole_front reply_allowed
is_whole s e =
    let a = leb (4 + message_length s) (length s) in
    let b = request_allowed (part 2 (message_length s) s) in
    let c = ltb 0 (reply_length s) && leb (reply_length s) max_reply in
    let d = leb (entry_length s) (length s) in
    let h : T (a && b && c && d) = of_true e in
    let abc = and_left (a && b && c) d h in
    let ab = and_left (a && b) c abc in
    let cc' = and_right (a && b) c abc in
    record {
      there = leb-true _ _ (is_true a (and_left a b ab));
      request = and_right a b ab;
      some = ltb-true _ _ (is_true (ltb 0 (reply_length s)) (and_left (ltb 0 (reply_length s)) (leb (reply_length s) max_reply) cc'));
      fits = leb-true _ _ (is_true (leb (reply_length s) max_reply) (and_right (ltb 0 (reply_length s)) (leb (reply_length s) max_reply) cc'));
      high = leb-true _ _ (is_true d (and_right (a && b && c) d h));
    }

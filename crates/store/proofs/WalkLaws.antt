-- The walks over entries, a turn at a time: what is left gives the same answer. Assumes nothing.
use Rattle.std.proofs.Common.{◌≡◌, ℕ, zero, suc, ◌+◌, ◌-◌, ◌<◌, ◌≤◌, Bool, true, false, not, ◌&&◌, List, length, take, drop, sym, refl, ap, ◌∙◌, le_refl, not-suc-le-zero, arith, length-drop, take_all, nat_eq}
use Rattle.std.specs.Cmp.Lexicographic.{pointwise}
use mathlib.Core.Option.{none, some}
use Rattle.std.specs.Prelude as Found
use Rattle.octets.specs.Choice.{pick, is_some}
use Rattle.octets.specs.Octets.{part, all_zero}
use Rattle.octets.proofs.Put.{part_from}
use Rattle.rules.specs.Store.{message_length, reply_length, entry_length}
use Rattle.store.specs.Fronts.{whole_front, Front, span_of, reply_among, sound_from}
use Rattle.store.specs.declared.Entry.{Entry}
use Rattle.store.proofs.RequestTests.{same_is}

-- the octets after the entry at the front, its message and its reply, as a slice has them
abbrev pub behind : List ℕ → Entry → List ℕ
behind s entry = take (length s - entry.end) (drop entry.end s)

abbrev pub message_in : List ℕ → Entry → List ℕ
message_in s entry = take (entry.message_end - 2) (drop 2 s)

abbrev pub reply_in : List ℕ → Entry → List ℕ
reply_in s entry = take (entry.end - (entry.message_end + 2)) (drop (entry.message_end + 2) s)

module _ {s : List ℕ} {entry : Entry} (f : Front s entry) where
  is_length : entry.end ≡ entry_length s
  unfolding entry_length
  is_length = f.size

  behind_is : behind s entry ≡ drop (entry_length s) s
  behind_is = part_from entry.end s ∙ ap (λ (k : ℕ). drop k s) is_length

  pub behind_long : length (behind s entry) ≡ length s - entry.end
  behind_long = rw (part_from entry.end s) (length-drop entry.end s)

  message_is : message_in s entry ≡ part 2 (message_length s) s
  message_is = let k : entry.message_end - 2 ≡ message_length s = omega (arith, f.message) in ap (λ (i : ℕ). take i (drop 2 s)) k

  reply_is : reply_in s entry ≡ part (4 + message_length s) (reply_length s) s
  reply_is =
      let k : entry.end - (entry.message_end + 2) ≡ reply_length s = omega (arith, f.message, f.size) in
      let p : entry.message_end + 2 ≡ 4 + message_length s = omega (arith, f.message) in
      rw (k, p)

  -- ---- how far entries reach

  span_more : (n : ℕ) → 0 < n → span_of n s ≡ entry.end + span_of (n - 1) (behind s entry)
  unfolding span_of
  span_more zero h = absurd (not-suc-le-zero h)
  span_more (suc n) h = let k : suc n - 1 ≡ n = omega arith in rw (f.whole, k, behind_is, ← is_length)

  -- ---- the reply to a message

  module _ (msg : List ℕ) {t : Bool} (equal : t ≡ pointwise nat_eq msg (message_in s entry)) where
    among_next : (n : ℕ) → 0 < n → reply_among n s msg ≡ pick t (some (reply_in s entry)) (reply_among (n - 1) (behind s entry) msg)
    unfolding reply_among
    among_next zero h = absurd (not-suc-le-zero h)
    among_next (suc n) h = let k : suc n - 1 ≡ n = omega arith in rw (equal, same_is msg (message_in s entry), f.whole, k, message_is, reply_is, behind_is)

    pub among_found : t ≡ true → (n : ℕ) → 0 < n → reply_among n s msg ≡ some (reply_in s entry)
    among_found q n h = among_next n h ∙ rw q

    pub among_other : t ≡ false → {n i : ℕ} → i < n → reply_among (n - i) s msg ≡ reply_among (n - (i + 1)) (behind s entry) msg
    among_other q {n} {i} h = let k : n - i - 1 ≡ n - (i + 1) = omega arith in among_next (n - i) (omega arith) ∙ rw (q, k)

  -- ---- whether all is sound

  sound_first : (n : ℕ) → 0 < n → sound_from n s ≡ (not (is_some (reply_among (n - 1) (behind s entry) (message_in s entry))) && sound_from (n - 1) (behind s entry))
  unfolding sound_from
  sound_first zero h = absurd (not-suc-le-zero h)
  sound_first (suc n) h = let k : suc n - 1 ≡ n = omega arith in rw (f.whole, k, message_is, behind_is)

  module _ {n i : ℕ} (h : i < n) where
    sound_next : sound_from (n - i) s ≡ (not (is_some (reply_among (n - (i + 1)) (behind s entry) (message_in s entry))) && sound_from (n - (i + 1)) (behind s entry))
    sound_next = let k : n - i - 1 ≡ n - (i + 1) = omega arith in rw (← k) (sound_first (n - i) (omega arith))

    pub sound_again : {r : List ℕ} → reply_among (n - (i + 1)) (behind s entry) (message_in s entry) ≡ some r → sound_from (n - i) s ≡ false
    sound_again e = sound_next ∙ rw e

    pub sound_on : reply_among (n - (i + 1)) (behind s entry) (message_in s entry) ≡ none → sound_from (n - i) s ≡ sound_from (n - (i + 1)) (behind s entry)
    sound_on e = sound_next ∙ rw e

-- where none stands at the front
module _ (s : List ℕ) (h : whole_front s ≡ false) where
  pub no_span : (n : ℕ) → span_of n s ≡ 0
  unfolding span_of
  no_span zero = refl
  no_span (suc n) = rw h

  pub none_among : (msg : List ℕ) (n : ℕ) → reply_among n s msg ≡ none
  unfolding reply_among
  none_among msg zero = refl
  none_among msg (suc n) = rw h

  pub not_sound : (n : ℕ) → 0 < n → sound_from n s ≡ false
  unfolding sound_from
  not_sound zero l = absurd (not-suc-le-zero l)
  not_sound (suc n) l = rw h

-- or none is left
module _ (s : List ℕ) where
  pub span_end : (n : ℕ) → n ≤ 0 → span_of n s ≡ 0
  unfolding span_of
  span_end zero h = refl
  span_end (suc n) h = absurd (not-suc-le-zero h)

  pub among_end : (msg : List ℕ) (n : ℕ) → n ≤ 0 → reply_among n s msg ≡ none
  unfolding reply_among
  among_end msg zero h = refl
  among_end msg (suc n) h = absurd (not-suc-le-zero h)

  pub sound_end : (n : ℕ) → n ≤ 0 → sound_from n s ≡ all_zero (part 0 (length s) s)
  unfolding sound_from
  sound_end zero h = ap all_zero (sym (take_all (length s) s (le_refl _)))
  sound_end (suc n) h = absurd (not-suc-le-zero h)

-- what an answer of a search says, by whether there is one
pub some_held : {A : Type 0} (P : Type 0) {Q : A → Type 0} (o : Found.Option A) → Found.is_some o ≡ true → Found.MatchOption o P Q → (x : A) × Q x
some_held P Found.None e h = let z : ◌≡◌ {A = ℕ} 0 1 = cc in absurd (omega arith)
some_held P (Found.Some x) e h = (x, h)

pub none_held : {A P : Type 0} (Q : A → Type 0) (o : Found.Option A) → Found.is_some o ≡ false → Found.MatchOption o P Q → P
none_held Q Found.None e h = h
none_held Q (Found.Some x) e h = let z : ◌≡◌ {A = ℕ} 0 1 = cc in absurd (omega arith)

-- ---- span's loop

pub record Spans (n : ℕ) (s : List ℕ) (i : ℕ) (rest : List ℕ) : Type 0 where
  pub low : length rest ≤ length s
  pub total : span_of n s ≡ length s - length rest + span_of (n - i) rest

pub spans_more : {n i : ℕ} {s rest : List ℕ} {entry : Entry} → Spans n s i rest → Front rest entry → i < n → Spans n s (i + 1) (behind rest entry)
spans_more {n} {i} {s} {rest} {entry} so f h =
    let l = behind_long f in
    let t = span_more f (n - i) (omega arith) in
    let k : n - i - 1 ≡ n - (i + 1) = omega arith in
    record { low = omega (arith, so.low, f.high); total = so.total ∙ omega (arith, so.low, f.high, rw k at t) }

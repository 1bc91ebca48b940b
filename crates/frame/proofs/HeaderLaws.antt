-- What an allowed header says, by the tests in turn. Assumes nothing.
use mathlib.Core.Path.{◌≡◌, refl, sym, ap, ◌∙◌, subst}
use Prim.Native.Nat.{ℕ, ◌+◌, ◌/◌, ◌%◌, ◌≤◌, ◌<◌, zero, suc}
use native.Mathlib.Omega.{arith}
use mathlib.Core.Bool.{Bool, true, false, not}
use mathlib.Core.List.{List}
use lib.ListN.{length, get_or}
use lib.Dec.{ltb, eqb, T, eqb→eq}
use lib.Seq.{drop-cons}
use borrow.Author.Tests.{lt-ltb, le-ltb, le-leb, lt-leb, eq-eqb, ne_eqb, ltb-false}
use Rattle.octets.specs.Choice.{pick, same_bool}
use Rattle.octets.specs.Octets.{bit, octet_at, number, number_at, part}
use Rattle.octets.proofs.Tests.{of_true}
use Rattle.rules.specs.Message.{header_allowed, first_octet_allowed, served, kind_of, header_seid, set_deletion, seid_there, header_length, body_place, list_place, counted_place}
use Rattle.frame.specs.HeaderOf.{outcome, request, header_of, sets, Opening, SessionHeader}
use Rattle.laws.proofs.HeaderLaws.{header_long, long_there, seid_there_lem, long_absent}

-- ---- the first octet

-- S as the code tests it
low_bit : (x : ℕ) → eqb (x % 2) 1 ≡ bit 0 x
unfolding bit
low_bit x = let e : x ≡ x / 1 = omega arith in ap (λ (n : ℕ). eqb (n % 2) 1) e

same_true : (b : Bool) → b ≡ same_bool b true
same_true true = refl
same_true false = refl

even : (n : ℕ) → n < 2 → eqb n 0 ≡ same_bool (eqb n 1) false
even zero h = refl
even (suc zero) h = refl
even (suc (suc n)) h = absurd (omega arith)

pub length_with : (x : ℕ) → x % 2 ≡ 1 → ◌≡◌ {A = ℕ} body_place (pick (bit 0 x) body_place list_place)
length_with x e = rw (← low_bit x, eq-eqb (x % 2) 1 e)

pub length_without : (x : ℕ) → (x % 2 ≡ 1 → ⊥) → ◌≡◌ {A = ℕ} list_place (pick (bit 0 x) body_place list_place)
length_without x e = rw (← low_bit x, ne_eqb (x % 2) 1 e)

module _ (k x : ℕ) where
  pub other_version : (x / 32 ≡ 1 → ⊥) → false ≡ first_octet_allowed k x
  unfolding first_octet_allowed
  other_version h = rw (ne_eqb (x / 32) 1 h)

  pub follow_on : x / 32 ≡ 1 → x / 4 % 2 ≡ 1 → false ≡ first_octet_allowed k x
  unfolding first_octet_allowed bit
  follow_on h f = rw (eq-eqb (x / 32) 1 h, eq-eqb (x / 4 % 2) 1 f)

  module _ (h : x / 32 ≡ 1) (f : x / 4 % 2 ≡ 1 → ⊥) where
    by_seid : first_octet_allowed k x ≡ same_bool (eqb (x % 2) 1) (not (eqb k set_deletion))
    unfolding first_octet_allowed
    by_seid = rw (low_bit x, eq-eqb (x / 32) 1 h) (unfold bit in (rw (ne_eqb (x / 4 % 2) 1 f)))

    pub with_seid_lem : (k ≡ set_deletion → ⊥) → eqb (x % 2) 1 ≡ first_octet_allowed k x
    with_seid_lem n = same_true (eqb (x % 2) 1) ∙ sym (by_seid ∙ ap (λ (b : Bool). same_bool (eqb (x % 2) 1) (not b)) (ne_eqb k set_deletion n))

    pub without_seid : k ≡ set_deletion → eqb (x % 2) 0 ≡ first_octet_allowed k x
    without_seid e = even (x % 2) (omega arith) ∙ sym (by_seid ∙ ap (λ (b : Bool). same_bool (eqb (x % 2) 1) (not b)) (eq-eqb k set_deletion e))

-- ---- the header

pub least : (b : Bool) → list_place ≤ pick b body_place list_place
least true = omega arith
least false = omega arith

module _ (msg : List ℕ) where
  pub allowed_long : true ≡ header_allowed msg → list_place ≤ length msg
  unfolding header_length
  allowed_long h = let a = header_long msg (of_true (sym h)) in let b = least (seid_there msg) in omega arith

  -- with a SEID unless it is a set deletion's
  pub allowed_seid : true ≡ header_allowed msg → (k : ℕ) → k ≡ kind_of msg → (k ≡ set_deletion → ⊥) → body_place ≤ length msg
  allowed_seid h k e n = long_there msg (of_true (sym h)) (subst (λ (b : Bool). T (not b)) (sym (ne_eqb (kind_of msg) set_deletion (λ z. n (e ∙ z)))) tt)

  pub read_kind : list_place ≤ length msg → (k : ℕ) → k ≡ number (part 1 1 msg) → k ≡ kind_of msg
  unfolding kind_of octet_at number
  read_kind long k e = rw (e, drop-cons msg 1 0 (omega arith)) (omega arith)

  pub short_header : length msg < list_place → false ≡ header_allowed msg
  unfolding header_allowed header_length
  short_header h = let b = least (seid_there msg) in rw (lt-leb (pick (seid_there msg) body_place list_place) (length msg) (omega arith))

  module _ (n : ℕ) (size : n ≡ pick (bit 0 (get_or msg 0 0)) body_place list_place) where
    pub is_length : n ≡ header_length msg
    unfolding header_length seid_there octet_at
    is_length = size

    pub cut_header : length msg < n → false ≡ header_allowed msg
    unfolding header_allowed
    cut_header h = rw (lt-leb (header_length msg) (length msg) (rw (← is_length) h))

    module _ (long : list_place ≤ length msg) (whole : n ≤ length msg) (k : ℕ) (kind : k ≡ number (part 1 1 msg)) (b : Bool) (first : b ≡ first_octet_allowed k (get_or msg 0 0)) where
      first_is : first_octet_allowed (kind_of msg) (octet_at msg 0) ≡ b
      unfolding octet_at
      first_is = sym (first ∙ ap (λ (j : ℕ). first_octet_allowed j (get_or msg 0 0)) (read_kind long k kind))

      pub wrong_octet : b ≡ false → false ≡ header_allowed msg
      unfolding header_allowed
      wrong_octet e = rw (le-leb (header_length msg) (length msg) (rw (← is_length) whole), first_is, e)

      pub by_length : b ≡ true → (l : ℕ) → l ≡ number (part 2 2 msg) → eqb (counted_place + l) (length msg) ≡ header_allowed msg
      unfolding header_allowed number_at
      by_length e l q = rw (le-leb (header_length msg) (length msg) (rw (← is_length) whole), first_is, e, q)

  pub too_long : 2048 < length msg → outcome 3 ≡ header_of msg
  unfolding header_of
  too_long h = rw (lt-ltb 2048 (length msg) h)

  module _ (fits : length msg ≤ 2048) (b : Bool) (allowed : b ≡ header_allowed msg) where
    pub malformed : b ≡ false → outcome 4 ≡ header_of msg
    unfolding header_of
    malformed e = rw (le-ltb 2048 (length msg) fits, ← allowed, e)

    module _ (fine : b ≡ true) (k : ℕ) (kind : k ≡ number (part 1 1 msg)) (s : Bool) (is : s ≡ served k) where
      is_kind_lem : k ≡ kind_of msg
      is_kind_lem = read_kind (allowed_long (sym fine ∙ allowed)) k kind

      pub not_served : s ≡ false → outcome 5 ≡ header_of msg
      unfolding header_of
      not_served e = rw (le-ltb 2048 (length msg) fits, ← allowed, fine, ← is_kind_lem, ← is, e)

      pub a_set : s ≡ true → k ≡ set_deletion → sets ≡ header_of msg
      unfolding header_of
      a_set e d = rw (le-ltb 2048 (length msg) fits, ← allowed, fine, ← is_kind_lem, ← is, e, eq-eqb k set_deletion d)

      pub a_request : s ≡ true → (k ≡ set_deletion → ⊥) → (n : ℕ) → n ≡ number (part counted_place 8 msg) → request k n ≡ header_of msg
      unfolding header_of header_seid number_at
      a_request e d n q = rw (le-ltb 2048 (length msg) fits, ← allowed, fine, ← is_kind_lem, ← is, e, ne_eqb k set_deletion d, q)

      pub request_long : (k ≡ set_deletion → ⊥) → body_place ≤ length msg
      request_long d = allowed_seid (sym fine ∙ allowed) k is_kind_lem d

-- ---- what an answer says

-- a request and a set deletion have passed the three tests
pub record Opens (msg : List ℕ) : Type 0 where
  pub short : length msg ≤ 2048
  pub header : T (header_allowed msg)
  pub kind : served (kind_of msg) ≡ true

module _ (msg : List ℕ) where
  -- the tests in turn
  opened_by : (o : Opening) → o ≡ header_of msg → ((n : ℕ) → o ≡ outcome n → ⊥) → Opens msg × (o ≡ pick (eqb (kind_of msg) set_deletion) sets (request (kind_of msg) (header_seid msg)))
  unfolding header_of
  opened_by o = by_tests (ltb 2048 (length msg)) (header_allowed msg) (served (kind_of msg)) refl refl refl
    where
      by_tests : (a b c : Bool) → ltb 2048 (length msg) ≡ a → b ≡ header_allowed msg → served (kind_of msg) ≡ c
          → o ≡ pick a (outcome 3) (pick (not b) (outcome 4) (pick (not c) (outcome 5) (pick (eqb (kind_of msg) set_deletion) sets (request (kind_of msg) (header_seid msg)))))
          → ((n : ℕ) → o ≡ outcome n → ⊥) → Opens msg × (o ≡ pick (eqb (kind_of msg) set_deletion) sets (request (kind_of msg) (header_seid msg)))
      by_tests true b c p q r h never = absurd (never 3 h)
      by_tests false false c p q r h never = absurd (never 4 h)
      by_tests false true false p q r h never = absurd (never 5 h)
      by_tests false true true p q r h never = (record { short = ltb-false 2048 (length msg) p; header = of_true (sym q); kind = r }, h)

  pub request_opens : (k n : ℕ) → request k n ≡ header_of msg → Opens msg
  request_opens k n e = (opened_by (request k n) e (λ m z. let y : ◌≡◌ {A = ℕ} 0 1 = cc in omega arith)).0

  pub sets_opens : sets ≡ header_of msg → Opens msg
  sets_opens e = (opened_by sets e (λ m z. let y : ◌≡◌ {A = ℕ} 0 1 = cc in omega arith)).0

  -- its type and SEID are the header's, and it is no set deletion
  pub request_is : (k n : ℕ) → request k n ≡ header_of msg → (k ≡ kind_of msg) × (n ≡ header_seid msg) × (eqb (kind_of msg) set_deletion ≡ false)
  request_is k n e = go (eqb (kind_of msg) set_deletion) (opened_by (request k n) e (λ m z. let y : ◌≡◌ {A = ℕ} 0 1 = cc in omega arith)).1
    where
      go : (b : Bool) → request k n ≡ pick b sets (request (kind_of msg) (header_seid msg)) → (k ≡ kind_of msg) × (n ≡ header_seid msg) × (b ≡ false)
      go true h = let y : ◌≡◌ {A = ℕ} 0 1 = cc in absurd (omega arith)
      go false h = (cc, cc, refl)

  pub sets_is : sets ≡ header_of msg → kind_of msg ≡ set_deletion
  sets_is e = go (eqb (kind_of msg) set_deletion) refl (opened_by sets e (λ m z. let y : ◌≡◌ {A = ℕ} 0 1 = cc in omega arith)).1
    where
      go : (b : Bool) → eqb (kind_of msg) set_deletion ≡ b → sets ≡ pick b sets (request (kind_of msg) (header_seid msg)) → kind_of msg ≡ set_deletion
      go true q h = eqb→eq (kind_of msg) set_deletion (of_true q)
      go false q h = let y : ◌≡◌ {A = ℕ} 0 1 = cc in absurd (omega arith)

  -- a request has its whole header, with a SEID, and is not too long
  pub request_bounds : (k n : ℕ) → request k n ≡ header_of msg → SessionHeader msg × (length msg ≤ 2048)
  request_bounds k n e =
      let o = request_opens k n e in
      let other = (request_is k n e).2 in
      let ns : T (not (eqb (kind_of msg) set_deletion)) = subst (λ (b : Bool). T (not b)) (sym other) tt in
      (record { long = long_there msg o.header ns; seid = seid_there_lem msg o.header ns; kind = other }, o.short)

  pub sets_bounds : sets ≡ header_of msg → (list_place ≤ length msg) × (length msg ≤ 2048)
  sets_bounds e = let o = sets_opens e in (long_absent msg o.header (sets_is e), o.short)

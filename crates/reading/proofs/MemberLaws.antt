-- What each function of the group reader answers on a member is a case of the rules' reading of it. Assumes nothing.
use mathlib.Core.Path.{◌≡◌, refl, sym, ap, ◌∙◌}
use Prim.Native.Nat.{ℕ, suc, ◌+◌, ◌*◌, ◌%◌, ◌≤◌, ◌<◌}
use native.Mathlib.Omega.{arith}
use mathlib.Core.Bool.{Bool, true, false, not, ◌&&◌, ◌||◌}
use mathlib.Core.Option.{Option, none, some}
use mathlib.Core.List.{List, [], ◌∷◌}
use lib.ListN.{length, set, get_or}
use lib.Dec.{T, ltb, eqb}
use borrow.Author.Tests.{eq-eqb, ne_eqb, lt-ltb, le-ltb, ltb-false}
use Rattle.octets.specs.Choice.{pick, flag, all_of, map_option, is_nil}
use Rattle.octets.specs.Octets.{be, bit, number, part, number_at, octet_at}
use Rattle.octets.specs.Lists.{member, all_in}
use Rattle.octets.proofs.Put.{length_part}
use Rattle.octets.proofs.Tests.{pick_either, of_true}
use Rattle.octets.proofs.Bools.{and-false}
use Rattle.rules.specs.Elements as rules
use Rattle.rules.specs.Elements.{Refusal, too_short, incorrect, cause_of, refuse, value, Fteid, given, choose, v4_flag, v6_flag, ch_flag, chid_flag, wrong_flags, fteid_length, chosen_fields, given_fields, fteid_fields, read_fteid, read_ue_ip}
use Rattle.rules.specs.Message.{places_of, number_width}
use Rattle.rules.specs.Reading.{Reading, faulty, done, refusal_at, and_then, Members, with_pdr_id, with_precedence, with_far, with_pdi, with_source, with_endpoint_id, number_read, far_read, pdi_in, value_read, member_read, unopened}
use Rattle.rules.specs.Types as ie
use Rattle.rules.specs.Causes as why
use Rattle.fteid.specs.Meaning.{fteid_tests, fteid_meant, fteid_of}
use Rattle.fteid.specs.declared.FTeid.{FTeid}
use Rattle.ue_ip.specs.Meaning.{ue_of}
use Rattle.ue_ip.specs.declared.UeIp.{UeIp}
use Rattle.ue_ip.specs.declared.UeIp.TheVariants as ue-case
use Rattle.element.proofs.AnswerLaws.{picked}
use Rattle.plan.specs.Rows.{ue_from}
use Rattle.std.specs.Prelude.{Result}
use Rattle.reading.specs.declared.Fault.{Fault}
use Rattle.reading.specs.Verdicts.{stopped, got, numbered, fault, fine}
use Rattle.reading.specs.Rows.{member_types, plain_types, there_word, row_members, Tidy, Reads, plain_number, plain_read, fteid_read, ue_read, ue_kind_in, ue_address_in, own_read, is_null_far}
use Rattle.reading.proofs.Places.{keys_in, one_of}
use Rattle.reading.proofs.RowLaws.{Holding, by_plain, by_member, plain_put, put_plain, put_null_far, put_pdi, six_set, put_fteid, two_set, put_ue, held, unheld, from_words}

-- ---- readings by their numbers

module _ {A B : Type 0} where
  -- a fault stops what comes after it
  pub stops : (x : Reading A) (k : A → Reading B) {c t p : ℕ} → numbered x ≡ stopped c t p → numbered (and_then x k) ≡ stopped c t p
  stops (faulty f) k h = cc
  stops (done a) k h = let z : ◌≡◌ {A = ℕ} 0 1 = cc in absurd (omega arith)

pub is_done : {A : Type 0} (x : Reading A) (a : A) → numbered x ≡ got a → x ≡ done a
is_done (faulty f) a h = let z : ◌≡◌ {A = ℕ} 0 1 = cc in absurd (omega arith)
is_done (done b) a h = cc

-- a verdict that is no refusal, with the row's members
holding : {result : Reading Members} {m : Members} {row : List ℕ} → Holding m row → result ≡ done m → Reads result row fine
holding h e = record { told = ap got h.members ∙ sym (ap numbered e); tidy = h.tidy }

-- ---- plain members

narrow_width : (t : ℕ) → number_width t ≤ 8
unfolding number_width
narrow_width t = pick_either (λ n. n ≤ 8) (eqb t ie.pdr_id) 2 (pick (eqb t ie.precedence || eqb t ie.far_id) 4 1) (omega arith) (pick_either (λ n. n ≤ 8) (eqb t ie.precedence || eqb t ie.far_id) 4 1 (omega arith) (omega arith))

pub width_fits : (t : ℕ) {w : ℕ} → w ≡ number_width t → w ≤ 8
width_fits t e = let h = narrow_width t in omega arith

module _ (t : ℕ) (v : List ℕ) where
  pub number_source : {w n : ℕ} → w ≡ number_width t → t ≡ ie.source_interface → n ≡ number (part 0 w v) → n % 16 ≡ plain_number t v
  unfolding plain_number number_at
  number_source e h k = ap (λ (i : ℕ). i % 16) (k ∙ ap (λ (w : ℕ). number (part 0 w v)) e) ∙ sym (rw (eq-eqb t ie.source_interface h))

  pub number_other : {w n : ℕ} → w ≡ number_width t → (t ≡ ie.source_interface → ⊥) → n ≡ number (part 0 w v) → n ≡ plain_number t v
  unfolding plain_number number_at
  number_other e h k = k ∙ ap (λ (w : ℕ). number (part 0 w v)) e ∙ sym (rw (ne_eqb t ie.source_interface h))

then_pick : {A B : Type 0} (b : Bool) (c : Refusal) (t p : ℕ) (a : A) (k : A → Reading B) → and_then (pick b (refusal_at c t p) (done a)) k ≡ pick b (refusal_at c t p) (k a)
then_pick true c t p a k = refl
then_pick false c t p a k = refl

then_twice : {A B C : Type 0} (b : Bool) (c : Refusal) (t p : ℕ) (a : A) (j : A → B) (k : B → Reading C)
    → and_then (and_then (pick b (refusal_at c t p) (done a)) (λ x. done (j x))) k ≡ pick b (refusal_at c t p) (k (j a))
then_twice true c t p a j k = refl
then_twice false c t p a j k = refl

-- a plain member, short or read
module _ (p : ℕ) (v : List ℕ) (m : Members) where
  plain_is : (t : ℕ) → member t plain_types ≡ true → plain_read t p v m ≡ pick (ltb (length v) (number_width t)) (refusal_at too_short t p) (done (plain_put t (plain_number t v) m))
  unfolding plain_read value_read number_read far_read plain_put plain_number number_width
  plain_is =
      by_plain (λ t. plain_read t p v m ≡ pick (ltb (length v) (number_width t)) (refusal_at too_short t p) (done (plain_put t (plain_number t v) m)))
      (then_pick (ltb (length v) 2) too_short ie.pdr_id p (number_at 0 2 v) (λ n. done (with_pdr_id n m)))
      (then_pick (ltb (length v) 4) too_short ie.precedence p (number_at 0 4 v) (λ n. done (with_precedence n m)))
      (then_twice (ltb (length v) 4) too_short ie.far_id p (number_at 0 4 v) some (λ f. done (with_far f m)))
      (then_pick (ltb (length v) 1) too_short ie.source_interface p (number_at 0 1 v) (λ n. done (with_source (n % 16) m)))
      (then_pick (ltb (length v) 1) too_short ie.endpoint_id p (number_at 0 1 v) (λ n. done (with_endpoint_id n m)))

module _ (t p : ℕ) (v row : List ℕ) (k : member t plain_types ≡ true) (z : Tidy row) where
  pub plain_short : {w : ℕ} → w ≡ number_width t → length v < w → Reads (plain_read t p v (row_members row)) row (fault why.wrong_length t p)
  unfolding cause_of
  plain_short e h =
      let q : plain_read t p v (row_members row) ≡ refusal_at too_short t p = plain_is p v (row_members row) t k ∙ rw (← e, lt-ltb _ _ h) in
      record { told = sym (ap (λ (x : Reading Members). numbered x) q); tidy = z }

  pub plain_long : {w n at : ℕ} → w ≡ number_width t → w ≤ length v → n ≡ plain_number t v → at ≡ there_word t
      → Reads (plain_read t p v (row_members row)) (set (set row at 1) (at + 6) n) fine
  plain_long e h q a =
      rw (a, q) (holding (put_plain row t (plain_number t v) k z) (plain_is p v (row_members row) t k ∙ rw (← e, le-ltb _ _ h)))

-- ---- an F-TEID

-- one that was read has a family
part_nil : (at n : ℕ) (xs : List ℕ) → at + n ≤ length xs → part at n xs ≡ [] → n ≡ 0
part_nil at n xs h e = sym (length_part at n xs h) ∙ ap length e

given_same : {t u : ℕ} {a b c d : List ℕ} → given t a b ≡ given u c d → (a ≡ c) × (b ≡ d)
given_same h = (cc, cc)

no_family : (e : Bool) (f : ℕ) (xs : List ℕ) (t : ℕ) → wrong_flags e f ≡ false → fteid_length f ≤ length xs → fteid_fields f xs ≡ given t [] [] → ⊥
unfolding fteid_fields chosen_fields given_fields fteid_length wrong_flags
no_family e f xs t wrong long = by_ch (ch_flag f) (v4_flag f) (v6_flag f) wrong long
  where
    by_ch : (ch v4 v6 : Bool) → (not (v4 || v6) || (chid_flag f && (e || not ch))) ≡ false
        → pick ch (flag (chid_flag f)) (4 + 4 * flag v4 + 16 * flag v6) ≤ length xs
        → pick ch (choose v4 v6 (pick (chid_flag f) (some (octet_at xs 0)) none)) (given (number_at 0 4 xs) (part 4 (4 * flag v4) xs) (part (4 + 4 * flag v4) (16 * flag v6) xs)) ≡ given t [] [] → ⊥
    by_ch true v4 v6 w l h = let z : ◌≡◌ {A = ℕ} 0 1 = cc in omega arith
    by_ch false true v6 w l h = let n = part_nil 4 4 xs (omega arith) (given_same h).0 in omega arith
    by_ch false false true w l h = let n = part_nil 4 16 xs (omega arith) (given_same h).1 in omega arith
    by_ch false false false w l h = let z : ◌≡◌ {A = ℕ} 0 1 = cc in omega arith

no_families : (e : Bool) (v : List ℕ) (t : ℕ) → read_fteid e v ≡ value (given t [] []) → ⊥
unfolding read_fteid
no_families e [] t h = let z : ◌≡◌ {A = ℕ} 0 1 = cc in omega arith
no_families e (f ∷ xs) t h = by_tests (wrong_flags e f) (ltb (length xs) (fteid_length f)) refl refl h
  where
    by_tests : (a b : Bool) → wrong_flags e f ≡ a → ltb (length xs) (fteid_length f) ≡ b
        → pick a (refuse rules.incorrect) (pick b (refuse rules.too_short) (value (fteid_fields f xs))) ≡ value (given t [] []) → ⊥
    by_tests true b p q h = let z : ◌≡◌ {A = ℕ} 0 1 = cc in omega arith
    by_tests false true p q h = let z : ◌≡◌ {A = ℕ} 0 1 = cc in omega arith
    by_tests false false p q h =
        let k : fteid_fields f xs ≡ given t [] [] = cc in
        no_family e f xs t p (ltb-false (length xs) (fteid_length f) q) k

pub fteid_refused : (p : ℕ) (a : rules.Answer Fteid) (c : Refusal) (row : List ℕ) {r : Result (Unit {0}) Fault} → Tidy row → some (refuse c) ≡ some a → r ≡ fault (cause_of c) ie.fteid p → Reads (fteid_read p a (row_members row)) row r
unfolding fteid_read
fteid_refused p a c row z h e = let k : refuse c ≡ a = cc in record { told = rw (← k, e); tidy = z }

no_flags : (x : FTeid) → x.flags ≡ 0 → fteid_meant x ≡ given x.teid [] []
unfolding bit be
no_flags x h = rw h

pub fteid_value : (x : FTeid) (p : ℕ) (e : Bool) (v row : List ℕ) → Tidy row → map_option value (fteid_of x) ≡ some (read_fteid e v)
    → Reads (fteid_read p (read_fteid e v) (row_members row)) (six_set row x.flags x.teid x.ipv4 x.ipv6_high x.ipv6_low x.choose_id row) fine
unfolding fteid_read
fteid_value x p e v row z = by_option (fteid_of x) refl
  where
    by_option : (o : Option Fteid) → fteid_of x ≡ o → map_option value o ≡ some (read_fteid e v)
        → Reads (fteid_read p (read_fteid e v) (row_members row)) (six_set row x.flags x.teid x.ipv4 x.ipv6_high x.ipv6_low x.choose_id row) fine
    by_option none q h = let y : ◌≡◌ {A = ℕ} 0 1 = cc in absurd (omega arith)
    by_option (some y) q h =
        let k : read_fteid e v ≡ value y = cc in
        let m : y ≡ fteid_meant x = unfold fteid_of in (picked (all_of (fteid_tests x)) (fteid_meant x) y q).1 in
        let there : x.flags ≡ 0 → ⊥ = λ n. no_families e v x.teid (k ∙ ap value (m ∙ no_flags x n)) in
        holding (put_fteid row x.flags x.teid x.ipv4 x.ipv6_high x.ipv6_low x.choose_id y there (from_words x.flags x.teid x.ipv4 x.ipv6_high x.ipv6_low x.choose_id ∙ sym m) z) (rw k)

-- ---- a UE IP Address

-- its words give it back
ue_words : (x : UeIp) → ue_from (ue_kind_in x) (ue_address_in x) ≡ some (ue_of x)
unfolding ue_from
ue_words (ue-case.Given a) = refl
ue_words ue-case.Choose = refl
ue_words ue-case.Other = refl

pub ue_refused : (p : ℕ) (v row : List ℕ) (c : Refusal) {n : ℕ} → Tidy row → refuse c ≡ read_ue_ip v → n ≡ cause_of c → Reads (ue_read p (read_ue_ip v) (row_members row)) row (fault n ie.ue_ip_address p)
unfolding ue_read
ue_refused p v row c z h e = record { told = rw (← h, e); tidy = z }

pub ue_value : (x : UeIp) (p : ℕ) (v row : List ℕ) {k a : ℕ} → Tidy row → value (ue_of x) ≡ read_ue_ip v → k ≡ ue_kind_in x → a ≡ ue_address_in x
    → Reads (ue_read p (read_ue_ip v) (row_members row)) (two_set row k a row) fine
unfolding ue_read
ue_value x p v row z h e f = rw (e, f) (holding (put_ue row (ue_kind_in x) (ue_address_in x) (ue_of x) (ue_words x) z) (rw (← h)))

-- ---- a member

nil_length : (xs : List ℕ) → eqb (length xs) 0 ≡ is_nil xs
nil_length [] = refl
nil_length (x ∷ xs) = ne_eqb (suc (length xs)) 0 (λ e. absurd (omega arith))

module _ (g t : ℕ) (v : List ℕ) where
  pub no_update : (g ≡ ie.update_pdr → ⊥) → false ≡ is_null_far g t v
  unfolding is_null_far
  no_update h = rw (ne_eqb g ie.update_pdr h)

  pub no_far : (t ≡ ie.far_id → ⊥) → false ≡ is_null_far g t v
  unfolding is_null_far
  no_far h = sym (rw (ne_eqb t ie.far_id h) (and-false (eqb g ie.update_pdr)))

  pub a_far : g ≡ ie.update_pdr → t ≡ ie.far_id → eqb (length v) 0 ≡ is_null_far g t v
  unfolding is_null_far
  a_far h k = sym (rw (h, k) (sym (nil_length v)))

-- without a null FAR ID a plain member is read alike in every group
plain_alike : (g p : ℕ) (v : List ℕ) (m : Members) (t : ℕ) → member t plain_types ≡ true → false ≡ is_null_far g t v → plain_read t p v m ≡ value_read unopened g t p v m
unfolding plain_read value_read is_null_far far_read
plain_alike g p v m =
    by_plain (λ t. false ≡ is_null_far g t v → plain_read t p v m ≡ value_read unopened g t p v m)
    (λ h. refl) (λ h. refl) (λ h. rw (← h)) (λ h. refl) (λ h. refl)

-- a type that holds a number is one that is no F-TEID, no UE IP Address and no PDI
pub is_plain : (t : ℕ) → member t member_types ≡ true → (t ≡ ie.fteid → ⊥) → (t ≡ ie.ue_ip_address → ⊥) → (t ≡ ie.pdi → ⊥) → member t plain_types ≡ true
unfolding member
is_plain =
    by_member (λ t. (t ≡ ie.fteid → ⊥) → (t ≡ ie.ue_ip_address → ⊥) → (t ≡ ie.pdi → ⊥) → member t plain_types ≡ true)
    (λ a b c. refl) (λ a b c. refl) (λ a b c. refl) (λ a b c. absurd (c refl)) (λ a b c. refl) (λ a b c. absurd (a refl)) (λ a b c. absurd (b refl)) (λ a b c. refl)

module _ (g t p : ℕ) (v row : List ℕ) where
  pub value_fteid : {row' : List ℕ} {r : Result (Unit {0}) Fault} → t ≡ ie.fteid → Reads (fteid_read p (read_fteid (eqb g ie.create_endpoint) v) (row_members row)) row' r → Reads (value_read unopened g t p v (row_members row)) row' r
  unfolding value_read fteid_read
  value_fteid h e = rw h e

  pub value_ue : {row' : List ℕ} {r : Result (Unit {0}) Fault} → t ≡ ie.ue_ip_address → Reads (ue_read p (read_ue_ip v) (row_members row)) row' r → Reads (value_read unopened g t p v (row_members row)) row' r
  unfolding value_read ue_read
  value_ue h e = rw h e

  pub value_pdi : t ≡ ie.pdi → Tidy row → Reads (value_read unopened g t p v (row_members row)) (set row 6 1) fine
  unfolding value_read pdi_in
  value_pdi h z = rw h (holding (put_pdi row z) (pick_same (eqb g ie.create_pdr) (done (with_pdi (row_members row)))))
    where
      pick_same : {A : Type 0} (b : Bool) (a : A) → pick b a a ≡ a
      pick_same true a = refl
      pick_same false a = refl

  pub value_null : member t member_types ≡ true → true ≡ is_null_far g t v → Tidy row → Reads (value_read unopened g t p v (row_members row)) (set row 3 2) fine
  unfolding value_read far_read is_null_far
  value_null k h z = holding (put_null_far row z) (null_is t k h)
    where
      null_is : (t : ℕ) → member t member_types ≡ true → true ≡ (eqb g ie.update_pdr && (eqb t ie.far_id && is_nil v)) → value_read unopened g t p v (row_members row) ≡ done (with_far none (row_members row))
      null_is =
          by_member (λ t. true ≡ (eqb g ie.update_pdr && (eqb t ie.far_id && is_nil v)) → value_read unopened g t p v (row_members row) ≡ done (with_far none (row_members row)))
          never never (λ q. rw (← q)) never never never never never
        where
          never : {X : Type 0} → true ≡ (eqb g ie.update_pdr && false) → X
          never q = let y : true ≡ false = q ∙ and-false (eqb g ie.update_pdr) in let n : ◌≡◌ {A = ℕ} 0 1 = cc in absurd (omega arith)

  pub value_plain : {row' : List ℕ} {r : Result (Unit {0}) Fault} → member t plain_types ≡ true → false ≡ is_null_far g t v → Reads (plain_read t p v (row_members row)) row' r → Reads (value_read unopened g t p v (row_members row)) row' r
  value_plain k h e = record { told = e.told ∙ ap numbered (plain_alike g p v (row_members row) t k h); tidy = e.tidy }

-- every member with a place has words
pub has_words : (g t : ℕ) → true ≡ member t (places_of g) → member t member_types ≡ true
unfolding places_of all_in member
has_words g t h = go (eqb g ie.create_pdr || eqb g ie.update_pdr) (eqb g ie.pdi) (eqb g ie.create_endpoint) (eqb g ie.remove_pdr) (sym h)
  where
    in_list : (a : ℕ) (bs : List ℕ) → T (all_in (a ∷ bs) member_types) → member t (a ∷ bs) ≡ true → member t member_types ≡ true
    in_list a bs k q = keys_in t a bs member_types k (one_of t a bs (of_true q))

    go : (a b c d : Bool) → member t (pick a (ie.pdr_id ∷ ie.precedence ∷ ie.pdi ∷ ie.far_id ∷ []) (pick b (ie.source_interface ∷ ie.fteid ∷ ie.endpoint_id ∷ ie.ue_ip_address ∷ []) (pick c (ie.endpoint_id ∷ ie.fteid ∷ ie.ue_ip_address ∷ []) (pick d (ie.pdr_id ∷ []) (ie.endpoint_id ∷ []))))) ≡ true → member t member_types ≡ true
    go true b c d q = in_list ie.pdr_id (ie.precedence ∷ ie.pdi ∷ ie.far_id ∷ []) tt q
    go false true c d q = in_list ie.source_interface (ie.fteid ∷ ie.endpoint_id ∷ ie.ue_ip_address ∷ []) tt q
    go false false true d q = in_list ie.endpoint_id (ie.fteid ∷ ie.ue_ip_address ∷ []) tt q
    go false false false true q = in_list ie.pdr_id [] tt q
    go false false false false q = in_list ie.endpoint_id [] tt q

module _ (g t p : ℕ) (v row : List ℕ) (z : Tidy row) where
  pub own_skipped : false ≡ member t (places_of g) → Reads (own_read g t p v (row_members row)) row fine
  unfolding own_read member_read
  own_skipped h = record { told = sym (rw (← h)); tidy = z }

  pub own_repeat : {at : ℕ} → true ≡ member t (places_of g) → at ≡ there_word t → (get_or row at 0 ≡ 0 → ⊥) → Reads (own_read g t p v (row_members row)) row (fault why.incorrect t p)
  unfolding own_read member_read cause_of
  own_repeat h a k = record { told = sym (rw (← h, held row z t (has_words g t h) (λ q. k (ap (λ (i : ℕ). get_or row i 0) a ∙ q)))); tidy = z }

  pub own_value : {at : ℕ} {row' : List ℕ} {r : Result (Unit {0}) Fault} → true ≡ member t (places_of g) → at ≡ there_word t → get_or row at 0 ≡ 0
      → Reads (value_read unopened g t p v (row_members row)) row' r → Reads (own_read g t p v (row_members row)) row' r
  unfolding own_read member_read
  own_value h a k e = record { told = e.told ∙ sym (rw (← h, unheld row z t (has_words g t h) (ap (λ (i : ℕ). get_or row i 0) (sym a) ∙ k))); tidy = e.tidy }

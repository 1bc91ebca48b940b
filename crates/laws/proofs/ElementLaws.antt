-- Element values that were written are read back.
-- Assumes nothing.
use mathlib.Core.Path.{◌≡◌, refl, sym, ap, ap₂, ◌∙◌, subst}
use Prim.Native.Nat.{ℕ, zero, suc, ◌+◌, ◌*◌, ◌%◌, ◌^◌, ◌≤◌, ◌<◌}
use native.Mathlib.Nat.{le_trans, le_of_eq, not-suc-le-zero, mod-eq_of_lt}
use native.Mathlib.Omega.{arith}
use mathlib.Core.Bool.{Bool, true, false, not, ◌&&◌, ◌||◌}
use mathlib.Core.Option.{none, some}
use mathlib.Core.List.{List, [], ◌∷◌, ◌++◌, append_assoc}
use lib.ListN.{length, take, drop, get_or, length-append}
use lib.Dec.{T, leb, ltb, eqb, eqb→eq, leb→le, ltb→lt, lit≤}
use mir.Facts.{no_ltb, yes_leb}
use lib.Seq.{take_at, drop_at, drop-drop, take_all, get_or_at}
use Rattle.octets.specs.Choice.{flag, all_of, is_nil}
use Rattle.octets.specs.Octets.{be, number, number_at, octet_at, bit, octets, slices, concat_map}
use Rattle.octets.proofs.Tests.{pick_yes, pick_no, all_of_each, and_left, and_right}
use Rattle.octets.proofs.Numbers.{length_be, number_be}
use Rattle.rules.specs.Elements.{value, Fteid, given, choose, v4_flag, v6_flag, ch_flag, wrong_flags, fteid_length, chosen_fields, given_fields, fteid_fields, read_fteid, address_of, fteid_allowed, fteid_octets, UeIp, ue_given, ue_choose, ue_other, ue_unsupported, ue_fields, read_ue_ip, ue_allowed, ue_octets, sets, address_length, operator_allowed, node_address_allowed, node_type_kept, csids_read, csid_fields, count_allowed, checked_csid, csid_rest, read_fqcsid, below16, fqcsid_octets, fseid_length, seid_answer, read_fseid, fseid_octets}
use Rattle.laws.proofs.KeptRules.{given_kept, node_address_kept}

-- ---- F-TEID

-- an address is empty or whole
address_length_lem : (n : ℕ) (a : List ℕ) → T (address_of n a) → length a ≡ n * flag (not (is_nil a))
unfolding address_of
address_length_lem n [] h = sym (native.Mathlib.Nat.mul-zero n)
address_length_lem n (x ∷ a) h = eqb→eq (length (x ∷ a)) n (and_left (eqb (length (x ∷ a)) n) (octets (x ∷ a)) h) ∙ sym (native.Mathlib.Nat.mul-one n)

-- the addresses after four octets
module _ (t : ℕ) (a b : List ℕ) (f : ℕ) (ha : length a ≡ 4 * flag (v4_flag f)) (hb : length b ≡ 16 * flag (v6_flag f)) where
  given_read : t < 256 ^ 4 → given_fields f (be 4 t ++ (a ++ b)) ≡ given t a b
  unfolding given_fields number_at be
  given_read ht =
      λ i. given (number_be 4 t ht i) (take_at a b (4 * flag (v4_flag f)) ha i) (second i)
    where
      second : take (16 * flag (v6_flag f)) (drop (4 + 4 * flag (v4_flag f)) (be 4 t ++ (a ++ b))) ≡ b
      second =
          ap (take (16 * flag (v6_flag f))) (sym (drop-drop (4 * flag (v4_flag f)) 4 (be 4 t ++ (a ++ b))) ∙ drop_at a b (4 * flag (v4_flag f)) ha)
          ∙ take_all (16 * flag (v6_flag f)) b (le_of_eq hb)

  given_long : 4 + 4 * flag (v4_flag f) + 16 * flag (v6_flag f) ≤ length (be 4 t ++ (a ++ b))
  unfolding be
  given_long = let e = length-append a b in omega arith

-- a flags octet without CH is read as the TEID and the addresses
given_answer : (e : Bool) (t : ℕ) (a b : List ℕ) (f : ℕ) → wrong_flags e f ≡ false → ch_flag f ≡ false → t < 256 ^ 4
    → length a ≡ 4 * flag (v4_flag f) → length b ≡ 16 * flag (v6_flag f)
    → read_fteid e (f ∷ be 4 t ++ (a ++ b)) ≡ value (given t a b)
unfolding read_fteid fteid_length fteid_fields
given_answer e t a b f right plain ht ha hb =
    rw (right, plain)
    (pick_no (ltb (length (be 4 t ++ (a ++ b))) (4 + 4 * flag (v4_flag f) + 16 * flag (v6_flag f))) _ _ (no_ltb (given_long t a b f ha hb))
    ∙ ap value (given_read t a b f ha hb ht))

given_back : (e : Bool) (t : ℕ) (a b : List ℕ) → t < 256 ^ 4 → T (address_of 4 a) → T (address_of 16 b) → T (not (is_nil a && is_nil b))
    → read_fteid e (fteid_octets (given t a b)) ≡ value (given t a b)
unfolding fteid_octets wrong_flags bit
given_back e t [] [] ht ha hb h = absurd h
given_back e t [] (y ∷ b) ht ha hb h = given_answer e t [] (y ∷ b) 2 refl refl ht refl (address_length_lem 16 (y ∷ b) hb)
given_back e t (x ∷ a) [] ht ha hb h = given_answer e t (x ∷ a) [] 1 refl refl ht (address_length_lem 4 (x ∷ a) ha) refl
given_back e t (x ∷ a) (y ∷ b) ht ha hb h = given_answer e t (x ∷ a) (y ∷ b) 3 refl refl ht (address_length_lem 4 (x ∷ a) ha) (address_length_lem 16 (y ∷ b) hb)

-- reading what was written of an allowed value gives the value
pub fteid_back : (e : Bool) (v : Fteid) → T (fteid_allowed e v) → read_fteid e (fteid_octets v) ≡ value v
unfolding fteid_allowed fteid_octets read_fteid wrong_flags bit fteid_length fteid_fields chosen_fields octet_at
fteid_back e (given t a b) h =
    let g = given_kept t a b h in
    given_back e t a b g.teid g.ipv4 g.ipv6 g.some
fteid_back e (choose true true none) h = refl
fteid_back e (choose true false none) h = refl
fteid_back e (choose false true none) h = refl
fteid_back e (choose false false none) h = absurd h
fteid_back true (choose true v6 (some i)) h = absurd (and_right (ltb i 256) false h)
fteid_back true (choose false true (some i)) h = absurd (and_right (ltb i 256) false h)
fteid_back true (choose false false (some i)) h = absurd h
fteid_back false (choose true true (some i)) h = refl
fteid_back false (choose true false (some i)) h = refl
fteid_back false (choose false true (some i)) h = refl
fteid_back false (choose false false (some i)) h = absurd h

-- ---- F-SEID

fseid_long : (n : ℕ) (a b : List ℕ) (f : ℕ) → length a ≡ 4 * flag (bit 1 f) → length b ≡ 16 * flag (bit 0 f)
    → 8 + 4 * flag (bit 1 f) + 16 * flag (bit 0 f) ≤ length (be 8 n ++ (a ++ b))
unfolding be
fseid_long n a b f ha hb = let e = length-append a b in omega arith

fseid_answer_lem : (n : ℕ) (a b : List ℕ) (f : ℕ) → (bit 0 f || bit 1 f) ≡ true → 1 ≤ n → n < 256 ^ 8
    → length a ≡ 4 * flag (bit 1 f) → length b ≡ 16 * flag (bit 0 f)
    → read_fseid (f ∷ be 8 n ++ (a ++ b)) ≡ value n
unfolding read_fseid fseid_length seid_answer number_at be
fseid_answer_lem n a b f family pos hn ha hb =
    rw family
    (pick_no (ltb (length (be 8 n ++ (a ++ b))) (8 + 4 * flag (bit 1 f) + 16 * flag (bit 0 f))) _ _
    (no_ltb (fseid_long n a b f ha hb))
    ∙ ap seid_answer (number_be 8 n hn)
    ∙ pick_no (eqb n 0) _ _ (not_zero n pos))
  where
    not_zero : (k : ℕ) → 1 ≤ k → T (not (eqb k 0))
    not_zero zero h = absurd (not-suc-le-zero h)
    not_zero (suc k) h = subst (λ (b : Bool). T (not b)) (sym (lib.Dec.eqb-suc-zero k)) tt

pub fseid_back : (n : ℕ) (a b : List ℕ) → 1 ≤ n → n < 256 ^ 8 → T (address_of 4 a) → T (address_of 16 b) → T (not (is_nil a && is_nil b))
    → read_fseid (fseid_octets n a b) ≡ value n
unfolding fseid_octets bit
fseid_back n [] [] pos hn ha hb h = absurd h
fseid_back n [] (y ∷ b) pos hn ha hb h = fseid_answer_lem n [] (y ∷ b) 1 refl pos hn refl (address_length_lem 16 (y ∷ b) hb)
fseid_back n (x ∷ a) [] pos hn ha hb h = fseid_answer_lem n (x ∷ a) [] 2 refl pos hn (address_length_lem 4 (x ∷ a) ha) refl
fseid_back n (x ∷ a) (y ∷ b) pos hn ha hb h = fseid_answer_lem n (x ∷ a) (y ∷ b) 3 refl pos hn (address_length_lem 4 (x ∷ a) ha) (address_length_lem 16 (y ∷ b) hb)

-- ---- UE IP Address

-- reading what was written of an allowed value gives the value
pub ue_back : (v : UeIp) → T (ue_allowed v) → read_ue_ip (ue_octets v) ≡ value v
unfolding ue_allowed ue_octets read_ue_ip ue_unsupported ue_fields bit number_at be
ue_back (ue_given a) h = ap (λ (n : ℕ). value (ue_given n)) (number_be 4 a (ltb→lt a (2 ^ 32) h))
ue_back ue_choose h = refl
ue_back ue_other h = absurd h

-- ---- FQ-CSID with one CSID

-- the octets after the first: an address, one CSID and the node type
module _ (t : ℕ) (a : List ℕ) (c n : ℕ) (ha : length a ≡ address_length t) (hc : c < 256 ^ 2) where
  octets_after : List ℕ
  octets_after = a ++ (be 2 c ++ n ∷ [])

  one_long : address_length t + 2 * 1 + 1 ≤ length octets_after
  unfolding octets_after be
  one_long = let e = length-append a (be 2 c ++ n ∷ []) in omega arith

  one_code : csids_read 1 (drop (address_length t) octets_after) ≡ c ∷ []
  unfolding octets_after csids_read slices be
  one_code =
      ap (λ (xs : List ℕ). number (take 2 xs) ∷ []) (drop_at a (be 2 c ++ n ∷ []) (address_length t) ha) ∙ ap (λ (k : ℕ). k ∷ []) (number_be 2 c hc)

  one_node : n < 16 → octet_at octets_after (address_length t + 2 * 1) % 16 ≡ n
  unfolding octets_after octet_at
  one_node small =
      ap (λ (xs : List ℕ). get_or xs (address_length t + 2) 0 % 16) (sym (append_assoc a (be 2 c) (n ∷ [])))
      ∙ ap (λ (k : ℕ). k % 16) (get_or_at (a ++ be 2 c) n [] 0 (address_length t + 2) (length-append a (be 2 c) ∙ ap₂ ◌+◌ ha (length_be 2 c)))
      ∙ mod-eq_of_lt small

  one_rest : T (operator_allowed t a) → T (node_type_kept n) → csid_rest 1 t (address_length t) octets_after ≡ value (sets t a (c ∷ []) n)
  unfolding csid_rest checked_csid csid_fields count_allowed node_type_kept
  one_rest ho hn =
      let small : n < 16 = le_trans (ltb→lt n 6 hn) (lit≤ tt) in
      pick_no (ltb (length octets_after) (address_length t + 2 * 1 + 1)) _ _ (no_ltb one_long)
      ∙ (λ i. checked_csid 1 t (front i) (one_code i) (one_node small i))
      ∙ pick_yes (all_of (node_type_kept n ∷ operator_allowed t a ∷ true ∷ [])) _ _ (all_of_each (node_type_kept n ∷ operator_allowed t a ∷ true ∷ []) (hn, (ho, (tt, tt))))
    where
      front : take (address_length t) octets_after ≡ a
      front = unfold octets_after in (take_at a (be 2 c ++ n ∷ []) (address_length t) ha)

-- the first octet: Node-ID type and m = 1
type_one : (t : ℕ) (a : List ℕ) (c n : ℕ) → T (leb t 2) → length a ≡ address_length t → c < 256 ^ 2 → T (operator_allowed t a) → T (node_type_kept n)
    → read_fqcsid (fqcsid_octets (sets t a (c ∷ []) n)) ≡ value (sets t a (c ∷ []) n)
unfolding read_fqcsid fqcsid_octets concat_map octets_after be
type_one zero a c n h ha hc ho hn = one_rest 0 a c n ha hc ho hn
type_one (suc zero) a c n h ha hc ho hn = one_rest 1 a c n ha hc ho hn
type_one (suc (suc zero)) a c n h ha hc ho hn = one_rest 2 a c n ha hc ho hn
type_one (suc (suc (suc t))) a c n h ha hc ho hn = absurd (not-suc-le-zero (native.Mathlib.Nat.le_of_suc-le-suc (native.Mathlib.Nat.le_of_suc-le-suc (leb→le (suc (suc (suc t))) 2 h))))

pub fqcsid_back : (t : ℕ) (a : List ℕ) (c n : ℕ) → T (node_address_allowed t a) → T (below16 c) → T (node_type_kept n)
    → read_fqcsid (fqcsid_octets (sets t a (c ∷ []) n)) ≡ value (sets t a (c ∷ []) n)
unfolding below16
fqcsid_back t a c n h hc hn =
    let e = node_address_kept t a h in
    type_one t a c n (yes_leb e.type) e.long (ltb→lt c (2 ^ 16) hc) e.operator hn

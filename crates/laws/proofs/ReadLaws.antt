-- What is read from a request's octets: the widths of its fields, and the rules that a read F-TEID, UE IP Address, FQ-CSID and F-SEID keep.
-- Assumes nothing.
use mathlib.Core.Path.{◌≡◌, refl, sym, subst}
use mathlib.Core.Logic.{◌≢◌}
use Prim.Native.Nat.{ℕ, zero, suc, ◌+◌, ◌*◌, ◌/◌, ◌%◌, ◌^◌, ◌≤◌, ◌<◌}
use native.Mathlib.Omega.{arith}
use mathlib.Core.Bool.{Bool, true, false, not, ◌&&◌, ◌||◌}
use mathlib.Core.Option.{Option, none, some}
use mathlib.Core.List.{List, [], ◌∷◌}
use lib.ListN.{length, take, drop, length-take}
use lib.Dec.{T, leb, ltb, eqb, lt→ltb, nltb→le, lit<}
use mir.Facts.{yes_leb}
use lib.Pow.{are_bytes}
use Rattle.octets.specs.Choice.{pick, is_nil, flag, all_of, head_or, same_bool}
use Rattle.octets.specs.Octets.{number, part, number_at, octet_at, bit, slices}
use Rattle.octets.proofs.Tests.{Each, each, and_left, and_right, pick_either}
use Rattle.octets.proofs.ListLaws.{pick_cases, not_not, or_by_right, OnSome}
use Rattle.laws.proofs.BoundLaws.{field_bound, bytes_take, bytes_drop}
use Rattle.octets.proofs.Ordered.{ne_of}
use Rattle.octets.proofs.Bools.{not_or}
use Rattle.rules.specs.Elements.{Refusal, too_short, incorrect, Answer, refuse, value, Fteid, given, choose, v4_flag, v6_flag, ch_flag, chid_flag, wrong_flags, fteid_length, chosen_fields, given_fields, fteid_fields, read_fteid, has_v4, has_v6, choose_id_of, UeIp, ue_given, ue_choose, ue_other, ue_v4, ue_chv4, ue_unsupported, ue_fields, read_ue_ip, ue_address_of, Fqcsid, sets, removal, address_length, operator_allowed, node_address_allowed, node_type_kept, csids_read, csid_fields, count_allowed, checked_csid, csid_rest, read_fqcsid, below16, fseid_length, seid_answer, read_fseid}
use Rattle.laws.proofs.KeptRules.{node_address_allowed_lem}
use Rattle.rules.specs.Reading.{Reading, faulty, done, and_then, named, requiring, once}

-- ---- answers and readings

-- a fact about the value that a reader answers
abbrev pub OnValue : {A : Type 0} → (A → Type 0) → Answer A → Type 0
OnValue P (refuse c) = Unit {0}
OnValue P (value a) = P a

-- a fact about what was read
abbrev pub OnDone : {A : Type 0} → (A → Type 0) → Reading A → Type 0
OnDone P (faulty f) = Unit {0}
OnDone P (done a) = P a

-- anything that was read
pub anything : {A : Type 0} (r : Reading A) → OnDone (λ _. Unit {0}) r
anything (faulty f) = tt
anything (done a) = tt

pub any_value : {A : Type 0} (r : Answer A) → OnValue (λ _. Unit {0}) r
any_value (refuse c) = tt
any_value (value a) = tt

-- what is required, and whatever it is
pub need_any : {A B : Type 0} (Q : B → Type 0) (c : Refusal) (t p : ℕ) (o : Option A) (next : A → Reading B) → ((a : A) → OnDone Q (next a)) → OnDone Q (requiring c t p o next)
need_any Q c t p none next k = tt
need_any Q c t p (some a) next k = k a

module _ {A : Type 0} (P : A → Type 0) where
  pub named_done : (t p : ℕ) (a : Answer A) → OnValue P a → OnDone P (named t p a)
  named_done t p (refuse c) h = tt
  named_done t p (value a) h = h

  pub once_done : {B : Type 0} (o : Option B) (t p : ℕ) (r : Reading A) → OnDone P r → OnDone P (once o t p r)
  once_done none t p r h = h
  once_done (some b) t p r h = tt

  module _ {B : Type 0} (Q : B → Type 0) where
    pub then_done : (r : Reading A) (next : A → Reading B) → OnDone P r → ((a : A) → P a → OnDone Q (next a)) → OnDone Q (and_then r next)
    then_done (faulty f) next h k = tt
    then_done (done a) next h k = k a h

    pub need_done : (c : Refusal) (t p : ℕ) (o : Option A) (next : A → Reading B) → OnSome P o → ((a : A) → P a → OnDone Q (next a)) → OnDone Q (requiring c t p o next)
    need_done c t p none next h k = tt
    need_done c t p (some a) next h k = k a h

-- ---- F-TEID

-- what is used of an F-TEID that was read: a family at least, a CHOOSE ID of one octet, and none in an endpoint
pub record FteidRead (in_endpoint : Bool) (v : Fteid) : Type 0 where
  pub family : T (has_v4 v || has_v6 v)
  pub octet : OnSome (λ i. T (ltb i 256)) (choose_id_of v)
  pub no_choose_id : T in_endpoint → choose_id_of v ≡ none

-- the first octet of octets, 0 where there is none
first_octet_lem : (xs : List ℕ) → T (are_bytes xs) → T (ltb (octet_at xs 0) 256)
unfolding octet_at
first_octet_lem [] h = tt
first_octet_lem (x ∷ xs) h = and_left (ltb x 256) (are_bytes xs) h

-- octets from a place before the end on are some
part_some : (xs : List ℕ) (at n : ℕ) → at < length xs → 0 < n → is_nil (part at n xs) ≡ false
part_some [] at n h k = absurd (omega arith)
part_some (x ∷ xs) zero zero h k = absurd (omega arith)
part_some (x ∷ xs) zero (suc n) h k = refl
part_some (x ∷ xs) (suc at) n h k = part_some xs at n (omega arith) k

-- the families of a given F-TEID
given_family : (b4 b6 : Bool) (xs : List ℕ) → T (b4 || b6) → 4 + 4 * flag b4 + 16 * flag b6 ≤ length xs
    → T (not (is_nil (part 4 (4 * flag b4) xs)) || not (is_nil (part (4 + 4 * flag b4) (16 * flag b6) xs)))
given_family true b6 xs h l = subst (λ (b : Bool). T (not b || not (is_nil (part 8 (16 * flag b6) xs)))) (sym (part_some xs 4 4 (omega arith) (lit< tt))) tt
given_family false true xs h l =
    or_by_right (not (is_nil (part 4 0 xs))) (not (is_nil (part 4 16 xs))) (subst (λ (b : Bool). T (not b)) (sym (part_some xs 4 16 (omega arith) (lit< tt))) tt)
given_family false false xs h l = absurd h

-- a CHOOSE that was read
chosen_read : (e b4 b6 chid ch : Bool) (n : ℕ) → T (ltb n 256) → T (b4 || b6) → T (not (chid && (e || not ch))) → FteidRead e (choose b4 b6 (pick chid (some n) none))
unfolding has_v4 has_v6 choose_id_of
chosen_read e b4 b6 false ch n o h g = record { family = h; octet = tt; no_choose_id = λ _. refl }
chosen_read true b4 b6 true ch n o h g = absurd g
chosen_read false b4 b6 true ch n o h g = record { family = h; octet = o; no_choose_id = λ k. absurd k }

-- an F-TEID without CH that was read
given_read : (e b4 b6 : Bool) (t : ℕ) (xs : List ℕ) → T (b4 || b6) → 4 + 4 * flag b4 + 16 * flag b6 ≤ length xs
    → FteidRead e (given t (part 4 (4 * flag b4) xs) (part (4 + 4 * flag b4) (16 * flag b6) xs))
unfolding has_v4 has_v6 choose_id_of
given_read e b4 b6 t xs h l = record { family = given_family b4 b6 xs h l; octet = tt; no_choose_id = λ _. refl }

-- the fields after a flags octet that is not wrong
fields_read : (e : Bool) (f : ℕ) (xs : List ℕ) → T (are_bytes xs) → T (not (wrong_flags e f)) → fteid_length f ≤ length xs → FteidRead e (fteid_fields f xs)
unfolding wrong_flags fteid_length fteid_fields
fields_read e f xs h right long = one (ch_flag f) right long
  where
    one : (ch : Bool) → T (not (not (v4_flag f || v6_flag f) || (chid_flag f && (e || not ch)))) → pick ch (flag (chid_flag f)) (4 + 4 * flag (v4_flag f) + 16 * flag (v6_flag f)) ≤ length xs
        → FteidRead e (pick ch (chosen_fields f xs) (given_fields f xs))
    one true r l =
        unfold chosen_fields in (
        let k = not_or (not (v4_flag f || v6_flag f)) (chid_flag f && (e || false)) r in
        chosen_read e (v4_flag f) (v6_flag f) (chid_flag f) true (octet_at xs 0) (first_octet_lem xs h) (not_not (v4_flag f || v6_flag f) k.0) k.1)
    one false r l =
        unfold given_fields in (
        let k = not_or (not (v4_flag f || v6_flag f)) (chid_flag f && (e || true)) r in
        given_read e (v4_flag f) (v6_flag f) (number_at 0 4 xs) xs (not_not (v4_flag f || v6_flag f) k.0) l)

-- a read F-TEID keeps the rules of its flags
pub fteid_read_lem : (e : Bool) (xs : List ℕ) → T (are_bytes xs) → OnValue (FteidRead e) (read_fteid e xs)
unfolding read_fteid
fteid_read_lem e [] h = tt
fteid_read_lem e (f ∷ xs) h =
    pick_cases P (wrong_flags e f) (refuse incorrect) _ (λ _. tt)
    (λ right. pick_cases P (ltb (length xs) (fteid_length f)) (refuse too_short) (value (fteid_fields f xs)) (λ _. tt)
    (λ long. fields_read e f xs (and_right (ltb f 256) (are_bytes xs) h) right (nltb→le (length xs) (fteid_length f) long)))
  where
    P : Answer Fteid → Type 0
    P a = OnValue (FteidRead e) a

-- ---- UE IP Address

-- what is used of one that was read: an address has four octets
abbrev pub UeRead : UeIp → Type 0
UeRead v = OnSome (λ a. T (ltb a (2 ^ 32))) (ue_address_of v)

pub ue_read_lem : (xs : List ℕ) → T (are_bytes xs) → OnValue UeRead (read_ue_ip xs)
unfolding read_ue_ip ue_fields ue_address_of
ue_read_lem [] h = tt
ue_read_lem (f ∷ xs) h =
    pick_either P (ue_unsupported f) (value ue_other) _ tt
    (pick_either P (same_bool (ue_v4 f) (ue_chv4 f)) (refuse incorrect) _ tt
    (pick_either P (ue_chv4 f) (value ue_choose) _ tt
    (pick_either P (ltb (length xs) 4) (refuse too_short) (value (ue_given (number_at 0 4 xs))) tt
    (lt→ltb (number_at 0 4 xs) (2 ^ 32) (field_bound 4 xs (and_right (ltb f 256) (are_bytes xs) h))))))
  where
    P : Answer UeIp → Type 0
    P a = OnValue UeRead a

-- ---- FQ-CSID

-- what is used of an FQ-CSID with CSIDs that was read: the rules of its node, and the first CSID's width
pub record SetsRead (t : ℕ) (a cs : List ℕ) (n : ℕ) : Type 0 where
  pub node : T (node_type_kept n)
  pub address : T (node_address_allowed t a)
  pub csid : T (below16 (head_or 0 cs))

-- of a removal nothing is used
abbrev pub CsidRead : Fqcsid → Type 0
CsidRead (sets t a cs n) = SetsRead t a cs n
CsidRead (removal n) = Unit {0}

-- the first of m CSIDs has two octets
first_csid : (m : ℕ) (xs : List ℕ) → T (are_bytes xs) → T (below16 (head_or 0 (csids_read m xs)))
unfolding csids_read slices below16
first_csid zero xs h = tt
first_csid (suc m) xs h = lt→ltb (number (take 2 xs)) (2 ^ 16) (unfold number_at in (field_bound 2 xs h))

-- the octets of an address that is there whole
address_allowed_lem : (t : ℕ) (xs : List ℕ) → T (are_bytes xs) → t ≤ 2 → address_length t ≤ length xs → T (operator_allowed t (part 0 (address_length t) xs)) → T (node_address_allowed t (part 0 (address_length t) xs))
address_allowed_lem t xs h l k o =
    let a = take (address_length t) xs in
    let e = length-take (address_length t) xs in
    let whole : length a ≡ address_length t = omega arith in
    node_address_allowed_lem (record { type = l; long = whole; octets = bytes_take (address_length t) xs h; operator = o })

-- the rest of an FQ-CSID, once the octets are known to be there
checked_read : (m t : ℕ) (xs : List ℕ) (n : ℕ) → T (are_bytes xs) → t ≤ 2 → address_length t ≤ length xs
    → OnValue CsidRead (checked_csid m t (part 0 (address_length t) xs) (csids_read m (drop (address_length t) xs)) n)
unfolding checked_csid
checked_read m t xs n h l k =
    pick_cases (OnValue CsidRead) (all_of (node_type_kept n ∷ operator_allowed t a ∷ count_allowed m t a ∷ [])) (value (csid_fields m t a (csids_read m (drop (address_length t) xs)) n)) (refuse incorrect)
    (λ g. one m (each (node_type_kept n ∷ operator_allowed t a ∷ count_allowed m t a ∷ []) g)) (λ _. tt)
  where
    a : List ℕ
    a = part 0 (address_length t) xs

    one : (m : ℕ) → Each (node_type_kept n ∷ operator_allowed t a ∷ count_allowed m t a ∷ []) → CsidRead (csid_fields m t a (csids_read m (drop (address_length t) xs)) n)
    one zero e = unfold csid_fields in tt
    one (suc m) e = unfold csid_fields in (record { node = e.0; address = address_allowed_lem t xs h l k e.1.0; csid = first_csid (suc m) (drop (address_length t) xs) (bytes_drop (address_length t) xs h) })

-- a read FQ-CSID keeps the rules of its node
pub fqcsid_read : (xs : List ℕ) → T (are_bytes xs) → OnValue CsidRead (read_fqcsid xs)
unfolding read_fqcsid csid_rest
fqcsid_read [] h = tt
fqcsid_read (f ∷ xs) h =
    pick_cases P (ltb 2 (f / 16)) (refuse incorrect) _ (λ _. tt)
    (λ kind. pick_cases P (ltb (length xs) (address_length (f / 16) + 2 * (f % 16) + 1)) (refuse too_short) _ (λ _. tt)
    (λ long. let l = nltb→le (length xs) (address_length (f / 16) + 2 * (f % 16) + 1) long in
    checked_read (f % 16) (f / 16) xs (octet_at xs (address_length (f / 16) + 2 * (f % 16)) % 16) (and_right (ltb f 256) (are_bytes xs) h) (nltb→le 2 (f / 16) kind) (omega arith)))
  where
    P : Answer Fqcsid → Type 0
    P a = OnValue CsidRead a

-- ---- F-SEID

-- the bounds of a SEID
pub record SeidRead (n : ℕ) : Type 0 where
  pub nonzero : T (leb 1 n)
  pub fits : T (ltb n (2 ^ 64))

-- a read SEID is not 0 and has eight octets
pub fseid_read : (xs : List ℕ) → T (are_bytes xs) → OnValue SeidRead (read_fseid xs)
unfolding read_fseid seid_answer
fseid_read [] h = tt
fseid_read (f ∷ xs) h =
    pick_cases P (not (bit 0 f || bit 1 f)) (refuse incorrect) _ (λ _. tt)
    (λ _. pick_cases P (ltb (length xs) (fseid_length f)) (refuse too_short) _ (λ _. tt)
    (λ _. pick_cases P (eqb (number_at 0 8 xs) 0) (refuse incorrect) (value (number_at 0 8 xs)) (λ _. tt)
    (λ other. record { nonzero = above (number_at 0 8 xs) other; fits = lt→ltb (number_at 0 8 xs) (2 ^ 64) (field_bound 8 xs (and_right (ltb f 256) (are_bytes xs) h)) })))
  where
    P : Answer ℕ → Type 0
    P a = OnValue SeidRead a

    above : (n : ℕ) → T (not (eqb n 0)) → T (leb 1 n)
    above n g = let ne = ne_of n 0 g in yes_leb (above' n ne)
      where
        above' : (k : ℕ) → k ≢ 0 → 1 ≤ k
        above' k e = omega arith

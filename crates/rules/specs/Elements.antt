-- The element values that have rules of their own: F-TEID (clause 8.2.3), UE IP Address (8.2.62, 02 (v)), FQ-CSID (8.2.43), F-SEID (8.2.37).
-- Readers work on the value octets and answer a value or the cause of the refusal; octets past the value are ignored.
-- Assumes nothing.
use Rattle.std.specs.Prelude.{ℕ, zero, suc, ◌+◌, ◌*◌, ◌/◌, ◌%◌, ◌^◌, Bool, true, false, not, ◌&&◌, ◌||◌, List, [], ◌∷◌, ◌++◌, map, length, drop, leb, ltb, eqb}
use Rattle.std.proofs.Math.Option.{Option, none, some}
use Rattle.octets.specs.Choice.{pick, all_of, flag, is_nil, same_bool}
use Rattle.octets.specs.Octets.{be, number, part, number_at, octet_at, bit, zeros, same_octets, octets, put, slices, concat_map}
use Rattle.octets.specs.Lists.{all}
use Rattle.rules.specs.Model.{Settings, Tunnel}
use Rattle.rules.specs.Limits.{node_types, max_csids, max_operator}
use Rattle.rules.specs.Causes as why

-- why an element is refused: a required one is missing (conditional: an endpoint's F-TEID), short, or bad
pub data Refusal : Type 0 where
  missing conditional too_short incorrect : Refusal

-- 01's causes
unfoldable pub cause_of : Refusal → ℕ
cause_of missing = why.mandatory_missing
cause_of conditional = why.conditional_missing
cause_of too_short = why.wrong_length
cause_of incorrect = why.incorrect

-- what a reader answers: a value, or why it refuses
pub data Answer (A : Type 0) : Type 0 where
  refuse : Refusal → Answer A
  value : A → Answer A

-- what a writer leaves: how many octets it wrote, none where it refused, and the space at exit
pub record Written : Type 0 where
  pub count : Option ℕ
  pub space : List ℕ

-- octets written at the front of the space if they are allowed and fit; else nothing is written
unfoldable pub write_if : Bool → List ℕ → List ℕ → Written
write_if allowed xs space =
    pick (allowed && leb (length xs) (length space))
    (record { count = some (length xs); space = put 0 xs space })
    (record { count = none; space = space })

-- ---- F-TEID

-- An F-TEID value: a TEID with its IPv4 and IPv6 address (empty where that family is not there), or a CHOOSE: V4, V6 and the CHOOSE ID if any
pub data Fteid : Type 0 where
  given : ℕ → List ℕ → List ℕ → Fteid
  choose : Bool → Bool → Option ℕ → Fteid

-- the flags octet
abbrev pub v4_flag : ℕ → Bool
v4_flag f = bit 0 f

abbrev pub v6_flag : ℕ → Bool
v6_flag f = bit 1 f

abbrev pub ch_flag : ℕ → Bool
ch_flag f = bit 2 f

abbrev pub chid_flag : ℕ → Bool
chid_flag f = bit 3 f

-- no family, or CHID without CH; in an endpoint any CHID
unfoldable pub wrong_flags : Bool → ℕ → Bool
wrong_flags in_endpoint f = not (v4_flag f || v6_flag f) || (chid_flag f && (in_endpoint || not (ch_flag f)))

-- how many octets the flags octet asks for after it
unfoldable pub fteid_length : ℕ → ℕ
fteid_length f = pick (ch_flag f) (flag (chid_flag f)) (4 + 4 * flag (v4_flag f) + 16 * flag (v6_flag f))

-- the fields after the flags octet f
unfoldable pub chosen_fields : ℕ → List ℕ → Fteid
chosen_fields f xs = choose (v4_flag f) (v6_flag f) (pick (chid_flag f) (some (octet_at xs 0)) none)

unfoldable pub given_fields : ℕ → List ℕ → Fteid
given_fields f xs = given (number_at 0 4 xs) (part 4 (4 * flag (v4_flag f)) xs) (part (4 + 4 * flag (v4_flag f)) (16 * flag (v6_flag f)) xs)

unfoldable pub fteid_fields : ℕ → List ℕ → Fteid
fteid_fields f xs = pick (ch_flag f) (chosen_fields f xs) (given_fields f xs)

-- 01's order: empty 68; wrong flags 69; short 68
unfoldable pub read_fteid : Bool → List ℕ → Answer Fteid
read_fteid in_endpoint [] = refuse too_short
read_fteid in_endpoint (f ∷ xs) =
    pick (wrong_flags in_endpoint f) (refuse incorrect)
    (pick (ltb (length xs) (fteid_length f)) (refuse too_short) (value (fteid_fields f xs)))

unfoldable pub has_v4 : Fteid → Bool
has_v4 (given t a b) = not (is_nil a)
has_v4 (choose v4 v6 i) = v4

unfoldable pub has_v6 : Fteid → Bool
has_v6 (given t a b) = not (is_nil b)
has_v6 (choose v4 v6 i) = v6

unfoldable pub chooses : Fteid → Bool
chooses (given t a b) = false
chooses (choose v4 v6 i) = true

unfoldable pub choose_id_of : Fteid → Option ℕ
choose_id_of (given t a b) = none
choose_id_of (choose v4 v6 i) = i

-- an address is there whole or not at all
unfoldable pub address_of : ℕ → List ℕ → Bool
address_of n a = (is_nil a || eqb (length a) n) && octets a

unfoldable pub given_tests : ℕ → List ℕ → List ℕ → List Bool
given_tests t a b = ltb t (2 ^ 32) ∷ address_of 4 a ∷ address_of 16 b ∷ not (is_nil a && is_nil b) ∷ []

-- the rules for a value; in an endpoint without a CHOOSE ID
unfoldable pub fteid_allowed : Bool → Fteid → Bool
fteid_allowed in_endpoint (given t a b) = all_of (given_tests t a b)
fteid_allowed in_endpoint (choose v4 v6 none) = v4 || v6
fteid_allowed in_endpoint (choose v4 v6 (some i)) = (v4 || v6) && ltb i 256 && not in_endpoint

-- the value's octets
unfoldable pub fteid_octets : Fteid → List ℕ
fteid_octets (given t a b) = (flag (not (is_nil a)) + 2 * flag (not (is_nil b))) ∷ be 4 t ++ (a ++ b)
fteid_octets (choose v4 v6 none) = (flag v4 + 2 * flag v6 + 4) ∷ []
fteid_octets (choose v4 v6 (some i)) = (flag v4 + 2 * flag v6 + 12) ∷ i ∷ []

unfoldable pub write_fteid : Bool → Fteid → List ℕ → Written
write_fteid in_endpoint v space = write_if (fteid_allowed in_endpoint v) (fteid_octets v) space

-- a held F-TEID with the unit's addresses
unfoldable pub unit_fteid : Settings → Tunnel → Fteid
unit_fteid s t = given t.teid (pick t.v4 s.ipv4 []) (pick t.v6 s.ipv6 [])

-- ---- UE IP Address, for IPv4

-- A value: an address as a number; a CHOOSE; or one with what the unit does not have, of which no more is read (V6, IPv6D, CHV6, IP6PL)
pub data UeIp : Type 0 where
  ue_given : ℕ → UeIp
  ue_choose ue_other : UeIp

-- the flags octet: V6 1, V4 2, S/D 4, IPv6D 8, CHV4 16, CHV6 32, IP6PL 64; S/D and bit 8 are ignored
abbrev pub ue_v4 : ℕ → Bool
ue_v4 f = bit 1 f

abbrev pub ue_chv4 : ℕ → Bool
ue_chv4 f = bit 4 f

unfoldable pub ue_unsupported : ℕ → Bool
ue_unsupported f = bit 0 f || bit 3 f || bit 5 f || bit 6 f

-- the fields after the flags octet f
unfoldable pub ue_fields : ℕ → List ℕ → Answer UeIp
ue_fields f xs = pick (ue_chv4 f) (value ue_choose) (pick (ltb (length xs) 4) (refuse too_short) (value (ue_given (number_at 0 4 xs))))

-- 02's order: empty 68; what is not supported; not just one of V4, CHV4 69; short 68
unfoldable pub read_ue_ip : List ℕ → Answer UeIp
read_ue_ip [] = refuse too_short
read_ue_ip (f ∷ xs) = pick (ue_unsupported f) (value ue_other) (pick (same_bool (ue_v4 f) (ue_chv4 f)) (refuse incorrect) (ue_fields f xs))

-- what is written: an address, or a CHOOSE
unfoldable pub ue_allowed : UeIp → Bool
ue_allowed (ue_given a) = ltb a (2 ^ 32)
ue_allowed ue_choose = true
ue_allowed ue_other = false

unfoldable pub ue_octets : UeIp → List ℕ
ue_octets (ue_given a) = 2 ∷ be 4 a
ue_octets ue_choose = 16 ∷ []
ue_octets ue_other = []

unfoldable pub write_ue_ip : UeIp → List ℕ → Written
write_ue_ip v space = write_if (ue_allowed v) (ue_octets v) space

-- the address that it gives, if any; does it choose one; is it not supported
unfoldable pub ue_address_of : UeIp → Option ℕ
ue_address_of (ue_given a) = some a
ue_address_of ue_choose = none
ue_address_of ue_other = none

unfoldable pub ue_chooses : UeIp → Bool
ue_chooses (ue_given a) = false
ue_chooses ue_choose = true
ue_chooses ue_other = false

unfoldable pub ue_strange : UeIp → Bool
ue_strange (ue_given a) = false
ue_strange ue_choose = false
ue_strange ue_other = true

-- ---- FQ-CSID

-- An FQ-CSID value: Node-ID type, address, CSIDs (1 to 15) and node type; or the removal of a node type's (m = 0)
pub data Fqcsid : Type 0 where
  sets : ℕ → List ℕ → List ℕ → ℕ → Fqcsid
  removal : ℕ → Fqcsid

-- octets of the address of a Node-ID type 0, 1 or 2
unfoldable pub address_length : ℕ → ℕ
address_length t = pick (eqb t 1) 16 4

-- type 2: the top 20 bits are MCC x 1000 + MNC, at most 999,999
unfoldable pub operator_allowed : ℕ → List ℕ → Bool
operator_allowed t address = not (eqb t 2) || leb (number address / 4096) max_operator

-- an address that the Node-ID type allows
unfoldable pub node_address_tests : ℕ → List ℕ → List Bool
node_address_tests t address = leb t 2 ∷ eqb (length address) (address_length t) ∷ octets address ∷ operator_allowed t address ∷ []

unfoldable pub node_address_allowed : ℕ → List ℕ → Bool
node_address_allowed t address = all_of (node_address_tests t address)

-- node type 0 to 5 is kept
unfoldable pub node_type_kept : ℕ → Bool
node_type_kept n = ltb n node_types

-- m CSIDs of two octets
unfoldable pub csids_read : ℕ → List ℕ → List ℕ
csids_read m xs = map number (slices 2 m xs)

-- what m, the Node-ID type t, the address and the node type n say
unfoldable pub csid_fields : ℕ → ℕ → List ℕ → List ℕ → ℕ → Fqcsid
csid_fields zero t address cs n = removal n
csid_fields (suc m) t address cs n = sets t address cs n

-- m = 0 goes with type and address zero
unfoldable pub count_allowed : ℕ → ℕ → List ℕ → Bool
count_allowed zero t address = eqb t 0 && same_octets address (zeros 4)
count_allowed (suc m) t address = true

-- the rest of 01's order, once the octets are known to be there
unfoldable pub checked_csid : ℕ → ℕ → List ℕ → List ℕ → ℕ → Answer Fqcsid
checked_csid m t address cs n =
    pick (all_of (node_type_kept n ∷ operator_allowed t address ∷ count_allowed m t address ∷ [])) (value (csid_fields m t address cs n)) (refuse incorrect)

-- the octets after the first, for m CSIDs and Node-ID type t with an address of a octets
unfoldable pub csid_rest : ℕ → ℕ → ℕ → List ℕ → Answer Fqcsid
csid_rest m t a xs =
    pick (ltb (length xs) (a + 2 * m + 1)) (refuse too_short)
    (checked_csid m t (part 0 a xs) (csids_read m (drop a xs)) (octet_at xs (a + 2 * m) % 16))

-- 01's order: empty 68; type 69; short 68; the rest 69
unfoldable pub read_fqcsid : List ℕ → Answer Fqcsid
read_fqcsid [] = refuse too_short
read_fqcsid (h ∷ xs) = pick (ltb 2 (h / 16)) (refuse incorrect) (csid_rest (h % 16) (h / 16) (address_length (h / 16)) xs)

unfoldable pub node_of : Fqcsid → ℕ
node_of (sets t a cs n) = n
node_of (removal n) = n

unfoldable pub below16 : ℕ → Bool
below16 c = ltb c (2 ^ 16)

unfoldable pub sets_tests : ℕ → List ℕ → List ℕ → ℕ → List Bool
sets_tests t a cs n = node_address_allowed t a ∷ leb 1 (length cs) ∷ leb (length cs) max_csids ∷ all below16 cs ∷ node_type_kept n ∷ []

unfoldable pub fqcsid_allowed : Fqcsid → Bool
fqcsid_allowed (sets t a cs n) = all_of (sets_tests t a cs n)
fqcsid_allowed (removal n) = node_type_kept n

unfoldable pub fqcsid_octets : Fqcsid → List ℕ
fqcsid_octets (sets t a cs n) = (t * 16 + length cs) ∷ a ++ (concat_map (be 2) cs ++ n ∷ [])
fqcsid_octets (removal n) = zeros 5 ++ n ∷ []

unfoldable pub write_fqcsid : Fqcsid → List ℕ → Written
write_fqcsid v space = write_if (fqcsid_allowed v) (fqcsid_octets v) space

-- ---- F-SEID: bit 1 is V6 and bit 2 is V4, the other way round than in an F-TEID

unfoldable pub fseid_length : ℕ → ℕ
fseid_length f = 8 + 4 * flag (bit 1 f) + 16 * flag (bit 0 f)

unfoldable pub seid_answer : ℕ → Answer ℕ
seid_answer n = pick (eqb n 0) (refuse incorrect) (value n)

-- 01's order: empty 68; no family 69; short 68; SEID 0 69. Only the SEID is kept.
unfoldable pub read_fseid : List ℕ → Answer ℕ
read_fseid [] = refuse too_short
read_fseid (f ∷ xs) =
    pick (not (bit 0 f || bit 1 f)) (refuse incorrect)
    (pick (ltb (length xs) (fseid_length f)) (refuse too_short) (seid_answer (number_at 0 8 xs)))

-- an F-SEID's octets; an address is empty where its family is not there
unfoldable pub fseid_octets : ℕ → List ℕ → List ℕ → List ℕ
fseid_octets seid a b = (2 * flag (not (is_nil a)) + flag (not (is_nil b))) ∷ be 8 seid ++ (a ++ b)

unfoldable pub computing : ℕ
unfolding cause_of write_if wrong_flags fteid_length chosen_fields given_fields fteid_fields read_fteid has_v4 has_v6 chooses choose_id_of address_of given_tests fteid_allowed fteid_octets write_fteid unit_fteid ue_unsupported ue_fields read_ue_ip ue_allowed ue_octets write_ue_ip ue_address_of ue_chooses ue_strange address_length operator_allowed node_address_tests node_address_allowed node_type_kept csids_read csid_fields count_allowed checked_csid csid_rest read_fqcsid node_of below16 sets_tests fqcsid_allowed fqcsid_octets write_fqcsid fseid_length seid_answer read_fseid fseid_octets
computing = 0

-- The words of a plan's row, each named once. A word that a row does not use is 0.
-- Assumes nothing.
use Rattle.std.specs.Prelude.{ℕ}

-- what the row is for: the type of its element
abbrev pub tag : ℕ
tag = 0

-- ---- a group's row

-- which members are there: 1, else 0; for the FAR ID 2 where it is null
abbrev pub has_pdr_id : ℕ
has_pdr_id = 1

abbrev pub has_precedence : ℕ
has_precedence = 2

abbrev pub has_far_id : ℕ
has_far_id = 3

abbrev pub has_source : ℕ
has_source = 4

abbrev pub has_endpoint_id : ℕ
has_endpoint_id = 5

abbrev pub has_pdi : ℕ
has_pdi = 6

-- what they hold
abbrev pub pdr_id : ℕ
pdr_id = 7

abbrev pub precedence : ℕ
precedence = 8

abbrev pub far_id : ℕ
far_id = 9

abbrev pub source : ℕ
source = 10

abbrev pub endpoint_id : ℕ
endpoint_id = 11

-- the F-TEID: its flags (V4 1, V6 2, CH 4, CHID 8), 0 if there is none; its TEID, addresses and CHOOSE ID
abbrev pub flags : ℕ
flags = 12

abbrev pub teid : ℕ
teid = 13

abbrev pub ipv4 : ℕ
ipv4 = 14

-- the high and the low eight octets
abbrev pub ipv6_high : ℕ
ipv6_high = 15

abbrev pub ipv6_low : ℕ
ipv6_low = 16

abbrev pub choose_id : ℕ
choose_id = 17

-- the UE IP Address: 0 if there is none, 1 an address, 2 a CHOOSE, 3 one that is not supported; the address, which a CHOOSE gets when it is granted
abbrev pub ue_kind : ℕ
ue_kind = 18

abbrev pub ue_address : ℕ
ue_address = 19

-- ---- an FQ-CSID's row

-- 1 sets, 2 removes, 3 null length
abbrev pub verb : ℕ
verb = 1

abbrev pub node_type : ℕ
node_type = 7

-- the Node-ID's type
abbrev pub id_type : ℕ
id_type = 8

-- the address's number: its high eight octets (0 for types 0 and 2), and its low eight (or four)
abbrev pub address_high : ℕ
address_high = 9

abbrev pub address_low : ℕ
address_low = 10

abbrev pub csid : ℕ
csid = 11

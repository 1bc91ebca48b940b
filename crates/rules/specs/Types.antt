-- The types of elements (clause 8.1.2), each named once.
-- Assumes nothing.
use Rattle.std.specs.Prelude.{ℕ}

-- groups
abbrev pub create_pdr : ℕ
create_pdr = 1

abbrev pub pdi : ℕ
pdi = 2

abbrev pub update_pdr : ℕ
update_pdr = 9

abbrev pub remove_pdr : ℕ
remove_pdr = 15

abbrev pub create_endpoint : ℕ
create_endpoint = 127

abbrev pub update_endpoint : ℕ
update_endpoint = 129

abbrev pub remove_endpoint : ℕ
remove_endpoint = 130

-- members
abbrev pub source_interface : ℕ
source_interface = 20

abbrev pub fteid : ℕ
fteid = 21

abbrev pub precedence : ℕ
precedence = 29

-- an IPv4 address of a patient's device (02 (v))
abbrev pub ue_ip_address : ℕ
ue_ip_address = 93

abbrev pub pdr_id : ℕ
pdr_id = 56

abbrev pub far_id : ℕ
far_id = 108

abbrev pub endpoint_id : ℕ
endpoint_id = 131

-- at the top of a message
abbrev pub fseid : ℕ
fseid = 57

abbrev pub fqcsid : ℕ
fqcsid = 65

abbrev pub session_flags : ℕ
session_flags = 186

-- in replies only
abbrev pub node_id : ℕ
node_id = 60

abbrev pub cause : ℕ
cause = 19

abbrev pub offending_ie : ℕ
offending_ie = 40

abbrev pub created_pdr : ℕ
created_pdr = 8

abbrev pub created_endpoint : ℕ
created_endpoint = 128

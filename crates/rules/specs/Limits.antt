-- Every limit of documents 01 and 02, each named once.
-- Assumes nothing.
use Rattle.std.specs.Prelude.{ℕ}

-- sessions in a table: a unit's own limit, a setting, is at most this (02 (vi))
abbrev pub max_sessions : ℕ
max_sessions = 256

-- PDRs in a session
abbrev pub max_pdrs : ℕ
max_pdrs = 16

-- traffic endpoints in a session
abbrev pub max_endpoints : ℕ
max_endpoints = 8

-- node types, and so FQ-CSIDs in a session
abbrev pub node_types : ℕ
node_types = 6

-- CSIDs in an FQ-CSID: the number m has four bits
abbrev pub max_csids : ℕ
max_csids = 15

-- the top 20 bits of a Node-ID of type 2, MCC x 1000 + MNC, at most
abbrev pub max_operator : ℕ
max_operator = 999999

-- TEIDs in the pool
abbrev pub max_pool : ℕ
max_pool = 65536

-- words of 64 bits in the map of taken TEIDs
abbrev pub map_words : ℕ
map_words = 1024

-- IPv4 addresses in the pool (02 (v)), and words in the map of taken ones
abbrev pub max_addresses : ℕ
max_addresses = 1024

abbrev pub address_words : ℕ
address_words = 16

-- how deep groups nest, the message counted
abbrev pub max_depth : ℕ
max_depth = 3

-- octets of the longest message that is read, and of the smallest reply space
abbrev pub max_message : ℕ
max_message = 2048

abbrev pub min_space : ℕ
min_space = 1280

-- octets of the longest restoration request
abbrev pub max_restoration : ℕ
max_restoration = 1742

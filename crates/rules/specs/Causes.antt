-- The causes of documents 01 and 02 (clause 8.2.1), each named once.
-- Assumes nothing.
use Rattle.std.specs.Prelude.{ℕ}

abbrev pub accepted : ℕ
accepted = 1

-- an establishment of a SEID that is live
abbrev pub rejected : ℕ
rejected = 64

abbrev pub no_session : ℕ
no_session = 65

abbrev pub mandatory_missing : ℕ
mandatory_missing = 66

abbrev pub conditional_missing : ℕ
conditional_missing = 67

abbrev pub wrong_length : ℕ
wrong_length = 68

abbrev pub incorrect : ℕ
incorrect = 69

-- an F-TEID with CH or without it against the rule
abbrev pub wrong_allocation : ℕ
wrong_allocation = 71

abbrev pub broken_rule : ℕ
broken_rule = 73

abbrev pub no_room : ℕ
no_room = 75

abbrev pub not_supported : ℕ
not_supported = 76

-- every address of the pool is held (02 (v))
abbrev pub no_address : ℕ
no_address = 79

-- Parts of a reply that the rules' definitions have no name for.
-- Assumes nothing.
use Rattle.std.specs.Prelude.{◌≡◌, ℕ, ◌+◌, ◌≤◌, true, false, length, List, [], ◌∷◌, ◌++◌}
use Rattle.rules.specs.Message.{set_deletion, kind_of, seid_there, header_seid, sequence_of}
use Rattle.rules.specs.Reply.{element, node_id_element, reply_seid}
use Rattle.rules.specs.Types as ie
use Rattle.writing.specs.Heads.{message_head}

-- a request whose header has a SEID, and a set deletion
pub record WithSeid (msg : List ℕ) : Type 0 where
  pub long : 16 ≤ length msg
  pub seid : seid_there msg ≡ true

pub record Listing (msg : List ℕ) : Type 0 where
  pub long : 8 ≤ length msg
  pub seid : seid_there msg ≡ false
  pub kind : kind_of msg ≡ set_deletion

-- the header of a reply to a request with a SEID
unfoldable pub reply_head : List ℕ → ℕ → ℕ → ℕ → List ℕ
reply_head msg seid cause n = message_head (kind_of msg + 1) (reply_seid (kind_of msg) cause (header_seid msg) seid) (sequence_of msg) n

-- what every reply has after its header: the Node ID with the peer's signalling address in those that have it, and the cause
unfoldable pub body_front : ℕ → ℕ → ℕ → List ℕ
body_front kind home cause = node_id_element kind home ++ element ie.cause (cause ∷ [])

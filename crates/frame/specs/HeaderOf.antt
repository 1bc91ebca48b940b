-- What the header of a message says: the host outcome, the type and the header's SEID, or that it is a set deletion's.
-- Assumes nothing.
use Rattle.std.specs.Prelude.{ℕ, ◌≤◌, not, true, false, List, length, ltb, eqb, ◌≡◌, Result, Ok, Err}
use Rattle.octets.specs.Choice.{pick}
use Rattle.rules.specs.Limits.{max_message}
use Rattle.rules.specs.Message.{set_deletion, header_allowed, served, kind_of, header_seid, seid_there}
use Rattle.frame.specs.declared.header.Header.{Header}
use Rattle.frame.specs.declared.header.Header.TheVariants.{Request, Sets}
use Rattle.frame.specs.declared.header.Unserved.{Unserved}
use Rattle.frame.specs.declared.header.Unserved.TheVariants.{TooLong, Malformed, NotServed}

-- a host outcome by 01's number; a request: its type and the SEID of its header; a set deletion
pub data Opening : Type 0 where
  outcome : ℕ → Opening
  request : ℕ → ℕ → Opening
  sets : Opening

-- what each answer means
abbrev pub opened : Result Header Unserved → Opening
opened (Err TooLong) = outcome 3
opened (Err Malformed) = outcome 4
opened (Err NotServed) = outcome 5
opened (Ok (Request kind seid)) = request kind seid
opened (Ok Sets) = sets

-- an allowed header with a SEID
pub record SessionHeader (msg : List ℕ) : Type 0 where
  pub long : 16 ≤ length msg
  pub seid : seid_there msg ≡ true
  pub kind : eqb (kind_of msg) set_deletion ≡ false

-- the outcomes in 01's order
unfoldable pub header_of : List ℕ → Opening
header_of msg =
    pick (ltb max_message (length msg)) (outcome 3)
    (pick (not (header_allowed msg)) (outcome 4)
    (pick (not (served (kind_of msg))) (outcome 5)
    (pick (eqb (kind_of msg) set_deletion) sets (request (kind_of msg) (header_seid msg)))))

-- What reading a request gives: the first fault of stages 2 and 3, or the request that the rows of its plan mean.
-- Assumes nothing.
use Rattle.std.specs.Prelude.{◌≡◌, ℕ, ◌+◌, ◌*◌, ◌/◌, ◌≤◌, true, List, [], length}
use Rattle.std.proofs.Math.Option.{Option, none, some}
use Rattle.octets.specs.Lists.{any, collect}
use Rattle.rules.specs.Elements.{cause_of}
use Rattle.rules.specs.Message.{Spot, frame_fault}
use Rattle.rules.specs.Reading as rules
use Rattle.rules.specs.Reading.{faulty, done, read}
use Rattle.rules.specs.Request.{Request}
use Rattle.plan.specs.Rows.{row_width, rows_of, tagged, row_csid, is_null_row, request_in}
use Rattle.rules.specs.Types as ie
use Rattle.rules.specs.Causes as why
use Rattle.std.specs.Prelude as std
use Rattle.std.specs.Prelude.{Ok, Err}
use Rattle.reading.specs.declared.Fault.{Fault}
use Rattle.request.specs.declared.Plan.{Plan}

-- Rows of a message with so many octets after its header, and one more while octets of an element are left: each takes 9 octets at least, a
-- Remove Traffic Endpoint, but for one FQ-CSID of null length.
abbrev pub most_rows : ℕ → ℕ
most_rows n = (n + 10) / 9

-- words that they have room in
abbrev pub RoomFor : ℕ → List ℕ → Type 0
RoomFor n words = row_width * most_rows n ≤ length words

-- a cause with the type at fault and its place, or a request
pub data Result : Type 0 where
  refused : ℕ → ℕ → ℕ → Result
  whole : Request → Result

-- stage 3, of a message that is framed
abbrev pub result_of : rules.Reading Request → Result
result_of (faulty f) = refused (cause_of f.cause) f.type f.place
result_of (done r) = whole r

-- stage 2, and then stage 3
unfoldable pub from_framing : List ℕ → Option Spot → Result
from_framing msg none = result_of (read msg)
from_framing msg (some f) = refused why.wrong_length f.type f.place

unfoldable pub reading_of : List ℕ → Result
reading_of msg = from_framing msg (frame_fault msg)

-- what an answer means, with the words that it leaves
abbrev pub meant : std.Result Plan Fault → List ℕ → Result
meant (Err f) words = refused f.cause f.kind f.place
meant (Ok p) words = whole (request_in p.seid p.restoring p.noted (rows_of p.rows words))

-- how many rows it leaves
abbrev pub rows_left : std.Result Plan Fault → ℕ
rows_left (Err f) = 0
rows_left (Ok p) = p.rows

-- what an answer has to mean, and that its rows lie within the words
pub record Read (msg : List ℕ) (r : std.Result Plan Fault) (words : List ℕ) : Type 0 where
  pub result : meant r words ≡ reading_of msg
  pub room : row_width * rows_left r ≤ length words
  -- where an FQ-CSID removes all, no other is there
  pub only_null : any is_null_row (tagged ie.fqcsid (rows_of (rows_left r) words)) ≡ true → collect row_csid (tagged ie.fqcsid (rows_of (rows_left r) words)) ≡ []

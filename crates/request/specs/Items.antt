-- What was read of a message so far, as the code keeps it: a row of the plan for each item that has one, and a few numbers beside them.
-- For the functions inside this crate.
-- Assumes nothing.
use Rattle.std.specs.Prelude.{◌≡◌, ℕ, ◌+◌, ◌*◌, ◌≤◌, Bool, true, false, not, ◌||◌, List, [], ◌∷◌, map, length, get_or, eqb, Result, Ok, Err}
use Rattle.std.proofs.Math.Option.{Option, none, some}
use Rattle.octets.specs.Choice.{pick, value_or, flag}
use Rattle.octets.specs.Lists.{member, keep, any}
use Rattle.rules.specs.Types as ie
use Rattle.rules.specs.Elements.{sets, removal}
use Rattle.rules.specs.Message.{establishment}
use Rattle.rules.specs.Request as rules
use Rattle.rules.specs.Reading.{Reading, done, and_then, group_read, element_read}
use Rattle.rules.specs.Request.{Item, creates_pdr, creates_endpoint, updates_pdr, removes_pdr, removes_endpoint, sets_csid, clears_csids, updates_endpoint, with_item, creates_any}
use Rattle.rules.specs.Causes as why
use Rattle.plan.specs.Rows.{row_width, word, rows_of, row_pdr, row_endpoint, row_change, row_address}
use Rattle.plan.specs.Words as its
use Rattle.reading.specs.Verdicts.{stopped, numbered, fault}
use Rattle.request.specs.Requests.{RoomFor}
use Rattle.request.specs.declared.Plan.{Plan}
use Rattle.request.specs.declared.items.Draft.{Draft}
use Rattle.reading.specs.declared.Fault.{Fault}

-- ---- the item of a row

unfoldable pub csid_item : List ℕ → Item
csid_item row =
    pick (eqb (word its.verb row) 1) (sets_csid (sets (word its.id_type row) (row_address row) (word its.csid row ∷ []) (word its.node_type row)))
    (pick (eqb (word its.verb row) 2) (sets_csid (removal (word its.node_type row))) (pick (eqb (word its.verb row) 3) clears_csids updates_endpoint))

-- of a row of type t; element 129 has no row, and stands for a row that is none
unfoldable pub item_of : ℕ → List ℕ → Item
item_of t row =
    pick (eqb t ie.create_pdr) (creates_pdr (row_pdr row))
    (pick (eqb t ie.create_endpoint) (creates_endpoint (row_endpoint row))
    (pick (eqb t ie.update_pdr) (updates_pdr (row_change row))
    (pick (eqb t ie.remove_pdr) (removes_pdr (word its.pdr_id row))
    (pick (eqb t ie.remove_endpoint) (removes_endpoint (word its.endpoint_id row)) (pick (eqb t ie.fqcsid) (csid_item row) updates_endpoint)))))

unfoldable pub row_item : List ℕ → Item
row_item row = item_of (word its.tag row) row

unfoldable pub is_update : Item → Bool
is_update (creates_pdr x) = false
is_update (creates_endpoint x) = false
is_update (updates_pdr x) = false
is_update (removes_pdr x) = false
is_update (removes_endpoint x) = false
is_update (sets_csid x) = false
is_update clears_csids = false
is_update updates_endpoint = true

unfoldable pub has_row : Item → Bool
has_row i = not (is_update i)

-- ---- the draft

-- 0 where the flags were not met, 1 without and 2 with the restoration's bit
abbrev pub flags_of : Option Bool → ℕ
flags_of none = 0
flags_of (some b) = 1 + flag b

-- a node type is among those that were met
abbrev pub met : ℕ → List ℕ → Bool
met k nodes = not (eqb (get_or nodes k 0) 0)

abbrev pub SeidThere : Option ℕ → Type 0
SeidThere none = Unit {0}
SeidThere (some n) = n ≡ 0 → ⊥

-- the code's draft, its node types and its rows mean the rules' draft
pub record Means (d : rules.Draft) (c : Draft) (nodes words : List ℕ) : Type 0 where
  pub seid : c.seid ≡ value_or 0 d.seid
  pub seid_there : SeidThere d.seid
  pub flags : c.flags ≡ flags_of d.restores
  pub noted : c.noted ≡ any is_update d.items
  pub creates : c.creates ≡ creates_any d.items
  pub seen : (k : ℕ) → met k nodes ≡ member k d.nodes
  pub rows : map row_item (rows_of c.rows words) ≡ keep has_row d.items

-- a reading that went well, and what it means
pub record DraftRead (result : Reading rules.Draft) (c : Draft) (nodes words : List ℕ) : Type 0 where
  pub draft : rules.Draft
  pub is : result ≡ done draft
  pub means : Means draft c nodes words

-- a step of the reading: the fault that the rules find, or a draft
pub record Steps (result : Reading rules.Draft) (r : Result Draft Fault) (nodes words : List ℕ) : Type 0 where
  pub fault : (f : Fault) → r ≡ Err f → numbered result ≡ stopped f.cause f.kind f.place
  pub next : (c : Draft) → r ≡ Ok c → DraftRead result c nodes words

-- it is the rules' step from any draft that the code's means
pub record Follows (step : rules.Draft → Reading rules.Draft) (c : Draft) (nodes words : List ℕ) (r : Result Draft Fault) (nodes' words' : List ℕ) : Type 0 where
  pub follows : (d : rules.Draft) → Means d c nodes words → Steps (step d) r nodes' words'

-- room for the node types, and for one more row
pub record Roomy (c : Draft) (nodes words : List ℕ) : Type 0 where
  pub wide : length nodes ≡ 16
  pub row : row_width * c.rows + row_width ≤ length words
  pub few : c.rows ≤ 225

-- a step that touches neither node types nor rows
pub record Passes (step : rules.Draft → Reading rules.Draft) (c : Draft) (r : Result Draft Fault) : Type 0 where
  pub passes : (nodes words : List ℕ) → Follows step c nodes words r nodes words

-- one that touches no node types
pub record Puts (step : rules.Draft → Reading rules.Draft) (c : Draft) (words : List ℕ) (r : Result Draft Fault) (words' : List ℕ) : Type 0 where
  pub puts : (nodes : List ℕ) → Follows step c nodes words r nodes words'

-- a draft with element 129, and with one more row
abbrev pub with_note : Draft → Draft
with_note c = record { rows = c.rows; seid = c.seid; flags = c.flags; noted = true; creates = c.creates }

abbrev pub with_row : Bool → Draft → Draft
with_row b c = record { rows = c.rows + 1; seid = c.seid; flags = c.flags; noted = c.noted; creates = pick b true c.creates }

-- the groups at the top of a message
abbrev pub group_types : List ℕ
group_types = ie.create_pdr ∷ ie.create_endpoint ∷ ie.update_pdr ∷ ie.remove_pdr ∷ ie.remove_endpoint ∷ []

-- the rules' step on a group, and on any element, at a place
abbrev pub group_at : ℕ → ℕ → List ℕ → rules.Draft → Reading rules.Draft
group_at t p v d = and_then (group_read t p v) (λ i. done (with_item i d))

abbrev pub element_at : ℕ → Bool → ℕ → ℕ → List ℕ → rules.Draft → Reading rules.Draft
element_at kind alone t p v d = element_read kind alone (record { type = t; content = v; place = p }) d

-- octets that fit a message, and room for their rows
pub record Enough (s words : List ℕ) : Type 0 where
  pub short : length s ≤ 2032
  pub row : RoomFor (length s) words

-- all elements: the fault that the rules find, or a draft
pub record Ended (result : Reading rules.Draft) (c : Draft) (words : List ℕ) : Type 0 where
  pub nodes : List ℕ
  pub read : DraftRead result c nodes words
  pub room : row_width * c.rows ≤ length words

pub record AllRead (result : Reading rules.Draft) (r : Result Draft Fault) (words : List ℕ) : Type 0 where
  pub fault : (f : Fault) → r ≡ Err f → numbered result ≡ stopped f.cause f.kind f.place
  pub next : (c : Draft) → r ≡ Ok c → Ended result c words

-- ---- the plan

abbrev pub plan_of : Draft → ℕ → Plan
plan_of c n = record { rows = c.rows; seid = n; restoring = eqb c.flags 2; noted = c.noted }

-- a message's end: an establishment needs a Create PDR unless it is a restoration, and its F-SEID
unfoldable pub concluded : ℕ → Draft → Result Plan Fault
concluded kind c =
    pick (eqb kind establishment)
    (pick (eqb c.flags 2 || c.creates)
    (pick (eqb c.seid 0) (fault why.mandatory_missing ie.fseid 0) (Ok (plan_of c c.seid)))
    (fault why.mandatory_missing ie.create_pdr 0))
    (Ok (plan_of c 0))

-- 01's rules of stages 4 and 5 as they meet one row of a plan, or two rows of which one stands before the other.
-- Assumes nothing.
use Rattle.std.specs.Prelude.{ℕ, ◌+◌, ◌-◌, Bool, false, not, ◌&&◌, ◌||◌, List, [], ◌∷◌, ◌++◌, leb, ltb, eqb}
use Rattle.std.proofs.Math.Option.{Option, none, some}
use Rattle.octets.specs.Choice.{pick, one_of, is_some, bind_option}
use Rattle.octets.specs.Lists.{any}
use Rattle.octets.specs.Octets.{be, bit}
use Rattle.octets.specs.Rows.{has_tag}
use Rattle.rules.specs.Model.{Settings, Holding, in_address_pool}
use Rattle.rules.specs.Elements.{Fteid, UeIp, ue_address_of}
use Rattle.rules.specs.Request.{Request}
use Rattle.rules.specs.Sound.{in_pool, agree, marked}
use Rattle.rules.specs.Stages.{choices_agree, alike_fteids, same_choice, endpoint_restored, pdr_restored}
use Rattle.rules.specs.Grants.{Choice, endpoint_choice, pdr_choice, choice_id}
use Rattle.plan.specs.Rows.{word, row_pdr, row_endpoint, row_fteid, row_ue, request_in}
use Rattle.rules.specs.Types as ie
use Rattle.plan.specs.Words as its

-- the request that rows mean, where its SEID and element 129 do not matter
abbrev pub request_of : Bool → List (List ℕ) → Request
request_of restoring rows = request_in 0 restoring false rows

-- a test of a value that may be absent
unfoldable pub on_some : {A : Type 0} → (A → Bool) → Option A → Bool
on_some p none = false
on_some p (some x) = p x

-- ---- F-TEIDs

-- a Create Traffic Endpoint has an F-TEID, a Create PDR if its flags say so
unfoldable pub has_fteid : List ℕ → Bool
has_fteid row = has_tag ie.create_endpoint row || (has_tag ie.create_pdr row && not (eqb (word its.flags row) 0))

-- a test of a row's F-TEID
unfoldable pub of_fteid : (Fteid → Bool) → List ℕ → Bool
of_fteid p row = has_fteid row && p (row_fteid row)

-- the addresses of a row's F-TEID, where it has them
unfoldable pub row_ipv4 : List ℕ → List ℕ
row_ipv4 row = pick (bit 0 (word its.flags row)) (be 4 (word its.ipv4 row)) []

unfoldable pub row_ipv6 : List ℕ → List ℕ
row_ipv6 row = pick (bit 1 (word its.flags row)) (be 8 (word its.ipv6_high row) ++ be 8 (word its.ipv6_low row)) []

-- the hold that a restored F-TEID makes
unfoldable pub row_holding : List ℕ → Option Holding
row_holding row = pick (has_tag ie.create_endpoint row) (endpoint_restored (row_endpoint row)) (pick (has_tag ie.create_pdr row) (pdr_restored (row_pdr row)) none)

-- the CHOOSE of a row
unfoldable pub row_choice : List ℕ → Option Choice
row_choice row = pick (has_tag ie.create_endpoint row) (endpoint_choice (row_endpoint row)) (pick (has_tag ie.create_pdr row) (pdr_choice (row_pdr row)) none)

-- ---- addresses (02 (v))

-- a row that creates a record
unfoldable pub creates : List ℕ → Bool
creates row = has_tag ie.create_endpoint row || has_tag ie.create_pdr row

-- a test of a row's address
unfoldable pub of_address : (UeIp → Bool) → List ℕ → Bool
of_address p row = creates row && on_some p (row_ue row)

-- a CHOOSE, or else an address that is not supported
unfoldable pub of_ue_kind : Bool → List ℕ → Bool
of_ue_kind choose row = creates row && pick choose (eqb (word its.ue_kind row) 2) (ltb 2 (word its.ue_kind row))

-- an address given, of the pool, for which a test holds
unfoldable pub takes_address : Settings → (ℕ → Bool) → UeIp → Bool
takes_address s held v = on_some (λ a. in_address_pool s a && held a) (ue_address_of v)

-- an address that the map has marked
abbrev pub marked_address : Settings → List ℕ → ℕ → Bool
marked_address s words a = marked words (a - s.first_address)

-- ---- pools: of TEIDs, and of addresses

-- a number of a pool
abbrev pub in_range : ℕ → ℕ → ℕ → Bool
in_range first size n = leb first n && ltb n (first + size)

-- ---- cause 73: rules on one F-TEID

-- a TEID of the pool that the map has marked
unfoldable pub held_in : Settings → List ℕ → ℕ → Bool
held_in s words t = in_pool s t && marked words (t - s.first)

-- a restored TEID for which a test holds
unfoldable pub restores : (ℕ → Bool) → Option Holding → Bool
restores held none = false
restores held (some h) = held h.teid

-- ---- cause 73: rules on two rows

-- an ID removed, created or updated twice: two rows of one type with the same ID
unfoldable pub repeats : ℕ → ℕ → List ℕ → List ℕ → Bool
repeats tag field a b = has_tag tag a && (has_tag tag b && eqb (word field a) (word field b))

unfoldable pub same_id : List ℕ → List ℕ → Bool
same_id a b = one_of (repeats ie.remove_pdr its.pdr_id a b ∷ repeats ie.remove_endpoint its.endpoint_id a b ∷ repeats ie.create_pdr its.pdr_id a b ∷ repeats ie.create_endpoint its.endpoint_id a b ∷ repeats ie.update_pdr its.pdr_id a b ∷ [])

-- equal families and source interface
unfoldable pub alike_rows : List ℕ → List ℕ → Bool
alike_rows a b = alike_fteids (row_fteid a) (row_fteid b) && eqb (word its.source a) (word its.source b)

-- equal CHOOSE IDs with other families or source interface
unfoldable pub other_choice : List ℕ → List ℕ → Bool
other_choice a b = has_tag ie.create_pdr a && (has_tag ie.create_pdr b && not (choices_agree (row_pdr a) (row_pdr b)))

-- two restored F-TEIDs that share a TEID against the table's rule
unfoldable pub holds_apart : Option Holding → Option Holding → Bool
holds_apart none k = false
holds_apart (some h) none = false
holds_apart (some h) (some k) = not (agree h k)

unfoldable pub other_hold : List ℕ → List ℕ → Bool
other_hold a b = holds_apart (row_holding a) (row_holding b)

unfoldable pub disagree : List ℕ → List ℕ → Bool
disagree a b = one_of (same_id a b ∷ other_choice a b ∷ other_hold a b ∷ [])

-- ---- cause 75: TEIDs needed

-- the CHOOSE ID of a row
unfoldable pub row_choose_id : List ℕ → Option ℕ
row_choose_id row = bind_option (row_choice row) choice_id

-- two CHOOSEs with the same CHOOSE ID
unfoldable pub shares_choice : List ℕ → List ℕ → Bool
shares_choice a b = same_choice (row_choose_id a) (row_choose_id b)

-- ---- cause 75: the TEIDs that rows need (02 (xiv))

-- two restored F-TEIDs with one TEID
unfoldable pub same_teid : List ℕ → List ℕ → Bool
same_teid a b = restores (λ t. restores (λ u. eqb t u) (row_holding b)) (row_holding a)

-- a row is counted if it chooses and no later one has its CHOOSE ID, or names a TEID that no later one names
unfoldable pub counted : List ℕ → List (List ℕ) → Bool
counted row later = pick (is_some (row_choice row)) (not (any (shares_choice row) later)) (is_some (row_holding row) && not (any (same_teid row) later))

-- Which TEIDs a request's CHOOSEs get (01, "What a request does"), and which address (02 (v)).
-- Assumes nothing.
use Rattle.std.specs.Prelude.{ℕ, ◌+◌, Bool, true, false, not, ◌&&◌, List, [], ◌∷◌, ◌++◌, length, eqb}
use Rattle.std.proofs.Math.Option.{Option, none, some}
use Rattle.octets.specs.Choice.{value_or, map_option, bind_option, is_some, head_or, rest}
use Rattle.octets.specs.Lists.{distinct, find_by, keep, collect}
use Rattle.rules.specs.Model.{Settings, Tunnel, Sessions, free_teids, free_addresses}
use Rattle.rules.specs.Elements.{Fteid, given, choose}
use Rattle.rules.specs.Request.{NewPdr, NewEndpoint, Request}

-- the two kinds of record that hold TEIDs
pub data Kind : Type 0 where
  of_pdr of_endpoint : Kind

unfoldable pub same_kind : Kind → Kind → Bool
same_kind of_pdr of_pdr = true
same_kind of_pdr of_endpoint = false
same_kind of_endpoint of_pdr = false
same_kind of_endpoint of_endpoint = true

-- one CHOOSE of a request: whose it is, its families, and its CHOOSE ID if any
pub record Choice : Type 0 where
  pub kind : Kind
  pub id : ℕ
  pub v4 : Bool
  pub v6 : Bool
  pub choose_id : Option ℕ

-- one entry of 01's grants: a record's kind and ID with its F-TEID
pub record Grant : Type 0 where
  pub kind : Kind
  pub id : ℕ
  pub local : Tunnel

unfoldable pub choice_of : Kind → ℕ → Fteid → Option Choice
choice_of k i (given t a b) = none
choice_of k i (choose v4 v6 c) = some (record { kind = k; id = i; v4 = v4; v6 = v6; choose_id = c })

unfoldable pub endpoint_choice : NewEndpoint → Option Choice
endpoint_choice e = choice_of of_endpoint e.id e.local

unfoldable pub pdr_choice : NewPdr → Option Choice
pdr_choice p = bind_option p.local (choice_of of_pdr p.id)

-- the order in which TEIDs are given: endpoints in request order, then PDRs
unfoldable pub choices : Request → List Choice
choices r = collect endpoint_choice r.endpoints ++ collect pdr_choice r.pdrs

-- a CHOOSE ID that already has its TEID in this request
pub record Chosen : Type 0 where
  pub choose_id : ℕ
  pub teid : ℕ

abbrev pub chosen : Chosen → ℕ
chosen c = c.teid

unfoldable pub is_choice : ℕ → Chosen → Bool
is_choice i c = eqb c.choose_id i

-- the TEID that the CHOOSE ID has, if any
unfoldable pub chosen_teid : List Chosen → Option ℕ → Option ℕ
chosen_teid cs none = none
chosen_teid cs (some i) = map_option chosen (find_by (is_choice i) cs)

-- the CHOOSE IDs that have a TEID after t was given for the first use of one
unfoldable pub remember : List Chosen → Option ℕ → ℕ → List Chosen
remember cs none t = cs
remember cs (some i) t = record { choose_id = i; teid = t } ∷ cs

unfoldable pub grant_of : Choice → ℕ → Grant
grant_of c t = record { kind = c.kind; id = c.id; local = record { teid = t; v4 = c.v4; v6 = c.v6 } }

-- With the TEID that the CHOOSE ID has, if any: the TEID given, and what is free and known after it.
-- An equal CHOOSE ID shares its TEID; any other CHOOSE takes the next free one.
unfoldable pub teid_for : Option ℕ → List ℕ → ℕ
teid_for none free = head_or 0 free
teid_for (some t) free = t

unfoldable pub free_after : Option ℕ → List ℕ → List ℕ
free_after none free = rest free
free_after (some t) free = free

unfoldable pub chosen_after : Option ℕ → List Chosen → Option ℕ → List ℕ → List Chosen
chosen_after none cs i free = remember cs i (head_or 0 free)
chosen_after (some t) cs i free = cs

unfoldable pub grant_from : List Chosen → List ℕ → List Choice → List Grant
grant_from cs free [] = []
grant_from cs free (c ∷ more) =
    let o = chosen_teid cs c.choose_id in
    grant_of c (teid_for o free) ∷ grant_from (chosen_after o cs c.choose_id free) (free_after o free) more

-- the lowest TEIDs free at entry
unfoldable pub grants : Settings → Sessions → Request → List Grant
grants s m r = grant_from [] (free_teids s m) (choices r)

-- ---- the address (02 (v))

-- all CHOOSE IPV4 of a request share one address, the lowest that is free at entry
unfoldable pub chosen_address : Settings → Sessions → ℕ
chosen_address s m = head_or 0 (free_addresses s m)

-- ---- how many TEIDs are needed

abbrev pub choice_id : Choice → Option ℕ
choice_id c = c.choose_id

unfoldable pub is_alone : Choice → Bool
is_alone c = not (is_some c.choose_id)

-- one for each CHOOSE without an ID, and one for each different CHOOSE ID
unfoldable pub need_of : List Choice → ℕ
need_of cs = length (keep is_alone cs) + distinct (collect choice_id cs)

unfoldable pub need : Request → ℕ
need r = need_of (choices r)

-- ---- looking a grant up

abbrev pub grant_teid : Grant → ℕ
grant_teid g = g.local.teid

unfoldable pub is_grant_for : Kind → ℕ → Grant → Bool
is_grant_for k i g = same_kind k g.kind && eqb g.id i

unfoldable pub granted_teid : List Grant → Kind → ℕ → ℕ
granted_teid gs k i = value_or 0 (map_option grant_teid (find_by (is_grant_for k i) gs))

-- what a record got for its CHOOSEs
pub record Got : Type 0 where
  pub teid : ℕ
  pub address : ℕ

-- what a request's records of a kind and ID get
unfoldable pub granted : Settings → Sessions → Request → Kind → ℕ → Got
granted s m r k i = record { teid = granted_teid (grants s m r) k i; address = chosen_address s m }

unfoldable pub computing : ℕ
unfolding same_kind choice_of endpoint_choice pdr_choice choices is_choice chosen_teid remember grant_of teid_for free_after chosen_after grant_from grants chosen_address is_alone need_of need is_grant_for granted_teid granted
computing = 0

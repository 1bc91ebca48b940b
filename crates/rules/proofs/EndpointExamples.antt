-- 02 (ii) worked: removing an endpoint takes the PDRs that name it along, by computation.
-- Assumes nothing.
use mathlib.Core.Path.{◌≡◌, refl}
use Prim.Native.Nat.{ℕ, zero, suc, ◌+◌}
use mathlib.Core.Bool.{true, false}
use mathlib.Core.Option.{none, some}
use mathlib.Core.List.{List, [], ◌∷◌, ◌++◌, map}
use Rattle.octets.specs.Octets.{same_octets}
use Rattle.rules.specs.Model.{endpoint, Pdr, Endpoint, Session, Sessions, pdr_id, endpoint_id}
use Rattle.rules.specs.Layout.{encode, view_sessions}
use Rattle.rules.specs.Grants.{of_pdr}
use Rattle.rules.specs.Reply.{element}
use Rattle.rules.specs.Serve.{Served}
use Rattle.rules.specs.Live.{created_teid}
use Rattle.rules.proofs.Computing.{computing}
use Rattle.rules.proofs.CallExamples.{unit, create, remove, own, establish, modify, calls, ask, seen, seen_as}
use Rattle.rules.proofs.RestorationExamples.{endpoint_of, naming, update}

unfoldable pub remove_endpoint : ℕ → List ℕ
remove_endpoint e = element 130 (element 131 (e ∷ []))

-- a session 1 with the endpoints 3 and 4, which hold the pool of two, and PDRs that name one of them
unfoldable pub holder : ℕ → ℕ → Endpoint
holder i n = record { id = i; local = record { teid = n; v4 = true; v6 = false }; address = none }

unfoldable pub named : ℕ → ℕ → Pdr
named i e = record { id = i; precedence = 7; far = some 8; source = 1; match = endpoint e; address = none }

unfoldable pub session : List Pdr → Sessions
session ps = record { peer = 1; seid = 1; pdrs = ps; endpoints = holder 3 4096 ∷ holder 4 4097 ∷ []; csids = [] } ∷ []

-- PDRs 1 and 2 name endpoint 3, PDR 5 names endpoint 4
unfoldable pub two : List ℕ
two = encode (unit 4 2) (session (named 1 3 ∷ named 2 3 ∷ named 5 4 ∷ []))

-- a modification of it
unfoldable pub then : List ℕ → Served
then xs = ask two (modify 1 xs)

unfoldable pub alone : Served
alone = then (remove_endpoint 3)

-- the IDs of the PDRs and of the endpoints that are left in each session
unfoldable pub pdrs_left : Served → List (List ℕ)
pdrs_left r = map (λ (x : Session). map pdr_id x.pdrs) (view_sessions r.table)

unfoldable pub endpoints_left : Served → List (List ℕ)
endpoints_left r = map (λ (x : Session). map endpoint_id x.endpoints) (view_sessions r.table)

-- PDRs with these IDs that name an endpoint
unfoldable pub namings : ℕ → List ℕ → List ℕ
namings e [] = []
namings e (i ∷ is) = naming i e ++ namings e is

-- PDRs from an ID on, so many, that name an endpoint
unfoldable pub named_from : ℕ → ℕ → ℕ → List Pdr
named_from e i zero = []
named_from e i (suc n) = named i e ∷ named_from e (i + 1) n

-- 16 PDRs, of which 1 to 4 name endpoint 3
unfoldable pub sixteen : List ℕ
sixteen = encode (unit 4 2) (session (named_from 3 1 4 ++ named_from 4 5 12))

story : ℕ
unfolding computing calls seen ask endpoint_of naming update remove_endpoint holder named session two then alone pdrs_left endpoints_left namings named_from sixteen
story = 0

-- an establishment makes it
pub endpoints_two : same_octets (ask (encode (unit 4 2) []) (establish 1 (endpoint_of 3 own ++ endpoint_of 4 own ++ naming 1 3 ++ naming 2 3 ++ naming 5 4))).table two ≡ true
unfolding story
endpoints_two = refl

-- removed alone it is accepted: its PDRs go, the one that names another endpoint stays, and its TEID is free afterwards
pub removed_alone : seen alone ≡ seen_as 1 1
unfolding story
removed_alone = refl

pub removed_pdrs_go : pdrs_left alone ≡ (5 ∷ []) ∷ []
unfolding story
removed_pdrs_go = refl

pub removed_endpoint_goes : endpoints_left alone ≡ (4 ∷ []) ∷ []
unfolding story
removed_endpoint_goes = refl

pub removed_teid_free : created_teid (ask alone.table (modify 1 (create 1 own))).space of_pdr 1 ≡ 4096
unfolding story
removed_teid_free = refl

-- but not free in the same request
pub removed_teid_not_yet : seen (then (remove_endpoint 3 ++ create 6 own)) ≡ seen_as 75 0
unfolding story
removed_teid_not_yet = refl

-- naming one in Remove PDR as well is allowed, and counts once; twice it is 73
pub removed_twice_said : (then (remove 1 ++ remove_endpoint 3)).table ≡ alone.table
unfolding story
removed_twice_said = refl

pub removed_twice : seen (then (remove 1 ++ remove_endpoint 3 ++ remove 1)) ≡ seen_as 73 0
unfolding story
removed_twice = refl

-- an update of one, a created PDR that names the endpoint, a created ID that was live at entry
pub removed_updated : seen (then (remove_endpoint 3 ++ update 2)) ≡ seen_as 73 0
unfolding story
removed_updated = refl

pub removed_named : seen (then (remove_endpoint 3 ++ naming 6 3)) ≡ seen_as 73 0
unfolding story
removed_named = refl

pub removed_named_again : seen (then (remove_endpoint 3 ++ endpoint_of 3 own ++ naming 6 3)) ≡ seen_as 73 0
unfolding story
removed_named_again = refl

pub removed_created : seen (then (remove_endpoint 3 ++ naming 2 4)) ≡ seen_as 73 0
unfolding story
removed_created = refl

-- 16 live PDRs, of which four go, leave room for four
pub removed_room : seen (ask sixteen (modify 1 (remove_endpoint 3 ++ namings 4 (21 ∷ 22 ∷ 23 ∷ 24 ∷ [])))) ≡ seen_as 1 1
unfolding story
removed_room = refl

pub removed_no_room : seen (ask sixteen (modify 1 (remove_endpoint 3 ++ remove 1 ++ namings 4 (21 ∷ 22 ∷ 23 ∷ 24 ∷ 25 ∷ [])))) ≡ seen_as 75 0
unfolding story
removed_no_room = refl

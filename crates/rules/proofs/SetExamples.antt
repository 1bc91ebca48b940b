-- 02 (vii) worked: the Session Set Deletion Request, by computation.
-- Assumes nothing.
use mathlib.Core.Path.{◌≡◌, refl}
use Prim.Native.Nat.{ℕ}
use mathlib.Core.List.{List, [], ◌∷◌, ◌++◌, map}
use Rattle.octets.specs.Octets.{be, zeros}
use Rattle.rules.specs.Model.{Csid, Session, Sessions}
use Rattle.rules.specs.Layout.{encode, view_sessions}
use Rattle.rules.specs.Reply.{element, message, list_message}
use Rattle.rules.specs.Serve.{serve, Served}
use Rattle.rules.specs.Live.{replied, live_step, reply_in}
use Rattle.rules.proofs.Computing.{computing}
use Rattle.rules.proofs.CallExamples.{unit, space, calls, Told, told, told_as, outcome_of}

-- ---- the sessions: each holds one FQ-CSID

-- of a node type, with an IPv4 address that ends in a number, and a CSID
unfoldable pub held : ℕ → ℕ → ℕ → List Csid
held n a c = record { node_type = n; id_type = 0; address = 198 ∷ 51 ∷ 100 ∷ a ∷ []; csid = c } ∷ []

unfoldable pub holding : ℕ → List Csid → Session
holding i cs = record { peer = 1; seid = i; pdrs = []; endpoints = []; csids = cs }

-- 1 and 3 are of one card, 2 has its CSID on another node type, 4 on another node
unfoldable pub sessions : Sessions
sessions = holding 1 (held 1 7 5) ∷ holding 2 (held 2 7 5) ∷ holding 3 (held 1 7 5) ∷ holding 4 (held 1 8 5) ∷ []

-- ---- the requests

-- an FQ-CSID element of that node with two CSIDs, and with none
unfoldable pub lists : ℕ → ℕ → ℕ → ℕ → List ℕ
lists n a c d = element 65 (0x02 ∷ 198 ∷ 51 ∷ 100 ∷ a ∷ be 2 c ++ (be 2 d ++ n ∷ []))

unfoldable pub lists_none : List ℕ
lists_none = element 65 (zeros 5 ++ 1 ∷ [])

unfoldable pub sets : List ℕ → List ℕ
sets xs = list_message 14 (0 ∷ 0 ∷ 9 ∷ []) xs

unfoldable pub served : List ℕ → Served
served xs = serve (encode (unit 8 2) sessions) 1 (sets xs) space

unfoldable pub seid_in : Session → ℕ
seid_in x = x.seid

-- the SEIDs that are left, in the table and in the live set
unfoldable pub left : List ℕ → List ℕ
left xs = map seid_in (view_sessions (served xs).table)

unfoldable pub living : List ℕ → List ℕ
living xs = map seid_in (live_step sessions (replied 1 (sets xs) (served xs).outcome (served xs).space))

story : ℕ
unfolding computing calls told outcome_of held holding sessions lists lists_none sets served seid_in left living
story = 0

-- ---- what goes

-- no match, no FQ-CSID at all, the two of one card, and all: by two elements of one node type and one of another
pub sets_left :
    map left
    (lists 1 9 5 6
    ∷ []
    ∷ lists 1 7 6 5
    ∷ (lists 1 7 6 5 ++ (lists 1 8 5 5 ++ lists 2 7 5 0))
    ∷ [])
    ≡ (1 ∷ 2 ∷ 3 ∷ 4 ∷ []) ∷ (1 ∷ 2 ∷ 3 ∷ 4 ∷ []) ∷ (2 ∷ 4 ∷ []) ∷ [] ∷ []
unfolding story
sets_left = refl

-- the live set loses the same
pub sets_living : map living (lists 1 9 5 6 ∷ lists 1 7 6 5 ∷ (lists 1 7 6 5 ++ (lists 1 8 5 5 ++ lists 2 7 5 0)) ∷ []) ≡ (1 ∷ 2 ∷ 3 ∷ 4 ∷ []) ∷ (2 ∷ 4 ∷ []) ∷ [] ∷ []
unfolding story
sets_living = refl

-- ---- what is refused: all or none

-- no CSID (69), null length (68) behind an FQ-CSID that matches, an overrun, and elements that are skipped: the first element stands at 8
pub sets_told :
    map (λ (xs : List ℕ). told (served xs)) (lists_none ∷ (lists 1 7 6 5 ++ element 65 []) ∷ (0 ∷ 65 ∷ 0 ∷ 9 ∷ []) ∷ (element 60 (0 ∷ []) ++ element 1 (1 ∷ [])) ∷ [])
    ≡ told_as 69 8 ∷ told_as 68 22 ∷ told_as 68 8 ∷ told_as 1 0 ∷ []
unfolding story
sets_told = refl

pub sets_refused_left : left (lists 1 7 6 5 ++ element 65 []) ≡ 1 ∷ 2 ∷ 3 ∷ 4 ∷ []
unfolding story
sets_refused_left = refl

-- ---- the header and the reply

-- with S it is malformed, and so is every other type without; 8 octets alone are answered
pub sets_outcomes :
    map outcome_of
    (serve (encode (unit 8 2) []) 1 (message 14 0 (0 ∷ 0 ∷ 9 ∷ []) []) space
    ∷ serve (encode (unit 8 2) []) 1 (list_message 15 (0 ∷ 0 ∷ 9 ∷ []) (zeros 8)) space
    ∷ serve (encode (unit 8 2) []) 1 (list_message 54 (0 ∷ 0 ∷ 9 ∷ []) (zeros 8)) space
    ∷ serve (encode (unit 8 2) []) 1 (32 ∷ 14 ∷ 0 ∷ 3 ∷ 0 ∷ 0 ∷ 9 ∷ []) space
    ∷ serve (encode (unit 8 2) []) 1 (sets []) space
    ∷ [])
    ≡ 4 ∷ 4 ∷ 4 ∷ 4 ∷ 0 ∷ []
unfolding story
sets_outcomes = refl

pub sets_reply :
    reply_in (served []).space
    ≡ 0x20 ∷ 0x0f ∷ 0x00 ∷ 0x12 ∷ 0x00 ∷ 0x00 ∷ 0x09 ∷ 0x00
    ∷ 0x00 ∷ 0x3c ∷ 0x00 ∷ 0x05 ∷ 0x00 ∷ 0xc0 ∷ 0x00 ∷ 0x02 ∷ 0x01
    ∷ 0x00 ∷ 0x13 ∷ 0x00 ∷ 0x01 ∷ 0x01 ∷ []
unfolding story
sets_reply = refl

pub sets_refusal :
    reply_in (served lists_none).space
    ≡ 0x20 ∷ 0x0f ∷ 0x00 ∷ 0x18 ∷ 0x00 ∷ 0x00 ∷ 0x09 ∷ 0x00
    ∷ 0x00 ∷ 0x3c ∷ 0x00 ∷ 0x05 ∷ 0x00 ∷ 0xc0 ∷ 0x00 ∷ 0x02 ∷ 0x01
    ∷ 0x00 ∷ 0x13 ∷ 0x00 ∷ 0x01 ∷ 0x45 ∷ 0x00 ∷ 0x28 ∷ 0x00 ∷ 0x02 ∷ 0x00 ∷ 0x41 ∷ []
unfolding story
sets_refusal = refl

-- ---- a deletion's FQ-CSID is skipped, but framed

unfoldable pub deletes : List ℕ → Told
deletes xs = told (serve (encode (unit 8 2) sessions) 1 (message 54 1 (0 ∷ 0 ∷ 9 ∷ []) xs) space)

pub sets_skipped : map deletes (lists_none ∷ element 65 [] ∷ (0 ∷ 65 ∷ 0 ∷ 9 ∷ []) ∷ []) ≡ told_as 1 0 ∷ told_as 1 0 ∷ told_as 68 16 ∷ []
unfolding story deletes
sets_skipped = refl

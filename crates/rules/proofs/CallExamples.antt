-- 01's worked calls ("Worked on paper") and errors seen, by computation.
-- Assumes nothing.
use mathlib.Core.Path.{◌≡◌, refl}
use Prim.Native.Nat.{ℕ}
use mathlib.Core.List.{List, [], ◌∷◌, ◌++◌, map}
use Rattle.octets.specs.Octets.{be, zeros}
use Rattle.rules.specs.Model.{Settings}
use Rattle.rules.specs.Layout.{encode}
use Rattle.rules.specs.Sound.{Count, free, count_free}
use Rattle.rules.specs.Grants.{of_pdr}
use Rattle.rules.specs.Reply.{element, message}
use Rattle.rules.specs.Serve.{serve, Served}
use Rattle.rules.specs.Live.{reply_cause, created_teid, reply_in}
use Rattle.rules.proofs.Computing.{computing}

-- ---- the calls

-- the unit of the examples: 192.0.2.1, no IPv6, room for k sessions, a pool of n TEIDs from 4096 on, and the two addresses 10.0.0.1 and 10.0.0.2;
-- its peers at 192.0.2.1 and 192.0.2.2, with no guarantee and no limit but the pool. What follows is of peer 1.
unfoldable pub unit : ℕ → ℕ → Settings
unit k n =
    record {
      ipv4 = 192 ∷ 0 ∷ 2 ∷ 1 ∷ [];
      ipv6 = [];
      first = 4096;
      size = n;
      first_address = 167772161;
      address_count = 2;
      limit = k;
      peer1 = record { address = 3221225985; guarantee = 0; limit = n };
      peer2 = record { address = 3221225986; guarantee = 0; limit = n };
    }

unfoldable pub space : List ℕ
space = zeros 1280

-- the peer's F-SEID, with an IPv4 address
unfoldable pub fseid : ℕ → List ℕ
fseid n = element 57 (0x02 ∷ be 8 n ++ 198 ∷ 51 ∷ 100 ∷ 1 ∷ [])

-- a Create PDR: ID, precedence 100, source interface 0 and an F-TEID value
unfoldable pub create : ℕ → List ℕ → List ℕ
create i v = element 1 (element 56 (be 2 i) ++ element 29 (be 4 100) ++ element 2 (element 20 (0 ∷ []) ++ element 21 v))

unfoldable pub remove : ℕ → List ℕ
remove i = element 15 (element 56 (be 2 i))

-- CHOOSE IPv4, without a CHOOSE ID and with one
unfoldable pub own : List ℕ
own = 0x05 ∷ []

unfoldable pub with_id : ℕ → List ℕ
with_id i = 0x0d ∷ i ∷ []

unfoldable pub establish : ℕ → List ℕ → List ℕ
establish n xs = message 50 0 (0 ∷ 0 ∷ 1 ∷ []) (fseid n ++ xs)

unfoldable pub modify : ℕ → List ℕ → List ℕ
modify n xs = message 52 n (0 ∷ 0 ∷ 2 ∷ []) xs

unfoldable pub delete : ℕ → List ℕ
delete n = message 54 n (0 ∷ 0 ∷ 1 ∷ []) []

unfoldable pub calls : ℕ
unfolding unit space fseid create remove own with_id establish modify delete
calls = 0

-- ---- whole replies, at the product's table

pub unknown_deletion :
    serve (encode (unit 64 2) []) 1 (delete 9) space
    ≡ record {
      outcome = 0;
      place = 0;
      space =
          0x21 ∷ 0x37 ∷ 0x00 ∷ 0x11 ∷ 0x00 ∷ 0x00 ∷ 0x00 ∷ 0x00 ∷ 0x00 ∷ 0x00 ∷ 0x00 ∷ 0x00 ∷ 0x00 ∷ 0x00 ∷ 0x01 ∷ 0x00 ∷ 0x00 ∷ 0x13 ∷ 0x00 ∷ 0x01
          ∷ 0x41 ∷ zeros 1259;
      table = encode (unit 64 2) [];
    }
unfolding computing calls
unknown_deletion = refl

pub first_establishment :
    reply_in (serve (encode (unit 64 4096) []) 1 (establish 1 (create 1 own)) space).space
    ≡ 0x21 ∷ 0x33 ∷ 0x00 ∷ 0x42 ∷ 0x00 ∷ 0x00 ∷ 0x00 ∷ 0x00 ∷ 0x00 ∷ 0x00 ∷ 0x00 ∷ 0x01 ∷ 0x00 ∷ 0x00 ∷ 0x01 ∷ 0x00
    ∷ 0x00 ∷ 0x3c ∷ 0x00 ∷ 0x05 ∷ 0x00 ∷ 0xc0 ∷ 0x00 ∷ 0x02 ∷ 0x01
    ∷ 0x00 ∷ 0x13 ∷ 0x00 ∷ 0x01 ∷ 0x01
    ∷ 0x00 ∷ 0x39 ∷ 0x00 ∷ 0x0d ∷ 0x02 ∷ 0x00 ∷ 0x00 ∷ 0x00 ∷ 0x00 ∷ 0x00 ∷ 0x00 ∷ 0x00 ∷ 0x01 ∷ 0xc0 ∷ 0x00 ∷ 0x02 ∷ 0x01
    ∷ 0x00 ∷ 0x08 ∷ 0x00 ∷ 0x13 ∷ 0x00 ∷ 0x38 ∷ 0x00 ∷ 0x02 ∷ 0x00 ∷ 0x01
    ∷ 0x00 ∷ 0x15 ∷ 0x00 ∷ 0x09 ∷ 0x01 ∷ 0x00 ∷ 0x00 ∷ 0x10 ∷ 0x00 ∷ 0xc0 ∷ 0x00 ∷ 0x02 ∷ 0x01 ∷ []
unfolding computing calls
first_establishment = refl

-- ---- the outcomes, each with the ones after it due as well; nothing is written

unfoldable pub outcome_of : Served → ℕ
outcome_of r = r.outcome

pub outcomes :
    map outcome_of
    (serve (zeros 1270) 1 (zeros 2049) (zeros 1279)
    ∷ serve (encode (unit 4 2) []) 1 (zeros 2049) (zeros 1279)
    ∷ serve (encode (unit 4 2) []) 1 (zeros 2049) (zeros 1280)
    ∷ serve (encode (unit 4 2) []) 1 (zeros 2048) (zeros 1280)
    ∷ serve (encode (unit 4 2) []) 1 (message 56 1 (0 ∷ 0 ∷ 1 ∷ []) []) (zeros 1280)
    ∷ serve (encode (unit 4 2) []) 1 (message 54 1 (0 ∷ 0 ∷ 1 ∷ []) []) (zeros 1280)
    ∷ [])
    ≡ 1 ∷ 2 ∷ 3 ∷ 4 ∷ 5 ∷ 0 ∷ []
unfolding computing calls outcome_of
outcomes = refl

-- ---- the pool of 4096 and 4097

-- what the host sees after calls: the outcome, the reply's cause, and the free count
pub record Seen : Type 0 where
  pub outcome : ℕ
  pub cause : ℕ
  pub left : Count

unfoldable pub seen : Served → Seen
seen r = record { outcome = r.outcome; cause = reply_cause r.space; left = count_free r.table }

-- a request on a table with two session slots for its peer
unfoldable pub ask : List ℕ → List ℕ → Served
ask t msg = serve t 1 msg space

-- PDRs 1 and 2 with CHOOSE ID 7, PDR 3 without
unfoldable pub three : Served
three = ask (encode (unit 4 2) []) (establish 1 (create 1 (with_id 7) ++ create 2 (with_id 7) ++ create 3 own))

unfoldable pub removed1 : Served
removed1 = ask three.table (modify 1 (remove 1))

unfoldable pub removed2 : Served
removed2 = ask removed1.table (modify 1 (remove 2))

-- the TEIDs in the Created PDRs 1, 2 and 3
unfoldable pub teids : Served → List ℕ
teids r = map (created_teid r.space of_pdr) (1 ∷ 2 ∷ 3 ∷ [])

story : ℕ
unfolding computing calls seen ask three removed1 removed2 teids
story = 0

abbrev pub seen_as : ℕ → ℕ → Seen
seen_as c n = record { outcome = 0; cause = c; left = free n }

pub pool_shared : teids three ≡ 4096 ∷ 4096 ∷ 4097 ∷ []
unfolding story
pool_shared = refl

pub pool_full : seen three ≡ seen_as 1 0
unfolding story
pool_full = refl

-- another session's CHOOSE
pub pool_other : seen (ask three.table (establish 2 (create 1 own))) ≡ seen_as 75 0
unfolding story
pool_other = refl

-- removing PDR 1 keeps 4096, removing PDR 2 too frees it
pub pool_kept : seen removed1 ≡ seen_as 1 0
unfolding story
pool_kept = refl

pub pool_freed : seen removed2 ≡ seen_as 1 1
unfolding story
pool_freed = refl

-- a TEID freed by a request is not free in it; the refusal leaves the table as it was
pub pool_same_request : (ask three.table (modify 1 (remove 3 ++ create 4 own))).table ≡ three.table
unfolding story
pool_same_request = refl

pub pool_same_request_cause : seen (ask three.table (modify 1 (remove 3 ++ create 4 own))) ≡ seen_as 75 0
unfolding story
pool_same_request_cause = refl

-- ---- errors we have seen

-- a CHOOSE ID is not remembered: the next request's ID 9 gets a TEID of its own
unfoldable pub first9 : Served
first9 = ask (encode (unit 4 3) []) (establish 1 (create 1 (with_id 9)))

pub choose_id_forgotten : created_teid (ask first9.table (modify 1 (create 2 (with_id 9)))).space of_pdr 2 ≡ 4097
unfolding story first9
choose_id_forgotten = refl

-- ---- where the fault is (02 iv)

-- the reply's cause, and the place beside the outcome
pub record Told : Type 0 where
  pub cause : ℕ
  pub place : ℕ

unfoldable pub told : Served → Told
told r = record { cause = reply_cause r.space; place = r.place }

-- a Create PDR: its PDR ID and precedence, and then a PDI with this value
unfoldable pub create_with : List ℕ → List ℕ
create_with v = element 1 (element 56 (be 2 1) ++ element 29 (be 4 100) ++ element 2 v)

-- an establishment's F-SEID takes octets 16 to 32, its Create PDR starts at 33, that PDR's PDI at 51
unfoldable pub establishing : List ℕ → Told
establishing v = told (ask (encode (unit 4 2) []) (establish 1 (create_with v)))

abbrev pub told_as : ℕ → ℕ → Told
told_as c p = record { cause = c; place = p }

pub places_of_faults :
    map establishing
    (element 20 (0 ∷ [])  -- no fault
    ∷ (element 20 (0 ∷ []) ++ element 21 (0x04 ∷ []))  -- wrong flags of the F-TEID in the PDI: its own place
    ∷ (element 20 (0 ∷ []) ++ element 20 (0 ∷ []))  -- a repeat: the second one
    ∷ element 21 own  -- a PDI without its Source Interface: the PDI's place
    ∷ (element 20 (0 ∷ []) ++ (0 ∷ 21 ∷ 0 ∷ []))  -- under 4 octets left in the PDI: the PDI's place
    ∷ (element 20 (0 ∷ []) ++ (0 ∷ 21 ∷ 0 ∷ 9 ∷ 1 ∷ []))  -- an overrun in the PDI: the element's place
    ∷ [])
    ≡ told_as 1 0 ∷ told_as 69 60 ∷ told_as 69 60 ∷ told_as 66 51 ∷ told_as 68 51 ∷ told_as 68 60 ∷ []
unfolding computing calls ask told create_with establishing
places_of_faults = refl

-- what the message itself lacks is at place 0, what a group lacks at the group's
pub places_of_missing :
    map told
    (ask (encode (unit 4 2) []) (establish 1 [])
    ∷ ask (encode (unit 4 2) []) (establish 1 (element 1 (element 56 (be 2 1))))
    ∷ ask (encode (unit 4 2) []) (establish 1 (0 ∷ 1 ∷ 0 ∷ []))
    ∷ ask (encode (unit 4 2) []) (delete 9)
    ∷ [])
    ≡ told_as 66 0 ∷ told_as 66 33 ∷ told_as 68 0 ∷ told_as 65 0 ∷ []
unfolding computing calls ask told
places_of_missing = refl

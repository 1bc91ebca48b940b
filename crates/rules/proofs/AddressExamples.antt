-- 02 (v) worked: patients' IPv4 addresses, by computation. The accident in new clothes: an address that is freed with the first of its two
-- holders, and one that is remembered into the next request.
-- Assumes nothing.
use mathlib.Core.Path.{◌≡◌, refl}
use Prim.Native.Nat.{ℕ}
use mathlib.Core.Option.{Option, some}
use mathlib.Core.List.{List, [], ◌∷◌, ◌++◌, map}
use Rattle.octets.specs.Octets.{be}
use Rattle.rules.specs.Model.{Pdr, Session}
use Rattle.rules.specs.Layout.{encode, view_sessions}
use Rattle.rules.specs.Sound.{Count, free, count_addresses}
use Rattle.rules.specs.Grants.{of_pdr, of_endpoint}
use Rattle.rules.specs.Reply.{element, message}
use Rattle.rules.specs.Serve.{Served}
use Rattle.rules.specs.Live.{reply_cause, created_address}
use Rattle.rules.proofs.Computing.{computing}
use Rattle.rules.proofs.CallExamples.{unit, fseid, create, remove, own, establish, modify, calls, ask}

-- the unit's two addresses, 10.0.0.1 and 10.0.0.2, and one of another's
abbrev low : ℕ
low = 167772161

abbrev high : ℕ
high = 167772162

abbrev other : ℕ
other = 167772170

-- a Create PDR whose PDI holds a UE IP Address value and no F-TEID
unfoldable pub create_ip : ℕ → List ℕ → List ℕ
create_ip i v = element 1 (element 56 (be 2 i) ++ element 29 (be 4 100) ++ element 2 (element 20 (0 ∷ []) ++ element 93 v))

-- a Create Traffic Endpoint with CHOOSE for both
unfoldable pub endpoint_ip : ℕ → List ℕ → List ℕ
endpoint_ip i v = element 127 (element 131 (i ∷ []) ++ element 21 own ++ element 93 v)

-- CHOOSE IPV4; an address
unfoldable pub any : List ℕ
any = 0x10 ∷ []

unfoldable pub ip : ℕ → List ℕ
ip a = 0x02 ∷ be 4 a

unfoldable pub restore : ℕ → List ℕ → List ℕ
restore n xs = message 50 0 (0 ∷ 0 ∷ 1 ∷ []) (fseid n ++ (element 186 (1 ∷ []) ++ xs))

-- what the host sees of a call: the reply's cause, and the addresses that are free afterwards
pub record Left : Type 0 where
  pub cause : ℕ
  pub addresses : Count

unfoldable pub left : Served → Left
left r = record { cause = reply_cause r.space; addresses = count_addresses r.table }

abbrev pub left_as : ℕ → ℕ → Left
left_as c n = record { cause = c; addresses = free n }

-- the addresses of the PDRs in the table, session by session
unfoldable pub addresses : Served → List (List (Option ℕ))
addresses r = map (λ (x : Session). map (λ (p : Pdr). p.address) x.pdrs) (view_sessions r.table)

-- PDRs 1 and 2 of session 1 choose in one request, and share the lowest
unfoldable pub shared : Served
shared = ask (encode (unit 4 2) []) (establish 1 (create_ip 1 any ++ create_ip 2 any))

-- then PDR 1 is removed, then PDR 2
unfoldable pub first : Served
first = ask shared.table (modify 1 (remove 1))

unfoldable pub last : Served
last = ask first.table (modify 1 (remove 2))

story : ℕ
unfolding computing calls ask create_ip endpoint_ip any ip restore left addresses shared first last
story = 0

-- ---- one address for all CHOOSEs of a request, the lowest

pub address_shared : addresses shared ≡ (some low ∷ some low ∷ []) ∷ []
unfolding story
address_shared = refl

pub address_reported : map (created_address shared.space of_pdr) (1 ∷ 2 ∷ []) ≡ low ∷ low ∷ []
unfolding story
address_reported = refl

pub address_counted : left shared ≡ left_as 1 1
unfolding story
address_counted = refl

-- an endpoint's Created group lists both that it chose
pub endpoint_both : created_address (ask (encode (unit 4 2) []) (establish 1 (endpoint_ip 3 any ++ create_ip 1 any))).space of_endpoint 3 ≡ low
unfolding story
endpoint_both = refl

-- ---- the accident: not freed with the first of two holders

pub kept_by_second : left first ≡ left_as 1 1
unfolding story
kept_by_second = refl

-- another session gets the next one while PDR 2 holds it, and it itself once PDR 2 is gone
pub other_while_held : created_address (ask first.table (establish 2 (create_ip 1 any))).space of_pdr 1 ≡ high
unfolding story
other_while_held = refl

pub freed_with_last : left last ≡ left_as 1 2
unfolding story
freed_with_last = refl

pub other_once_free : created_address (ask last.table (establish 2 (create_ip 1 any))).space of_pdr 1 ≡ low
unfolding story
other_once_free = refl

-- ---- the accident: not remembered into the next request

pub not_remembered : created_address (ask shared.table (modify 1 (create_ip 3 any))).space of_pdr 3 ≡ high
unfolding story
not_remembered = refl

-- an address freed by a request is not free in it: 79 if it was the last, and the table stays
unfoldable pub full : Served
full = ask shared.table (establish 2 (create_ip 1 any))

pub freed_not_yet : left (ask full.table (modify 2 (remove 1 ++ create_ip 2 any))) ≡ left_as 79 0
unfolding story full
freed_not_yet = refl

-- ---- the causes

pub address_causes :
    map left
    (ask shared.table (establish 2 (create_ip 1 (ip low)))  -- given inside the pool
    ∷ ask shared.table (modify 1 (create_ip 3 (ip low)))  -- also where the session itself holds it
    ∷ ask shared.table (establish 2 (create_ip 1 (ip other)))  -- outside it
    ∷ ask shared.table (restore 2 (create_ip 1 (ip low)))  -- restored, held by another session
    ∷ ask shared.table (restore 2 (create_ip 1 (ip high) ++ create_ip 2 (ip high)))  -- restored, free
    ∷ ask shared.table (restore 2 (create_ip 1 any))  -- CHOOSE in a restoration
    ∷ ask shared.table (establish 2 (create_ip 1 (0x01 ∷ []) ++ create_ip 2 (ip low)))  -- not supported, before 73
    ∷ ask shared.table (establish 2 (create_ip 1 (0x12 ∷ [])))  -- both flags
    ∷ ask shared.table (establish 2 (create_ip 1 []))  -- empty
    ∷ ask shared.table (establish 2 (element 1 (element 56 (be 2 1) ++ element 29 (be 4 100) ++ element 2 (element 20 (0 ∷ []) ++ element 93 any ++ element 93 []))))  -- twice
    ∷ [])
    ≡ left_as 73 1 ∷ left_as 73 1 ∷ left_as 1 1 ∷ left_as 73 1 ∷ left_as 1 0 ∷ left_as 73 1 ∷ left_as 76 1 ∷ left_as 69 1 ∷ left_as 68 1 ∷ left_as 69 1 ∷ []
unfolding story
address_causes = refl

-- no TEID and no address free: 75 comes before 79
pub room_before : left (ask (ask full.table (modify 1 (create 3 own ++ create 4 own))).table (modify 1 (create_ip 5 any ++ create 6 own))) ≡ left_as 75 0
unfolding story full
room_before = refl

-- two sessions hold an address outside the pool
pub outside_twice : left (ask (ask (encode (unit 4 2) []) (establish 1 (create_ip 1 (ip other)))).table (establish 2 (create_ip 1 (ip other)))) ≡ left_as 1 2
unfolding story
outside_twice = refl

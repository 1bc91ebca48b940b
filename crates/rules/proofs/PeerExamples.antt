-- 02 (xiv), "Two control planes, each with its due", by computation: sessions by peer, half the limit each, TEIDs by what each is due.
-- Assumes nothing.
use mathlib.Core.Path.{◌≡◌, refl}
use Prim.Native.Nat.{ℕ}
use mathlib.Core.Bool.{true, false}
use mathlib.Core.List.{List, [], ◌∷◌, ◌++◌, map}
use Rattle.octets.specs.Octets.{zeros, same_octets}
use Rattle.rules.specs.Model.{Settings, Session, Sessions}
use Rattle.rules.specs.Layout.{encode, view_sessions}
use Rattle.rules.specs.Sound.{settings_allowed, sound}
use Rattle.rules.specs.Reply.{element, list_message}
use Rattle.rules.specs.Serve.{serve, Served}
use Rattle.rules.specs.Live.{Event, replied, counted, reply_cause, reply_in}
use Rattle.rules.specs.Calls.{Call, request, events_of, table_after_all}
use Rattle.rules.specs.Claim.{Restore, restore_calls}
use Rattle.rules.specs.Finding.{count_peer}
use Rattle.rules.proofs.Computing.{computing}
use Rattle.rules.proofs.RestorationExamples.{turned}
use Rattle.rules.proofs.CallExamples.{unit, space, calls, create, own, establish, modify, delete}

-- room for k sessions, n TEIDs, and for each peer what it is guaranteed and its limit
unfoldable pub shared : ℕ → ℕ → ℕ → ℕ → ℕ → ℕ → Settings
shared k n g l g' l' =
    record {
      ipv4 = 192 ∷ 0 ∷ 2 ∷ 1 ∷ [];
      ipv6 = [];
      first = 4096;
      size = n;
      first_address = 167772161;
      address_count = 2;
      limit = k;
      peer1 = record { address = 3221225985; guarantee = g; limit = l };
      peer2 = record { address = 3221225986; guarantee = g'; limit = l' };
    }

-- what calls of the two get, and the sessions that are left: peer and SEID
unfoldable pub causes : List Event → List ℕ
causes [] = []
causes (replied who msg outcome reply ∷ es) = reply_cause reply ∷ causes es
causes (counted ∷ es) = causes es

unfoldable pub names : Sessions → List ℕ
names [] = []
names (x ∷ m) = x.peer ∷ x.seid ∷ names m

unfoldable pub says : ℕ → List ℕ → Call
says who msg = request who msg space

unfoldable pub got : Settings → List Call → List ℕ
got s cs = causes (events_of (encode s []) cs)

unfoldable pub left : Settings → List Call → List ℕ
left s cs = names (view_sessions (table_after_all (encode s []) cs))

story : ℕ
unfolding computing calls shared causes names says got left
story = 0

-- ---- whose sessions

-- one SEID lives on both; another's session is no such session; what is deleted is the peer's own
unfoldable pub alike : List Call
alike =
    says 1 (establish 7 (create 1 own))
    ∷ says 2 (establish 7 (create 1 own))
    ∷ says 1 (establish 7 (create 1 own))
    ∷ says 2 (delete 8)
    ∷ says 2 (delete 7)
    ∷ says 2 (delete 7)
    ∷ says 1 (modify 7 (create 2 own))
    ∷ []

pub alike_got : got (shared 4 4 0 4 0 4) alike ≡ 1 ∷ 1 ∷ 64 ∷ 65 ∷ 1 ∷ 65 ∷ 1 ∷ []
unfolding story alike
alike_got = refl

pub alike_left : left (shared 4 4 0 4 0 4) alike ≡ 1 ∷ 7 ∷ []
unfolding story alike
alike_left = refl

-- a set deletion takes out the peer's own matches alone
unfoldable pub marked : ℕ → ℕ → Session
marked who n = record { peer = who; seid = n; pdrs = []; endpoints = []; csids = record { node_type = 1; id_type = 0; address = 198 ∷ 51 ∷ 100 ∷ 7 ∷ []; csid = 5 } ∷ [] }

unfoldable pub cards : ℕ → List ℕ
cards who = names (view_sessions (serve (encode (unit 4 2) (marked 1 5 ∷ marked 2 5 ∷ marked 2 6 ∷ [])) who (list_message 14 (0 ∷ 0 ∷ 9 ∷ []) (element 65 (0x01 ∷ 198 ∷ 51 ∷ 100 ∷ 7 ∷ 0 ∷ 5 ∷ 1 ∷ []))) space).table)

pub cards_left : map cards (1 ∷ 2 ∷ []) ≡ (2 ∷ 5 ∷ 2 ∷ 6 ∷ []) ∷ (1 ∷ 5 ∷ []) ∷ []
unfolding story marked cards
cards_left = refl

-- any other number is outcome 7, before a broken table and too little space
pub strangers :
    map (λ (r : Served). r.outcome) (serve (zeros 3) 0 (delete 1) [] ∷ serve (encode (unit 4 2) []) 3 (delete 1) space ∷ serve (zeros 3) 1 (delete 1) [] ∷ [])
    ≡ 7 ∷ 7 ∷ 1 ∷ []
unfolding story
strangers = refl

-- the reply names the unit by the peer's signalling address, in Node ID and F-SEID; the F-TEID has the unit's own
pub second_reply :
    reply_in (serve (encode (shared 4 4 0 4 0 4) []) 2 (establish 7 (create 1 own)) space).space
    ≡ 0x21 ∷ 0x33 ∷ 0x00 ∷ 0x42 ∷ 0x00 ∷ 0x00 ∷ 0x00 ∷ 0x00 ∷ 0x00 ∷ 0x00 ∷ 0x00 ∷ 0x07 ∷ 0x00 ∷ 0x00 ∷ 0x01 ∷ 0x00
    ∷ 0x00 ∷ 0x3c ∷ 0x00 ∷ 0x05 ∷ 0x00 ∷ 0xc0 ∷ 0x00 ∷ 0x02 ∷ 0x02
    ∷ 0x00 ∷ 0x13 ∷ 0x00 ∷ 0x01 ∷ 0x01
    ∷ 0x00 ∷ 0x39 ∷ 0x00 ∷ 0x0d ∷ 0x02 ∷ 0x00 ∷ 0x00 ∷ 0x00 ∷ 0x00 ∷ 0x00 ∷ 0x00 ∷ 0x00 ∷ 0x07 ∷ 0xc0 ∷ 0x00 ∷ 0x02 ∷ 0x02
    ∷ 0x00 ∷ 0x08 ∷ 0x00 ∷ 0x13 ∷ 0x00 ∷ 0x38 ∷ 0x00 ∷ 0x02 ∷ 0x00 ∷ 0x01
    ∷ 0x00 ∷ 0x15 ∷ 0x00 ∷ 0x09 ∷ 0x01 ∷ 0x00 ∷ 0x00 ∷ 0x10 ∷ 0x00 ∷ 0xc0 ∷ 0x00 ∷ 0x02 ∷ 0x01 ∷ []
unfolding story
second_reply = refl

-- ---- half the sessions each, rounded down

unfoldable pub crowd : List Call
crowd =
    says 1 (establish 1 (create 1 own))
    ∷ says 1 (establish 2 (create 1 own))
    ∷ says 2 (establish 1 (create 1 own))
    ∷ says 2 (establish 2 (create 1 own))
    ∷ []

pub crowd_got : got (shared 3 4 0 4 0 4) crowd ≡ 1 ∷ 75 ∷ 1 ∷ 75 ∷ []
unfolding story crowd
crowd_got = refl

pub crowd_left : left (shared 3 4 0 4 0 4) crowd ≡ 1 ∷ 1 ∷ 2 ∷ 1 ∷ []
unfolding story crowd
crowd_left = refl

-- ---- TEIDs

-- of four TEIDs two are kept for peer 2: peer 1's third need is 75 with two free, and peer 2's two are not
unfoldable pub dues : List Call
dues =
    says 1 (establish 1 (create 1 own))
    ∷ says 1 (establish 2 (create 1 own))
    ∷ says 1 (establish 3 (create 1 own))
    ∷ says 2 (establish 1 (create 1 own ++ create 2 own))
    ∷ says 2 (establish 2 (create 1 own))
    ∷ []

pub dues_got : got (shared 8 4 1 3 2 4) dues ≡ 1 ∷ 1 ∷ 75 ∷ 1 ∷ 75 ∷ []
unfolding story dues
dues_got = refl

-- a pool of eight, three guaranteed to each, limits of eight and five: peer 1 takes five and is refused the sixth, peer 2 still gets its three under the same
-- SEID, and then the pool is empty
unfoldable pub eight : List Call
eight =
    says 1 (establish 1 (create 1 own ++ create 2 own ++ create 3 own ++ create 4 own ++ create 5 own))
    ∷ says 1 (establish 2 (create 1 own))
    ∷ says 2 (establish 1 (create 1 own ++ create 2 own ++ create 3 own))
    ∷ says 2 (establish 2 (create 1 own))
    ∷ []

unfoldable pub eight_table : List ℕ
eight_table = table_after_all (encode (shared 4 8 3 8 3 5) []) eight

pub eight_got : got (shared 4 8 3 8 3 5) eight ≡ 1 ∷ 75 ∷ 1 ∷ 75 ∷ []
unfolding story eight
eight_got = refl

pub eight_left : left (shared 4 8 3 8 3 5) eight ≡ 1 ∷ 1 ∷ 2 ∷ 1 ∷ []
unfolding story eight
eight_left = refl

pub eight_counted : map (count_peer eight_table) (1 ∷ 2 ∷ []) ≡ record { outcome = 0; sessions = 1; teids = 5 } ∷ record { outcome = 0; sessions = 1; teids = 3 } ∷ []
unfolding story eight eight_table
eight_counted = refl

-- restored in either order, it is the same table
unfoldable pub again : Session → Restore
again x = record { session = x; sender = record { header = 0; sequence = 1; ipv4 = 198 ∷ 51 ∷ 100 ∷ 9 ∷ []; ipv6 = [] }; space = space }

unfoldable pub back : Sessions → List Call
back m = restore_calls (shared 4 8 3 8 3 5) (map again m)

pub eight_back : same_octets (table_after_all (encode (shared 4 8 3 8 3 5) []) (back (view_sessions eight_table))) eight_table ≡ true
unfolding story eight eight_table again back
eight_back = refl

pub eight_turned : same_octets (table_after_all (encode (shared 4 8 3 8 3 5) []) (back (turned (view_sessions eight_table)))) eight_table ≡ true
unfolding story eight eight_table again turned back
eight_turned = refl

-- a restoration needs the TEIDs that it names: five are more than a limit of four, and more than a guarantee of four leaves of the eight
unfoldable pub needing : Settings → List ℕ
needing s = got s (restore_calls s (map again (view_sessions eight_table)))

pub needing_got : map needing (shared 4 8 3 4 3 5 ∷ shared 4 8 3 8 4 5 ∷ shared 4 8 4 5 3 3 ∷ []) ≡ (75 ∷ 1 ∷ []) ∷ (75 ∷ 1 ∷ []) ∷ (1 ∷ 1 ∷ []) ∷ []
unfolding story eight eight_table again needing
needing_got = refl

-- a limit of two, with two more free
unfoldable pub limited : List Call
limited =
    says 1 (establish 1 (create 1 own ++ create 2 own))
    ∷ says 1 (establish 2 (create 1 own))
    ∷ says 2 (establish 2 (create 1 own))
    ∷ []

pub limited_got : got (shared 8 4 0 2 0 4) limited ≡ 1 ∷ 75 ∷ 1 ∷ []
unfolding story limited
limited_got = refl

-- ---- settings

-- a guarantee above its limit, a limit above the pool, guarantees that pass it together, and one address for both are refused
pub peers_allowed :
    map settings_allowed
    (shared 2 4 2 4 2 4
    ∷ shared 2 4 0 0 0 0
    ∷ shared 2 4 3 2 0 4
    ∷ shared 2 4 0 5 0 4
    ∷ shared 2 4 3 4 2 4
    ∷ shared 1 4 0 4 0 4
    ∷ record { ipv4 = zeros 4; ipv6 = []; first = 1; size = 4; first_address = 0; address_count = 1; limit = 2; peer1 = record { address = 9; guarantee = 0; limit = 4 }; peer2 = record { address = 9; guarantee = 0; limit = 4 } }
    ∷ [])
    ≡ true ∷ true ∷ false ∷ false ∷ false ∷ false ∷ false ∷ []
unfolding story
peers_allowed = refl

-- ---- tables

unfoldable pub empty : ℕ → ℕ → Session
empty who n = record { peer = who; seid = n; pdrs = []; endpoints = []; csids = [] }

-- in order of peer, then SEID; not the other way round, not with a third peer, and not past a peer's half
pub orders :
    map (λ (m : Sessions). sound (encode (unit 4 2) m))
    ((empty 1 5 ∷ empty 2 5 ∷ [])
    ∷ (empty 1 5 ∷ empty 1 6 ∷ empty 2 3 ∷ [])
    ∷ (empty 2 3 ∷ empty 1 5 ∷ [])
    ∷ (empty 2 5 ∷ empty 3 5 ∷ [])
    ∷ (empty 1 5 ∷ empty 1 6 ∷ empty 1 7 ∷ [])
    ∷ [])
    ≡ true ∷ true ∷ false ∷ false ∷ false ∷ []
unfolding story empty
orders = refl

-- A session beside others: it shares no TEID, no address and no SEID with them, and so may be put among them.
-- Assumes nothing.
use mathlib.Core.Path.{◌≡◌, refl, ap, ◌∙◌}
use Prim.Native.Nat.{ℕ, ◌+◌, ◌-◌, ◌≤◌, zero-le}
use native.Mathlib.Omega.{arith}
use mathlib.Core.Bool.{Bool, false, not}
use mathlib.Core.List.{[], ◌∷◌}
use lib.Dec.{T, eqb}
use Rattle.octets.specs.Choice.{pick, is_some}
use Rattle.octets.specs.Lists.{distinct, any_in, all, all_pairs, keep, find_by, ascending, insert_by}
use Rattle.octets.proofs.Tests.{pick_yes, pick_no, both, and_left, and_right, all_head, all_tail, all_cons}
use Rattle.octets.proofs.Ordered.{other_key, insert_all_lem, insert_pairs, insert_ascending}
use Rattle.octets.proofs.ListLaws.{all_imply}
use Rattle.rules.specs.Model.{Settings, Session, Sessions, session_key, session_teids, held_teids, session_addresses, held_addresses, of_peer, holdings, unused, other_peer, peer_of}
use Rattle.rules.specs.Sound.{settings_allowed, session_allowed, apart, due, sessions_allowed}
use Rattle.laws.proofs.KeptRules.{sessions_kept, sessions_allowed_lem}
use Rattle.laws.proofs.PeerLaws.{peer_cases, guarantees_fit, PeersKept, peers_keep}
use Rattle.rules.specs.Stages.{has_key, session_of, is_live}
use Rattle.rules.specs.Apply.{other_session, remove_session, put_session}
use Rattle.invariants.proofs.HeldLaws.{turn_eqb, disjoint_turn, apart_held, apart_addresses_held}

pub apart_turn : (s : Settings) (x y : Session) → T (apart s x y) → T (apart s y x)
unfolding apart
apart_turn s x y h =
    let a = not (any_in (session_teids x) (session_teids y)) in
    let b = not (any_in (session_addresses s x) (session_addresses s y)) in
    both (not (any_in (session_teids y) (session_teids x))) (not (any_in (session_addresses s y) (session_addresses s x)))
    (disjoint_turn (session_teids x) (session_teids y) (and_left a b h)) (disjoint_turn (session_addresses s x) (session_addresses s y) (and_right a b h))

-- what two sessions that are apart have not in common
pub apart_teids_lem : (s : Settings) (x y : Session) → T (apart s x y) → T (not (any_in (session_teids x) (session_teids y)))
unfolding apart
apart_teids_lem s x y h = and_left (not (any_in (session_teids x) (session_teids y))) (not (any_in (session_addresses s x) (session_addresses s y))) h

pub apart_addresses_lem : (s : Settings) (x y : Session) → T (apart s x y) → T (not (any_in (session_addresses s x) (session_addresses s y)))
unfolding apart
apart_addresses_lem s x y h = and_right (not (any_in (session_teids x) (session_teids y))) (not (any_in (session_addresses s x) (session_addresses s y))) h

pub other_seid_turn : (x y : Session) → T (other_key session_key x y) → T (other_key session_key y x)
other_seid_turn x y h = turn_eqb (session_key x) (session_key y) h

-- no TEID in common with any session
pub separate_all : (s : Settings) (x : Session) (m : Sessions) → T (all (apart s x) m) → T (not (any_in (session_teids x) (held_teids m)))
separate_all s x m h = apart_held (session_teids x) m (all_imply (apart s x) (λ z. not (any_in (session_teids x) (session_teids z))) (apart_teids_lem s x) m h)

-- and no address of the pool
pub separate_addresses : (s : Settings) (x : Session) (m : Sessions) → T (all (apart s x) m) → T (not (any_in (session_addresses s x) (held_addresses s m)))
separate_addresses s x m h =
    apart_addresses_held s (session_addresses s x) m (all_imply (apart s x) (λ z. not (any_in (session_addresses s x) (session_addresses s z))) (apart_addresses_lem s x) m h)

pub fresh_seid : (x : Session) (m : Sessions) → T (all (other_key session_key x) m) → is_live (session_key x) m ≡ false
unfolding is_live session_of find_by has_key
fresh_seid x [] h = refl
fresh_seid x (y ∷ m) h =
    ap is_some (pick_no (eqb (session_key y) (session_key x)) _ _ (turn_eqb (session_key x) (session_key y) (all_head (other_key session_key x) y m h)))
    ∙ fresh_seid x m (all_tail (other_key session_key x) y m h)

remove_none : (x : Session) (m : Sessions) → T (all (other_key session_key x) m) → remove_session (session_key x) m ≡ m
unfolding remove_session keep other_session has_key
remove_none x [] h = refl
remove_none x (y ∷ m) h =
    pick_yes (not (eqb (session_key y) (session_key x))) _ _ (turn_eqb (session_key x) (session_key y) (all_head (other_key session_key x) y m h))
    ∙ ap (λ (n : Sessions). y ∷ n) (remove_none x m (all_tail (other_key session_key x) y m h))

pub put_fresh : (x : Session) (m : Sessions) → T (all (other_key session_key x) m) → put_session x m ≡ insert_by session_key x m
unfolding put_session
put_fresh x m h = ap (insert_by session_key x) (remove_none x m h)

turn_all : (r : Session → Session → Bool) → ((x y : Session) → T (r x y) → T (r y x)) → (x : Session) (m : Sessions) → T (all (r x) m) → T (all (λ y. r y x) m)
unfolding all
turn_all r turn x [] h = tt
turn_all r turn x (y ∷ m) h = all_cons (λ z. r z x) y m (turn x y (all_head (r x) y m h)) (turn_all r turn x m (all_tail (r x) y m h))

-- one more session beside others that are apart
pub insert_apart : (s : Settings) (x : Session) (m : Sessions) → T (all (apart s x) m) → T (all_pairs (apart s) m) → T (all_pairs (apart s) (insert_by session_key x m))
insert_apart s x m sep h = insert_pairs session_key (apart s) x m sep (turn_all (apart s) (apart_turn s) x m sep) h

-- one more session keeps the rules, if both peers have what is theirs then
pub insert_allowed : (s : Settings) (x : Session) (m : Sessions) → T (sessions_allowed s m) → T (session_allowed s x)
    → T (all (other_key session_key x) m) → T (all (apart s x) m) → PeersKept s (insert_by session_key x m) → T (sessions_allowed s (insert_by session_key x m))
insert_allowed s x m hm hx other sep room =
    let e = sessions_kept s m hm in
    sessions_allowed_lem (record {
      peers = peers_keep s (insert_by session_key x m) room;
      order = insert_ascending session_key x m other e.order;
      sessions = insert_all_lem session_key (session_allowed s) x m hx e.sessions;
      separate = insert_apart s x m sep e.separate;
    })

-- an empty table keeps the rules
empty_kept : (s : Settings) → T (settings_allowed s) → PeersKept s []
unfolding of_peer keep holdings held_teids distinct due unused other_peer peer_of
empty_kept s hs =
    let g = guarantees_fit s hs in
    record {
      sessions = λ who h. zero-le;
      teids = λ who h. zero-le;
      pool = peer_cases (λ (who : ℕ). 0 + ((pick (eqb who 1) s.peer1 s.peer2).guarantee - 0) + (0 + ((pick (eqb (pick (eqb who 1) 2 1) 1) s.peer1 s.peer2).guarantee - 0)) ≤ s.size) (omega arith) (omega arith);
    }

pub empty_allowed : (s : Settings) → T (settings_allowed s) → T (sessions_allowed s [])
unfolding ascending all all_pairs
empty_allowed s hs = sessions_allowed_lem (record { peers = peers_keep s [] (empty_kept s hs); order = tt; sessions = tt; separate = tt })

-- Bounds of a request's CHOOSEs, and of the TEIDs that they are granted.
-- Assumes nothing.
use mathlib.Core.Path.{◌≡◌, refl, ap}
use Prim.Native.Nat.{ℕ, zero, suc, ◌+◌, ◌^◌, ◌≤◌, zero-le, suc-le-suc}
use native.Mathlib.Nat.{le_trans}
use native.Mathlib.Omega.{arith}
use mathlib.Core.Bool.{Bool, true, false, ◌&&◌, ◌||◌}
use mathlib.Core.Option.{Option, none, some}
use mathlib.Core.List.{List, [], ◌∷◌}
use lib.ListN.{length, length-append}
use lib.Dec.{T, ltb, ltb→lt, lt→ltb, lit≤}
use lib.Pow.{are_bytes}
use Rattle.octets.specs.Choice.{value_or, map_option, bind_option, cons_option, head_or, rest}
use Rattle.octets.specs.Lists.{member, all, find_by, collect, range, without}
use Rattle.octets.proofs.Tests.{pick_either, both, and_right, all_head, all_tail, all_cons}
use Rattle.octets.proofs.ListLaws.{Every, OnSome, every_append, every_collect}
use Rattle.rules.specs.Model.{Settings, Sessions, held_teids, free_teids, held_addresses, free_addresses}
use Rattle.rules.specs.Elements.{Fteid, given, choose, choose_id_of}
use Rattle.rules.specs.Sound.{settings_allowed}
use Rattle.rules.specs.Reading.{read_request}
use Rattle.rules.specs.Request.{NewPdr, NewEndpoint, Request}
use Rattle.rules.specs.Grants.{Kind, of_pdr, of_endpoint, same_kind, Choice, Chosen, Grant, choice_of, endpoint_choice, pdr_choice, choices, chosen, is_choice, chosen_teid, remember, grant_of, teid_for, free_after, chosen_after, grant_from, grants, chosen_address, grant_teid, granted_teid}
use Rattle.laws.proofs.TableLaws.{pool_fits, address_pool_fits}
use Rattle.laws.proofs.ReadLaws.{FteidRead}
use Rattle.laws.proofs.RequestLaws.{PdrRead, EndpointRead, request_read}

-- ---- choices

-- a CHOOSE that was read: a CHOOSE ID is one octet, and so is an endpoint's ID
pub record ChoiceRead (c : Choice) : Type 0 where
  pub id : T (ltb c.id (256 ^ 2))
  pub octet : OnSome (λ i. T (ltb i 256)) c.choose_id
  pub endpoint_id : T (same_kind of_pdr c.kind || ltb c.id 256)

choice_read : (k : Kind) (i : ℕ) (e : Bool) (v : Fteid) → T (ltb i (256 ^ 2)) → T (same_kind of_pdr k || ltb i 256) → FteidRead e v → OnSome ChoiceRead (choice_of k i v)
unfolding choice_of choose_id_of
choice_read k i e (given t a b) h g f = tt
choice_read k i e (choose v4 v6 c) h g f = record { id = h; octet = f.octet; endpoint_id = g }

pdr_choice_lem : (p : NewPdr) → PdrRead p → OnSome ChoiceRead (pdr_choice p)
unfolding pdr_choice same_kind
pdr_choice_lem p h = one p.local h.local
  where
    one : (o : Option Fteid) → OnSome (FteidRead false) o → OnSome ChoiceRead (bind_option o (choice_of of_pdr p.id))
    one none k = tt
    one (some v) k = choice_read of_pdr p.id false v h.id tt k

endpoint_choice_lem : (e : NewEndpoint) → EndpointRead e → OnSome ChoiceRead (endpoint_choice e)
unfolding endpoint_choice same_kind
endpoint_choice_lem e h = choice_read of_endpoint e.id true e.local (lt→ltb e.id (256 ^ 2) (le_trans (ltb→lt e.id 256 h.id) (lit≤ tt))) h.id h.local

-- every CHOOSE of a request
pub choices_read : (msg : List ℕ) → T (are_bytes msg) → Every ChoiceRead (choices (read_request msg))
unfolding choices
choices_read msg h =
    every_append ChoiceRead (collect endpoint_choice (read_request msg).endpoints) (collect pdr_choice (read_request msg).pdrs)
    (every_collect endpoint_choice EndpointRead ChoiceRead endpoint_choice_lem (read_request msg).endpoints (request_read msg h).endpoints)
    (every_collect pdr_choice PdrRead ChoiceRead pdr_choice_lem (read_request msg).pdrs (request_read msg h).pdrs)

-- ---- grants

abbrev pub grant_fits : Grant → Bool
grant_fits g = ltb g.id (256 ^ 2) && ltb g.local.teid (256 ^ 4)

-- a TEID or an IPv4 address has four octets
abbrev pub four_octets : ℕ → Bool
four_octets t = ltb t (256 ^ 4)

abbrev chosen_fits : Chosen → Bool
chosen_fits c = ltb c.teid (256 ^ 4)

head_fits : (free : List ℕ) → T (all four_octets free) → T (four_octets (head_or 0 free))
head_fits [] h = tt
head_fits (t ∷ ts) h = all_head four_octets t ts h

rest_fits : (free : List ℕ) → T (all four_octets free) → T (all four_octets (rest free))
unfolding all
rest_fits [] h = tt
rest_fits (t ∷ ts) h = all_tail four_octets t ts h

known_fits : (cs : List Chosen) (i : ℕ) → T (all chosen_fits cs) → T (four_octets (value_or 0 (map_option chosen (find_by (is_choice i) cs))))
unfolding find_by
known_fits [] i h = tt
known_fits (c ∷ cs) i h =
    pick_either (λ (o : Option Chosen). T (four_octets (value_or 0 (map_option chosen o)))) (is_choice i c) (some c) (find_by (is_choice i) cs)
    (all_head chosen_fits c cs h) (known_fits cs i (all_tail chosen_fits c cs h))

-- the TEID that is given, by what the CHOOSE ID has
given_fits : (o : Option ℕ) (free : List ℕ) → T (four_octets (value_or 0 o)) → T (all four_octets free) → T (four_octets (teid_for o free))
unfolding teid_for
given_fits none free k h = head_fits free h
given_fits (some t) free k h = k

after_fits : (o : Option ℕ) (free : List ℕ) → T (all four_octets free) → T (all four_octets (free_after o free))
unfolding free_after
after_fits none free h = rest_fits free h
after_fits (some t) free h = h

remembered_fits : (o : Option ℕ) (cs : List Chosen) (i : Option ℕ) (free : List ℕ) → T (all chosen_fits cs) → T (all four_octets free) → T (all chosen_fits (chosen_after o cs i free))
unfolding chosen_after remember
remembered_fits none cs none free h k = h
remembered_fits none cs (some i) free h k = all_cons chosen_fits (record { choose_id = i; teid = head_or 0 free }) cs (head_fits free k) h
remembered_fits (some t) cs i free h k = h

chosen_fits_lem : (cs : List Chosen) (i : Option ℕ) → T (all chosen_fits cs) → T (four_octets (value_or 0 (chosen_teid cs i)))
unfolding chosen_teid
chosen_fits_lem cs none h = tt
chosen_fits_lem cs (some i) h = known_fits cs i h

grants_fit_from : (cs : List Chosen) (free : List ℕ) (l : List Choice) → T (all chosen_fits cs) → T (all four_octets free) → Every ChoiceRead l → T (all grant_fits (grant_from cs free l))
unfolding grant_from grant_of all
grants_fit_from cs free [] hc hf hl = tt
grants_fit_from cs free (c ∷ l) hc hf hl =
    let o = chosen_teid cs c.choose_id in
    all_cons grant_fits (grant_of c (teid_for o free)) (grant_from (chosen_after o cs c.choose_id free) (free_after o free) l)
    (both (ltb c.id (256 ^ 2)) (four_octets (teid_for o free)) hl.0.id (given_fits o free (chosen_fits_lem cs c.choose_id hc) hf))
    (grants_fit_from (chosen_after o cs c.choose_id free) (free_after o free) l (remembered_fits o cs c.choose_id free hc hf) (after_fits o free hf) hl.1)

pub grants_length : (cs : List Chosen) (free : List ℕ) (l : List Choice) → length (grant_from cs free l) ≡ length l
unfolding grant_from
grants_length cs free [] = refl
grants_length cs free (c ∷ l) = let o = chosen_teid cs c.choose_id in ap suc (grants_length (chosen_after o cs c.choose_id free) (free_after o free) l)

-- ---- the grants of a request

range_fits : (x n : ℕ) → x + n ≤ 256 ^ 4 → T (all four_octets (range x n))
unfolding all range
range_fits x zero h = tt
range_fits x (suc n) h = all_cons four_octets x (range (x + 1) n) (lt→ltb x (256 ^ 4) (omega arith)) (range_fits (x + 1) n (omega arith))

without_fits : (xs ys : List ℕ) → T (all four_octets xs) → T (all four_octets (without xs ys))
unfolding all without
without_fits [] ys h = tt
without_fits (x ∷ xs) ys h =
    let k = without_fits xs ys (all_tail four_octets x xs h) in
    pick_either (λ (l : List ℕ). T (all four_octets l)) (member x ys) (without xs ys) (x ∷ without xs ys) k (all_cons four_octets x (without xs ys) (all_head four_octets x xs h) k)

collect_short : {A B : Type 0} (f : A → Option B) (xs : List A) → length (collect f xs) ≤ length xs
unfolding collect
collect_short f [] = zero-le
collect_short {B} f (x ∷ xs) = one (f x) (collect_short f xs)
  where
    one : (o : Option B) → length (collect f xs) ≤ length xs → length (cons_option o (collect f xs)) ≤ suc (length xs)
    one none h = omega arith
    one (some b) h = suc-le-suc h

pub choices_few : (r : Request) → length r.pdrs ≤ 16 → length r.endpoints ≤ 8 → length (choices r) ≤ 24
unfolding choices
choices_few r hp he =
    let b = length-append (collect endpoint_choice r.endpoints) (collect pdr_choice r.pdrs) in
    let c = collect_short endpoint_choice r.endpoints in
    let d = collect_short pdr_choice r.pdrs in
    omega arith

module _ (s : Settings) (hs : T (settings_allowed s)) (m : Sessions) (msg : List ℕ) (h : T (are_bytes msg)) where
  pub grants_fit : T (all grant_fits (grants s m (read_request msg)))
  unfolding grants choices free_teids
  grants_fit =
      grants_fit_from [] (free_teids s m) (choices (read_request msg)) (unfold all in tt)
      (without_fits (range s.first s.size) (held_teids m) (range_fits s.first s.size (pool_fits s hs)))
      (choices_read msg h)

-- ---- what the records of a request get

found_fits : (q : Grant → Bool) (gs : List Grant) → T (all grant_fits gs) → T (four_octets (value_or 0 (map_option grant_teid (find_by q gs))))
unfolding find_by
found_fits q [] h = tt
found_fits q (g ∷ gs) h =
    pick_either (λ (o : Option Grant). T (four_octets (value_or 0 (map_option grant_teid o)))) (q g) (some g) (find_by q gs)
    (and_right (ltb g.id (256 ^ 2)) (ltb g.local.teid (256 ^ 4)) (all_head grant_fits g gs h)) (found_fits q gs (all_tail grant_fits g gs h))

module _ (s : Settings) (hs : T (settings_allowed s)) (m : Sessions) where
  -- the address that is chosen
  pub chosen_address_fits : T (four_octets (chosen_address s m))
  unfolding chosen_address free_addresses
  chosen_address_fits =
      head_fits (free_addresses s m) (without_fits (range s.first_address s.address_count) (held_addresses s m) (range_fits s.first_address s.address_count (address_pool_fits s hs)))

  module _ (msg : List ℕ) (h : T (are_bytes msg)) where
    -- the TEIDs
    pub granted_teid_fits : (k : Kind) (i : ℕ) → T (four_octets (granted_teid (grants s m (read_request msg)) k i))
    unfolding granted_teid
    granted_teid_fits k i = found_fits _ (grants s m (read_request msg)) (grants_fit s hs m msg h)

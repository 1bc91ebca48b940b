-- The free TEIDs are just those of the pool that no record holds, and there are as many as 01's free count says.
-- Assumes nothing.
use mathlib.Core.Path.{◌≡◌, sym, subst}
use Prim.Native.Nat.{ℕ}
use mathlib.Core.Bool.{true, not}
use mathlib.Core.List.{[], ◌∷◌, ◌++◌, map}
use lib.ListN.{length}
use lib.Dec.{T, ltb, eqb}
use Rattle.octets.specs.Choice.{map_option}
use Rattle.octets.specs.Lists.{member, all, all_pairs, collect}
use Rattle.octets.proofs.Tests.{all_head, all_tail}
use Rattle.octets.proofs.ListLaws.{on_some, all_imply, all_append, all_map, all_collect}
use Rattle.laws.proofs.RangeLaws.{unheld_there, unheld_ascends, unheld_once, unheld_count}
use Rattle.rules.specs.Model.{Settings, Match, neither, tunnel, endpoint, Pdr, Endpoint, Session, Sessions, teid_of, matched_tunnel, tunnel_holding, pdr_holding, endpoint_holding, session_holdings, session_teids, held_teids, free_count, free_teids, endpoint_id}
use Rattle.rules.specs.Sound.{in_pool, match_allowed, pdr_allowed, endpoint_allowed, session_allowed, sessions_allowed}
use Rattle.laws.proofs.KeptRules.{tunnel_kept, endpoint_kept, pdr_kept, session_kept, sessions_kept}

-- ---- what is free

module _ (s : Settings) (m : Sessions) where
  -- a TEID of the pool that no record holds is free
  pub free_there : (t : ℕ) → T (in_pool s t) → T (not (member t (held_teids m))) → T (member t (free_teids s m))
  unfolding free_teids in_pool
  free_there t h g = unheld_there s.first s.size (held_teids m) t h g

  -- the free TEIDs ascend
  pub free_ascends : T (all_pairs (λ a b. ltb a b) (free_teids s m))
  unfolding free_teids
  free_ascends = unheld_ascends s.first s.size (held_teids m)

  -- none is free twice
  pub free_once : T (all_pairs (λ a b. not (eqb a b)) (free_teids s m))
  unfolding free_teids
  free_once = unheld_once s.first s.size (held_teids m)

-- ---- what is held is in the pool

-- every TEID of a session's records
session_pool : (s : Settings) (x : Session) → T (session_allowed s x) → T (all (in_pool s) (session_teids x))
unfolding session_teids session_holdings pdr_holding
session_pool s x h =
    let k = (session_kept s x h).records in
    subst T (sym (all_map teid_of (in_pool s) (map endpoint_holding x.endpoints ++ collect pdr_holding x.pdrs)))
    (all_append (λ g. in_pool s g.teid) (map endpoint_holding x.endpoints) (collect pdr_holding x.pdrs)
    (subst T (sym (all_map endpoint_holding (λ g. in_pool s g.teid) x.endpoints))
    (all_imply (endpoint_allowed s) (λ e. in_pool s (endpoint_holding e).teid) of_endpoint x.endpoints k.endpoints))
    (subst T (sym (all_collect pdr_holding (λ g. in_pool s g.teid) x.pdrs))
    (all_imply (pdr_allowed s (map endpoint_id x.endpoints)) (λ p. on_some (λ g. in_pool s g.teid) (pdr_holding p)) of_pdr x.pdrs k.pdrs)))
  where
    of_endpoint : (e : Endpoint) → T (endpoint_allowed s e) → T (in_pool s (endpoint_holding e).teid)
    of_endpoint e g = unfold endpoint_holding tunnel_holding in (tunnel_kept s e.local (endpoint_kept s e g).local).pool

    matched : (a : ℕ) (q : Match) → T (match_allowed s (map endpoint_id x.endpoints) q) → T (on_some (λ g. in_pool s g.teid) (map_option (tunnel_holding true a) (matched_tunnel q)))
    matched a neither g = unfold matched_tunnel in tt
    matched a (tunnel t) g = unfold matched_tunnel match_allowed tunnel_holding in (tunnel_kept s t g).pool
    matched a (endpoint e) g = unfold matched_tunnel in tt

    of_pdr : (p : Pdr) → T (pdr_allowed s (map endpoint_id x.endpoints) p) → T (on_some (λ g. in_pool s g.teid) (pdr_holding p))
    of_pdr p g = matched p.source p.match (pdr_kept s (map endpoint_id x.endpoints) p g).match

-- every held TEID is in the pool
pub held_in_pool : (s : Settings) (m : Sessions) → T (sessions_allowed s m) → T (all (in_pool s) (held_teids m))
unfolding held_teids all
held_in_pool s m h = go m (sessions_kept s m h).sessions
  where
    go : (l : Sessions) → T (all (session_allowed s) l) → T (all (in_pool s) (held_teids l))
    go [] g = tt
    go (x ∷ l) g = all_append (in_pool s) (session_teids x) (held_teids l) (session_pool s x (all_head (session_allowed s) x l g)) (go l (all_tail (session_allowed s) x l g))

-- ---- how many are free

-- in a table that is not broken there are as many free TEIDs as the free count says
pub free_count_lem : (s : Settings) (m : Sessions) → T (sessions_allowed s m) → length (free_teids s m) ≡ free_count s m
unfolding free_teids free_count in_pool
free_count_lem s m h = unheld_count s.first s.size (held_teids m) (held_in_pool s m h)

-- The walk over one session's records: endpoints first, then PDRs.
-- Assumes nothing.
use Rattle.std.proofs.Common.{◌≡◌, ℕ, ◌-◌, not, ◌&&◌, T, List, [], ◌∷◌, map}
use Rattle.octets.specs.Lists.{all, collect}
use Rattle.rules.specs.Model.{Endpoint, Session, teid_of, tunnel_holding, pdr_holding, endpoint_holding, session_holdings}
use Rattle.rules.specs.Sound.{marked}
use Rattle.pool.specs.Map.{mark, marks, offsets}
use Rattle.marking.specs.Walk.{session_marks}
use Rattle.marking.proofs.RecordWalk.{unshared, marks_split, marks_own}

endpoints_unshared : (es : List Endpoint) → T (all unshared (map endpoint_holding es))
unfolding all endpoint_holding tunnel_holding
endpoints_unshared [] = tt
endpoints_unshared (e ∷ es) = endpoints_unshared es

pub session_split : (first : ℕ) (ws : List ℕ) (x : Session)
    → session_marks first ws [] (session_holdings x)
    ≡ (session_marks first ws [] (map endpoint_holding x.endpoints)
    && session_marks first (marks ws (offsets first (map teid_of (map endpoint_holding x.endpoints)))) [] (collect pdr_holding x.pdrs))
unfolding session_holdings
session_split first ws x = marks_split first ws (map endpoint_holding x.endpoints) (collect pdr_holding x.pdrs) (endpoints_unshared x.endpoints)

-- an endpoint's TEID has to be new
pub endpoint_step : (first : ℕ) (ws : List ℕ) (e : Endpoint) (es : List Endpoint)
    → session_marks first ws [] (map endpoint_holding (e ∷ es))
    ≡ (not (marked ws (e.local.teid - first)) && session_marks first (mark ws (e.local.teid - first)) [] (map endpoint_holding es))
unfolding endpoint_holding tunnel_holding
endpoint_step first ws e es = marks_own first ws (endpoint_holding e) (map endpoint_holding es) tt

-- Sessions and tables without PDRs' precedences and FAR IDs (02 (xiii)): sessions agree in all but these fields where they are equal without them,
-- and tables differ at most in these fields where their octets are equal with these fields blank.
-- Assumes nothing.
use Rattle.std.specs.Prelude.{◌≡◌, ℕ, zero, suc, ◌-◌, List, ◌++◌, map, take, drop}
use Rattle.std.proofs.Math.Option.{none}
use Rattle.octets.specs.Octets.{put, zeros}
use Rattle.rules.specs.Model.{Pdr, Session, Sessions}
use Rattle.rules.specs.Limits.{max_pdrs}
use Rattle.rules.specs.Layout.{pdr_width, precedence_at, source_at, pdrs_at, session_width, head_width, view_settings}
use Rattle.rules.specs.Apply.{pdr_with}

-- ---- records

-- precedence 0 and no FAR ID, and all else as it is
abbrev pub bare_pdr : Pdr → Pdr
bare_pdr p = pdr_with 0 none p

abbrev pub bare_session : Session → Session
bare_session x = record { peer = x.peer; seid = x.seid; pdrs = map bare_pdr x.pdrs; endpoints = x.endpoints; csids = x.csids }

abbrev pub bare : Sessions → Sessions
bare m = map bare_session m

-- the sessions agree in all but PDRs' precedences and FAR IDs
abbrev pub Alike : Sessions → Sessions → Type 0
Alike m n = bare m ≡ bare n

-- ---- octets

-- something done to each of n parts of w octets, from the front; what stands after them stays
unfoldable pub each_part : (List ℕ → List ℕ) → ℕ → ℕ → List ℕ → List ℕ
each_part f w zero xs = xs
each_part f w (suc n) xs = f (take w xs) ++ each_part f w n (drop w xs)

-- a PDR's slot with 0 in its precedence, in whether there is a FAR ID and in the FAR ID, which stand one after the other
unfoldable pub blank_pdr : List ℕ → List ℕ
blank_pdr xs = put precedence_at (zeros (source_at - precedence_at)) xs

-- in every PDR's slot of a session's
unfoldable pub blank_session : List ℕ → List ℕ
blank_session xs = take pdrs_at xs ++ each_part blank_pdr pdr_width max_pdrs (drop pdrs_at xs)

-- in every session's slot of a table
unfoldable pub blank_table : List ℕ → List ℕ
blank_table t = take head_width t ++ each_part blank_session session_width (view_settings t).limit (drop head_width t)

unfoldable pub computing : ℕ
unfolding each_part blank_pdr blank_session blank_table
computing = 0

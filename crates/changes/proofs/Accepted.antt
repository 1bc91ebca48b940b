-- What an accepted request gives the building of its session: every check has passed, so the plan's rows and the session at entry are ready.
-- Assumes nothing.
use mathlib.Core.Path.{◌≡◌, refl, sym, ap, ◌∙◌, subst}
use mathlib.Core.Bool.{Bool, not}
use mathlib.Core.List.{List, [], ◌∷◌, map}
use Prim.Native.Nat.{ℕ, ◌+◌, ◌-◌, ◌≤◌}
use native.Mathlib.Omega.{arith}
use lib.Dec.{T}
use lib.ListN.{length, length-map}
use Rattle.octets.specs.Lists.{any_in, has_repeat, all, keep}
use Rattle.rules.specs.Model.{Settings, Session, Sessions, pdr_id, endpoint_id}
use Rattle.rules.specs.Message.{kind_of}
use Rattle.rules.specs.Reading.{read_request}
use Rattle.rules.specs.Request.{Request}
use Rattle.rules.specs.Grants.{Kind, Got, granted}
use Rattle.rules.specs.Stages.{entry_session, new_pdr_id, new_endpoint_id, created_pdrs, created_endpoints, live_pdrs, live_endpoints, removed_pdrs}
use Rattle.rules.specs.Apply.{made_pdr, made_endpoint, kept_pdr, kept_endpoint}
use Rattle.plan.specs.Rows.{tagged, row_endpoint_id, row_pdr, row_endpoint, request_in}
use Rattle.rules.specs.Types as ie
use Rattle.invariants.proofs.VerdictLaws.{Passed}
use Rattle.laws.proofs.KeptRequest.{RulesKept, RoomLeft}
use Rattle.invariants.proofs.InsertLaws.{removed_length}
use Rattle.invariants.proofs.RemovedPdrs.{removed_few}
use Rattle.octets.proofs.MemberLaws.{all_in_lem}
use Rattle.session.proofs.RowRecords.{pdr_of, endpoint_of}
use Rattle.session.proofs.Passes.{endpoint_row, pdr_row, csid_row}
use Rattle.session.proofs.Built.{Ready}
use Rattle.changes.specs.Answers.{OnlyNull}

-- the rows' fields fit the octets that they get
pub record RowsFit (rows : List (List ℕ)) : Type 0 where
  pub endpoint_rows : T (all endpoint_row (tagged ie.create_endpoint rows))
  pub pdr_rows : T (all pdr_row (tagged ie.create_pdr rows))
  pub csid_rows : T (all csid_row (tagged ie.fqcsid rows))

-- the TEID and address words of the rows hold what was granted
pub record GotStored (got : Kind → ℕ → Got) (rows : List (List ℕ)) : Type 0 where
  pub endpoint_got : map (made_endpoint got) (map row_endpoint (tagged ie.create_endpoint rows)) ≡ map endpoint_of (tagged ie.create_endpoint rows)
  pub pdr_got : map (made_pdr got) (map row_pdr (tagged ie.create_pdr rows)) ≡ map pdr_of (tagged ie.create_pdr rows)

endpoint_ids_lem : (qs : List (List ℕ)) → map new_endpoint_id (map row_endpoint qs) ≡ map endpoint_id (map endpoint_of qs)
unfolding endpoint_of made_endpoint
endpoint_ids_lem [] = refl
endpoint_ids_lem (q ∷ qs) = ap (λ (l : List ℕ). (row_endpoint q).id ∷ l) (endpoint_ids_lem qs)

pdr_ids : (qs : List (List ℕ)) → map new_pdr_id (map row_pdr qs) ≡ map pdr_id (map pdr_of qs)
unfolding pdr_of made_pdr
pdr_ids [] = refl
pdr_ids (q ∷ qs) = ap (λ (l : List ℕ). (row_pdr q).id ∷ l) (pdr_ids qs)

-- records that stay, and those that are new
room_for : (old gone new a b most : ℕ) → a + gone ≤ old → old - gone + new ≤ most → b ≡ new → a + b ≤ most
room_for old gone new a b most h k e = omega arith

module _ (s : Settings) (who : ℕ) (m : Sessions) (msg : List ℕ) (p : Passed s who m msg) (seid : ℕ) (restoring noted : Bool) (rows : List (List ℕ))
    (means : read_request msg ≡ request_in seid restoring noted rows) (gone : List ℕ) (away : gone ≡ removed_pdrs (read_request msg) (entry_session who m msg).pdrs) where
  abbrev x : Session
  x = entry_session who m msg

  abbrev r : Request
  r = request_in seid restoring noted rows

  rules : RulesKept s m x r
  rules = subst (λ (q : Request). RulesKept s m x q) means p.rules

  room : RoomLeft (kind_of msg) s who m x r
  room = subst (λ (q : Request). RoomLeft (kind_of msg) s who m x q) means p.room

  endpoint_room_lem : length (keep (kept_endpoint (map row_endpoint_id (tagged ie.remove_endpoint rows))) x.endpoints) + length (tagged ie.create_endpoint rows) ≤ 8
  unfolding kept_endpoint request_in
  endpoint_room_lem =
      room_for (length x.endpoints) (length r.gone_endpoints) (length r.endpoints) (length (keep (kept_endpoint r.gone_endpoints) x.endpoints)) (length (tagged ie.create_endpoint rows)) 8
      (removed_length endpoint_id r.gone_endpoints x.endpoints rules.gone_endpoints_once (all_in_lem r.gone_endpoints (map endpoint_id x.endpoints) (unfold live_endpoints in rules.gone_endpoints_live)))
      room.endpoints (sym (length-map (tagged ie.create_endpoint rows) row_endpoint))

  away_rows : removed_pdrs r x.pdrs ≡ gone
  away_rows = ap (λ (q : Request). removed_pdrs q x.pdrs) (sym means) ∙ sym away

  pdr_room_lem : length (keep (kept_pdr gone) x.pdrs) + length (tagged ie.create_pdr rows) ≤ 16
  unfolding kept_pdr request_in
  pdr_room_lem =
      subst (λ (g : List ℕ). length (keep (kept_pdr g) x.pdrs) + length (tagged ie.create_pdr rows) ≤ 16) away_rows
      (room_for (length x.pdrs) (length (removed_pdrs r x.pdrs)) (length r.pdrs) (length (keep (kept_pdr (removed_pdrs r x.pdrs)) x.pdrs)) (length (tagged ie.create_pdr rows)) 16
      (removed_few r x.pdrs) room.pdrs (sym (length-map (tagged ie.create_pdr rows) row_pdr)))

  module _ (fit : RowsFit rows) (only : OnlyNull rows) (stored : GotStored (granted s m (read_request msg)) rows) where
    pub ready : Ready (granted s m (read_request msg)) gone rows x
    ready =
        record {
          endpoint_rows = fit.endpoint_rows;
          pdr_rows = fit.pdr_rows;
          csid_rows = fit.csid_rows;
          endpoint_room = endpoint_room_lem;
          pdr_room = pdr_room_lem;
          endpoints_once = unfold created_endpoints request_in in (subst (λ (l : List ℕ). T (not (has_repeat l))) (endpoint_ids_lem (tagged ie.create_endpoint rows)) rules.created_endpoints_once);
          endpoints_new = unfold created_endpoints live_endpoints request_in in (subst (λ (l : List ℕ). T (not (any_in l (map endpoint_id x.endpoints)))) (endpoint_ids_lem (tagged ie.create_endpoint rows)) rules.created_endpoints_new);
          pdrs_once = unfold created_pdrs request_in in (subst (λ (l : List ℕ). T (not (has_repeat l))) (pdr_ids (tagged ie.create_pdr rows)) rules.created_pdrs_once);
          pdrs_new = unfold created_pdrs live_pdrs request_in in (subst (λ (l : List ℕ). T (not (any_in l (map pdr_id x.pdrs)))) (pdr_ids (tagged ie.create_pdr rows)) rules.created_pdrs_new);
          endpoint_got = stored.endpoint_got;
          pdr_got = stored.pdr_got;
          only_null = only;
        }

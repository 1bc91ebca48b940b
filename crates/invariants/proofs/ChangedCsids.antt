-- The FQ-CSIDs of a session after a request: ascending by node type, at most one each, and by their rules.
-- Assumes nothing.
use mathlib.Core.Path.{sym, subst}
use native.Mathlib.Nat.{le_trans, le_of_eq}
use mathlib.Core.List.{List, [], ◌∷◌, map}
use lib.ListN.{length, length-map}
use lib.Dec.{T, leb, ltb}
use mir.Facts.{yes_leb}
use Rattle.octets.specs.Choice.{head_or}
use Rattle.octets.specs.Lists.{ascending, all, keep}
use Rattle.octets.proofs.Ordered.{other_key, insert_all_lem, insert_ascending, keep_all, keep_passes, keep_ascending}
use Rattle.octets.proofs.ListLaws.{Every, all_imply, all_map}
use Rattle.octets.proofs.MemberLaws.{differ_turn}
use Rattle.invariants.proofs.InsertLaws.{ascending_short}
use Rattle.rules.specs.Model.{Csid, node_type_of}
use Rattle.rules.specs.Limits.{node_types}
use Rattle.rules.specs.Elements.{Fqcsid, sets, removal, node_type_kept}
use Rattle.rules.specs.Sound.{csid_allowed}
use Rattle.rules.specs.Request.{CsidChanges, cleared, changed}
use Rattle.rules.specs.Apply.{other_node, set_csid, set_csids, follow_csids}
use Rattle.laws.proofs.ReadLaws.{CsidRead}
use Rattle.laws.proofs.RequestLaws.{CsidsRead}
use Rattle.laws.proofs.KeptRules.{csid_kept, csid_allowed_lem}

-- FQ-CSIDs in order and by their rules
pub record CsidsKept (ds : List Csid) : Type 0 where
  pub order : T (ascending (map node_type_of ds))
  pub each : T (all csid_allowed ds)

-- one FQ-CSID set or removed
one_kept_lem : (c : Fqcsid) (ds : List Csid) → CsidRead c → CsidsKept ds → CsidsKept (set_csid c ds)
unfolding set_csid
one_kept_lem (removal n) ds h k = record { order = keep_ascending (other_node n) node_type_of ds k.order; each = keep_all (other_node n) csid_allowed ds k.each }
one_kept_lem (sets t a cs n) ds h k =
    record {
      order =
          insert_ascending node_type_of d (keep (other_node n) ds)
          (all_imply (other_node n) (other_key node_type_of d) (λ c g. unfold other_node in (differ_turn c.node_type n g)) (keep (other_node n) ds) (keep_passes (other_node n) ds))
          (keep_ascending (other_node n) node_type_of ds k.order);
      each =
          insert_all_lem node_type_of csid_allowed d (keep (other_node n) ds) (csid_allowed_lem {c = d} (record { node = h.node; address = h.address; csid = h.csid })) (keep_all (other_node n) csid_allowed ds k.each);
    }
  where
    d : Csid
    d = record { node_type = n; id_type = t; address = a; csid = head_or 0 cs }

-- one after the other
all_kept : (cs : List Fqcsid) (ds : List Csid) → Every CsidRead cs → CsidsKept ds → CsidsKept (set_csids cs ds)
unfolding set_csids
all_kept [] ds h k = k
all_kept (c ∷ cs) ds h k = all_kept cs (set_csid c ds) h.1 (one_kept_lem c ds h.0 k)

-- what a request's FQ-CSIDs leave
pub csids_kept : (c : CsidChanges) (ds : List Csid) → CsidsRead c → CsidsKept ds → CsidsKept (follow_csids c ds)
unfolding follow_csids
csids_kept cleared ds h k = record { order = unfold ascending in tt; each = unfold all in tt }
csids_kept (changed cs) ds h k = all_kept cs ds h k

-- there are at most as many as node types
pub csids_few_lem : (ds : List Csid) → CsidsKept ds → T (leb (length ds) node_types)
csids_few_lem ds k =
    yes_leb (le_trans (le_of_eq (sym (length-map ds node_type_of)))
    (ascending_short (map node_type_of ds) 6 k.order
    (subst T (sym (all_map node_type_of (λ n. ltb n 6) ds)) (all_imply csid_allowed (λ c. ltb c.node_type 6) (λ c h. unfold node_type_kept in (csid_kept c h).node) ds k.each))))

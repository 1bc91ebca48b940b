-- The table that an accepted establishment or modification leaves: the session that was built stands in its place.
-- Assumes nothing.
use mathlib.Core.Path.{◌≡◌, sym, ap, ◌∙◌, subst}
use mathlib.Core.Bool.{Bool, false, not}
use mathlib.Core.List.{List, [], ◌∷◌, map}
use Prim.Native.Nat.{ℕ, ◌≤◌}
use native.Mathlib.Omega.{arith}
use lib.Dec.{T, eqb, ltb, leb, leb→le, le→leb}
use lib.ListN.{length}
use Rattle.octets.specs.Octets.{octets}
use Rattle.octets.specs.Lists.{all}
use Rattle.octets.proofs.Tests.{both, all_head, all_tail, all_cons}
use Rattle.rules.specs.Limits.{max_pdrs, max_endpoints, node_types}
use Rattle.rules.specs.Model.{Settings, Session, Sessions, Pdr, Endpoint, Csid, endpoint_id, is_peer, session_key}
use Rattle.rules.specs.Elements.{node_type_kept}
use Rattle.rules.specs.Layout.{key_width, session_octets, encode}
use Rattle.rules.specs.Sound.{settings_allowed, session_allowed, sessions_allowed, pdr_allowed, endpoint_allowed, csid_allowed}
use Rattle.rules.specs.Message.{kind_of, served, deletion, set_deletion}
use Rattle.rules.specs.Reading.{read_request}
use Rattle.rules.specs.Request.{Request}
use Rattle.rules.specs.Grants.{Kind, Got, granted}
use Rattle.rules.specs.Stages.{entry_session, removed_pdrs}
use Rattle.rules.specs.Apply.{apply, put_session, follow}
use Rattle.rules.specs.Serve.{sessions_after}
use Rattle.laws.proofs.LayoutLaws.{csid_address_length, address_short}
use Rattle.invariants.proofs.VerdictLaws.{Passed}
use Rattle.laws.proofs.PeerLaws.{all_sessions}
use Rattle.laws.proofs.KeptRules.{SessionKept, pdr_kept, endpoint_kept, csid_kept}
use Rattle.invariants.proofs.Changed.{entry_sound, changed_sound}
use Rattle.invariants.proofs.After.{changed, ChangedSound, sound_after}
use Rattle.invariants.proofs.Accepting.{SoundAfter}
use Rattle.plan.specs.Rows.{request_in}
use Rattle.areas.specs.Records.{key_of}
use Rattle.areas.specs.Counted.{with_record}
use Rattle.session.specs.Areas.{table_area}
use Rattle.session.specs.Build.{built}
use Rattle.session.proofs.Slot.{Slot, pdr_fits, endpoint_fits, csid_fits}
use Rattle.session.proofs.Built.{Ready, built_session}
use Rattle.session.proofs.Saved.{good, session_saved}

pdrs_fit_lem : (s : Settings) (live : List ℕ) (ps : List Pdr) → T (all (pdr_allowed s live) ps) → T (all pdr_fits ps)
unfolding all
pdrs_fit_lem s live [] h = tt
pdrs_fit_lem s live (p ∷ ps) h = all_cons pdr_fits p ps (pdr_kept s live p (all_head (pdr_allowed s live) p ps h)).id (pdrs_fit_lem s live ps (all_tail (pdr_allowed s live) p ps h))

endpoints_fit_lem : (s : Settings) (es : List Endpoint) → T (all (endpoint_allowed s) es) → T (all endpoint_fits es)
unfolding all
endpoints_fit_lem s [] h = tt
endpoints_fit_lem s (e ∷ es) h = all_cons endpoint_fits e es (endpoint_kept s e (all_head (endpoint_allowed s) e es h)).id (endpoints_fit_lem s es (all_tail (endpoint_allowed s) e es h))

csid_fits_lem : (c : Csid) → T (csid_allowed c) → T (csid_fits c)
unfolding node_type_kept
csid_fits_lem c h =
    let l = csid_address_length c h in
    let k = address_short c.id_type in
    both (ltb c.node_type 6) (leb (length c.address) 16) (csid_kept c h).node (le→leb (length c.address) 16 (omega arith))

csids_fit_lem : (cs : List Csid) → T (all csid_allowed cs) → T (all csid_fits cs)
unfolding all
csids_fit_lem [] h = tt
csids_fit_lem (c ∷ cs) h = all_cons csid_fits c cs (csid_fits_lem c (all_head csid_allowed c cs h)) (csids_fit_lem cs (all_tail csid_allowed c cs h))

-- a slot with the octets of a session that keeps the rules
pub slot_holds_lem : (s : Settings) (x : Session) (slot : List ℕ) → SessionKept s x → slot ≡ session_octets x → Slot x slot
slot_holds_lem s x slot k e =
    record {
      octets = e;
      pdrs_fit = pdrs_fit_lem s (map endpoint_id x.endpoints) x.pdrs k.records.pdrs;
      pdrs_few = leb→le (length x.pdrs) max_pdrs k.records.few_pdrs;
      pdrs_up = k.records.pdr_order;
      endpoints_fit = endpoints_fit_lem s x.endpoints k.records.endpoints;
      endpoints_few = leb→le (length x.endpoints) max_endpoints k.records.few_endpoints;
      endpoints_up = k.records.endpoint_order;
      csids_fit = csids_fit_lem x.csids k.records.csids;
      csids_few = leb→le (length x.csids) node_types k.records.few_csids;
      csids_up = k.records.csid_order;
    }

module _ (s : Settings) (hs : T (settings_allowed s)) (who : ℕ) (hw : T (is_peer who)) (m : Sessions) (hm : T (sessions_allowed s m)) (msg : List ℕ) (ho : T (octets msg)) (hk : T (served (kind_of msg)))
    (ns : eqb (kind_of msg) set_deletion ≡ false) (p : Passed s who m msg) where
  -- an establishment or a modification
  module _ (other : eqb (kind_of msg) deletion ≡ false) where
    not_deletion : T (not (eqb (kind_of msg) deletion))
    not_deletion = subst (λ (b : Bool). T (not b)) (sym other) tt

    not_sets : T (not (eqb (kind_of msg) set_deletion))
    not_sets = subst (λ (b : Bool). T (not b)) (sym ns) tt

    abbrev got : Kind → ℕ → Got
    got = granted s m (read_request msg)

    abbrev new : Session
    new = apply got (read_request msg) (entry_session who m msg)

    after_is : sessions_after s who m msg ≡ put_session new m
    unfolding sessions_after follow entry_session
    after_is = rw (ns, other)

    new_allowed : T (session_allowed s new)
    unfolding changed ChangedSound
    new_allowed = (changed_sound s who m msg hw hs hm ho hk not_sets not_deletion p).sound

    few_after : length (put_session new m) ≤ s.limit
    unfolding SoundAfter
    few_after =
        subst (λ (n : Sessions). length n ≤ s.limit) after_is (all_sessions s (sessions_after s who m msg) (sound_after changed_sound s who m msg hw hs hm ho hk p))

    module _ (seid : ℕ) (restoring noted : Bool) (gone : List ℕ) (rows : List (List ℕ)) (slot : List ℕ) (means : read_request msg ≡ request_in seid restoring noted rows)
        (g : gone ≡ removed_pdrs (read_request msg) (entry_session who m msg).pdrs) (e : slot ≡ session_octets (entry_session who m msg)) (ready : Ready got gone rows (entry_session who m msg)) where
      is_built : built gone rows slot ≡ session_octets new
      is_built =
          let holds = slot_holds_lem s (entry_session who m msg) slot (entry_sound s who m msg hw hm ho not_sets p).kept e in
          let g' : gone ≡ removed_pdrs (request_in seid restoring noted rows) (entry_session who m msg).pdrs = g ∙ ap (λ (q : Request). removed_pdrs q (entry_session who m msg).pdrs) means in
          (built_session got gone rows holds ready seid restoring noted g').octets ∙ ap (λ (q : Request). session_octets (apply got q (entry_session who m msg))) (sym means)

      -- it has the key of the session at entry
      pub built_key : key_of key_width (built gone rows slot) ≡ session_key (entry_session who m msg)
      unfolding apply
      built_key = ap (key_of key_width) is_built ∙ (good s hs new new_allowed).1

      pub changed_table : with_record (table_area s.limit) (built gone rows slot) (encode s m) ≡ encode s (sessions_after s who m msg)
      changed_table = ap (λ (l : List ℕ). with_record (table_area s.limit) l (encode s m)) is_built ∙ session_saved s hs m hm new new_allowed few_after ∙ ap (encode s) (sym after_is)

-- What an accepted request makes of the sessions, without PDRs' precedences and FAR IDs, is made of the bare sessions: an Update PDR changes nothing
-- there, and every other change neither reads these fields nor carries them elsewhere.
-- Assumes nothing.
use mathlib.Core.Path.{◌≡◌, refl, sym, ap, ap₂, ◌∙◌}
use Prim.Native.Nat.{ℕ}
use mathlib.Core.Bool.{Bool, true, false}
use mathlib.Core.List.{List, [], ◌∷◌, map}
use lib.Dec.{eqb}
use Rattle.octets.specs.Choice.{pick}
use Rattle.octets.specs.Lists.{keep, insert_by, insert_all}
use Rattle.octets.proofs.ListLaws.{map-map}
use Rattle.rules.specs.Model.{Settings, Pdr, Session, Sessions, pdr_id, key_for, session_key, has_peer}
use Rattle.rules.specs.Message.{deletion, set_deletion, kind_of, header_seid}
use Rattle.rules.specs.Elements.{Fqcsid}
use Rattle.rules.specs.Reading.{read_request}
use Rattle.rules.specs.Request.{Change, Request}
use Rattle.rules.specs.Grants.{Kind, Got, granted}
use Rattle.rules.specs.Stages.{has_key, at_entry, removed_pdrs}
use Rattle.rules.specs.Apply.{made_pdr, or_old, pdr_with, changed_pdr, update_all, kept_pdr, pdrs_after, apply, other_session, remove_session, put_session, covers_session, goes_session, stays_session, follow}
use Rattle.rules.specs.Serve.{sessions_after}
use Rattle.rules.specs.Bare.{bare_pdr, bare_session, bare, Alike}
use Rattle.octets.proofs.Mapped.{of_pick, keep_map, insert_map, insert_all_map}
use Rattle.laws.proofs.BareLaws.{entry_bare, removed_bare, granted_alike}

-- ---- a session's PDRs

-- an update changes nothing but these fields
changed_bare : (c : Change) (p : Pdr) → bare_pdr (changed_pdr c p) ≡ bare_pdr p
unfolding changed_pdr
changed_bare c p = one (eqb p.id c.id) (pdr_with (or_old p.precedence c.precedence) (or_old p.far c.far) p) refl
  where
    one : (b : Bool) (q : Pdr) → bare_pdr q ≡ bare_pdr p → bare_pdr (pick b q p) ≡ bare_pdr p
    one true q e = e
    one false q e = refl

updates_bare : (cs : List Change) (ps : List Pdr) → map bare_pdr (update_all cs ps) ≡ map bare_pdr ps
unfolding update_all
updates_bare [] ps = refl
updates_bare (c ∷ cs) ps = updates_bare cs (map (changed_pdr c) ps) ∙ each ps
  where
    each : (qs : List Pdr) → map bare_pdr (map (changed_pdr c) qs) ≡ map bare_pdr qs
    each [] = refl
    each (q ∷ qs) = ap₂ ◌∷◌ (changed_bare c q) (each qs)

twice_bare : (ps : List Pdr) → map bare_pdr (map bare_pdr ps) ≡ map bare_pdr ps
twice_bare ps = map-map bare_pdr bare_pdr ps

module _ (got : Kind → ℕ → Got) (r : Request) where
  -- the PDRs afterwards, bare, from the PDRs that are removed and the bare PDRs
  abbrev bare_pdrs : List ℕ → List Pdr → List Pdr
  bare_pdrs gone ps = insert_all pdr_id (map bare_pdr (map (made_pdr got) r.pdrs)) (keep (kept_pdr gone) ps)

  pdrs_are : (ps : List Pdr) → map bare_pdr (pdrs_after got r ps) ≡ bare_pdrs (removed_pdrs r ps) (map bare_pdr ps)
  unfolding pdrs_after kept_pdr
  pdrs_are ps =
      updates_bare r.changes (insert_all pdr_id (map (made_pdr got) r.pdrs) (keep (kept_pdr (removed_pdrs r ps)) ps))
      ∙ sym (insert_all_map bare_pdr pdr_id (map (made_pdr got) r.pdrs) (keep (kept_pdr (removed_pdrs r ps)) ps))
      ∙ ap (insert_all pdr_id (map bare_pdr (map (made_pdr got) r.pdrs))) (sym (keep_map bare_pdr (kept_pdr (removed_pdrs r ps)) ps))

  pdrs_bare : (ps : List Pdr) → map bare_pdr (pdrs_after got r (map bare_pdr ps)) ≡ map bare_pdr (pdrs_after got r ps)
  pdrs_bare ps = pdrs_are (map bare_pdr ps) ∙ ap₂ bare_pdrs (removed_bare r ps) (twice_bare ps) ∙ sym (pdrs_are ps)

  apply_bare : (x : Session) → bare_session (apply got r (bare_session x)) ≡ bare_session (apply got r x)
  unfolding apply
  apply_bare x = λ i. record { peer = x.peer; seid = x.seid; pdrs = pdrs_bare x.pdrs i; endpoints = (apply got r x).endpoints; csids = (apply got r x).csids }

-- ---- the sessions

remove_bare : (n : ℕ) (m : Sessions) → bare (remove_session n m) ≡ remove_session n (bare m)
unfolding remove_session other_session has_key
remove_bare n m = sym (keep_map bare_session (other_session n) m)

put_bare : (x : Session) (m : Sessions) → bare (put_session x m) ≡ put_session (bare_session x) (bare m)
unfolding put_session
put_bare x m = sym (insert_map bare_session session_key x (remove_session (session_key x) m)) ∙ ap (insert_by session_key (bare_session x)) (remove_bare (session_key x) m)

stays_bare : (who : ℕ) (ls : List Fqcsid) (m : Sessions) → bare (keep (stays_session who ls) m) ≡ keep (stays_session who ls) (bare m)
unfolding stays_session has_peer goes_session covers_session
stays_bare who ls m = sym (keep_map bare_session (stays_session who ls) m)

module _ (got : Kind → ℕ → Got) (kind who header : ℕ) (r : Request) where
  -- the sessions afterwards, bare, from the bare sessions
  abbrev bare_follow : Sessions → Sessions
  bare_follow m =
      pick (eqb kind set_deletion) (keep (stays_session who r.listed) m)
      (pick (eqb kind deletion) (remove_session (key_for who header) m) (put_session (bare_session (apply got r (at_entry kind who header r m))) m))

  follow_are : (m : Sessions) → bare (follow got kind who header r m) ≡ bare_follow (bare m)
  unfolding follow
  follow_are m =
      of_pick bare (eqb kind set_deletion) _ _
      ∙ ap₂ (pick (eqb kind set_deletion)) (stays_bare who r.listed m)
      (of_pick bare (eqb kind deletion) _ _ ∙ ap₂ (pick (eqb kind deletion)) (remove_bare (key_for who header) m) put)
    where
      put : bare (put_session (apply got r (at_entry kind who header r m)) m) ≡ put_session (bare_session (apply got r (at_entry kind who header r (bare m)))) (bare m)
      put =
          put_bare (apply got r (at_entry kind who header r m)) m
          ∙ ap (λ (x : Session). put_session x (bare m)) (sym (apply_bare got r (at_entry kind who header r m)) ∙ ap (λ (x : Session). bare_session (apply got r x)) (sym (entry_bare kind who header r m)))

  pub follow_alike : (m n : Sessions) → Alike m n → Alike (follow got kind who header r m) (follow got kind who header r n)
  follow_alike m n e = follow_are m ∙ ap bare_follow e ∙ sym (follow_are n)

-- ---- after an accepted request

pub after_alike : (s : Settings) (who : ℕ) (m n : Sessions) (msg : List ℕ) → Alike m n → Alike (sessions_after s who m msg) (sessions_after s who n msg)
unfolding sessions_after
after_alike s who m n msg e =
    follow_alike (granted s m (read_request msg)) (kind_of msg) who (header_seid msg) (read_request msg) m n e
    ∙ ap (λ (got : Kind → ℕ → Got). bare (follow got (kind_of msg) who (header_seid msg) (read_request msg) n)) (granted_alike s m n e (read_request msg))

-- A request of one peer leaves the other's sessions as they are.
-- Assumes nothing.
use mathlib.Core.Path.{◌≡◌, refl, sym, ap, ◌∙◌, subst}
use Prim.Native.Nat.{ℕ, ◌^◌, ◌<◌}
use mathlib.Core.Bool.{Bool, true, false, not, ◌&&◌}
use mathlib.Core.List.{List, [], ◌∷◌}
use lib.Dec.{T, T_not, not_T, leb, eqb, eqb→eq, ltb→lt}
use mir.Facts.{yes_eqb}
use Rattle.octets.specs.Choice.{pick}
use Rattle.octets.specs.Octets.{octets}
use Rattle.octets.specs.Lists.{all, keep, insert_by}
use Rattle.octets.proofs.Tests.{is_false, all_head, all_tail, and_left, pick_either, pick_yes, pick_no}
use Rattle.octets.proofs.ListLaws.{by_test}
use Rattle.rules.specs.Model.{Settings, Session, Sessions, is_peer, has_peer, of_peer, key_for, session_key}
use Rattle.rules.specs.Elements.{Fqcsid}
use Rattle.rules.specs.Layout.{view_settings, view_sessions}
use Rattle.rules.specs.Sound.{session_allowed, sessions_allowed}
use Rattle.rules.specs.Message.{kind_of, header_seid, deletion, set_deletion}
use Rattle.rules.specs.Reading.{read_request}
use Rattle.rules.specs.Grants.{granted}
use Rattle.rules.specs.Stages.{has_key, entry_session}
use Rattle.rules.specs.Apply.{apply, other_session, remove_session, put_session, goes_session, stays_session, follow}
use Rattle.rules.specs.Serve.{Served, sessions_after, serve}
use Rattle.rules.specs.Live.{replied, accepted_event}
use Rattle.laws.proofs.PeerLaws.{key_peer, header_seid_fits}
use Rattle.laws.proofs.KeptRules.{session_kept, sessions_kept, table_kept}
use Rattle.invariants.proofs.Changed.{entry_sound}
use Rattle.invariants.proofs.VerdictLaws.{Passed}
use Rattle.invariants.proofs.ServeLaws.{refused_same}
use Rattle.invariants.proofs.AcceptedCall.{accepted_call}
use Rattle.promises.specs.Runs.{table_after}
use Rattle.promises.specs.Due.{OthersStay}
use Rattle.promises.proofs.RunLaws.{request_step}
use Rattle.promises.proofs.AccidentLaws.{left}

-- ---- lists

-- what is taken out and is not looked for makes no difference
keep_through : (ok p q : Session → Bool) → ((z : Session) → T (ok z) → T (p z) → T (q z)) → (m : Sessions) → T (all ok m) → keep p (keep q m) ≡ keep p m
unfolding keep
keep_through ok p q f [] h = refl
keep_through ok p q f (z ∷ m) h = one (p z) refl (q z) refl (f z (all_head ok z m h)) (keep_through ok p q f m (all_tail ok z m h))
  where
    one : (a : Bool) → p z ≡ a → (b : Bool) → q z ≡ b → (T (p z) → T (q z)) → keep p (keep q m) ≡ keep p m
        → keep p (pick b (z ∷ keep q m) (keep q m)) ≡ pick (p z) (z ∷ keep p m) (keep p m)
    one a ea true eb g ih = ap (λ (l : Sessions). pick (p z) (z ∷ l) l) ih
    one true ea false eb g ih = absurd (subst T eb (g (subst T (sym ea) tt)))
    one false ea false eb g ih = ih ∙ sym (ap (λ (c : Bool). pick c (z ∷ keep p m) (keep p m)) ea)

-- nor what is put in
keep_insert : (p : Session → Bool) (x : Session) → p x ≡ false → (m : Sessions) → keep p (insert_by session_key x m) ≡ keep p m
unfolding keep insert_by
keep_insert p x e [] = ap (λ (b : Bool). pick b (x ∷ []) []) e
keep_insert p x e (y ∷ m) =
    pick_either (λ (l : Sessions). keep p l ≡ keep p (y ∷ m)) (leb (session_key x) (session_key y)) (x ∷ y ∷ m) (y ∷ insert_by session_key x m)
    (ap (λ (b : Bool). pick b (x ∷ keep p (y ∷ m)) (keep p (y ∷ m))) e)
    (ap (λ (l : Sessions). pick (p y) (y ∷ l) l) (keep_insert p x e m))

-- ---- what an accepted request makes of the sessions

module _ (s : Settings) (who other : ℕ) (m : Sessions) (differ : T (not (eqb who other))) (hm : T (sessions_allowed s m)) where
  fine : T (all (session_allowed s) m)
  fine = (sessions_kept s m hm).sessions

  -- no session is of both
  not_both : (z : Session) → T (has_peer other z) → z.peer ≡ who → ⊥
  unfolding has_peer
  not_both z h e = T_not (eqb who other) differ (yes_eqb (sym e ∙ eqb→eq z.peer other h))

  -- one of the peer's taken out
  stays_removed : (n : ℕ) → n < 2 ^ 64 → of_peer other (remove_session (key_for who n) m) ≡ of_peer other m
  unfolding of_peer remove_session other_session has_key
  stays_removed n fits =
      keep_through (session_allowed s) (has_peer other) (λ z. not (eqb (session_key z) (key_for who n)))
      (λ z h g. not_T (eqb (session_key z) (key_for who n)) (λ k. not_both z g (key_peer z.peer z.seid who n (ltb→lt z.seid (2 ^ 64) (session_kept s z h).records.seid_fits) fits (eqb→eq (session_key z) (key_for who n) k))))
      m fine

  stays_insert : (x : Session) → eqb x.peer other ≡ false → (l : Sessions) → of_peer other (insert_by session_key x l) ≡ of_peer other l
  unfolding of_peer has_peer
  stays_insert x e l = keep_insert (λ z. eqb z.peer other) x e l

  -- or put in its place
  stays_put : (x : Session) → x.peer ≡ who → x.seid < 2 ^ 64 → of_peer other (put_session x m) ≡ of_peer other m
  unfolding put_session
  stays_put x e fits =
      let rest = remove_session (session_key x) m in
      let none : eqb x.peer other ≡ false = is_false (eqb x.peer other) (subst (λ (n : ℕ). T (not (eqb n other))) (sym e) differ) in
      stays_insert x none rest
      ∙ ap (λ (n : ℕ). of_peer other (remove_session (key_for n x.seid) m)) e
      ∙ stays_removed x.seid fits

  -- or those that a set deletion covers
  stays_listed : (ls : List Fqcsid) → of_peer other (keep (stays_session who ls) m) ≡ of_peer other m
  unfolding of_peer stays_session
  stays_listed ls =
      keep_through (session_allowed s) (has_peer other) (λ z. not (has_peer who z && goes_session ls z))
      (λ z h g. not_T (has_peer who z && goes_session ls z) (λ k. not_both z g (unfold has_peer in (eqb→eq z.peer who (and_left (has_peer who z) (goes_session ls z) k)))))
      m fine

  stays_after : (msg : List ℕ) → T (octets msg) → T (is_peer who) → Passed s who m msg → of_peer other (sessions_after s who m msg) ≡ of_peer other m
  unfolding sessions_after follow entry_session
  stays_after msg ho hw p =
      by_test (eqb (kind_of msg) set_deletion)
      (λ d. ap (of_peer other) (pick_yes (eqb (kind_of msg) set_deletion) _ _ d) ∙ stays_listed (read_request msg).listed)
      (λ ns. ap (of_peer other) (pick_no (eqb (kind_of msg) set_deletion) _ _ ns)
      ∙ by_test (eqb (kind_of msg) deletion)
      (λ d. ap (of_peer other) (pick_yes (eqb (kind_of msg) deletion) _ _ d) ∙ stays_removed (header_seid msg) (header_seid_fits msg ho))
      (λ nd. ap (of_peer other) (pick_no (eqb (kind_of msg) deletion) _ _ nd) ∙ changed ns))
    where
      changed : T (not (eqb (kind_of msg) set_deletion)) → of_peer other (put_session (apply (granted s m (read_request msg)) (read_request msg) (entry_session who m msg)) m) ≡ of_peer other m
      changed ns =
          let e = entry_sound s who m msg hw hm ho ns p in
          stays_put (apply (granted s m (read_request msg)) (read_request msg) (entry_session who m msg)) (unfold apply in e.peer)
          (unfold apply in (ltb→lt (entry_session who m msg).seid (2 ^ 64) e.kept.records.seid_fits))

-- ---- of the calls

pub others_stay : OthersStay
unfolding OthersStay
others_stay run who other msg space r ho call differ =
    ap (λ (v : Served). of_peer other (view_sessions v.table)) (request_step t who msg space r call)
    ∙ by_test (accepted_event (replied who msg out.outcome out.space))
    (λ yes.
    let c = accepted_call t who msg space ho yes in
    ap (of_peer other) c.sessions
    ∙ stays_after (view_settings t) who other (view_sessions t) differ (table_kept t c.answered.table).sessions msg ho c.answered.peer c.passed)
    (λ no. ap (λ (u : List ℕ). of_peer other (view_sessions u)) (refused_same t who msg space ho no))
    ∙ ap (of_peer other) (left run).records
  where
    t : List ℕ
    t = table_after run

    out : Served
    out = serve t who msg space

-- A reply names the unit by the peer's signalling address.
-- Assumes nothing.
use mathlib.Core.Path.{◌≡◌, refl, sym, ap, ◌∙◌, subst}
use Prim.Native.Nat.{ℕ, ◌^◌, ◌≤◌, ◌<◌}
use native.Mathlib.Nat.{le_trans}
use native.Mathlib.Omega.{arith}
use mathlib.Core.Bool.{Bool, false, ◌||◌}
use mathlib.Core.Option.{Option, none, some}
use mathlib.Core.List.{List, [], ◌∷◌, ◌++◌}
use borrow.Author.Tests.{eq-eqb}
use lib.ListN.{length}
use lib.Dec.{T, eqb, eqb→eq, lit<, lit≤}
use mir.Facts.{yes_eqb}
use Rattle.octets.specs.Choice.{pick, map_option}
use Rattle.octets.specs.Octets.{be, put}
use Rattle.octets.specs.Lists.{find_by}
use Rattle.octets.proofs.Tests.{is_true}
use Rattle.octets.proofs.Numbers.{length_be}
use Rattle.rules.specs.Model.{Settings, Sessions, peer_of}
use Rattle.rules.specs.Elements.{fseid_octets}
use Rattle.rules.specs.Layout.{view_settings, view_sessions}
use Rattle.rules.specs.Message.{elements, kind_of, has_type, content_in, content_of, sequence_of, establishment, set_deletion}
use Rattle.rules.specs.Reading.{read_request}
use Rattle.rules.specs.Grants.{granted}
use Rattle.rules.specs.Stages.{Verdict, verdict}
use Rattle.rules.specs.Reply.{Reports, reports, element, node_id_element, offending_element, unit_fseid, created, accepted_part, reply_body, reply}
use Rattle.rules.specs.Serve.{Served, reply_to, answered, answer, serve}
use Rattle.rules.specs.Live.{reply_elements, reply_cause}
use Rattle.rules.specs.Types as ie
use Rattle.rules.specs.Causes as why
use Rattle.fseid.proofs.ValueLaws.{length_fseid}
use Rattle.laws.proofs.HeaderLaws.{header_long}
use Rattle.laws.proofs.MessageLaws.{Fits, el, after, elements_cons}
use Rattle.laws.proofs.ReplyLaws.{reply_elements_lem, reply_cause_lem, sequence_three}
use Rattle.invariants.proofs.ReplyLength.{reply_body_short}
use Rattle.laws.proofs.KeptRules.{table_kept}
use Rattle.invariants.proofs.ServeLaws.{answers, answered_zero}
use Rattle.promises.specs.Runs.{table_after}
use Rattle.promises.specs.Due.{NamedFor, RepliesNamed}
use Rattle.promises.proofs.RunLaws.{request_step}
use Rattle.promises.proofs.AccidentLaws.{left}

-- ---- an element among others

content_here : (t : ℕ) (v rest : List ℕ) → Fits t v → (at : ℕ) → content_of t (elements at (element t v ++ rest)) ≡ some v
unfolding content_of has_type find_by
content_here t v rest fits at =
    ap (content_of t) (elements_cons t v rest fits at)
    ∙ ap (λ (b : Bool). map_option content_in (pick b (some (el at t v)) (find_by (has_type t) (elements (after at v) rest)))) (eq-eqb t t refl)

content_past : (t u : ℕ) (v rest : List ℕ) → Fits u v → eqb u t ≡ false → (at : ℕ) → content_of t (elements at (element u v ++ rest)) ≡ content_of t (elements (after at v) rest)
unfolding content_of has_type find_by
content_past t u v rest fits e at =
    ap (content_of t) (elements_cons u v rest fits at)
    ∙ ap (λ (b : Bool). map_option content_in (pick b (some (el at u v)) (find_by (has_type t) (elements (after at v) rest)))) e

short_fits : (t : ℕ) (v : List ℕ) → t < 256 ^ 2 → length v ≤ 64 → Fits t v
unfolding Fits
short_fits t v h l = (h, omega arith)

-- ---- the body of a reply

module _ (s : Settings) (home seid : ℕ) (v : Verdict) (gs : Reports) where
  abbrev node_id : List ℕ
  node_id = 0 ∷ be 4 home

  node_fits : Fits ie.node_id node_id
  node_fits = short_fits ie.node_id node_id (lit< tt) (omega (arith, length_be 4 home))

  node_first : (kind : ℕ) → T (eqb kind establishment || eqb kind set_deletion) → content_of ie.node_id (elements 0 (reply_body kind s home seid v gs)) ≡ some node_id
  unfolding reply_body node_id_element
  node_first kind h = rw (is_true (eqb kind establishment || eqb kind set_deletion) h) (content_here ie.node_id node_id _ node_fits 0)

  own_fits : Fits ie.fseid (fseid_octets seid (be 4 home) [])
  own_fits = short_fits ie.fseid (fseid_octets seid (be 4 home) []) (lit< tt) (omega (arith, length_fseid seid (be 4 home) [], length_be 4 home))

  past_offending : (o : Option ℕ) (rest : List ℕ) → ((at : ℕ) → content_of ie.fseid (elements at rest) ≡ some (fseid_octets seid (be 4 home) []))
      → (at : ℕ) → content_of ie.fseid (elements at (offending_element o ++ rest)) ≡ some (fseid_octets seid (be 4 home) [])
  unfolding offending_element
  past_offending none rest f at = f at
  past_offending (some t) rest f at =
      content_past ie.fseid ie.offending_ie (be 2 t) rest (short_fits ie.offending_ie (be 2 t) (lit< tt) (omega (arith, length_be 2 t))) refl at ∙ f (after at (be 2 t))

  fseid_there : v.cause ≡ why.accepted → content_of ie.fseid (elements 0 (reply_body establishment s home seid v gs)) ≡ some (fseid_octets seid (be 4 home) [])
  unfolding reply_body node_id_element accepted_part unit_fseid
  fseid_there e =
      let rest = pick (eqb v.cause why.accepted) (element ie.fseid (fseid_octets seid (be 4 home) []) ++ created s gs) [] in
      let yes : rest ≡ element ie.fseid (fseid_octets seid (be 4 home) []) ++ created s gs = rw (eq-eqb v.cause why.accepted e) in
      content_past ie.fseid ie.node_id node_id (element ie.cause (v.cause ∷ []) ++ (offending_element v.offending ++ rest)) node_fits refl 0
      ∙ content_past ie.fseid ie.cause (v.cause ∷ []) (offending_element v.offending ++ rest) (short_fits ie.cause (v.cause ∷ []) (lit< tt) (lit≤ tt)) refl _
      ∙ past_offending v.offending rest (λ at. rw yes (content_here ie.fseid (fseid_octets seid (be 4 home) []) (created s gs) own_fits at)) _

-- ---- of the calls

module _ (t : List ℕ) (who : ℕ) (msg space : List ℕ) (zero' : T (eqb (serve t who msg space).outcome 0)) where
  abbrev s : Settings
  s = view_settings t

  abbrev m : Sessions
  m = view_sessions t

  abbrev v : Verdict
  v = verdict s who m msg

  abbrev gs : Reports
  gs = reports (granted s m (read_request msg)) (read_request msg)

  three : length (sequence_of msg) ≡ 3
  three = sequence_three msg (header_long msg (answers t who msg space zero').header)

  short : length (reply_body (kind_of msg) s (peer_of s who).address (read_request msg).seid v gs) ≤ 2000
  short = le_trans (reply_body_short s (table_kept t (answers t who msg space zero').table).settings who m msg) (lit≤ tt)

  written : (serve t who msg space).space ≡ put 0 (reply s who msg (read_request msg).seid v gs) space
  unfolding answer answered reply_to
  written = ap (λ (o : Served). o.space) (answered_zero t who msg space (answers t who msg space zero'))

  body_read : reply_elements (serve t who msg space).space ≡ elements 0 (reply_body (kind_of msg) s (peer_of s who).address (read_request msg).seid v gs)
  body_read = ap reply_elements written ∙ reply_elements_lem s who msg (read_request msg).seid v gs space three short

  named : NamedFor (peer_of s who).address msg (serve t who msg space).space
  named =
      record {
        node = λ k. ap (content_of ie.node_id) body_read ∙ node_first s (peer_of s who).address (read_request msg).seid v gs (kind_of msg) k;
        fseid = λ k e.
            let yes : v.cause ≡ why.accepted = sym (ap reply_cause written ∙ reply_cause_lem s who msg (read_request msg).seid v gs space three short) ∙ e in
            ap (content_of ie.fseid) body_read
            ∙ ap (λ (n : ℕ). content_of ie.fseid (elements 0 (reply_body n s (peer_of s who).address (read_request msg).seid v gs))) (eqb→eq (kind_of msg) establishment k)
            ∙ fseid_there s (peer_of s who).address (read_request msg).seid v gs yes;
      }

pub replies_named : RepliesNamed
unfolding RepliesNamed
replies_named run who msg space r ho call zero =
    let t = table_after run in
    let same = request_step t who msg space r call in
    let n = named t who msg space (yes_eqb (sym (ap (λ (o : Served). o.outcome) same) ∙ zero)) in
    subst (λ (u : Settings). NamedFor (peer_of u who).address msg r.space) (left run).settings
    (subst (λ (o : Served). NamedFor (peer_of (view_settings t) who).address msg o.space) (sym same) n)

-- The header before the elements, and the whole replies: from what the calls leave. Assumes nothing.
use mathlib.Core.Path.{◌≡◌, ap₂, ◌∙◌, refl, sym, ap, subst}
use mathlib.Core.Option.{Option}
use mathlib.Core.List.{List, [], ◌∷◌, ◌++◌, append_assoc, append-nil}
use Prim.Native.Nat.{ℕ, ◌+◌, ◌-◌, ◌≤◌}
use native.Mathlib.Nat.{zero-add}
use native.Mathlib.Omega.{arith}
use borrow.Author.Tests.{eq-eqb, ne_eqb}
use lib.ListN.{length, get_or, take, drop}
use Rattle.octets.specs.Octets.{put, part, number, number_at, octet_at, concat_map}
use Rattle.laws.proofs.ReplyLaws.{sequence_three}
use Rattle.rules.specs.Limits.{min_space}
use Rattle.rules.specs.Model.{Settings, peer_of}
use Rattle.unit.specs.declared.Settings.{Settings as Unit}
use Rattle.unit.specs.Meaning.{settings_of}
use Rattle.rules.specs.Message.{kind_of, header_seid, sequence_of, establishment, set_deletion, header_length}
use Rattle.created.specs.Groups.{Told, all_reports}
use Rattle.rules.specs.Stages.{Verdict, plain}
use Rattle.rules.specs.Reply.{Reports, no_reports, element, created, offending_element, node_id_element, unit_fseid, accepted_part, reply_body, reply_seid, reply, message}
use Rattle.rules.specs.Types as ie
use Rattle.rules.specs.Causes as why
use Rattle.writing.specs.Placed.{Placed, written}
use Rattle.reply.specs.Parts.{reply_head, body_front, WithSeid, Listing}
use Rattle.reply.proofs.LengthLaws.{unit_ipv4, unit_ipv6, length_node, length_front, length_fseid, length_created_most, length_none, length_body, length_offending}
use Rattle.writing.specs.Heads.{message_head, list_head}
use Rattle.writing.proofs.PlacedLaws.{placed_then}
use Rattle.writing.proofs.ElementSteps.{placed_message, placed_list}
use mathlib.Core.Bool.{Bool, true, false}
use lib.Dec.{eqb}
use Rattle.octets.specs.Choice.{pick}

-- ---- the first elements

module _ (home kind cause at : ℕ) (out : List ℕ) (room : at + 14 ≤ length out) {next : ℕ} {out₁ : List ℕ} (p : Placed out at (node_id_element kind home) next out₁) where
  pub front_room : length out₁ ≡ length out → next + 5 ≤ length out₁
  front_room l = let e = p.ends in omega (arith, length_node home kind)

  pub front_steps : {end : ℕ} {out₂ : List ℕ} → Placed out₁ next (element ie.cause (cause ∷ [])) end out₂ → Placed out at (body_front kind home cause) end out₂
  unfolding body_front
  front_steps q = placed_then p q (omega (arith, length_node home kind))

-- ---- the header

pub finish_steps : (msg out : List ℕ) (cause seid s end : ℕ) {out₁ : List ℕ} → WithSeid msg → s ≡ reply_seid (kind_of msg) cause (header_seid msg) seid
    → out₁ ≡ put 0 (message_head (get_or msg 1 0 + 1) s (take 3 (drop 12 msg)) (end - 16)) out → out₁ ≡ put 0 (reply_head msg seid cause (end - 16)) out
unfolding reply_head kind_of octet_at sequence_of header_length
finish_steps msg out cause seid s end w e p = rw (w.seid, ← e) p

-- ---- the reply's SEID

module _ (msg : List ℕ) (cause seid : ℕ) where
  abbrev out_seid : ℕ
  out_seid = reply_seid (kind_of msg) cause (header_seid msg) seid

  pub seid_new : get_or msg 1 0 ≡ establishment → cause ≡ why.accepted → seid ≡ out_seid
  unfolding reply_seid kind_of octet_at
  seid_new e f = rw (eq-eqb (get_or msg 1 0) establishment e, eq-eqb cause why.accepted f)

  pub seid_refused : get_or msg 1 0 ≡ establishment → (cause ≡ why.accepted → ⊥) → 0 ≡ out_seid
  unfolding reply_seid kind_of octet_at
  seid_refused e f = rw (eq-eqb (get_or msg 1 0) establishment e, ne_eqb cause why.accepted f)

  pub seid_unknown : (get_or msg 1 0 ≡ establishment → ⊥) → cause ≡ why.no_session → 0 ≡ out_seid
  unfolding reply_seid kind_of octet_at
  seid_unknown e f = rw (ne_eqb (get_or msg 1 0) establishment e, eq-eqb cause why.no_session f)

  pub seid_header : (get_or msg 1 0 ≡ establishment → ⊥) → (cause ≡ why.no_session → ⊥) → (r : ℕ) → r ≡ number (part 4 8 msg) → r ≡ out_seid
  unfolding reply_seid kind_of octet_at header_seid number_at
  seid_header e f r g = rw (ne_eqb (get_or msg 1 0) establishment e, ne_eqb cause why.no_session f) g

-- ---- the whole

seid_three : (msg : List ℕ) → WithSeid msg → length (sequence_of msg) ≡ 3
unfolding header_length
seid_three msg h = sequence_three msg (rw h.seid h.long)

seid_reply : (s : Settings) (who : ℕ) (msg : List ℕ) (seid : ℕ) (v : Verdict) (gs : Reports) → WithSeid msg
    → reply s who msg seid v gs
    ≡ message (kind_of msg + 1) (reply_seid (kind_of msg) v.cause (header_seid msg) seid) (sequence_of msg) (reply_body (kind_of msg) s (peer_of s who).address seid v gs)
unfolding reply
seid_reply s who msg seid v gs h = rw h.seid

-- elements from octet 16 on with the header before them are the reply
pub whole : (s : Settings) (who : ℕ) (msg : List ℕ) (seid : ℕ) (v : Verdict) (gs : Reports) (out : List ℕ) {out₁ out₂ : List ℕ} {end : ℕ}
    → WithSeid msg → 16 + length (reply_body (kind_of msg) s (peer_of s who).address seid v gs) ≤ length out
    → Placed out 16 (reply_body (kind_of msg) s (peer_of s who).address seid v gs) end out₁ → out₂ ≡ put 0 (reply_head msg seid v.cause (end - 16)) out₁
    → (end, out₂) ≡ written (reply s who msg seid v gs) out
unfolding reply reply_head
whole s who msg seid v gs out h room p q =
    let e = seid_reply s who msg seid v gs h in
    let w = placed_message (kind_of msg + 1) (reply_seid (kind_of msg) v.cause (header_seid msg) seid) (sequence_of msg) (reply_body (kind_of msg) s (peer_of s who).address seid v gs) out (seid_three msg h) room p q in
    ap₂ (λ (m : ℕ) (o : List ℕ). (m, o)) (w.ends ∙ zero-add _) w.holds ∙ ap (λ (l : List ℕ). written l out) (sym e)

module _ (s : Settings) (home kind : ℕ) where
  pub refused_body : (cause : ℕ) (o : Option ℕ) → (cause ≡ why.accepted → ⊥)
      → body_front kind home cause ++ offending_element o ≡ reply_body kind s home 0 (record { cause = cause; offending = o; place = 0 }) no_reports
  unfolding body_front reply_body
  refused_body cause o n = rw (ne_eqb cause why.accepted n, append-nil) (append_assoc (node_id_element kind home) (element ie.cause (cause ∷ [])) (offending_element o))

  pub accepted_body : (seid : ℕ) (gs : Reports) → body_front kind home 1 ++ (unit_fseid kind home seid ++ created s gs) ≡ reply_body kind s home seid (plain why.accepted) gs
  unfolding body_front reply_body offending_element accepted_part
  accepted_body seid gs = append_assoc (node_id_element kind home) (element ie.cause (1 ∷ [])) (unit_fseid kind home seid ++ created s gs)

-- ---- what a refusal and an acceptance write

module _ (u : Unit) (who home : ℕ) (whose : home ≡ (peer_of (settings_of u) who).address) (msg out : List ℕ) (header : WithSeid msg) (space : min_space ≤ length out) where
  abbrev st : Settings
  st = settings_of u

  -- elements of one address are those of the other
  moved : (xs : ℕ → List ℕ) {end : ℕ} {out₁ : List ℕ} → Placed out 16 (xs home) end out₁ → Placed out 16 (xs (peer_of st who).address) end out₁
  moved xs {end} {out₁} p = subst (λ (x : ℕ). Placed out 16 (xs x) end out₁) whose p

  abbrev kind : ℕ
  kind = get_or msg 1 0

  pub refused_steps : (cause : ℕ) (o : Option ℕ) {out₁ out₂ out₃ : List ℕ} {next end : ℕ} → (cause ≡ why.accepted → ⊥)
      → Placed out 16 (body_front kind home cause) next out₁ → Placed out₁ next (offending_element o) end out₂ → out₃ ≡ put 0 (reply_head msg 0 cause (end - 16)) out₂
      → (end, out₃) ≡ written (reply st who msg 0 (record { cause = cause; offending = o; place = 0 }) no_reports) out
  unfolding kind_of octet_at
  refused_steps cause o n p q r =
      let v : Verdict = record { cause = cause; offending = o; place = 0 } in
      whole st who msg 0 v no_reports out header (omega (arith, length_body st (unit_ipv4 u) (peer_of st who).address kind 0 v no_reports (omega (arith, length_none st (unit_ipv4 u)))))
      (moved (λ x. reply_body kind st x 0 v no_reports) (rw (refused_body st home kind cause o n) at (placed_then p q (omega (arith, length_front home kind cause))))) r

  module _ (ts : List Told) (few : length ts ≤ 24) (seid : ℕ) where
    abbrev gs : Reports
    gs = all_reports ts

    created_most : length (created st gs) ≤ 1152
    created_most = omega (arith, length_created_most st (unit_ipv4 u) (unit_ipv6 u) ts)

    -- how long the elements are at most
    pub accepted_room : length (body_front kind home 1) + (length (unit_fseid kind home seid) + length (created st gs)) ≤ 1183
    accepted_room = omega (arith, length_front home kind 1, length_fseid home kind seid, created_most)

    pub accepted_steps : {out₁ out₂ out₃ out₄ : List ℕ} {next own end : ℕ}
        → Placed out 16 (body_front kind home 1) next out₁ → Placed out₁ next (unit_fseid kind home seid) own out₂ → Placed out₂ own (created st gs) end out₃
        → length out₁ ≡ length out → out₄ ≡ put 0 (reply_head msg seid 1 (end - 16)) out₃
        → (end, out₄) ≡ written (reply st who msg seid (plain why.accepted) gs) out
    unfolding kind_of octet_at
    accepted_steps {next = next} p q w same r =
        let ends = p.ends in
        let rest = placed_then q w (omega (arith, accepted_room)) in
        whole st who msg seid (plain why.accepted) gs out header (omega (arith, length_body st (unit_ipv4 u) (peer_of st who).address kind seid (plain why.accepted) gs created_most))
        (moved (λ x. reply_body kind st x seid (plain why.accepted) gs) (rw (accepted_body st home kind seid gs) at (placed_then p rest (omega (arith, accepted_room))))) r

-- ---- set deletions

-- nothing is created, so an acceptance has the same elements
listed_body : (s : Settings) (home cause : ℕ) (o : Option ℕ) → body_front set_deletion home cause ++ offending_element o ≡ reply_body set_deletion s home 0 (record { cause = cause; offending = o; place = 0 }) no_reports
unfolding body_front reply_body accepted_part unit_fseid created concat_map
listed_body s home cause o =
    rw (alike (eqb cause why.accepted), append-nil) (append_assoc (node_id_element set_deletion home) (element ie.cause (cause ∷ [])) (offending_element o))
  where
    alike : (b : Bool) → ◌≡◌ {A = List ℕ} (pick b [] []) []
    alike true = refl
    alike false = refl

module _ (u : Unit) (who home : ℕ) (whose : home ≡ (peer_of (settings_of u) who).address) (msg out : List ℕ) (header : Listing msg) (space : min_space ≤ length out) where
  list_three : length (sequence_of msg) ≡ 3
  unfolding header_length
  list_three = sequence_three msg (rw header.seid header.long)

  pub listed_steps : (cause : ℕ) (o : Option ℕ) {out₁ out₂ out₃ : List ℕ} {next end : ℕ}
      → Placed out 8 (body_front set_deletion home cause) next out₁ → Placed out₁ next (offending_element o) end out₂ → out₃ ≡ put 0 (list_head 15 (take 3 (drop 4 msg)) (end - 8)) out₂
      → (end, out₃) ≡ written (reply (settings_of u) who msg 0 (record { cause = cause; offending = o; place = 0 }) no_reports) out
  unfolding reply sequence_of header_length
  listed_steps cause o {out₂ = out₂} {end = end} p q r =
      let st = settings_of u in
      let v : Verdict = record { cause = cause; offending = o; place = 0 } in
      let xs = reply_body set_deletion st (peer_of st who).address 0 v no_reports in
      let l : length xs ≤ 1189 = length_body st (unit_ipv4 u) (peer_of st who).address set_deletion 0 v no_reports (omega (arith, length_none st (unit_ipv4 u))) in
      let a : Placed out 8 xs end out₂ = subst (λ (x : ℕ). Placed out 8 (reply_body set_deletion st x 0 v no_reports) end out₂) whose (rw (listed_body st home cause o) at (placed_then p q (omega (arith, length_front home set_deletion cause)))) in
      let w = placed_list 15 (take 3 (drop 4 msg)) xs out (rw header.seid at list_three) (omega arith) a r in
      rw (header.seid, header.kind) (ap₂ (λ (m : ℕ) (o : List ℕ). (m, o)) (w.ends ∙ zero-add _) w.holds)

  -- how far they reach
  pub listed_room : (cause : ℕ) (o : Option ℕ) → length (body_front set_deletion home cause) + length (offending_element o) ≤ 20
  listed_room cause o = omega (arith, length_front home set_deletion cause, length_offending o)

-- ---- the address

pub home_first : (u : Unit) (who : ℕ) → who ≡ 1 → u.peer1.address ≡ (peer_of (settings_of u) who).address
unfolding peer_of settings_of
home_first u who e = rw (eq-eqb who 1 e)

pub home_second : (u : Unit) (who : ℕ) → (who ≡ 1 → ⊥) → u.peer2.address ≡ (peer_of (settings_of u) who).address
unfolding peer_of settings_of
home_second u who e = rw (ne_eqb who 1 e)

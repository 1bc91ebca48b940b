-- The verdict of stages 4 to 6, one cause after the other, from what the code has found. Assumes nothing.
use Rattle.std.specs.Result.{is_ok}
use mathlib.Core.Path.{◌≡◌, refl, sym, ap, ◌∙◌}
use mathlib.Core.Bool.{Bool, true, false, ◌&&◌, ◌||◌}
use mathlib.Core.List.{List, [], ◌∷◌}
use Prim.Native.Nat.{ℕ, ◌+◌}
use lib.Dec.{eqb, ltb}
use borrow.Author.Tests.{eqb-true}
use Rattle.octets.specs.Choice.{pick, one_of, is_nil}
use Rattle.rules.specs.Model.{Settings, Session, Sessions, peer_of, other_peer, holdings, unused, key_for, free_addresses}
use Rattle.rules.specs.Message.{establishment}
use Rattle.rules.specs.Request.{Request}
use Rattle.rules.specs.Layout.{view_session, view_sessions}
use Rattle.rules.specs.Stages.{is_live, goes_pdr, removed_pdrs, invalid_allocation, breaks_rule, too_many_sessions, too_many_pdrs, too_many_endpoints, passes_limit, passes_pool, too_few_teids, room_lacks, address_lacks, judge, plain, reasons, already_live}
use Rattle.rules.specs.Causes as why
use Rattle.plan.specs.Rows.{rows_of, request_in}
use Rattle.plan.specs.RowRules.{held_in, marked_address}
use Rattle.plan.proofs.RequestLaws.{invalid_rows, unsupported_rows}
use Rattle.plan.proofs.UeLaws.{choose_rows}
use Rattle.plan.proofs.NeededLaws.{needed_rows_lem}
use Rattle.unit.specs.Meaning.{settings_of}
use Rattle.stages.specs.declared.Known.{Known}
use Rattle.stages.specs.declared.Told.{Told}
use Rattle.stages.specs.Rules.{AtEntry, breaks_rule_by}
use Rattle.stages.proofs.CauseLaws.{breaks_by, map_agrees, addresses_agree, rule_rows}

-- the request's SEID, restoration and element 129 do not matter to cause 75
pdrs_same : (x : Session) (seid : ℕ) (restoring noted : Bool) (rows : List (List ℕ)) → too_many_pdrs x (request_in 0 false false rows) ≡ too_many_pdrs x (request_in seid restoring noted rows)
unfolding too_many_pdrs removed_pdrs goes_pdr request_in
pdrs_same x seid restoring noted rows = refl

endpoints_same : (x : Session) (seid : ℕ) (restoring noted : Bool) (rows : List (List ℕ)) → too_many_endpoints x (request_in 0 false false rows) ≡ too_many_endpoints x (request_in seid restoring noted rows)
unfolding too_many_endpoints request_in
endpoints_same x seid restoring noted rows = refl

teids_same : (s : Settings) (who : ℕ) (m : Sessions) (seid : ℕ) (restoring noted : Bool) (rows : List (List ℕ))
    → too_few_teids s who m (request_in 0 false false rows) ≡ too_few_teids s who m (request_in seid restoring noted rows)
unfolding too_few_teids passes_limit passes_pool
teids_same s who m seid restoring noted rows =
    ap (λ (k : ℕ). ltb (peer_of s who).limit (holdings who m + k) || ltb s.size (holdings who m + holdings (other_peer who) m + k + unused s (other_peer who) m))
    (needed_rows_lem 0 false false rows ∙ sym (needed_rows_lem seid restoring noted rows))

room_rows : (kind : ℕ) (s : Settings) (who : ℕ) (m : Sessions) (x : Session) (seid : ℕ) (restoring noted : Bool) (rows : List (List ℕ))
    → room_lacks kind s who m x (request_in 0 false false rows) ≡ room_lacks kind s who m x (request_in seid restoring noted rows)
unfolding room_lacks
room_rows kind s who m x seid restoring noted rows =
    λ i. one_of (too_many_sessions s who kind m ∷ pdrs_same x seid restoring noted rows i ∷ endpoints_same x seid restoring noted rows i ∷ teids_same s who m seid restoring noted rows i ∷ [])

-- and to cause 79
address_same : (s : Settings) (m : Sessions) (seid : ℕ) (restoring noted : Bool) (rows : List (List ℕ)) → address_lacks s m (request_in 0 false false rows) ≡ address_lacks s m (request_in seid restoring noted rows)
unfolding address_lacks
address_same s m seid restoring noted rows =
    ap (λ (b : Bool). b && is_nil (free_addresses s m)) (choose_rows 0 false false rows ∙ sym (choose_rows seid restoring noted rows))

-- ---- the causes, in their order

unfoldable pub chain : Bool → Bool → Bool → Bool → Bool → Bool → ℕ
chain a b c d e f = pick a why.rejected (pick b why.wrong_allocation (pick c why.not_supported (pick d why.broken_rule (pick e why.no_room (pick f why.no_address why.accepted)))))

judge_is : (kind : ℕ) (s : Settings) (who : ℕ) (m : Sessions) (x : Session) (r : Request) (seid : ℕ) → r.seid ≡ seid
    → (judge kind s who m x r).cause ≡ chain (eqb kind establishment && is_live (key_for who seid) m) (invalid_allocation r) r.unsupported (breaks_rule s m x r) (room_lacks kind s who m x r) (address_lacks s m r)
unfolding judge reasons already_live chain
judge_is kind s who m x r seid h =
    ap (λ (k : ℕ). chain (eqb kind establishment && is_live (key_for who k) m) (invalid_allocation r) r.unsupported (breaks_rule s m x r) (room_lacks kind s who m x r) (address_lacks s m r)) h

module _ {k : Known} {q : Told} {t taken addresses slot gone plan : List ℕ} (known : AtEntry k q t taken addresses slot gone plan) where
  abbrev s : Settings
  s = settings_of k.u

  abbrev who : ℕ
  who = k.share.peer

  abbrev kind : ℕ
  kind = k.kind

  abbrev seid : ℕ
  seid = q.seid

  abbrev live : Bool
  live = is_ok q.place

  abbrev n : ℕ
  n = q.rows

  abbrev restoring : Bool
  restoring = q.restoring

  abbrev noted : Bool
  noted = q.noted

  live_same : (eqb kind establishment && live) ≡ (eqb kind establishment && is_live (key_for who seid) (view_sessions t))
  live_same = one (eqb kind establishment) refl
    where
      one : (b : Bool) → eqb kind establishment ≡ b → (b && live) ≡ (b && is_live (key_for who seid) (view_sessions t))
      one true e = known.known (eqb-true kind establishment e)
      one false e = refl

  rule_same : breaks_rule_by (held_in s taken) (marked_address s addresses) s (view_session slot) (request_in 0 restoring false (rows_of n plan))
      ≡ breaks_rule s (view_sessions t) (view_session slot) (request_in seid restoring noted (rows_of n plan))
  rule_same =
      rule_rows (held_in s taken) (marked_address s addresses) s (view_session slot) seid restoring noted (rows_of n plan)
      ∙ breaks_by (held_in s taken) (marked_address s addresses) s (view_sessions t) (view_session slot) seid restoring noted (rows_of n plan) (map_agrees s (view_sessions t) taken known.marks) (addresses_agree s (view_sessions t) addresses known.marks_addresses)

  -- the verdict by six tests, as code makes them
  pub verdict_is : (judge kind s who (view_sessions t) (view_session slot) (request_in seid restoring noted (rows_of n plan))).cause
      ≡ chain (eqb kind establishment && live) (invalid_allocation (request_in 0 restoring false (rows_of n plan))) (request_in 0 false noted (rows_of n plan)).unsupported
      (breaks_rule_by (held_in s taken) (marked_address s addresses) s (view_session slot) (request_in 0 restoring false (rows_of n plan)))
      (room_lacks kind s who (view_sessions t) (view_session slot) (request_in 0 false false (rows_of n plan)))
      (address_lacks s (view_sessions t) (request_in 0 false false (rows_of n plan)))
  verdict_is =
      let a = live_same in
      let b : invalid_allocation (request_in 0 restoring false (rows_of n plan)) ≡ invalid_allocation (request_in seid restoring noted (rows_of n plan)) = invalid_rows 0 restoring false (rows_of n plan) ∙ sym (invalid_rows seid restoring noted (rows_of n plan)) in
      let c : (request_in 0 false noted (rows_of n plan)).unsupported ≡ (request_in seid restoring noted (rows_of n plan)).unsupported = unsupported_rows 0 false noted (rows_of n plan) ∙ sym (unsupported_rows seid restoring noted (rows_of n plan)) in
      let e = room_rows kind s who (view_sessions t) (view_session slot) seid restoring noted (rows_of n plan) in
      let f = address_same s (view_sessions t) seid restoring noted (rows_of n plan) in
      judge_is kind s who (view_sessions t) (view_session slot) (request_in seid restoring noted (rows_of n plan)) seid (unfold request_in in refl)
      ∙ sym (λ i. chain (a i) (b i) (c i) (rule_same i) (e i) (f i))

-- these causes name no element
pub judge_plain : (kind : ℕ) (s : Settings) (who : ℕ) (m : Sessions) (x : Session) (r : Request) → judge kind s who m x r ≡ plain (judge kind s who m x r).cause
unfolding judge
judge_plain kind s who m x r = refl

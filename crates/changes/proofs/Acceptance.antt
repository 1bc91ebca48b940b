-- What an accepted establishment or modification leaves.
-- Assumes nothing.
use Rattle.std.specs.Prelude.{Result}
use mathlib.Core.Path.{◌≡◌, sym, ap, ap₂, ◌∙◌, subst}
use mathlib.Core.List.{List}
use mathlib.Core.Bool.{true}
use Prim.Native.Nat.{ℕ, ◌+◌, ◌*◌, ◌≤◌}
use native.Mathlib.Omega.{arith}
use lib.Dec.{T}
use lib.ListN.{length, take}
use lib.Seq.{length-take-le}
use Rattle.octets.specs.Octets.{put}
use Rattle.octets.specs.Lists.{all, has_repeat}
use Rattle.octets.proofs.Tests.{is_false}
use Rattle.rules.specs.Model.{Settings, Sessions, held_teids, held_addresses}
use Rattle.rules.specs.Layout.{key_width, view_settings, view_sessions, table_length}
use Rattle.rules.specs.Reading.{read_request}
use Rattle.rules.specs.Request.{Request}
use Rattle.rules.specs.Grants.{Kind, Got, choices, grants, chosen_address, granted}
use Rattle.rules.specs.Stages.{Verdict, plain, entry_session, created_pdrs, created_endpoints}
use Rattle.rules.specs.Reply.{reports, reply}
use Rattle.rules.specs.Serve.{reply_to}
use Rattle.rules.specs.Causes as why
use Rattle.laws.proofs.RequestLaws.{RequestRead, request_read}
use Rattle.laws.proofs.GrantLaws.{choices_few}
use Rattle.invariants.proofs.VerdictLaws.{Passed, passed, few_new_pdrs, few_new_endpoints}
use Rattle.laws.proofs.KeptRequest.{RulesKept}
use Rattle.laws.proofs.KeptRules.{TableKept, table_kept}
use Rattle.invariants.proofs.FreeTeids.{held_in_pool}
use Rattle.pool.proofs.TakenLaws.{Means, map_means}
use Rattle.pool.proofs.AddressLaws.{address_map_means}
use Rattle.plan.specs.Rows.{row_width, rows_of, request_in}
use Rattle.grants.specs.Choosing.{Granted, addressed, lowest_address, report_places}
use Rattle.grants.proofs.RequestLaws.{csids_same, nulls_same}
use Rattle.grants.proofs.GrantLaws.{IsGranted, granted as grants-are}
use Rattle.grants.proofs.ReportLaws.{gets, row_got, alike_got_lem}
use Rattle.grants.proofs.AllLaws.{AllGranted, Reported, address_is, all_granted, all_reported}
use Rattle.grants.proofs.FitLaws.{read_choices_fit}
use Rattle.grants.proofs.ChoiceLaws.{choice_fits}
use Rattle.writing.specs.Placed.{written}
use Rattle.created.specs.Groups.{id_fits}
use Rattle.created.specs.Entries.{max_grants, tolds_at, reports_at, within}
use Rattle.areas.specs.Records.{key_of}
use Rattle.areas.specs.Counted.{place_in, with_record}
use Rattle.session.specs.Areas.{table_area}
use Rattle.session.specs.Build.{built}
use Rattle.session.proofs.Built.{Ready}
use Rattle.unit.specs.declared.Settings.{Settings as Unit}
use Rattle.unit.specs.Meaning.{settings_of}
use Rattle.unit.proofs.FieldLaws.{first_is, size_is, first_address_is, addresses_is, limit_is}
use Rattle.stages.specs.declared.Known.{Known}
use Rattle.stages.specs.declared.Told.{Told}
use Rattle.changes.specs.Answers.{verdict_on, Answers, OnlyNull, Accepting}
use Rattle.changes.specs.Steps.{Giving, Given}
use Rattle.changes.proofs.Accepted.{RowsFit, GotStored, ready}
use Rattle.changes.proofs.Granting.{rows_fit, got_stored, whole_rows}
use Rattle.changes.proofs.NewTable.{built_key, changed_table}
use Rattle.changes.proofs.Entering.{long_by}

module _ {k : Known} {d : Told} {t words ips msg slot gone plan out : List ℕ} (a : Accepting k d t words ips msg slot gone plan out) where
  abbrev u : Unit
  u = k.u

  abbrev who : ℕ
  who = k.share.peer

  abbrev seid : ℕ
  seid = d.seid

  abbrev n : ℕ
  n = d.rows

  abbrev s : Settings
  s = view_settings t

  abbrev m : Sessions
  m = view_sessions t

  abbrev q : Request
  q = request_in seid d.restoring d.noted (rows_of n plan)

  kept : TableKept t
  kept = table_kept t a.asked.table

  passes : Passed s who m msg
  passes = passed s who m msg (ap (λ (v : Verdict). v.cause) a.verdict)

  rules : RulesKept s m (entry_session who m msg) q
  rules = subst (λ (r : Request). RulesKept s m (entry_session who m msg) r) a.means passes.rules

  read : RequestRead q
  read = subst RequestRead a.means (request_read msg a.asked.octets)

  marked_held : Means s.first words (held_teids m)
  marked_held = subst (λ (w : List ℕ). Means s.first w (held_teids m)) (sym a.marks) (map_means s m kept.settings (held_in_pool s m kept.sessions))

  marked_addresses : Means s.first_address ips (held_addresses s m)
  marked_addresses = subst (λ (w : List ℕ). Means s.first_address w (held_addresses s m)) (sym a.address_marks) (address_map_means s m kept.settings)

  choice_fits_lem : T (all choice_fits (choices q))
  choice_fits_lem = subst (λ (r : Request). T (all choice_fits (choices r))) a.means (read_choices_fit msg a.asked.octets)

  few_records : length q.pdrs + length q.endpoints ≤ max_grants
  few_records =
      subst (λ (r : Request). length r.pdrs + length r.endpoints ≤ max_grants) a.means
      (let ps = few_new_pdrs passes in let es = few_new_endpoints passes in omega arith)

  few_choices : length (choices q) ≤ 24
  few_choices = subst (λ (r : Request). length (choices r) ≤ 24) a.means (choices_few (read_request msg) (few_new_pdrs passes) (few_new_endpoints passes))

  -- what storing the session asks
  pub keep_long : length t ≡ table_length k.u.limit
  keep_long = long_by t k.u.limit (limit_is u s a.settings) a.asked.table_long

  pub keep_rows : (plan' : List ℕ) → length plan' ≡ length plan → d.rows * row_width ≤ length plan'
  keep_rows plan' l = omega (arith, a.rows, l)

  -- what giving asks
  pub give_asks : {places : List ℕ} → length places ≡ max_grants → Giving u words ips plan places n
  give_asks l =
      let first = first_is u s a.settings in
      let size = size_is u s a.settings in
      let first_address = first_address_is u s a.settings in
      let addresses = addresses_is u s a.settings in
      let e₁ = a.map_long in
      let e₂ = a.address_map_long in
      let e₃ = a.size in
      let e₄ = a.first in
      let e₅ = a.addresses in
      let e₆ = a.first_address in
      record { rows = a.rows; wide = omega arith; size = omega arith; first = omega arith; wide_addresses = omega arith; addresses = omega arith; first_address = omega arith; room = l }

  module _ {j : ℕ} {plan' places' : List ℕ} (g : Given u words ips plan n j plan' places') where
    granted_teids : Granted n s.first words s.size plan g.count g.between g.chosen
    granted_teids =
        subst (λ (x : ℕ). Granted n x words s.size plan g.count g.between g.chosen) (first_is u s a.settings)
        (subst (λ (y : ℕ). Granted n u.first words y plan g.count g.between g.chosen) (size_is u s a.settings) g.granted)

    is_granted : IsGranted (grants s m q) seid d.restoring d.noted n plan g.between
    is_granted =
        grants-are seid d.restoring d.noted n plan s m words marked_held a.rows choice_fits_lem few_choices
        (is_false (has_repeat (created_pdrs q)) rules.created_pdrs_once) (is_false (has_repeat (created_endpoints q)) rules.created_endpoints_once) granted_teids

    -- the address is the rules'
    same_address : lowest_address u.first_address ips u.addresses ≡ chosen_address s m
    same_address =
        (λ i. lowest_address (first_address_is u s a.settings i) ips (addresses_is u s a.settings i)) ∙ address_is s m ips marked_addresses

    is_all : AllGranted (grants s m q) (chosen_address s m) seid d.restoring d.noted n plan plan'
    is_all =
        all_granted seid d.restoring d.noted n plan a.rows (grants s m q) (chosen_address s m) is_granted
        (g.address ∙ ap (λ (x : ℕ). addressed x n g.between) same_address)

    -- what the reply asks of the plan and the places
    told : Reported (reports (granted s m q) q) plan' (take j places')
    told = all_reported seid d.restoring d.noted n plan a.rows s m is_all few_records read.endpoints g.reported

    pub told_few : length (take j places') ≤ max_grants
    told_few = told.few

    pub told_inside : T (within plan' (take j places'))
    told_inside = told.inside

    pub told_ids : all id_fits (tolds_at plan' (take j places')) ≡ true
    told_ids = told.ids

    means' : read_request msg ≡ request_in seid d.restoring d.noted (rows_of n plan')
    means' = a.means ∙ sym is_all.same

    got_is : gets (grants s m q) (chosen_address s m) ≡ granted s m (read_request msg)
    unfolding granted
    got_is = ap (λ (r : Request). gets (grants s m r) (chosen_address s m)) (sym a.means)

    stored : GotStored (granted s m (read_request msg)) (rows_of n plan')
    stored =
        subst (λ (got : Kind → ℕ → Got). GotStored got (rows_of n plan')) got_is
        (subst (GotStored (gets (grants s m q) (chosen_address s m))) (sym is_all.rows) (got_stored (grants s m q) (chosen_address s m) (rows_of n plan) (whole_rows n plan a.rows)))

    only : OnlyNull (rows_of n plan')
    only =
        let h = row_got (grants s m q) (chosen_address s m) in
        let like = alike_got_lem (grants s m q) (chosen_address s m) in
        subst OnlyNull (sym is_all.rows) (λ e. csids_same h like (rows_of n plan) ∙ a.only_null (sym (nulls_same h like (rows_of n plan)) ∙ e))

    fit : RowsFit (rows_of n plan')
    fit = rows_fit seid d.restoring d.noted (rows_of n plan') only (subst RequestRead means' (request_read msg a.asked.octets))

    is_ready : Ready (granted s m (read_request msg)) gone (rows_of n plan') (entry_session who m msg)
    is_ready = ready s who m msg passes seid d.restoring d.noted (rows_of n plan') means' gone a.removed fit only stored

    same_seid : seid ≡ (read_request msg).seid
    unfolding request_in
    same_seid = sym (ap (λ (r : Request). r.seid) a.means)

    same_reports : reports_at plan' (take j places') ≡ reports (granted s m (read_request msg)) (read_request msg)
    same_reports = told.are ∙ ap (λ (r : Request). reports (granted s m r) r) (sym a.means)

    same_reply_lem : reply s who msg seid (plain why.accepted) (reports_at plan' (take j places')) ≡ reply_to s who m msg (verdict_on t who msg)
    unfolding reply_to
    same_reply_lem = λ i. reply s who msg (same_seid i) (sym a.verdict i) (same_reports i)

    -- the session that is built has its place where the one at entry stands
    pub keep_place : place_in (table_area u.limit) (key_of key_width (built gone (rows_of n plan') slot)) t ≡ d.place
    keep_place =
        ap₂ (λ (l x : ℕ). place_in (table_area l) x t) (limit_is u s a.settings)
        (built_key s kept.settings who a.asked.peer m kept.sessions msg a.asked.octets a.asked.kind a.asked.named passes a.other seid d.restoring d.noted gone (rows_of n plan') slot means' a.removed a.entry is_ready)
        ∙ a.place

    pub accepted_answers : {used : ℕ} {out' t' : List ℕ} → (used, out') ≡ written (reply (settings_of u) who msg seid (plain why.accepted) (reports_at plan' (take j places'))) out
        → t' ≡ with_record (table_area u.limit) (built gone (rows_of n plan') slot) t → Answers t who msg out used out' t'
    accepted_answers w' e =
        let w = rw a.settings at w' in
        record {
          long = ap (λ (p : ℕ × List ℕ). p.0) w ∙ ap length same_reply_lem;
          space = ap (λ (p : ℕ × List ℕ). p.1) w ∙ ap (λ (l : List ℕ). put 0 l out) same_reply_lem;
          table =
              e ∙ ap₂ (λ (l : ℕ) (x : List ℕ). with_record (table_area l) (built gone (rows_of n plan') slot) x) (limit_is u s a.settings) (sym kept.encoded)
              ∙ changed_table s kept.settings who a.asked.peer m kept.sessions msg a.asked.octets a.asked.kind a.asked.named passes a.other seid d.restoring d.noted gone (rows_of n plan') slot means' a.removed a.entry is_ready
              ∙ rw a.verdict;
        }

-- no more places are told than there is room for
module _ {u : Unit} {teids ips plan : List ℕ} {n r : ℕ} {plan' places' : List ℕ} (g : Given u teids ips plan n r plan' places') (long : length places' ≡ max_grants) where
  pub places_within : r ≤ length places'
  places_within = omega (arith, g.few, long)

  pub places_part : r ≡ length (take r places')
  places_part = sym (length-take-le r places' places_within)

-- the steps of giving, one after the other
pub gives_all : {u : Unit} {teids ips plan : List ℕ} {n r : ℕ} {between plan' chosen places' : List ℕ} {count : ℕ} → Granted n u.first teids u.size plan count between chosen
    → plan' ≡ addressed (lowest_address u.first_address ips u.addresses) n between → (r ≤ max_grants) × (take r places' ≡ report_places n plan') → Given u teids ips plan n r plan' places'
gives_all {between = between} {chosen = chosen} {count = count} g e f = record { count = count; between = between; chosen = chosen; granted = g; address = e; few = f.0; reported = f.1 }

-- the place of what was built
pub kept_place : (room n : ℕ) (gone plan slot slot' t : List ℕ) (q : Result ℕ ℕ) → slot' ≡ built gone (rows_of n plan) slot → place_in (table_area room) (key_of key_width (built gone (rows_of n plan) slot)) t ≡ q
    → place_in (table_area room) (key_of key_width slot') t ≡ q
kept_place room n gone plan slot slot' t q b e = ap (λ (l : List ℕ). place_in (table_area room) (key_of key_width l) t) b ∙ e

-- the session built and stored
pub kept_session : (room n : ℕ) (gone plan slot slot' t t' : List ℕ) → slot' ≡ built gone (rows_of n plan) slot → t' ≡ with_record (table_area room) slot' t
    → (slot' ≡ built gone (rows_of n plan) slot) × (t' ≡ with_record (table_area room) (built gone (rows_of n plan) slot) t)
kept_session room n gone plan slot slot' t t' b d = (b, d ∙ ap (λ (u : List ℕ). with_record (table_area room) u t) b)

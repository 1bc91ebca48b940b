-- Stage 1: the session that a request names.
-- Assumes nothing.
use Rattle.std.specs.Prelude.{None, Result, Ok, Err}
use mathlib.Core.Path.{◌≡◌, sym, ap, ◌∙◌}
use mathlib.Core.Bool.{Bool, true, false, not}
use mathlib.Core.List.{List}
use Prim.Native.Nat.{ℕ, ◌+◌, ◌*◌, ◌≤◌}
use native.Mathlib.Omega.{arith}
use lib.Dec.{eqb}
use lib.ListN.{length}
use Rattle.rules.specs.Layout.{view_settings, view_sessions, settings_width, session_width}
use Rattle.rules.specs.Model.{Sessions, key_for}
use Rattle.rules.specs.Message.{kind_of, header_seid, establishment, deletion, set_deletion}
use Rattle.rules.specs.Stages.{Verdict, plain, is_live, unknown_session, unnamed}
use Rattle.rules.specs.Causes as why
use Rattle.areas.specs.Records.{pair_key}
use Rattle.areas.specs.Counted.{place_in}
use Rattle.session.specs.Areas.{table_area}
use Rattle.unit.specs.declared.Settings.{Settings as Unit}
use Rattle.unit.specs.Meaning.{settings_of}
use Rattle.unit.proofs.FieldLaws.{limit_is}
use Rattle.stages.specs.declared.Known.{Known}
use Rattle.changes.specs.Answers.{Asked, Live, verdict_on, Answers, Replies, Refusing}
use Rattle.changes.specs.Steps.{Changing}
use Rattle.changes.proofs.VerdictSteps.{no_session_lem}
use Rattle.changes.proofs.Entering.{long_by, live_found, live_absent, other_than_lem}

new_known : (who : ℕ) (m : Sessions) (msg : List ℕ) → kind_of msg ≡ establishment → unknown_session who m msg ≡ false
unfolding unknown_session unnamed
new_known who m msg e = rw e

unknown_is : (who : ℕ) (m : Sessions) (msg : List ℕ) (b : Bool) → eqb (kind_of msg) set_deletion ≡ false → (kind_of msg ≡ establishment → ⊥) → b ≡ is_live (key_for who (header_seid msg)) m → unknown_session who m msg ≡ not b
unfolding unknown_session unnamed
unknown_is who m msg b n o e = rw (other_than_lem (kind_of msg) establishment o, n) (ap (λ (y : Bool). not y) (sym e))

-- a table that is not broken has the octets of its sessions
pub table_room : (u : Unit) {t : List ℕ} {who : ℕ} {msg out : List ℕ} → Asked t who msg out → settings_of u ≡ view_settings t → settings_width + 2 + u.limit * session_width ≤ length t
table_room u {t} a same = omega (arith, long_by t u.limit (limit_is u (view_settings t) same) a.table_long)

module _ (k : Known) {t msg out : List ℕ} (a : Asked t k.share.peer msg out) (is : k.kind ≡ kind_of msg) where
  abbrev who : ℕ
  who = k.share.peer

  -- an establishment
  pub establishes : k.kind ≡ establishment → Changing k t msg out 0
  establishes e =
      let new : kind_of msg ≡ establishment = sym is ∙ e in
      record { asked = a; live = new_known who (view_sessions t) msg new; kind_is = is; other = ap (λ (n : ℕ). eqb n deletion) new; found = λ o. absurd (o e) }

  -- a deletion
  pub deletes : k.kind ≡ deletion → kind_of msg ≡ deletion
  deletes e = sym is ∙ e

  module _ (o : k.kind ≡ establishment → ⊥) (named : k.seid ≡ header_seid msg) (same : settings_of k.u ≡ view_settings t) {r : Result ℕ ℕ} (at : r ≡ place_in (table_area k.u.limit) (pair_key k.share.peer k.seid) t) where
    room : k.u.limit ≡ (view_settings t).limit
    room = limit_is k.u (view_settings t) same

    at_header : r ≡ place_in (table_area k.u.limit) (pair_key who (header_seid msg)) t
    at_header = at ∙ ap (λ (n : ℕ). place_in (table_area k.u.limit) (pair_key who n) t) named

    -- no such session: cause 65, which has no place
    module _ {p : ℕ} (e : r ≡ Err p) where
      none_live : verdict_on t who msg ≡ plain why.no_session
      none_live =
          no_session_lem (view_settings t) who (view_sessions t) msg
          (unknown_is who (view_sessions t) msg false a.named (λ z. o (is ∙ z)) (live_absent t a.table who (header_seid msg) p k.u.limit r room at_header e))

      pub absent_refuses : Refusing t k.share.peer msg out why.no_session None
      absent_refuses = record { place = 0; verdict = none_live; small = omega arith; other = λ z. omega arith }

      pub absent_replies : {used : ℕ} {out' : List ℕ} → Answers t k.share.peer msg out used out' t → Replies t k.share.peer msg out used 0 out' t
      absent_replies x = record { answers = x; placed = sym (ap (λ (v : Verdict). v.place) none_live) }

    module _ {p : ℕ} (e : r ≡ Ok p) where
      named_live : Live t k.share.peer msg
      named_live = unknown_is who (view_sessions t) msg true a.named (λ z. o (is ∙ z)) (live_found t a.table who (header_seid msg) p k.u.limit r room at_header e)

      -- where it stands
      named_place : place_in (table_area (view_settings t).limit) (key_for k.share.peer (header_seid msg)) t ≡ Ok p
      unfolding key_for
      named_place = ap (λ (i : ℕ). place_in (table_area i) (pair_key who (header_seid msg)) t) (sym room) ∙ sym at_header ∙ e

      pub named_at : Live t k.share.peer msg × (place_in (table_area (view_settings t).limit) (key_for k.share.peer (header_seid msg)) t ≡ Ok p)
      named_at = (named_live, named_place)

      -- a modification
      pub modifies : (k.kind ≡ deletion → ⊥) → Changing k t msg out p
      modifies n =
          record {
            asked = a;
            live = named_live;
            kind_is = is;
            other = other_than_lem (kind_of msg) deletion (λ z. n (is ∙ z));
            found = λ z. named_place;
          }

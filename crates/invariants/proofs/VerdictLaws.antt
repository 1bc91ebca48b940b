-- What a request has passed that is refused in stage 5 or not at all: every earlier stage's tests; and so an accepted one.
-- Assumes nothing.
use mathlib.Core.Path.{◌≡◌, refl, sym, ap, ◌∙◌, subst}
use mathlib.Core.Logic.{◌≢◌}
use Prim.Native.Nat.{ℕ, ◌≤◌}
use native.Mathlib.Omega.{arith}
use mathlib.Core.Bool.{Bool, true, false, not}
use mathlib.Core.Option.{Option, none, some}
use mathlib.Core.List.{List, ◌∷◌, [], ◌++◌, map}
use lib.ListN.{length}
use lib.Dec.{T, T_not}
use Rattle.octets.proofs.Tests.{pick_no}
use Rattle.octets.specs.Lists.{member}
use Rattle.octets.specs.Choice.{pick}
use Rattle.rules.specs.Model.{Settings, Sessions}
use Rattle.rules.specs.Elements.{Refusal, missing, conditional, too_short, incorrect, cause_of}
use Rattle.rules.specs.Message.{kind_of, Spot, frame_fault}
use Rattle.rules.specs.Reading.{Fault, read_fault, read_request}
use Rattle.rules.specs.Stages.{invalid_allocation, breaks_rule, room_lacks, address_lacks, Verdict, plain, judge, entry_session, judged, from_reading, verdict_from, unknown_session, verdict, already_live, Reason, because, first_of, reasons}
use Rattle.rules.specs.Causes as why
use Rattle.laws.proofs.ReasonLaws.{cause_in, first_past, first_rest}
use Rattle.laws.proofs.KeptRequest.{RulesKept, rules_kept, RoomLeft, room_left_lem}

-- no fault of stages 1 to 4 stands
pub record Reached (s : Settings) (who : ℕ) (m : Sessions) (msg : List ℕ) : Type 0 where
  pub known : T (not (unknown_session who m msg))
  pub framed : frame_fault msg ≡ none
  pub read : read_fault msg ≡ none
  pub fresh : T (not (already_live (kind_of msg) who m (read_request msg)))
  pub allocation : T (not (invalid_allocation (read_request msg)))
  pub supported : T (not (read_request msg).unsupported)
  -- the rules that the request keeps
  pub rules : T (not (breaks_rule s m (entry_session who m msg) (read_request msg)))

-- what an accepted request has passed
pub record Passed (s : Settings) (who : ℕ) (m : Sessions) (msg : List ℕ) : Type 0 where
  pub known : T (not (unknown_session who m msg))
  pub framed : frame_fault msg ≡ none
  pub read : read_fault msg ≡ none
  pub fresh : T (not (already_live (kind_of msg) who m (read_request msg)))
  pub allocation : T (not (invalid_allocation (read_request msg)))
  pub supported : T (not (read_request msg).unsupported)
  pub rules : RulesKept s m (entry_session who m msg) (read_request msg)
  pub room : RoomLeft (kind_of msg) s who m (entry_session who m msg) (read_request msg)
  pub address : T (not (address_lacks s m (read_request msg)))

-- the causes of stages 1 to 3
abbrev early : List ℕ
early = why.no_session ∷ why.mandatory_missing ∷ why.conditional_missing ∷ why.wrong_length ∷ why.incorrect ∷ []

module _ (s : Settings) (who : ℕ) (m : Sessions) (msg : List ℕ) where
  -- the reasons of stage 4, and the two of stage 5
  abbrev stage4 : List Reason
  stage4 =
      because why.rejected (already_live (kind_of msg) who m (read_request msg))
      ∷ because why.wrong_allocation (invalid_allocation (read_request msg))
      ∷ because why.not_supported (read_request msg).unsupported
      ∷ because why.broken_rule (breaks_rule s m (entry_session who m msg) (read_request msg))
      ∷ []

  abbrev pub no_room : Reason
  no_room = because why.no_room (room_lacks (kind_of msg) s who m (entry_session who m msg) (read_request msg))

  abbrev pub no_address : Reason
  no_address = because why.no_address (address_lacks s m (read_request msg))

  judged_first : (judged s who m msg).cause ≡ first_of (stage4 ++ (no_room ∷ no_address ∷ []))
  unfolding judged judge reasons
  judged_first = refl

  -- a cause n that no fault of stages 1 to 4 has
  module _ (n : ℕ) (before : T (not (member n early))) (late : T (not (member n (map cause_in stage4)))) where
    other : (c : ℕ) → T (member c early) → c ≢ n
    other c h e = T_not (member n early) before (subst (λ (k : ℕ). T (member k early)) e h)

    -- stage 1
    past_session : (b : Bool) (v : Verdict) → (pick b (plain why.no_session) v).cause ≡ n → T (not b) × (v.cause ≡ n)
    unfolding member
    past_session true v e = absurd (other why.no_session tt e)
    past_session false v e = (tt, e)

    -- stage 2
    past_framing : (o : Option Spot) → (verdict_from s who m msg o).cause ≡ n → (o ≡ none) × ((from_reading s who m msg (read_fault msg)).cause ≡ n)
    unfolding verdict_from member
    past_framing none e = (refl, e)
    past_framing (some t) e = absurd (other why.wrong_length tt e)

    -- a reader's refusal has another cause
    refused : (f : Refusal) → cause_of f ≢ n
    unfolding cause_of member
    refused missing = other why.mandatory_missing tt
    refused conditional = other why.conditional_missing tt
    refused too_short = other why.wrong_length tt
    refused incorrect = other why.incorrect tt

    -- stage 3
    past_reading : (o : Option Fault) → (from_reading s who m msg o).cause ≡ n → (o ≡ none) × ((judged s who m msg).cause ≡ n)
    unfolding from_reading
    past_reading none e = (refl, e)
    past_reading (some f) e = absurd (refused f.cause e)

    -- it comes from stages 5 and 6
    pub reached : (verdict s who m msg).cause ≡ n → Reached s who m msg × (first_of (no_room ∷ no_address ∷ []) ≡ n)
    unfolding verdict
    reached e =
        let a = past_session (unknown_session who m msg) (verdict_from s who m msg (frame_fault msg)) e in
        let b = past_framing (frame_fault msg) a.1 in
        let c = past_reading (read_fault msg) b.1 in
        let d = first_past n stage4 (no_room ∷ no_address ∷ []) late (sym judged_first ∙ c.1) in
        (record { known = a.0; framed = b.0; read = c.0; fresh = d.0.0; allocation = d.0.1.0; supported = d.0.1.1.0; rules = d.0.1.1.1.0 }, d.1)

  -- and goes on to them where none of the earlier ones stands
  pub reached_cause : Reached s who m msg → (verdict s who m msg).cause ≡ first_of (no_room ∷ no_address ∷ [])
  unfolding verdict
  reached_cause p =
      ap {B = ℕ} (λ (v : Verdict). v.cause)
      (pick_no (unknown_session who m msg) (plain why.no_session) _ p.known
      ∙ ap (verdict_from s who m msg) p.framed
      ∙ framed
      ∙ ap (from_reading s who m msg) p.read
      ∙ read)
      ∙ judged_first
      ∙ first_rest stage4 (no_room ∷ no_address ∷ []) (p.fresh, (p.allocation, (p.supported, (p.rules, tt))))
    where
      framed : verdict_from s who m msg none ≡ from_reading s who m msg (read_fault msg)
      framed = unfold verdict_from in refl

      read : from_reading s who m msg none ≡ judged s who m msg
      read = unfold from_reading in refl

  pub passed : (verdict s who m msg).cause ≡ why.accepted → Passed s who m msg
  unfolding member
  passed e =
      let k = reached why.accepted tt tt e in
      let p = k.0 in
      let q = (first_past why.accepted (no_room ∷ no_address ∷ []) [] tt k.1).0 in
      record {
        known = p.known;
        framed = p.framed;
        read = p.read;
        fresh = p.fresh;
        allocation = p.allocation;
        supported = p.supported;
        rules = rules_kept s m (entry_session who m msg) (read_request msg) p.rules;
        room = room_left_lem (kind_of msg) s who m (entry_session who m msg) (read_request msg) q.0;
        address = q.1.0;
      }

-- at most 16 PDRs and 8 endpoints are created
module _ {s : Settings} {who : ℕ} {m : Sessions} {msg : List ℕ} (p : Passed s who m msg) where
  pub few_new_pdrs : length (read_request msg).pdrs ≤ 16
  few_new_pdrs = omega (arith, p.room.pdrs)

  pub few_new_endpoints : length (read_request msg).endpoints ≤ 8
  few_new_endpoints = omega (arith, p.room.endpoints)

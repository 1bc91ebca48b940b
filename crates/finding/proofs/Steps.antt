-- The answers on a table, from what the calls inside them say.
-- Assumes nothing.
use Rattle.std.specs.Prelude.{Result, Ok, Err}
use mathlib.Core.Path.{◌≡◌, sym, ap, ◌∙◌}
use Prim.Native.Nat.{ℕ, ◌+◌, ◌*◌, ◌≤◌, ◌<◌}
use native.Mathlib.Omega.{arith}
use mathlib.Core.Bool.{Bool, true, false, not}
use mathlib.Core.Option.{Option, none, some}
use mathlib.Core.List.{List}
use lib.Dec.{T}
use lib.ListN.{length, drop}
use Rattle.octets.specs.Octets.{part, number}
use Rattle.octets.proofs.Tests.{of_true, is_true}
use Rattle.laws.proofs.LayoutLaws.{limit_read}
use Rattle.rules.specs.Layout.{view_settings, view_sessions, view_session, encode, settings_width, session_width, limit_at}
use Rattle.rules.specs.Sound.{session_allowed, sound}
use Rattle.rules.specs.Model.{key_for}
use Rattle.rules.specs.Stages.{has_key, session_of}
use Rattle.rules.specs.Restoring.{session_at}
use Rattle.rules.specs.Finding.{Finding, finding_of, place_from, session_place, is_holder, holder_place, find_in, count_sessions, find_session, find_holder}
use Rattle.areas.specs.declared.Area.{Area}
use Rattle.areas.specs.Records.{pair_key}
use Rattle.areas.specs.Counted.{place_in}
use Rattle.session.specs.Areas.{table_area}
use Rattle.session.proofs.Saved.{session_place_lem, session_absent}
use Rattle.table.proofs.Encoded.{Encoded, sound_encoded}
use Rattle.table.proofs.SoundSlots.{slot_at, few_pdrs_lem, few_endpoints_lem, slot_long_lem, slot_session, place_allowed, count_read, table_long_lem}
use Rattle.std.specs.Prelude as std
use Rattle.std.specs.Option.{ok_or}
use Rattle.finding.specs.declared.Untold.{Untold}
use Rattle.finding.specs.declared.Untold.TheVariants.{NotFound}
use Rattle.finding.specs.Answers.{finding_told}
use Rattle.finding.specs.Holds.{SlotCounted}
use Rattle.finding.proofs.PlaceLaws.{key_found, place_none, place_here, place_later, place_end}

-- ---- broken or not

abbrev broken : Finding
broken = record { outcome = 1; number = 0 }

module _ (t : List ℕ) (b : Bool) (e : b ≡ sound t) where
  pub told_broken : (o : Option ℕ) → not b ≡ true → broken ≡ find_in t o
  unfolding find_in
  told_broken o z = go b e z
    where
      go : (c : Bool) → c ≡ sound t → not c ≡ true → broken ≡ find_in t o
      go true e' z' = absurd (let w : ◌≡◌ {A = ℕ} 0 1 = cc in omega arith)
      go false e' z' = rw (← e')

  pub is_sound_lem : not b ≡ false → T (sound t)
  is_sound_lem z = go b e z
    where
      go : (c : Bool) → c ≡ sound t → not c ≡ false → T (sound t)
      go true e' z' = of_true (sym e')
      go false e' z' = absurd (let w : ◌≡◌ {A = ℕ} 0 1 = cc in omega arith)

  pub told : (o : Option ℕ) → not b ≡ false → finding_of o ≡ find_in t o
  unfolding find_in
  told o z = sym (rw (is_true (sound t) (is_sound_lem z)))

  -- ---- the three answers

  pub count_broken : not b ≡ true → broken ≡ count_sessions t
  unfolding count_sessions
  count_broken z = told_broken (some (length (view_sessions t))) z

  pub count_told_lem : (n : ℕ) → not b ≡ false → n ≡ number (part settings_width 2 t) → finding_of (some n) ≡ count_sessions t
  unfolding count_sessions
  count_told_lem n z q = ap (λ (k : ℕ). finding_of (some k)) (q ∙ sym (count_read t (is_sound_lem z))) ∙ told (some (length (view_sessions t))) z

  pub room_there : (room : ℕ) → not b ≡ false → room ≡ number (part limit_at 2 t) → settings_width + 2 + room * session_width ≤ length t
  room_there room z l = let e = table_long_lem t (is_sound_lem z) in let f = l ∙ sym (limit_read t) in omega arith

  module _ (who seid : ℕ) where
    abbrev key : ℕ
    key = key_for who seid

    pub seid_broken : not b ≡ true → broken ≡ find_session t who seid
    unfolding find_session
    seid_broken z = told_broken (session_place who seid (view_sessions t)) z

    module _ (z : not b ≡ false) (room : ℕ) (l : room ≡ number (part limit_at 2 t)) (r : Result ℕ ℕ) (q : r ≡ place_in (table_area room) (pair_key who seid) t) where
      by_key : r ≡ place_in (table_area room) key t
      unfolding key_for
      by_key = q

      abbrev area : Area
      area = table_area (view_settings t).limit

      k : Encoded t (view_settings t) (view_sessions t)
      k = sound_encoded t (is_sound_lem z)

      there : (u : Result ℕ ℕ) → r ≡ u → place_in area key (encode (view_settings t) (view_sessions t)) ≡ u
      there u f = ap (place_in area key) (sym k.whole) ∙ ap (λ (n : ℕ). place_in (table_area n) key t) (limit_read t ∙ sym l) ∙ sym by_key ∙ f

      pub seid_told : (p : ℕ) → r ≡ Ok p → finding_of (some p) ≡ find_session t who seid
      unfolding find_session session_place
      seid_told p f =
          sym (ap finding_of (key_found 0 key p (view_sessions t) (sym (session_place_lem (view_settings t) k.settings (view_sessions t) k.sessions key) ∙ there (Ok p) f)))
          ∙ told (session_place who seid (view_sessions t)) z

      pub seid_none : (p : ℕ) → r ≡ Err p → finding_of none ≡ find_session t who seid
      unfolding find_session session_place
      seid_none p f =
          sym (ap finding_of (place_none 0 (has_key key) (view_sessions t) (unfold session_of in session_absent (view_settings t) k.settings (view_sessions t) k.sessions key p (there (Err p) f))))
          ∙ told (session_place who seid (view_sessions t)) z

  module _ (teid : ℕ) where
    pub teid_broken : not b ≡ true → broken ≡ find_holder t teid
    unfolding find_holder
    teid_broken z = told_broken (holder_place teid (view_sessions t)) z

    pub teid_told : (o : std.Option ℕ) (r : std.Result ℕ Untold) → not b ≡ false
        → std.MatchOption o (holder_place teid (view_sessions t) ≡ none) (λ i. holder_place teid (view_sessions t) ≡ some i)
        → r ≡ ok_or o NotFound → finding_told r ≡ find_holder t teid
    unfolding find_holder
    teid_told o r z q e = ap finding_told e ∙ is_told o q ∙ told (holder_place teid (view_sessions t)) z
      where
        is_told : (p : std.Option ℕ) → std.MatchOption p (holder_place teid (view_sessions t) ≡ none) (λ i. holder_place teid (view_sessions t) ≡ some i)
            → finding_told (ok_or p NotFound) ≡ finding_of (holder_place teid (view_sessions t))
        is_told std.None h = ap finding_of (sym h)
        is_told (std.Some i) h = ap finding_of (sym h)

  pub sessions_counted_lem : (n : ℕ) → not b ≡ false → n ≡ number (part settings_width 2 t) → n ≡ length (view_sessions t)
  sessions_counted_lem n z q = q ∙ sym (count_read t (is_sound_lem z))

-- ---- the walk over the sessions

module _ (t : List ℕ) (h : T (sound t)) (teid i n : ℕ) (count : n ≡ length (view_sessions t)) (below : i < n) where
  less : i < length (view_sessions t)
  less = omega arith

  pub slot_counted : SlotCounted (slot_at t i)
  slot_counted =
      let fine : T (session_allowed (view_settings t) (view_session (slot_at t i))) = rw (slot_session t h i less) (place_allowed t h i less) in
      record {
        long = slot_long_lem t h i less;
        pdrs = few_pdrs_lem (view_settings t) (slot_at t i) (slot_long_lem t h i less) fine;
        endpoints = few_endpoints_lem (view_settings t) (slot_at t i) (slot_long_lem t h i less) fine;
      }

  module _ (r : Bool) (e : r ≡ is_holder teid (view_session (slot_at t i))) where
    test : is_holder teid (session_at (view_sessions t) i) ≡ r
    test = ap (is_holder teid) (sym (slot_session t h i less)) ∙ sym e

    pub holder_here : r ≡ true → place_from i (is_holder teid) (drop i (view_sessions t)) ≡ holder_place teid (view_sessions t)
        → holder_place teid (view_sessions t) ≡ some i
    holder_here y k = sym k ∙ place_here (is_holder teid) (view_sessions t) i less (test ∙ y)

    pub holder_later : r ≡ false → place_from i (is_holder teid) (drop i (view_sessions t)) ≡ holder_place teid (view_sessions t)
        → place_from (i + 1) (is_holder teid) (drop (i + 1) (view_sessions t)) ≡ holder_place teid (view_sessions t)
    holder_later y k = sym (place_later (is_holder teid) (view_sessions t) i less (test ∙ y)) ∙ k

pub holder_none : (t : List ℕ) (teid i n : ℕ) → n ≡ length (view_sessions t) → n ≤ i → place_from i (is_holder teid) (drop i (view_sessions t)) ≡ holder_place teid (view_sessions t)
    → holder_place teid (view_sessions t) ≡ none
holder_none t teid i n c h k = sym k ∙ place_end (is_holder teid) (view_sessions t) i (omega arith)

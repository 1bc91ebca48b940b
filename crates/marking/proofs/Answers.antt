-- The answers of the functions that test and mark one record, return by return: premises are what the code knows there.
-- Assumes nothing.
use Rattle.std.specs.Prelude.{Result, Ok}
use Rattle.marking.specs.declared.Broken.{Broken}
use Rattle.marking.specs.Refusal.{refusal}
use Rattle.std.proofs.Common.{◌≡◌, ℕ, ◌+◌, ◌-◌, ◌*◌, ◌^◌, ◌<◌, ◌≤◌, Bool, true, false, not, T, eqb, List, [], length, get_or, sym, refl, ap, ◌∙◌, arith, ne_eqb}
use mathlib.Core.Option.{Option, none, some}
use borrow.Author.Tests.{not-true, not-false}
use Rattle.octets.specs.Choice.{pick}
use Rattle.octets.specs.Octets.{part, number, octets}
use Rattle.octets.specs.Fields.{fields_at}
use Rattle.octets.specs.Lists.{collect}
use Rattle.rules.specs.Model.{Holding, endpoint_holding, tunnel_holding}
use Rattle.rules.specs.Layout.{tunnel_read, endpoint_from, view_endpoint, pdr_width, endpoint_width, match_at, teid_at, endpoint_teid_at}
use Rattle.rules.specs.Sound.{marked}
use Rattle.pool.specs.Map.{mark}
use Rattle.marking.specs.Walk.{joins}
use Rattle.marking.proofs.RecordWalk.{look_none}
use Rattle.unit.specs.declared.Settings.{Settings as Unit}
use Rattle.unit.specs.Meaning.{settings_of}
use Rattle.records.specs.Kept.{pdr_sound, endpoint_sound}
use Rattle.records.proofs.Answers.{endpoint_pool, pdr_pool}
use Rattle.marking.specs.Marking.{held_by, pdr_hold, endpoint_hold, step_of, words_of, Stepped}
use Rattle.marking.proofs.Looking.{hold_of_lem, teid_of_lem}

-- ---- a record that is refused, and one that is not

module _ {sound : Bool} {first : ℕ} {ws : List ℕ} {earlier : List Holding} {hold : Option Holding} {ws' : List ℕ} where
  refused : refusal ≡ pick sound (step_of first ws earlier hold) refusal → Stepped sound first ws earlier hold refusal ws'
  refused e = record { answer = e; words = λ n q. absurd (let z : ◌≡◌ {A = ℕ} 0 1 = cc in omega arith) }

  step_broken : sound ≡ false → Stepped sound first ws earlier hold refusal ws'
  step_broken e = refused (sym (rw e))

  step_clash : refusal ≡ step_of first ws earlier hold → Stepped sound first ws earlier hold refusal ws'
  step_clash q = refused (either sound)
    where
      either : (b : Bool) → refusal ≡ pick b (step_of first ws earlier hold) refusal
      either true = q
      either false = refl

  step_good : {r : Result ℕ Broken} → sound ≡ true → r ≡ step_of first ws earlier hold → ws' ≡ words_of first ws hold → Stepped sound first ws earlier hold r ws'
  step_good e q w = record { answer = q ∙ sym (rw e); words = λ n z. w }

-- ---- an endpoint

module _ (xs : List ℕ) (u : Unit) (ws : List ℕ) (b : Bool) (qb : b ≡ endpoint_sound (settings_of u) xs) where
  pub endpoint_broken : not b ≡ true → Stepped (endpoint_sound (settings_of u) xs) u.first ws [] (endpoint_hold xs) refusal ws
  endpoint_broken h = step_broken (sym qb ∙ not-true b h)

  module _ (good : not b ≡ false) (t : ℕ) (q : t ≡ number (part endpoint_teid_at 4 xs)) where
    pub endpoint_fits_lem : length xs ≡ endpoint_width → T (octets xs) → u.first + u.size ≤ 2 ^ 32 → u.size ≤ 64 * length ws → (u.first ≤ t) × (t - u.first < 64 * length ws)
    endpoint_fits_lem e o pool room =
        let f = endpoint_pool u pool xs e o (sym qb ∙ not-false b good) in
        (omega (arith, f.0, q), omega (arith, f.0, f.1, q))

    module _ (m : Bool) (ws' : List ℕ) (qm : m ≡ marked ws (t - u.first)) (qw : ws' ≡ mark ws (t - u.first)) where
      endpoint_step_is : step_of u.first ws [] (endpoint_hold xs) ≡ pick m refusal (Ok 1)
      unfolding step_of endpoint_hold endpoint_holding tunnel_holding view_endpoint endpoint_from tunnel_read fields_at collect
      endpoint_step_is = λ i. pick ((ap (λ (n : ℕ). marked ws (n - u.first)) (sym q) ∙ sym qm) i) (pick (look_none (endpoint_holding (view_endpoint xs)) i) (Ok 0) refusal) (Ok 1)

      pub endpoint_met : m ≡ true → Stepped (endpoint_sound (settings_of u) xs) u.first ws [] (endpoint_hold xs) refusal ws'
      endpoint_met h = step_clash (sym (endpoint_step_is ∙ rw h))

      pub endpoint_new_lem : m ≡ false → Stepped (endpoint_sound (settings_of u) xs) u.first ws [] (endpoint_hold xs) (Ok 1) ws'
      unfolding words_of endpoint_hold endpoint_holding tunnel_holding view_endpoint endpoint_from tunnel_read fields_at
      endpoint_new_lem h = step_good (sym qb ∙ not-false b good) (sym (endpoint_step_is ∙ rw h)) (qw ∙ ap (λ (n : ℕ). mark ws (n - u.first)) q)

-- ---- a PDR

module _ (xs : List ℕ) where
  hold_is : pdr_hold xs ≡ pick (eqb (get_or xs match_at 0) 1) (some (held_by xs)) none
  unfolding pdr_hold
  hold_is = hold_of_lem xs

  hold_absent : (get_or xs match_at 0 ≡ 1 → ⊥) → pdr_hold xs ≡ none
  hold_absent h = hold_is ∙ rw (ne_eqb (get_or xs match_at 0) 1 h)

  hold_there : get_or xs match_at 0 ≡ 1 → pdr_hold xs ≡ some (held_by xs)
  hold_there h = hold_is ∙ rw h

module _ (xs : List ℕ) (u : Unit) (live ws : List ℕ) (earlier : List Holding) (b : Bool) (qb : b ≡ pdr_sound (settings_of u) live xs) where
  abbrev pub sound_at : Bool
  sound_at = pdr_sound (settings_of u) live xs

  pub pdr_broken : not b ≡ true → Stepped sound_at u.first ws earlier (pdr_hold xs) refusal ws
  pdr_broken h = step_broken (sym qb ∙ not-true b h)

  module _ (good : not b ≡ false) where
    pub pdr_none : (get_or xs match_at 0 ≡ 1 → ⊥) → Stepped sound_at u.first ws earlier (pdr_hold xs) (Ok 0) ws
    unfolding step_of words_of
    pdr_none h = step_good (sym qb ∙ not-false b good) (sym (rw (hold_absent xs h))) (sym (rw (hold_absent xs h)))

    module _ (there : get_or xs match_at 0 ≡ 1) (t : ℕ) (q : t ≡ number (part teid_at 4 xs)) where
      pub pdr_fits_lem : length xs ≡ pdr_width → T (octets xs) → u.first + u.size ≤ 2 ^ 32 → u.size ≤ 64 * length ws → (u.first ≤ t) × (t - u.first < 64 * length ws)
      pdr_fits_lem e o pool room =
          let f = pdr_pool u pool live xs e o (sym qb ∙ not-false b good) there in
          (omega (arith, f.0, q), omega (arith, f.0, f.1, q))

      held : t ≡ (held_by xs).teid
      held = q ∙ sym (teid_of_lem xs)

      module _ (m : Bool) (ws' : List ℕ) (qm : m ≡ marked ws (t - u.first)) (qw : ws' ≡ mark ws (t - u.first)) where
        words_are : ws' ≡ words_of u.first ws (pdr_hold xs)
        unfolding words_of
        words_are = qw ∙ sym (rw (hold_there xs there, ← held))

        step_is : step_of u.first ws earlier (pdr_hold xs) ≡ pick m (pick (joins earlier (held_by xs)) (Ok 0) refusal) (Ok 1)
        unfolding step_of
        step_is =
            ap (step_of u.first ws earlier) (hold_there xs there)
            ∙ ap (λ (t : Bool). pick t (pick (joins earlier (held_by xs)) (Ok 0) refusal) (Ok 1)) (ap (λ (n : ℕ). marked ws (n - u.first)) (sym held) ∙ sym qm)

        pub pdr_new_lem : not m ≡ true → Stepped sound_at u.first ws earlier (pdr_hold xs) (Ok 1) ws'
        pdr_new_lem h = step_good (sym qb ∙ not-false b good) (sym (step_is ∙ rw (not-true m h))) words_are

        module _ (h : not m ≡ false) (j : Bool) (qj : j ≡ joins earlier (held_by xs)) where
          step_met : step_of u.first ws earlier (pdr_hold xs) ≡ pick j (Ok 0) refusal
          step_met = step_is ∙ (λ e. pick (not-false m h e) (pick (sym qj e) (Ok 0) refusal) (Ok 1))

          pub pdr_shared : j ≡ true → Stepped sound_at u.first ws earlier (pdr_hold xs) (Ok 0) ws'
          pdr_shared k = step_good (sym qb ∙ not-false b good) (sym (step_met ∙ rw k)) words_are

          pub pdr_met : j ≡ false → Stepped sound_at u.first ws earlier (pdr_hold xs) refusal ws'
          pdr_met k = step_clash (sym (step_met ∙ rw k))

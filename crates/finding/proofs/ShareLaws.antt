-- What a peer has, from what the check of the table counts.
-- Assumes nothing.
use mathlib.Core.Path.{◌≡◌, refl, sym, ap, ◌∙◌}
use Prim.Native.Nat.{ℕ, ◌+◌, ◌-◌, ◌≤◌}
use native.Mathlib.Omega.{arith}
use mathlib.Core.Bool.{Bool, true, false, not}
use mathlib.Core.List.{List}
use borrow.Author.Tests.{eq-eqb, ne_eqb, not-true, not-false}
use lib.Dec.{T, eqb}
use lib.ListN.{length}
use Rattle.octets.specs.Choice.{pick}
use Rattle.octets.specs.Octets.{part, number}
use Rattle.octets.proofs.Tests.{is_true, of_true}
use Rattle.laws.proofs.KeptRules.{sessions_kept}
use Rattle.laws.proofs.PeerLaws.{peer_cases, known_peers, count_peers}
use Rattle.rules.specs.Model.{Sessions, is_peer, of_peer, holdings, free_count, free_address_count}
use Rattle.rules.specs.Layout.{table_length, view_settings, view_sessions, settings_width}
use Rattle.rules.specs.Finding.{Share, unshared, count_peer, Counts, uncounted, counts_of, count_all}
use Rattle.rules.specs.Sound.{sound, Count, broken, free, count_free, count_addresses}
use Rattle.std.specs.Prelude.{Result, Ok}
use Rattle.marking.specs.declared.Broken.{Broken}
use Rattle.marking.specs.declared.Tally.{Tally}
use Rattle.marking.specs.Refusal.{refusal}
use Rattle.table.specs.Answers.{counted, examined}
use Rattle.table.proofs.Encoded.{sound_encoded}
use Rattle.table.proofs.Examining.{sound_no, sound_yes, numbers, count_free_lem, addresses_free_lem}
use Rattle.unit.specs.declared.Settings.{Settings as Unit}
use Rattle.unit.specs.Meaning.{settings_of}
use Rattle.table.proofs.SoundSlots.{count_read, table_long_lem}
use Rattle.finding.specs.declared.Untold.{Untold}
use Rattle.finding.specs.declared.Untold.TheVariants as untold
use Rattle.finding.specs.Answers.{outcome_of}

-- ---- what the check says

abbrev number_of : Count → ℕ
number_of broken = 0
number_of (free n) = n

module _ (t : List ℕ) (r : Result Tally Broken) (x : r ≡ examined t) where
  -- all counts of a broken table
  pub counts_broken : r ≡ refusal → uncounted 1 ≡ count_all t
  unfolding count_all
  counts_broken e = sym (rw (sym (sound_no t r x e)))

  module _ (c : Tally) (e : r ≡ Ok c) where
    told : T (sound t)
    told = of_true (sym (sound_yes t r x c e))

    is : c ≡ counted t
    is = numbers t r x c e

    pub told_long : length t ≡ table_length (view_settings t).limit
    told_long = table_long_lem t told

    pub told_room : settings_width + 2 ≤ length t
    told_room = omega (arith, told_long)

    pub told_settings : settings_width ≤ length t
    told_settings = omega (arith, told_long)

    first_is : c.first ≡ length (of_peer 1 (view_sessions t))
    first_is = ap (λ (y : Tally). y.first) is

    module _ (n : ℕ) (k : n ≡ number (part settings_width 2 t)) where
      all_counted : n ≡ length (of_peer 1 (view_sessions t)) + length (of_peer 2 (view_sessions t))
      all_counted =
          let m = view_sessions t in
          let kept = sessions_kept (view_settings t) m (sound_encoded t told).sessions in
          k ∙ sym (count_read t told) ∙ count_peers m (known_peers (view_settings t) m kept.sessions)

      pub first_few : c.first ≤ n
      first_few = omega (arith, all_counted, first_is)

      rest_is : n - c.first ≡ length (of_peer 2 (view_sessions t))
      rest_is = omega (arith, all_counted, first_is)

      -- all counts, what is free being what table::free_count and table::free_addresses tell
      pub counts_told_lem : (u : Unit) → settings_of u ≡ view_settings t
          → ◌≡◌ {A = Counts} (record { outcome = 0; sessions1 = c.first; teids1 = c.one; sessions2 = n - c.first; teids2 = c.two; free = u.size - (c.one + c.two); free_addresses = u.addresses - c.taken }) (count_all t)
      unfolding count_all count_free count_addresses
      counts_told_lem u us =
          let yes = is_true (sound t) told in
          let some : free (u.size - (c.one + c.two)) ≡ free (free_count (view_settings t) (view_sessions t)) = count_free_lem t r x c e u us ∙ rw yes in
          let more : free (u.addresses - c.taken) ≡ free (free_address_count (view_settings t) (view_sessions t)) = addresses_free_lem t r x c e u us ∙ rw yes in
          (λ i. record { outcome = 0; sessions1 = (is i).first; teids1 = (is i).one; sessions2 = rest_is i; teids2 = (is i).two; free = number_of (some i); free_addresses = number_of (more i) })
          ∙ sym (rw yes)

-- ---- one peer's share of it

module _ (t : List ℕ) (who : ℕ) (a : Bool) (p : a ≡ is_peer who) where
  pub share_stranger : not a ≡ true → unshared 7 ≡ count_peer t who
  unfolding count_peer
  share_stranger z = sym (rw (← p, not-true a z))

  module _ (z : not a ≡ false) where
    yes : is_peer who ≡ true
    yes = sym p ∙ not-false a z

    -- a refusal is the same
    pub share_none : (u : Untold) → uncounted (outcome_of u) ≡ count_all t → unshared (outcome_of u) ≡ count_peer t who
    unfolding count_all count_peer
    share_none u e = rw yes (go (sound t) e)
      where
        some_outcome : (v : Untold) → outcome_of v ≡ 0 → ⊥
        some_outcome untold.Broken z = omega arith
        some_outcome untold.NotFound z = omega arith
        some_outcome untold.NoPeer z = omega arith

        go : (b : Bool) → uncounted (outcome_of u) ≡ pick b (counts_of (view_settings t) (view_sessions t)) (uncounted 1)
            → unshared (outcome_of u) ≡ pick b (record { outcome = 0; sessions = length (of_peer who (view_sessions t)); teids = holdings who (view_sessions t) }) (unshared 1)
        go true f = absurd (some_outcome u (ap (λ (c : Counts). c.outcome) f))
        go false f = ap (λ (c : Counts). unshared c.outcome) f

    -- a peer's share
    share_in : Counts → ℕ → Share
    share_in c i = record { outcome = c.outcome; sessions = pick (eqb i 1) c.sessions1 c.sessions2; teids = pick (eqb i 1) c.teids1 c.teids2 }

    counted_share : (c : Counts) → c.outcome ≡ 0 → c ≡ count_all t → share_in c who ≡ count_peer t who
    unfolding count_all count_peer share_in
    counted_share c n e = rw yes (go (sound t) e)
      where
        m : Sessions
        m = view_sessions t

        go : (b : Bool) → c ≡ pick b (counts_of (view_settings t) m) (uncounted 1) → share_in c who ≡ pick b (record { outcome = 0; sessions = length (of_peer who m); teids = holdings who m }) (unshared 1)
        go true f =
            ap (λ (d : Counts). share_in d who) f
            ∙ peer_cases (λ (i : ℕ). share_in (counts_of (view_settings t) m) i ≡ record { outcome = 0; sessions = length (of_peer i m); teids = holdings i m }) refl refl who (of_true yes)
        go false f = absurd (let o = ap (λ (d : Counts). d.outcome) f in omega arith)

    module _ (c : Counts) (n : c.outcome ≡ 0) (e : c ≡ count_all t) where
      pub share_first : who ≡ 1 → ◌≡◌ {A = Share} (record { outcome = 0; sessions = c.sessions1; teids = c.teids1 }) (count_peer t who)
      unfolding share_in
      share_first h = ap (λ (o : ℕ). record { outcome = o; sessions = c.sessions1; teids = c.teids1 }) (sym n) ∙ rw (eq-eqb who 1 h) at (counted_share c n e)

      pub share_second : (who ≡ 1 → ⊥) → ◌≡◌ {A = Share} (record { outcome = 0; sessions = c.sessions2; teids = c.teids2 }) (count_peer t who)
      unfolding share_in
      share_second h = ap (λ (o : ℕ). record { outcome = o; sessions = c.sessions2; teids = c.teids2 }) (sym n) ∙ rw (ne_eqb who 1 h) at (counted_share c n e)

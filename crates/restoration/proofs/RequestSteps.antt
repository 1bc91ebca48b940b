-- The whole request, and the writer's answers in the order of its tests. Assumes nothing.
use mathlib.Core.Path.{◌≡◌, refl, sym, ap, ap₂, ◌∙◌}
use Prim.Native.Nat.{ℕ, ◌+◌, ◌-◌, ◌≤◌, ◌<◌}
use native.Mathlib.Nat.{zero-add}
use native.Mathlib.Omega.{arith}
use mathlib.Core.Bool.{Bool, true, false, not}
use mathlib.Core.List.{List}
use borrow.Author.Tests.{lt-ltb, le-ltb, le-leb, lt-leb}
use lib.Dec.{T}
use lib.ListN.{length, take, drop}
use lib.Seq.{take_at}
use Rattle.octets.specs.Octets.{put, be, part, number}
use Rattle.octets.proofs.Tests.{of_true, is_true}
use Rattle.octets.proofs.Numbers.{length_be}
use Rattle.octets.proofs.Put.{put_whole}
use Rattle.rules.specs.Limits.{max_restoration}
use Rattle.rules.specs.Layout.{view_settings, view_session, view_sessions, settings_width}
use Rattle.rules.specs.Sound.{sound}
use Rattle.rules.specs.Restoring.{Writing, unwritten, sender_addressed, session_at, restoration_at, write_into, write_restoration}
use Rattle.rules.specs.Message.{establishment}
use Rattle.writing.specs.Placed.{Placed}
use Rattle.writing.specs.Heads.{message_head}
use Rattle.writing.proofs.ElementSteps.{placed_message}
use Rattle.restoration.specs.Records.{content}
use Rattle.restoration.specs.Answers.{Ready}
use Rattle.table.proofs.SoundSlots.{slot_at, count_read}
use Rattle.restoration.proofs.SoundSlots.{request_is, content_room}

-- octets taken from where they were put
pub take_put : (xs s : List ℕ) → take (length xs) (put 0 xs s) ≡ xs
unfolding put
take_put xs s = take_at xs (drop (0 + length xs) s) (length xs) refl

-- ---- the request

module _ (t : List ℕ) (place : ℕ) (ipv4 ipv6 : List ℕ) (ready : Ready t place ipv4 ipv6) where
  abbrev elements : List ℕ
  elements = content (view_settings t) (view_session (slot_at t place)) ipv4 ipv6

  pub elements_room : 16 + length elements ≤ max_restoration
  elements_room = content_room t ready.sound place ready.live ipv4 ipv6 ready.address

  pub request_steps : (out q₀ q : List ℕ) {out₁ out₂ : List ℕ} {end : ℕ} → length out ≡ max_restoration → length q₀ ≡ 3 → Placed out 16 elements end out₁
      → q ≡ put 0 (be 3 (place + 1)) q₀ → out₂ ≡ put 0 (message_head establishment 0 q (end - 16)) out₁ → Placed out 0 (restoration_at t place ipv4 ipv6) end out₂
  request_steps out q₀ q {out₁} {out₂} {end} l three p e r =
      let three' : length (be 3 (place + 1)) ≡ 3 = length_be 3 (place + 1) in
      let same : q ≡ be 3 (place + 1) = e ∙ put_whole (be 3 (place + 1)) q₀ (omega arith) in
      let f = elements_room in
      rw (request_is t ready.sound place ready.live ipv4 ipv6 ready.address)
      (placed_message establishment 0 (be 3 (place + 1)) elements out three' (omega arith) p (rw same at r))

-- ---- the space

module _ (who : ℕ) (request space : List ℕ) {used : ℕ} {out out' : List ℕ} (p : Placed out 0 request used out') where
  length_used : used ≡ length request
  length_used = p.ends ∙ zero-add (length request)

  pub into_short : length space < used → unwritten 4 space ≡ write_into who request space
  unfolding write_into
  into_short h = let n = length_used in rw (lt-ltb (length space) (length request) (omega arith))

  pub into_written : (peer : ℕ) (space' : List ℕ) → used ≤ length space → space' ≡ put 0 (take used out') space → peer ≡ who
      → ◌≡◌ {A = Writing} (record { outcome = 0; used = used; peer = peer; space = space' }) (write_into who request space)
  unfolding write_into
  into_written peer space' h e w =
      let n = length_used in
      let taken : take used out' ≡ request = ap₂ (λ (k : ℕ) (l : List ℕ). take k l) n p.holds ∙ take_put request out in
      rw (le-ltb (length space) (length request) (omega arith))
      (λ i. record { outcome = 0; used = n i; peer = w i; space = (e ∙ ap (λ (xs : List ℕ). put 0 xs space) taken) i })

-- ---- the tests

module _ (t : List ℕ) (place : ℕ) (ipv4 ipv6 space : List ℕ) where
  abbrev answer : Writing
  answer = write_restoration t place ipv4 ipv6 space

  pub answer_broken : (b : Bool) → b ≡ sound t → not b ≡ true → unwritten 1 space ≡ answer
  unfolding write_restoration
  answer_broken true e z = absurd (let w : ◌≡◌ {A = ℕ} 0 1 = cc in omega arith)
  answer_broken false e z = rw (← e)

  module _ (b : Bool) (e : b ≡ sound t) (z : not b ≡ false) where
    pub sound_is : T (sound t)
    sound_is = go b e z
      where
        go : (b' : Bool) → b' ≡ sound t → not b' ≡ false → T (sound t)
        go true e' z' = of_true (sym e')
        go false e' z' = absurd (let w : ◌≡◌ {A = ℕ} 0 1 = cc in omega arith)

    module _ (n : ℕ) (count : n ≡ number (part settings_width 2 t)) where
      sessions : length (view_sessions t) ≡ n
      sessions = count_read t sound_is ∙ sym count

      pub answer_past : n ≤ place → unwritten 2 space ≡ answer
      unfolding write_restoration
      answer_past h = rw (is_true (sound t) sound_is, sessions, le-leb n place h)

      module _ (below : place < n) (a : Bool) (g : a ≡ sender_addressed ipv4 ipv6) where
        pub answer_unaddressed : not a ≡ true → unwritten 3 space ≡ answer
        unfolding write_restoration
        answer_unaddressed y = rw (is_true (sound t) sound_is, sessions, lt-leb n place below, ← g, y)

        pub ready_now : not a ≡ false → Ready t place ipv4 ipv6
        ready_now y = record { sound = sound_is; live = (let k = sessions in omega arith); address = go a g y }
          where
            go : (c : Bool) → c ≡ sender_addressed ipv4 ipv6 → not c ≡ false → T (sender_addressed ipv4 ipv6)
            go true g' y' = of_true (sym g')
            go false g' y' = absurd (let w : ◌≡◌ {A = ℕ} 0 1 = cc in omega arith)

        pub answer_written : (w : Writing) → not a ≡ false → w ≡ write_into (session_at (view_sessions t) place).peer (restoration_at t place ipv4 ipv6) space → w ≡ answer
        unfolding write_restoration
        answer_written w y f =
            rw (is_true (sound t) sound_is, sessions, lt-leb n place below, ← g, y) f

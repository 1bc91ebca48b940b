-- The test of cause 75 on TEIDs by one number, how many the peer may still take: exact on a table that is not broken (02 (xiv)). Assumes nothing.
use mathlib.Core.Path.{◌≡◌, refl, sym, ap, ◌∙◌}
use mathlib.Core.Bool.{Bool, true, false, ◌||◌}
use Prim.Native.Nat.{ℕ, ◌+◌, ◌-◌, ◌≤◌}
use native.Mathlib.Omega.{arith}
use lib.Dec.{T, ltb, ltb→lt, lt→ltb}
use lib.ListN.{length}
use borrow.Author.Tests.{ltb-false}
use Rattle.octets.specs.Choice.{pick}
use Rattle.octets.proofs.Bools.{both_ways}
use Rattle.octets.proofs.Tests.{of_true}
use Rattle.rules.specs.Model.{Settings, Sessions, is_peer, peer_of, other_peer, of_peer, holdings, unused}
use Rattle.rules.specs.Request.{Request}
use Rattle.rules.specs.Sound.{due}
use Rattle.rules.specs.Stages.{needed, passes_limit, passes_pool, too_few_teids}
use Rattle.laws.proofs.PeerLaws.{PeersKept}
use Rattle.stages.specs.Rules.{ShareOf, room_by, room_for}

either : (a b : Bool) (P : Type 0) → (T a → P) → (T b → P) → T (a || b) → P
either true b P f g h = f tt
either false b P f g h = g h

first : (a b : Bool) → T a → T (a || b)
first true b h = tt
first false b h = absurd h

second : (a b : Bool) → T b → T (a || b)
second true b h = tt
second false b h = h

-- own limit l, pool z, held h, what the other holds or is guaranteed d, needed n
module _ (l z h d n : ℕ) (a : h ≤ l) (b : h + d ≤ z) where
  abbrev own : ℕ
  own = l - h

  abbrev rest : ℕ
  rest = z - (h + d)

  by_room : (c : Bool) → ltb rest own ≡ c → (ltb l (h + n) || ltb z (h + n + d)) ≡ ltb (pick c rest own) n
  by_room true e =
      let less = ltb→lt rest own (of_true e) in
      both_ways (ltb l (h + n) || ltb z (h + n + d)) (ltb rest n)
      (either (ltb l (h + n)) (ltb z (h + n + d)) (T (ltb rest n))
      (λ t. let k = ltb→lt l (h + n) t in lt→ltb rest n (omega arith))
      (λ t. let k = ltb→lt z (h + n + d) t in lt→ltb rest n (omega arith)))
      (λ t. let k = ltb→lt rest n t in second (ltb l (h + n)) (ltb z (h + n + d)) (lt→ltb z (h + n + d) (omega arith)))
  by_room false e =
      let more = ltb-false rest own e in
      both_ways (ltb l (h + n) || ltb z (h + n + d)) (ltb own n)
      (either (ltb l (h + n)) (ltb z (h + n + d)) (T (ltb own n))
      (λ t. let k = ltb→lt l (h + n) t in lt→ltb own n (omega arith))
      (λ t. let k = ltb→lt z (h + n + d) t in lt→ltb own n (omega arith)))
      (λ t. let k = ltb→lt own n t in first (ltb l (h + n)) (ltb z (h + n + d)) (lt→ltb l (h + n) (omega arith)))

module _ (s : Settings) (m : Sessions) (k : PeersKept s m) (who : ℕ) (known : T (is_peer who)) where
  few_by_room : (r : Request) → too_few_teids s who m r ≡ ltb (room_for s who m) (needed r)
  unfolding too_few_teids passes_limit passes_pool room_for room_by due
  few_by_room r =
      let h = holdings who m in
      let o = holdings (other_peer who) m in
      let u = unused s (other_peer who) m in
      let pool = k.pool who known in
      let turned : h + o + needed r + u ≡ h + needed r + (o + u) = omega arith in
      ap (λ (x : ℕ). ltb (peer_of s who).limit (h + needed r) || ltb s.size x) turned
      ∙ by_room (peer_of s who).limit s.size h (o + u) (needed r) (k.teids who known) (omega arith) (ltb (s.size - (h + (o + u))) ((peer_of s who).limit - h)) refl

  pub share_of_lem : (teids sessions : ℕ) → teids ≡ room_for s who m → sessions ≡ length (of_peer who m) → ShareOf s m who teids sessions
  share_of_lem teids sessions e f = record { few = λ r. few_by_room r ∙ ap (λ (x : ℕ). ltb x (needed r)) (sym e); own = f }

-- What keeps each peer's due (02 (xiv)): fewer sessions do, and so does a request that stage 5 lets pass.
-- Assumes nothing.
use mathlib.Core.Path.{◌≡◌, refl, sym, subst}
use Prim.Native.Nat.{ℕ, ◌+◌, ◌-◌, ◌≤◌}
use native.Mathlib.Nat.{le_trans}
use native.Mathlib.Omega.{arith}
use mathlib.Core.Bool.{Bool, not}
use lib.ListN.{length}
use lib.Dec.{T, eqb, ltb}
use Rattle.octets.specs.Choice.{pick}
use Rattle.octets.specs.Lists.{all_pairs, keep}
use Rattle.octets.proofs.Ordered.{keep_pairs}
use Rattle.rules.specs.Model.{Settings, Session, Sessions, is_peer, peer_of, other_peer, half, of_peer, holdings, unused}
use Rattle.rules.specs.Sound.{apart, due, settings_allowed}
use Rattle.rules.specs.Request.{Request}
use Rattle.rules.specs.Stages.{needed, passes_limit, passes_pool, too_few_teids}
use Rattle.laws.proofs.PeerLaws.{peer_cases, other_peer_lem, peer_known, PeersKept}
use Rattle.invariants.proofs.Totals.{total_keep, peer_sessions, peer_teids, count_total, holdings_total}
use mir.Facts.{no_ltb}
use Rattle.octets.proofs.Tests.{neither_one}

-- ---- numbers

-- the more of two does not grow where neither does
pub due_less : (h h' g : ℕ) → h' ≤ h → h' + (g - h') ≤ h + (g - h)
due_less h h' g a = omega arith

-- a peer that has h and another that has o, with the guarantees g and k: what stage 5 lets pass leaves both their due
pool_after : (h h' o o' g k n size : ℕ) → h' ≤ h + n → o' ≤ o → h + (g - h) + (o + (k - o)) ≤ size → h + o + n + (k - o) ≤ size
    → h' + (g - h') + (o' + (k - o')) ≤ size
pool_after h h' o o' g k n size a b c d = let e = due_less o o' k b in go (o' + (k - o')) (o + (k - o)) e (omega arith) (omega arith)
  where
    go : (u v : ℕ) → u ≤ v → h + (g - h) + v ≤ size → h + n + v ≤ size → h' + (g - h') + u ≤ size
    go u v e c' d' = omega arith

-- and a need that is within the guarantee passes it
pool_before : (h o g k n size : ℕ) → h + n ≤ g → h + (g - h) + (o + (k - o)) ≤ size → h + o + n + (k - o) ≤ size
pool_before h o g k n size a b = omega arith

-- ---- one peer and the other

pub peer_either : (P : ℕ → Type 0) (who : ℕ) → T (is_peer who) → P who → P (other_peer who) → (w : ℕ) → T (is_peer w) → P w
unfolding other_peer
peer_either P who hw a b =
    peer_cases (λ (n : ℕ). P n → P (pick (eqb n 1) 2 1) → (w : ℕ) → T (is_peer w) → P w) (λ c d. peer_cases P c d) (λ c d. peer_cases P d c) who hw a b

other_other : (who : ℕ) → T (is_peer who) → other_peer (other_peer who) ≡ who
unfolding other_peer
other_other = peer_cases (λ (n : ℕ). pick (eqb (pick (eqb n 1) 2 1) 1) 2 1 ≡ n) refl refl

-- ---- fewer sessions

pub keep_kept : (s : Settings) (q : Session → Bool) (m : Sessions) → T (all_pairs (apart s) m) → PeersKept s m → PeersKept s (keep q m)
unfolding due unused
keep_kept s q m far k =
    record {
      sessions = λ who h.
          let a = count_total who (keep q m) in
          let b = count_total who m in
          let c = total_keep (peer_sessions who) q m in
          let d = k.sessions who h in
          omega arith;
      teids = λ who h. le_trans (fewer who) (k.teids who h);
      pool = λ who h.
          let a = due_less (holdings who m) (holdings who (keep q m)) (peer_of s who).guarantee (fewer who) in
          let b = due_less (holdings (other_peer who) m) (holdings (other_peer who) (keep q m)) (peer_of s (other_peer who)).guarantee (fewer (other_peer who)) in
          let c = k.pool who h in
          omega arith;
    }
  where
    fewer : (who : ℕ) → holdings who (keep q m) ≤ holdings who m
    fewer who =
        let a = holdings_total s who (keep q m) (keep_pairs q (apart s) m far) in
        let b = holdings_total s who m far in
        let c = total_keep (peer_teids who) q m in
        omega arith

-- ---- a request that is let pass

module _ (s : Settings) (who : ℕ) (hw : T (is_peer who)) (m m' : Sessions) (n : ℕ) where
  -- its peer's sessions have room, the other's stay; it adds so many TEIDs at most, and these pass neither the limit nor the pool
  pub record Admitted : Type 0 where
    pub own : length (of_peer who m') ≤ half s
    pub others : length (of_peer (other_peer who) m') ≤ length (of_peer (other_peer who) m)
    pub more : holdings who m' ≤ holdings who m + n
    pub same : holdings (other_peer who) m' ≤ holdings (other_peer who) m
    pub limit : holdings who m + n ≤ (peer_of s who).limit
    pub pool : holdings who m + holdings (other_peer who) m + n + unused s (other_peer who) m ≤ s.size

  pub admitted_kept : PeersKept s m → Admitted → PeersKept s m'
  admitted_kept k a =
      record {
        sessions = peer_either (λ (w : ℕ). length (of_peer w m') ≤ half s) who hw a.own (le_trans a.others (k.sessions (other_peer who) (other_peer_lem who hw)));
        teids = peer_either (λ (w : ℕ). holdings w m' ≤ (peer_of s w).limit) who hw (le_trans a.more a.limit) (le_trans a.same (k.teids (other_peer who) (other_peer_lem who hw)));
        pool = peer_either (λ (w : ℕ). due s w m' + due s (other_peer w) m' ≤ s.size) who hw both turned;
      }
    where
      both : due s who m' + due s (other_peer who) m' ≤ s.size
      both = unfold due unused in (
          pool_after (holdings who m) (holdings who m') (holdings (other_peer who) m) (holdings (other_peer who) m') (peer_of s who).guarantee (peer_of s (other_peer who)).guarantee n s.size
          a.more a.same (k.pool who hw) a.pool)

      turned : due s (other_peer who) m' + due s (other_peer (other_peer who)) m' ≤ s.size
      turned = let b = both in subst (λ (w : ℕ). due s (other_peer who) m' + due s w m' ≤ s.size) (sym (other_other who hw)) (omega arith)

-- ---- a need that is within the guarantee

pub guaranteed_passes : (s : Settings) (who : ℕ) (m : Sessions) (r : Request) → T (is_peer who) → T (settings_allowed s) → PeersKept s m → holdings who m + needed r ≤ (peer_of s who).guarantee
    → T (not (too_few_teids s who m r))
unfolding too_few_teids passes_limit passes_pool unused
guaranteed_passes s who m r hw hs k h =
    let q = peer_known s hs who hw in
    let a = q.guarantee in
    let within : holdings who m + needed r ≤ (peer_of s who).limit = omega arith in
    neither_one (ltb (peer_of s who).limit (holdings who m + needed r))
    (ltb s.size (holdings who m + holdings (other_peer who) m + needed r + ((peer_of s (other_peer who)).guarantee - holdings (other_peer who) m)))
    (no_ltb within) (no_ltb inside)
  where
    inside : holdings who m + holdings (other_peer who) m + needed r + ((peer_of s (other_peer who)).guarantee - holdings (other_peer who) m) ≤ s.size
    inside =
        pool_before (holdings who m) (holdings (other_peer who) m) (peer_of s who).guarantee (peer_of s (other_peer who)).guarantee (needed r) s.size h (unfold due unused in (k.pool who hw))

-- a request that needs none passes on every table that is not broken
pub nothing_needed : (s : Settings) (who : ℕ) (m : Sessions) (r : Request) → T (is_peer who) → PeersKept s m → needed r ≡ 0 → T (not (too_few_teids s who m r))
unfolding too_few_teids passes_limit passes_pool unused
nothing_needed s who m r hw k e =
    neither_one (ltb (peer_of s who).limit (holdings who m + needed r))
    (ltb s.size (holdings who m + holdings (other_peer who) m + needed r + ((peer_of s (other_peer who)).guarantee - holdings (other_peer who) m)))
    (no_ltb within) (no_ltb inside)
  where
    within : holdings who m + needed r ≤ (peer_of s who).limit
    within = let a = k.teids who hw in omega arith

    inside : holdings who m + holdings (other_peer who) m + needed r + ((peer_of s (other_peer who)).guarantee - holdings (other_peer who) m) ≤ s.size
    inside = let a : due s who m + due s (other_peer who) m ≤ s.size = k.pool who hw in unfold due unused in (omega arith)

-- Sessions that are restored one after the other: what a table has and what is still to come together leave each peer what it is due (02 (xiv)), so
-- there is room for each in turn.
-- Assumes nothing.
use mathlib.Core.Path.{◌≡◌, ap, subst}
use Prim.Native.Nat.{ℕ, ◌+◌, ◌-◌, ◌≤◌}
use native.Mathlib.Nat.{le_trans}
use native.Mathlib.Omega.{arith}
use mathlib.Core.Bool.{Bool, true}
use mathlib.Core.List.{[], ◌∷◌, Permᴰ}
use lib.Dec.{T, eqb, eqb_refl}
use Rattle.octets.specs.Choice.{pick, flag}
use Rattle.octets.specs.Lists.{distinct, all_pairs, insert_by}
use Rattle.octets.proofs.Tests.{is_true}
use Rattle.rules.specs.Model.{Settings, Session, Sessions, is_peer, other_peer, peer_of, half, has_peer, holdings, unused, session_teids, session_key}
use Rattle.rules.specs.Sound.{apart, due}
use Rattle.laws.proofs.PeerLaws.{PeersKept}
use Rattle.invariants.proofs.Totals.{total, total_insert, total_perm, peer_sessions, peer_teids, count_total, holdings_total}
use Rattle.invariants.proofs.PeersAfter.{due_less}
use Rattle.claim.proofs.RestorationJudge.{RoomFor}

-- the more of what a peer has and of what is guaranteed to it
abbrev due_at : Settings → ℕ → ℕ → ℕ
due_at s who h = h + ((peer_of s who).guarantee - h)

-- of the sessions of a table and those to come together
abbrev pub both : (Session → ℕ) → Sessions → Sessions → ℕ
both w m xs = total w m + total w xs

pub record Weighs (s : Settings) (m xs : Sessions) : Type 0 where
  pub sessions : (who : ℕ) → T (is_peer who) → both (peer_sessions who) m xs ≤ half s
  pub teids : (who : ℕ) → T (is_peer who) → both (peer_teids who) m xs ≤ (peer_of s who).limit
  pub pool : (who : ℕ) → T (is_peer who) → due_at s who (both (peer_teids who) m xs) + due_at s (other_peer who) (both (peer_teids (other_peer who)) m xs) ≤ s.size

-- all of them to come
pub weighs_first : (s : Settings) (m xs : Sessions) → T (all_pairs (apart s) m) → PeersKept s m → Permᴰ m xs → Weighs s [] xs
unfolding total due unused
weighs_first s m xs far k order =
    record {
      sessions = λ who h.
          let a = count_total who m in
          let b = total_perm (peer_sessions who) order in
          let c = k.sessions who h in
          omega arith;
      teids = λ who h.
          let a = same who in
          let c = k.teids who h in
          omega arith;
      pool = λ who h. subst (λ (n : ℕ). due_at s who n + due_at s (other_peer who) (0 + total (peer_teids (other_peer who)) xs) ≤ s.size) (same who)
          (subst (λ (n : ℕ). due_at s who (holdings who m) + due_at s (other_peer who) n ≤ s.size) (same (other_peer who)) (k.pool who h));
    }
  where
    same : (who : ℕ) → holdings who m ≡ 0 + total (peer_teids who) xs
    same who = let a = holdings_total s who m far in let b = total_perm (peer_teids who) order in omega arith

-- one less to come, one more in the table
both_next : (w : Session → ℕ) (x : Session) (m xs : Sessions) → both w m (x ∷ xs) ≡ both w (insert_by session_key x m) xs
unfolding total
both_next w x m xs = let a = total_insert w session_key x m in omega arith

pub weighs_next : (s : Settings) (x : Session) (m xs : Sessions) → Weighs s m (x ∷ xs) → Weighs s (insert_by session_key x m) xs
weighs_next s x m xs k =
    record {
      sessions = λ who h. subst (λ (n : ℕ). n ≤ half s) (both_next (peer_sessions who) x m xs) (k.sessions who h);
      teids = λ who h. subst (λ (n : ℕ). n ≤ (peer_of s who).limit) (both_next (peer_teids who) x m xs) (k.teids who h);
      pool = λ who h. subst (λ (n : ℕ). due_at s who n + due_at s (other_peer who) (both (peer_teids (other_peer who)) (insert_by session_key x m) xs) ≤ s.size) (both_next (peer_teids who) x m xs)
          (subst (λ (n : ℕ). due_at s who (both (peer_teids who) m (x ∷ xs)) + due_at s (other_peer who) n ≤ s.size) (both_next (peer_teids (other_peer who)) x m xs) (k.pool who h));
    }

-- the table alone leaves each peer what it is due
pub weighs_kept : (s : Settings) (m xs : Sessions) → T (all_pairs (apart s) m) → Weighs s m xs → PeersKept s m
unfolding due unused
weighs_kept s m xs far k =
    record {
      sessions = λ who h. let a = count_total who m in let b = k.sessions who h in omega arith;
      teids = λ who h. le_trans (less who) (k.teids who h);
      pool = λ who h.
          let a = due_less (both (peer_teids who) m xs) (holdings who m) (peer_of s who).guarantee (less who) in
          let b = due_less (both (peer_teids (other_peer who)) m xs) (holdings (other_peer who) m) (peer_of s (other_peer who)).guarantee (less (other_peer who)) in
          let c = k.pool who h in
          omega arith;
    }
  where
    less : (who : ℕ) → holdings who m ≤ both (peer_teids who) m xs
    less who = let a = holdings_total s who m far in omega arith

-- numbers: a peer that has h in the table and n to come, and more; another that has o in the table, and more
pool_now : (h h' o o' g k n size : ℕ) → h + n ≤ h' → o ≤ o' → h' + (g - h') + (o' + (k - o')) ≤ size → h + o + n + (k - o) ≤ size
pool_now h h' o o' g k n size a b c = let e = due_less o' o k b in omega arith

-- and the next one has room
pub room_next : (s : Settings) (x : Session) (m xs : Sessions) → T (is_peer x.peer) → T (all_pairs (apart s) m) → Weighs s m (x ∷ xs) → RoomFor s x m
unfolding total has_peer unused
room_next s x m xs hw far k =
    let mine : eqb x.peer x.peer ≡ true = is_true (eqb x.peer x.peer) (eqb_refl x.peer) in
    let one = ap flag mine in
    let own = ap (λ (b : Bool). pick {X = ℕ} b (distinct (session_teids x)) 0) mine in
    let a = count_total x.peer m in
    let b = holdings_total s x.peer m far in
    let c = holdings_total s (other_peer x.peer) m far in
    let d = k.sessions x.peer hw in
    let e = k.teids x.peer hw in
    record {
      sessions = omega arith;
      limit = omega arith;
      pool = pool_now (holdings x.peer m) (both (peer_teids x.peer) m (x ∷ xs)) (holdings (other_peer x.peer) m) (both (peer_teids (other_peer x.peer)) m (x ∷ xs))
          (peer_of s x.peer).guarantee (peer_of s (other_peer x.peer)).guarantee (distinct (session_teids x)) s.size (omega arith) (omega arith) (k.pool x.peer hw);
    }

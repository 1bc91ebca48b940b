-- What the sessions of a peer come to (02 (xiv)): how many there are, and how many TEIDs they hold, as sums over the sessions.
-- Assumes nothing.
use mathlib.Core.Path.{◌≡◌, refl, ap, ap₂, subst, ◌∙◌}
use Prim.Native.Nat.{ℕ, ◌+◌, ◌≤◌, zero-le}
use native.Mathlib.Omega.{arith}
use mathlib.Core.Bool.{Bool, true, false, not}
use mathlib.Core.Option.{Option, some}
use mathlib.Core.List.{[], ◌∷◌, ◌++◌, Permᴰ}
use lib.ListN.{length}
use lib.Dec.{T, leb, eqb}
use Rattle.octets.specs.Choice.{pick, flag, is_some}
use Rattle.octets.specs.Lists.{distinct, all, all_pairs, keep, find_by, insert_by}
use Rattle.octets.proofs.Tests.{pick_either, all_head, all_tail}
use Rattle.octets.proofs.Ordered.{pairs_head, pairs_tail, keep_all}
use Rattle.octets.proofs.ListLaws.{OnSome}
use Rattle.rules.specs.Model.{Settings, Session, Sessions, session_teids, held_teids, is_peer, has_peer, of_peer, other_peer, holdings}
use Rattle.rules.specs.Sound.{apart}
use Rattle.laws.proofs.DistinctLaws.{distinct_apart}
use Rattle.laws.proofs.PeerLaws.{peer_cases}
use Rattle.invariants.proofs.Beside.{separate_all}

-- ---- sums

module _ (w : Session → ℕ) where
  unfoldable pub total : Sessions → ℕ
  total [] = 0
  total (x ∷ m) = w x + total m

  -- the place in the order doesn't matter
  pub total_insert : (key : Session → ℕ) (x : Session) (m : Sessions) → total (insert_by key x m) ≡ w x + total m
  unfolding total insert_by
  total_insert key x [] = refl
  total_insert key x (y ∷ m) =
      let ih = total_insert key x m in
      pick_either (λ (l : Sessions). total l ≡ w x + (w y + total m)) (leb (key x) (key y)) (x ∷ y ∷ m) (y ∷ insert_by key x m) refl (omega arith)

  pub total_perm : {m n : Sessions} → Permᴰ m n → total m ≡ total n
  unfolding total
  total_perm Permᴰ.nil = refl
  total_perm (Permᴰ.cons e π) = ap₂ ◌+◌ (ap w e) (total_perm π)
  total_perm (Permᴰ.swap e₁ e₂) = let a = ap w e₁ in let b = ap w e₂ in omega arith
  total_perm (Permᴰ.trans π₁ π₂) = total_perm π₁ ∙ total_perm π₂

  -- fewer sessions come to no more
  pub total_keep : (q : Session → Bool) (m : Sessions) → total (keep q m) ≤ total m
  unfolding total keep
  total_keep q [] = zero-le
  total_keep q (x ∷ m) =
      let ih = total_keep q m in
      pick_either (λ (l : Sessions). total l ≤ w x + total m) (q x) (x ∷ keep q m) (keep q m) (omega arith) (omega arith)

  -- the one found, and the others
  pub total_found : (p : Session → Bool) (m : Sessions) (x : Session) → find_by p m ≡ some x → w x + total (keep (λ z. not (p z)) m) ≤ total m
  unfolding total keep find_by
  total_found p [] x e = absurd (subst (λ (o : Option Session). T (not (is_some o))) e tt)
  total_found p (y ∷ m) x e = one (p y) (λ f. total_found p m x f) e
    where
      one : (b : Bool) → (find_by p m ≡ some x → w x + total (keep (λ z. not (p z)) m) ≤ total m)
          → pick b (some y) (find_by p m) ≡ some x → w x + total (pick (not b) (y ∷ keep (λ z. not (p z)) m) (keep (λ z. not (p z)) m)) ≤ w y + total m
      one true ih f =
          let b = total_keep (λ z. not (p z)) m in
          subst (λ (o : Option Session). OnSome (λ z. w z + total (keep (λ z. not (p z)) m) ≤ w y + total m) o) f (omega arith)
      one false ih f = let a = ih f in omega arith

-- ---- a peer's sessions and TEIDs

abbrev pub peer_sessions : ℕ → Session → ℕ
peer_sessions who x = flag (has_peer who x)

abbrev pub peer_teids : ℕ → Session → ℕ
peer_teids who x = pick (has_peer who x) (distinct (session_teids x)) 0

pub count_total : (who : ℕ) (m : Sessions) → length (of_peer who m) ≡ total (peer_sessions who) m
unfolding of_peer keep total
count_total who [] = refl
count_total who (x ∷ m) = one (has_peer who x) (count_total who m)
  where
    one : (b : Bool) → length (keep (has_peer who) m) ≡ total (peer_sessions who) m
        → length (pick b (x ∷ keep (has_peer who) m) (keep (has_peer who) m)) ≡ flag b + total (peer_sessions who) m
    one true e = omega arith
    one false e = omega arith

module _ (s : Settings) where
  pub holdings_total : (who : ℕ) (m : Sessions) → T (all_pairs (apart s) m) → holdings who m ≡ total (peer_teids who) m
  unfolding holdings of_peer keep total held_teids distinct
  holdings_total who [] h = refl
  holdings_total who (x ∷ m) h = one (has_peer who x) (holdings_total who m (pairs_tail (apart s) x m h))
    where
      more : distinct (session_teids x ++ held_teids (keep (has_peer who) m)) ≡ distinct (session_teids x) + distinct (held_teids (keep (has_peer who) m))
      more = distinct_apart (session_teids x) (held_teids (keep (has_peer who) m)) (separate_all s x (keep (has_peer who) m) (keep_all (has_peer who) (apart s x) m (pairs_head (apart s) x m h)))

      one : (b : Bool) → distinct (held_teids (keep (has_peer who) m)) ≡ total (peer_teids who) m
          → distinct (held_teids (pick b (x ∷ keep (has_peer who) m) (keep (has_peer who) m))) ≡ pick b (distinct (session_teids x)) 0 + total (peer_teids who) m
      one true e = let a = more in omega arith
      one false e = omega arith

  -- the two hold all that is held
  pub held_total : (m : Sessions) → T (all (λ x. is_peer x.peer) m) → T (all_pairs (apart s) m) → distinct (held_teids m) ≡ total (peer_teids 1) m + total (peer_teids 2) m
  unfolding total held_teids distinct has_peer
  held_total [] k h = refl
  held_total (x ∷ m) k h =
      let ih = held_total m (all_tail (λ y. is_peer y.peer) x m k) (pairs_tail (apart s) x m h) in
      let a = distinct_apart (session_teids x) (held_teids m) (separate_all s x m (pairs_head (apart s) x m h)) in
      peer_cases (λ (n : ℕ). distinct (session_teids x ++ held_teids m) ≡ pick (eqb n 1) (distinct (session_teids x)) 0 + total (peer_teids 1) m + (pick (eqb n 2) (distinct (session_teids x)) 0 + total (peer_teids 2) m))
      (omega arith) (omega arith) x.peer (all_head (λ y. is_peer y.peer) x m k)

  pub both_hold : (who : ℕ) → T (is_peer who) → (m : Sessions) → T (all (λ x. is_peer x.peer) m) → T (all_pairs (apart s) m) → distinct (held_teids m) ≡ holdings who m + holdings (other_peer who) m
  unfolding other_peer
  both_hold who hw m k h =
      let a = holdings_total 1 m h in
      let b = holdings_total 2 m h in
      let c = held_total m k h in
      peer_cases (λ (n : ℕ). distinct (held_teids m) ≡ holdings n m + holdings (pick (eqb n 1) 2 1) m) (omega arith) (omega arith) who hw

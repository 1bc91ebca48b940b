-- The answers of the calls as numbers.
-- Assumes nothing.
use mathlib.Core.Path.{◌≡◌, refl, sym, ap, ◌∙◌, subst}
use Prim.Native.Nat.{ℕ, ◌/◌, ◌^◌, ◌≤◌, ◌<◌}
use native.Mathlib.Omega.{arith}
use mathlib.Core.Bool.{Bool, true, false}
use mathlib.Core.List.{List}
use lib.Dec.{T}
use lib.ListN.{length}
use Rattle.octets.specs.Choice.{pick}
use Rattle.rules.specs.Limits.{max_sessions, max_pool, max_addresses}
use Rattle.rules.specs.Model.{Settings, Sessions, free_count, free_address_count, is_peer, half, of_peer, holdings}
use Rattle.rules.specs.Layout.{view_settings, view_sessions}
use Rattle.rules.specs.Sound.{sound, make, Made, Count, broken, free, count_free, count_addresses}
use Rattle.engine.specs.Steps.{Serves}
use Rattle.rules.specs.Store.{empty}
use Rattle.rules.specs.Repeats.{Once, request_once}
use Rattle.rules.specs.Finding.{Finding, find_in, count_sessions, Share, unshared, count_peer, Counts, uncounted, counts_of, count_all}
use Rattle.octets.proofs.Tests.{is_true}
use Rattle.laws.proofs.PeerLaws.{peers_kept_lem, peer_known}
use Rattle.laws.proofs.TableLaws.{limit_most}
use Rattle.laws.proofs.KeptRules.{table_kept}
use Rattle.laws.proofs.KeptSettings.{settings_kept}
use Rattle.pool.proofs.TakenLaws.{pool_fits}
use Rattle.table.proofs.SoundSlots.{few_sessions_lem}
use Rattle.pfcp_session.specs.Calls.{StoreCall, store_answer, store_call, once_call, make_answer, make_call, CountCall, count_answer, count_call, address_count_call, CountFits, RequestCall, reply_of, request_answer, request_call}

module _ (s : Settings) (t : List ℕ) (m : Made) (e : m ≡ make s t) where
  pub call_answer : make_answer m ≡ make_call s t
  unfolding make_call
  call_answer = ap make_answer e

-- ---- counts

-- a free count is at most the pool's size
few_with : (b : Bool) (k n most : ℕ) → (T b → k ≤ most) → pick b (free k) broken ≡ free n → n ≤ most
few_with true k n most h e = let same : k ≡ n = cc in let f = h tt in omega arith
few_with false k n most h e = absurd (let z : ◌≡◌ {A = ℕ} 0 1 = cc in omega arith)

module _ (t : List ℕ) (h : T (sound t)) where
  few_free : free_count (view_settings t) (view_sessions t) ≤ max_pool
  unfolding free_count
  few_free = omega (arith, (settings_kept (view_settings t) (table_kept t h).settings).pool.few)

  few_addresses : free_address_count (view_settings t) (view_sessions t) ≤ max_addresses
  unfolding free_address_count
  few_addresses = omega (arith, (settings_kept (view_settings t) (table_kept t h).settings).addresses.few)

module _ (t : List ℕ) (r : Count) where
  pub teids_fit_lem : r ≡ count_free t → CountFits r
  unfolding count_free
  teids_fit_lem e = record { small = λ n z. let f = few_with (sound t) (free_count (view_settings t) (view_sessions t)) n max_pool (few_free t) (sym e ∙ z) in omega arith }

  pub addresses_fit : r ≡ count_addresses t → CountFits r
  unfolding count_addresses
  addresses_fit e =
      record { small = λ n z. let f = few_with (sound t) (free_address_count (view_settings t) (view_sessions t)) n max_addresses (few_addresses t) (sym e ∙ z) in omega arith }

  pub call_counted : (a : CountCall) → r ≡ count_free t → a ≡ count_answer r → a ≡ count_call t
  unfolding count_call
  call_counted a e f = f ∙ ap count_answer e

  pub call_addresses : (a : CountCall) → r ≡ count_addresses t → a ≡ count_answer r → a ≡ address_count_call t
  unfolding address_count_call
  call_addresses a e f = f ∙ ap count_answer e

-- the request call
pub call_request : {t : List ℕ} {who : ℕ} {msg out : List ℕ} {outcome used place : ℕ} {out' t' : List ℕ} → Serves t who msg out outcome used place out' t'
    → ◌≡◌ {A = RequestCall} (record { outcome = outcome; used = used; place = place; space = out'; table = t' }) (request_call t who msg out)
unfolding request_call request_answer reply_of
call_request {t} {who} {msg} {out} {outcome} {used} {place} {out'} {t'} s =
    (λ i. record { outcome = outcome; used = s.long i; place = place; space = out'; table = t' }) ∙ ap (request_answer (reply_of t who msg)) s.served

-- the store's calls
module _ (s s' : List ℕ) (b : Bool) (e : record { done = b; store = s' } ≡ empty s) where
  pub call_emptied : b ≡ true → ◌≡◌ {A = StoreCall} (record { outcome = 0; store = s' }) (store_call s)
  unfolding store_call
  call_emptied z = ap (λ (x : Bool). store_answer (record { done = x; store = s' })) (sym z) ∙ ap store_answer e

  pub call_kept : b ≡ false → ◌≡◌ {A = StoreCall} (record { outcome = 1; store = s' }) (store_call s)
  unfolding store_call
  call_kept z = ap (λ (x : Bool). store_answer (record { done = x; store = s' })) (sym z) ∙ ap store_answer e

pub call_once : (t : List ℕ) (who : ℕ) (store msg out : List ℕ) (x : Once) → x ≡ request_once t who store msg out → x ≡ once_call t who store msg out
unfolding once_call
call_once t who store msg out x e = e

-- ---- the numbers of the reading calls fit their width

pub count_fits : (t : List ℕ) (r : Finding) → r ≡ count_sessions t → r.number ≤ max_sessions
unfolding count_sessions find_in
count_fits t r e = let f = ap (λ (x : Finding). x.number) e in go (sound t) refl f
  where
    go : (b : Bool) → sound t ≡ b → r.number ≡ (pick {X = Finding} b (record { outcome = 0; number = length (view_sessions t) }) (record { outcome = 1; number = 0 })).number → r.number ≤ max_sessions
    go true s f = let few = few_sessions_lem t (subst T (sym s) tt) in omega arith
    go false s f = omega arith

few_half : (n k : ℕ) → k ≤ n / 2 → n ≤ max_sessions → k < 2 ^ 32
few_half n k h l = omega arith

pub share_fits : (t : List ℕ) (who : ℕ) (r : Share) → r ≡ count_peer t who → (r.sessions < 2 ^ 32) × (r.teids < 2 ^ 32)
unfolding count_peer half
share_fits t who r e = go (is_peer who) (sound t) refl refl e
  where
    m : Sessions
    m = view_sessions t

    go : (a b : Bool) → is_peer who ≡ a → sound t ≡ b → r ≡ pick a (pick b (record { outcome = 0; sessions = length (of_peer who m); teids = holdings who m }) (unshared 1)) (unshared 7)
        → (r.sessions < 2 ^ 32) × (r.teids < 2 ^ 32)
    go false b i h f = let x = ap (λ (q : Share). q.sessions) f in let y = ap (λ (q : Share). q.teids) f in (omega arith, omega arith)
    go true false i h f = let x = ap (λ (q : Share). q.sessions) f in let y = ap (λ (q : Share). q.teids) f in (omega arith, omega arith)
    go true true i h f =
        let hw : T (is_peer who) = subst T (sym i) tt in
        let k = table_kept t (subst T (sym h) tt) in
        let p = peers_kept_lem (view_settings t) m k.sessions in
        let x = ap (λ (q : Share). q.sessions) f in
        let y = ap (λ (q : Share). q.teids) f in
        let c = p.sessions who hw in
        let d = p.teids who hw in
        let l = limit_most (view_settings t) k.settings in
        let g = (peer_known (view_settings t) k.settings who hw).limit in
        let z = pool_fits (view_settings t) k.settings in
        (few_half (view_settings t).limit r.sessions (subst (λ (n : ℕ). n ≤ (view_settings t).limit / 2) (sym x) c) l, omega arith)

-- all counts
pub record CountsFit (r : Counts) : Type 0 where
  pub sessions1 : r.sessions1 < 2 ^ 32
  pub teids1 : r.teids1 < 2 ^ 32
  pub sessions2 : r.sessions2 < 2 ^ 32
  pub teids2 : r.teids2 < 2 ^ 32
  pub free : r.free < 2 ^ 32
  pub free_addresses : r.free_addresses < 2 ^ 32

peer_fits : (t : List ℕ) (who : ℕ) → T (is_peer who) → T (sound t) → (length (of_peer who (view_sessions t)) < 2 ^ 32) × (holdings who (view_sessions t) < 2 ^ 32)
unfolding count_peer
peer_fits t who hw h =
    share_fits t who (record { outcome = 0; sessions = length (of_peer who (view_sessions t)); teids = holdings who (view_sessions t) })
    (sym (rw (is_true (is_peer who) hw, is_true (sound t) h)))

pub counts_fit : (t : List ℕ) (r : Counts) → r ≡ count_all t → CountsFit r
unfolding count_all is_peer
counts_fit t r e = subst CountsFit (sym e) (go (sound t) (λ h. h))
  where
    go : (b : Bool) → (T b → T (sound t)) → CountsFit (pick b (counts_of (view_settings t) (view_sessions t)) (uncounted 1))
    go false k = record { sessions1 = omega arith; teids1 = omega arith; sessions2 = omega arith; teids2 = omega arith; free = omega arith; free_addresses = omega arith }
    go true k =
        let h = k tt in
        let one = peer_fits t 1 tt h in
        let two = peer_fits t 2 tt h in
        let f = few_free t h in
        let a = few_addresses t h in
        record { sessions1 = one.0; teids1 = one.1; sessions2 = two.0; teids2 = two.1; free = omega arith; free_addresses = omega arith }

-- The settings read from a table's front, and from a call's parameters. Assumes nothing.
use mathlib.Core.Path.{◌≡◌, refl, sym, ap, ◌∙◌}
use mathlib.Core.Bool.{true, false, true≢false}
use borrow.Author.Tests.{eqb-true}
use mathlib.Core.List.{List, [], ◌∷◌, ◌++◌}
use Prim.Native.Nat.{ℕ, suc, ◌+◌, ◌≤◌, ◌<◌}
use native.Mathlib.Omega.{arith}
use lib.Dec.{T, eqb, eqb→eq}
use lib.ListN.{length, take, drop, get_or}
use lib.Seq.{take-add, drop-drop}
use Rattle.octets.specs.Choice.{pick}
use Rattle.octets.specs.Octets.{be, number, number_at, octet_at, part}
use Rattle.octets.proofs.Digits.{octets_known, be_part}
use Rattle.rules.specs.Model.{Settings, Peer}
use Rattle.rules.specs.Layout.{view_settings, settings_width, ipv6_there_at, ipv6_at, first_at, size_at, first_address_at, address_count_at, limit_at, view_peer, peer1_at, peer2_at}
use Rattle.rules.specs.Sound.{ipv6_allowed}
use Rattle.unit.specs.declared.Settings.{Settings as Unit}
use Rattle.unit.specs.declared.Ipv6.{Ipv6}
use Rattle.unit.specs.Meaning.{ipv6_octets, settings_of, settings_given, peer_from}

settings_eq : {a a' b b' : List ℕ} {f f' n n' x x' y y' l l' : ℕ} {q q' r r' : Peer} → a ≡ a' → b ≡ b' → f ≡ f' → n ≡ n' → x ≡ x' → y ≡ y' → l ≡ l' → q ≡ q' → r ≡ r'
    → ◌≡◌ {A = Settings} (record { ipv4 = a; ipv6 = b; first = f; size = n; first_address = x; address_count = y; limit = l; peer1 = q; peer2 = r })
    (record { ipv4 = a'; ipv6 = b'; first = f'; size = n'; first_address = x'; address_count = y'; limit = l'; peer1 = q'; peer2 = r' })
settings_eq p q r s t u v w z = λ i. record { ipv4 = p i; ipv6 = q i; first = r i; size = s i; first_address = t i; address_count = u i; limit = v i; peer1 = w i; peer2 = z i }

two_halves : (at : ℕ) (s : List ℕ) → part at 16 s ≡ part at 8 s ++ part (at + 8) 8 s
two_halves at s = take-add 8 8 (drop at s) ∙ ap (λ (l : List ℕ). part at 8 s ++ take 8 l) (drop-drop 8 at s)

pub ipv6_is : (at : ℕ) (t : List ℕ) (a : Ipv6) → ((i : ℕ) → get_or t i 0 < 256) → at + 16 ≤ length t → a.high ≡ number (part at 8 t) → a.low ≡ number (part (at + 8) 8 t)
    → be 8 a.high ++ be 8 a.low ≡ part at 16 t
ipv6_is at t a k long h l =
    let bytes = octets_known t k in
    rw (h, l, be_part at 8 t bytes (omega arith), be_part (at + 8) 8 t bytes (omega arith)) (sym (two_halves at t))

pub read_is : (t : List ℕ) (u : Unit) → ((i : ℕ) → get_or t i 0 < 256) → settings_width ≤ length t
    → u.ipv4 ≡ number (part 0 4 t) → ipv6_octets u.ipv6 ≡ pick (eqb (get_or t ipv6_there_at 0) 0) [] (part ipv6_at 16 t)
    → u.first ≡ number (part first_at 4 t) → u.size ≡ number (part size_at 4 t) → u.first_address ≡ number (part first_address_at 4 t) → u.addresses ≡ number (part address_count_at 4 t) → u.limit ≡ number (part limit_at 2 t)
    → peer_from u.peer1 ≡ view_peer peer1_at t → peer_from u.peer2 ≡ view_peer peer2_at t → settings_of u ≡ view_settings t
unfolding settings_of view_settings octet_at number_at
read_is t u k long a b f n x y m p q = settings_eq (rw a (be_part 0 4 t (octets_known t k) (omega arith))) b f n x y m p q

-- a peer's
pub peer_is : (at : ℕ) (t : List ℕ) (a g l : ℕ) → a ≡ number (part at 4 t) → g ≡ number (part (at + 4) 4 t) → l ≡ number (part (at + 8) 4 t)
    → ◌≡◌ {A = Peer} (record { address = a; guarantee = g; limit = l }) (view_peer at t)
unfolding view_peer number_at
peer_is at t a g l x y z = λ i. record { address = x i; guarantee = y i; limit = z i }

-- ---- a call's parameters

-- no octets, or sixteen
pub none_given : (v : List ℕ) → true ≡ eqb (length v) 0 → [] ≡ v
none_given [] e = refl
none_given (x ∷ v) e = let n : suc (length v) ≡ 0 = eqb-true (suc (length v)) 0 (sym e) in absurd (omega arith)

pub six_given : (v : List ℕ) → T (ipv6_allowed v) → false ≡ eqb (length v) 0 → length v ≡ 16
unfolding ipv6_allowed
six_given [] h e = absurd (true≢false (sym e))
six_given (x ∷ v) h e = eqb→eq (length (x ∷ v)) 16 h

pub given_is : (a f z x y l : ℕ) (p q : Peer) (v : List ℕ) (u : Unit)
    → u.ipv4 ≡ a → ipv6_octets u.ipv6 ≡ v
    → u.first ≡ f → u.size ≡ z → u.first_address ≡ x → u.addresses ≡ y → u.limit ≡ l → peer_from u.peer1 ≡ p → peer_from u.peer2 ≡ q
    → settings_of u ≡ settings_given a v f z x y l p q
unfolding settings_of
given_is a f z x y l p q v u ea eb ef ez ex ey em ep eq = settings_eq (ap (be 4) ea) eb ef ez ex ey em ep eq

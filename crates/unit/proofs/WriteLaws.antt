-- What the writer of settings leaves in a slot of zeros. Assumes nothing.
use Rattle.std.specs.Prelude.{Option, Some, None}
use Rattle.std.specs.Option.{is_some}
use mathlib.Core.Path.{◌≡◌, refl, sym, ap, ap₂, ◌∙◌}
use mathlib.Core.Bool.{Bool, true, false, not}
use mathlib.Core.List.{List, [], ◌∷◌, ◌++◌, append_assoc, append-nil}
use Prim.Native.Nat.{ℕ, ◌+◌, ◌-◌, ◌≤◌}
use native.Mathlib.Omega.{arith}
use mir.Val.{bool_byte}
use lib.ListN.{length, length-append}
use Rattle.octets.specs.Choice.{flag, is_nil}
use Rattle.octets.specs.Octets.{put, be, zeros, padded}
use Rattle.octets.proofs.Numbers.{length_be, length_zeros, length_padded, zeros_split}
use Rattle.octets.proofs.Put.{put_over, put_put}
use Rattle.rules.specs.Layout.{settings_octets, settings_width, ipv6_there_at, ipv6_at, first_at, size_at, first_address_at, address_count_at, limit_at, peer_octets, peer1_at, peer2_at}
use Rattle.unit.specs.declared.Settings.{Settings as Unit}
use Rattle.unit.specs.declared.Peer as declared
use Rattle.unit.specs.declared.Ipv6.{Ipv6}
use Rattle.unit.specs.Meaning.{ipv6_octets, settings_of, number_octets, peer_from}
use Rattle.rules.specs.Model.{Peer}

-- octets over the front of zeros
over_zeros : (at : ℕ) (p v z : List ℕ) → length p ≡ at → length v ≤ 16 → put at v (p ++ (zeros 16 ++ z)) ≡ p ++ (padded 16 v ++ z)
unfolding padded
over_zeros at p v z e h =
    let n : ℕ = 16 - length v in
    let sum : length v + n ≡ 16 = omega arith in
    let split : zeros 16 ≡ zeros (length v) ++ zeros n = ap zeros (sym sum) ∙ zeros_split (length v) n in
    ap (λ (l : List ℕ). put at v (p ++ l)) (ap (λ (l : List ℕ). l ++ z) split ∙ append_assoc (zeros (length v)) (zeros n) z)
    ∙ put_over p (zeros (length v)) (zeros n ++ z) v at e (sym (length_zeros (length v)))
    ∙ ap (λ (l : List ℕ). p ++ l) (sym (append_assoc v (zeros n) z))

-- what stands after the IPv6 address: the pools' four numbers, the session limit and the peers
abbrev numbers_width : ℕ
numbers_width = settings_width - first_at

settings_room : zeros settings_width ≡ zeros 4 ++ (zeros 1 ++ (zeros 16 ++ zeros numbers_width))
unfolding zeros
settings_room = refl

pub length_peer : (q : Peer) → length (peer_octets q) ≡ 12
unfolding peer_octets be
length_peer q = refl

-- a peer's numbers
pub peer_steps : (at : ℕ) (q : declared.Peer) (s₀ s₁ s₂ s₃ : List ℕ) → at + 12 ≤ length s₀
    → s₁ ≡ put at (be 4 q.address) s₀ → s₂ ≡ put (at + 4) (be 4 q.guarantee) s₁ → s₃ ≡ put (at + 8) (be 4 q.limit) s₂
    → s₃ ≡ put at (peer_octets (peer_from q)) s₀
unfolding peer_octets
peer_steps at q s₀ s₁ s₂ s₃ long e₁ e₂ e₃ =
    let a = be 4 q.address in
    let b = be 4 q.guarantee in
    let c = be 4 q.limit in
    let la = length_be 4 q.address in
    let lb = length_be 4 q.guarantee in
    let lc = length_be 4 q.limit in
    let lab = length-append a b in
    let two : s₂ ≡ put at (a ++ b) s₀ = e₂ ∙ ap (put (at + 4) b) e₁ ∙ put_put at 4 a b s₀ la (omega arith) in
    e₃ ∙ ap (put (at + 8) c) two ∙ put_put at 8 (a ++ b) c s₀ (omega arith) (omega arith) ∙ ap (λ (xs : List ℕ). put at xs s₀) (append_assoc a b c)

-- numbers one after the other are one write
pub number_steps : (u : Unit) (s₀ s₁ s₂ s₃ s₄ s₅ s₆ s₇ : List ℕ) → settings_width ≤ length s₀
    → s₁ ≡ put first_at (be 4 u.first) s₀ → s₂ ≡ put size_at (be 4 u.size) s₁ → s₃ ≡ put first_address_at (be 4 u.first_address) s₂ → s₄ ≡ put address_count_at (be 4 u.addresses) s₃ → s₅ ≡ put limit_at (be 2 u.limit) s₄
    → s₆ ≡ put peer1_at (peer_octets (peer_from u.peer1)) s₅ → s₇ ≡ put peer2_at (peer_octets (peer_from u.peer2)) s₆
    → s₇ ≡ put first_at (number_octets (settings_of u)) s₀
unfolding number_octets settings_of
number_steps u s₀ s₁ s₂ s₃ s₄ s₅ s₆ s₇ long e₁ e₂ e₃ e₄ e₅ e₆ e₇ =
    let a = be 4 u.first in
    let b = be 4 u.size in
    let c = be 4 u.first_address in
    let d = be 4 u.addresses in
    let f = be 2 u.limit in
    let la = length_be 4 u.first in
    let lb = length_be 4 u.size in
    let lc = length_be 4 u.first_address in
    let ld = length_be 4 u.addresses in
    let lf = length_be 2 u.limit in
    let g = peer_octets (peer_from u.peer1) in
    let h = peer_octets (peer_from u.peer2) in
    let lg = length_peer (peer_from u.peer1) in
    let lh = length_peer (peer_from u.peer2) in
    let lab = length-append a b in
    let labc = length-append (a ++ b) c in
    let labcd = length-append ((a ++ b) ++ c) d in
    let two : s₂ ≡ put first_at (a ++ b) s₀ = e₂ ∙ ap (put size_at b) e₁ ∙ put_put first_at 4 a b s₀ la (omega arith) in
    let three : s₃ ≡ put first_at ((a ++ b) ++ c) s₀ = e₃ ∙ ap (put first_address_at c) two ∙ put_put first_at 8 (a ++ b) c s₀ (omega arith) (omega arith) in
    let four : s₄ ≡ put first_at (((a ++ b) ++ c) ++ d) s₀ = e₄ ∙ ap (put address_count_at d) three ∙ put_put first_at 12 ((a ++ b) ++ c) d s₀ (omega arith) (omega arith) in
    let labcde = length-append (((a ++ b) ++ c) ++ d) f in
    let labcdef = length-append ((((a ++ b) ++ c) ++ d) ++ f) g in
    let five : s₅ ≡ put first_at ((((a ++ b) ++ c) ++ d) ++ f) s₀ = e₅ ∙ ap (put limit_at f) four ∙ put_put first_at 16 (((a ++ b) ++ c) ++ d) f s₀ (omega arith) (omega arith) in
    let six' : s₆ ≡ put first_at (((((a ++ b) ++ c) ++ d) ++ f) ++ g) s₀ = e₆ ∙ ap (put peer1_at g) five ∙ put_put first_at 18 ((((a ++ b) ++ c) ++ d) ++ f) g s₀ (omega arith) (omega arith) in
    e₇ ∙ ap (put peer2_at h) six'
    ∙ put_put first_at 30 (((((a ++ b) ++ c) ++ d) ++ f) ++ g) h s₀ (omega arith) (omega arith)
    ∙ ap (λ (xs : List ℕ). put first_at xs s₀) (simp append_assoc)

-- a test as an octet
pub flag_byte : (b : Bool) → bool_byte b ≡ flag b
flag_byte true = refl
flag_byte false = refl

-- the address, of no octets where there is none
ipv6_flag : (a : Option Ipv6) → be 1 (flag (is_some a)) ≡ flag (not (is_nil (ipv6_octets a))) ∷ []
unfolding be
ipv6_flag None = refl
ipv6_flag (Some a) = refl

pub ipv6_short : (a : Option Ipv6) → length (ipv6_octets a) ≤ 16
ipv6_short None = omega arith
ipv6_short (Some a) = omega (arith, length-append (be 8 a.high) (be 8 a.low), length_be 8 a.high, length_be 8 a.low)

pub ipv6_steps : (at : ℕ) (a : Ipv6) (s₀ s₁ s₂ : List ℕ) → at + 16 ≤ length s₀ → s₁ ≡ put at (be 8 a.high) s₀ → s₂ ≡ put (at + 8) (be 8 a.low) s₁ → s₂ ≡ put at (be 8 a.high ++ be 8 a.low) s₀
ipv6_steps at a s₀ s₁ s₂ long e f = f ∙ ap (put (at + 8) (be 8 a.low)) e ∙ put_put at 8 (be 8 a.high) (be 8 a.low) s₀ (length_be 8 a.high) (omega arith)

pub write_steps : (u : Unit) (n : ℕ) (s₀ s₁ s₂ s₄ s₅ : List ℕ) → s₀ ≡ zeros settings_width → n ≡ flag (is_some u.ipv6)
    → s₁ ≡ put 0 (be 4 u.ipv4) s₀ → s₂ ≡ put ipv6_there_at (be 1 n) s₁ → s₄ ≡ put ipv6_at (ipv6_octets u.ipv6) s₂
    → s₅ ≡ put first_at (number_octets (settings_of u)) s₄
    → s₅ ≡ settings_octets (settings_of u)
unfolding settings_octets settings_of number_octets
write_steps u n s₀ s₁ s₂ s₄ s₅ e₀ en e₁ e₂ both e₅ =
    let four = be 4 u.ipv4 in
    let v : List ℕ = ipv6_octets u.ipv6 in
    let there = flag (not (is_nil v)) ∷ [] in
    let pad = padded 16 v in
    let short : length v ≤ 16 = ipv6_short u.ipv6 in
    let lv : length pad ≡ 16 = length_padded 16 v short in
    let one : be 1 n ≡ there = ap (be 1) en ∙ ipv6_flag u.ipv6 in
    let r₁ : s₁ ≡ four ++ (zeros 1 ++ (zeros 16 ++ zeros numbers_width)) =
    e₁ ∙ ap (put 0 four) (e₀ ∙ settings_room) ∙ put_over [] (zeros 4) (zeros 1 ++ (zeros 16 ++ zeros numbers_width)) four 0 refl (length_be 4 u.ipv4 ∙ sym (length_zeros 4)) in
    let r₂ : s₂ ≡ (four ++ there) ++ (zeros 16 ++ zeros numbers_width) =
    e₂ ∙ (λ i. put ipv6_there_at (one i) (r₁ i)) ∙ put_over four (zeros 1) (zeros 16 ++ zeros numbers_width) there ipv6_there_at (length_be 4 u.ipv4) (sym (length_zeros 1)) ∙ sym (append_assoc four there _) in
    let l₂ : length (four ++ there) ≡ ipv6_at = length-append four there ∙ ap (λ (n : ℕ). n + 1) (length_be 4 u.ipv4) in
    let long : first_at ≤ length s₂ = omega (arith, ap length r₂, length-append (four ++ there) (zeros 16 ++ zeros numbers_width), length-append (zeros 16) (zeros numbers_width), length_zeros 16, length_zeros numbers_width) in
    let r₄ : s₄ ≡ ((four ++ there) ++ pad) ++ (zeros numbers_width ++ []) =
    both ∙ ap (put ipv6_at v) r₂ ∙ over_zeros ipv6_at (four ++ there) v (zeros numbers_width) l₂ short ∙ sym (append_assoc (four ++ there) pad (zeros numbers_width)) ∙ ap (λ (l : List ℕ). ((four ++ there) ++ pad) ++ l) (sym (append-nil (zeros numbers_width))) in
    let l₄ : length ((four ++ there) ++ pad) ≡ first_at = length-append (four ++ there) pad ∙ ap₂ ◌+◌ l₂ lv in
    let one' = peer_octets (peer_from u.peer1) in
    let two' = peer_octets (peer_from u.peer2) in
    let limit = be 2 u.limit ++ (one' ++ two') in
    let ips = be 4 u.addresses ++ limit in
    let first-ip = be 4 u.first_address ++ ips in
    let sizes = be 4 u.size ++ first-ip in
    let numbers : List ℕ = be 4 u.first ++ sizes in
    let ln : length numbers ≡ numbers_width =
    omega (arith, length-append (be 4 u.first) sizes, length-append (be 4 u.size) first-ip, length-append (be 4 u.first_address) ips, length-append (be 4 u.addresses) limit, length_be 4 u.first, length_be 4 u.size, length_be 4 u.first_address, length_be 4 u.addresses, length_be 2 u.limit, length-append (be 2 u.limit) (one' ++ two'), length-append one' two', length_peer (peer_from u.peer1), length_peer (peer_from u.peer2)) in
    e₅ ∙ ap (put first_at numbers) r₄ ∙ put_over ((four ++ there) ++ pad) (zeros numbers_width) [] numbers first_at l₄ (ln ∙ sym (length_zeros numbers_width)) ∙ simp (append_assoc, append-nil)

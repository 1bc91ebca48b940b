-- What the tests of an F-TEID's numbers come to: a TEID of the pool, and a families octet of 1, 2 or 3.
-- Assumes nothing.
use mathlib.Core.Path.{◌≡◌, refl, ◌∙◌}
use Prim.Native.Nat.{ℕ, zero, suc, ◌+◌, ◌*◌, ◌/◌, ◌%◌, ◌^◌}
use native.Mathlib.Omega.{arith}
use mathlib.Core.Bool.{Bool, true, false, not, ◌&&◌, ◌||◌}
use borrow.Author.Tests.{ne_eqb}
use lib.Dec.{leb, ltb, eqb}
use Rattle.octets.specs.Choice.{flag}
use Rattle.octets.specs.Octets.{bit}
use Rattle.rules.specs.Model.{Settings}
use Rattle.rules.specs.Layout.{families, tunnel_read}
use Rattle.rules.specs.Sound.{in_pool, unit_families, tunnel_tests, tunnel_allowed}
use Rattle.records.specs.Kept.{has_ipv6, families_test, tunnel_test}
use Rattle.octets.proofs.Bools.{and-false, flag_bit, and_assoc}

families_law : (f : ℕ) (v6 : Bool)
    → (((bit 0 f || bit 1 f) && ((not (bit 1 f) || v6) && true)) && eqb (flag (bit 0 f) + 2 * flag (bit 1 f)) f) ≡ families_test f v6
unfolding bit
families_law zero v6 = refl
families_law (suc zero) v6 = refl
families_law (suc (suc zero)) true = refl
families_law (suc (suc zero)) false = refl
families_law (suc (suc (suc zero))) true = refl
families_law (suc (suc (suc zero))) false = refl
families_law (suc (suc (suc (suc f)))) v6 =
    let n : ℕ = suc (suc (suc (suc f))) in
    let a : flag (eqb (n / (2 ^ 0) % 2) 1) ≡ n / (2 ^ 0) % 2 = flag_bit (n / (2 ^ 0) % 2) (omega arith) in
    let b : flag (eqb (n / (2 ^ 1) % 2) 1) ≡ n / (2 ^ 1) % 2 = flag_bit (n / (2 ^ 1) % 2) (omega arith) in
    rw (ne_eqb (flag (eqb (n / (2 ^ 0) % 2) 1) + 2 * flag (eqb (n / (2 ^ 1) % 2) 1)) n (λ e. omega arith), ne_eqb n 1 (λ e. omega arith), ne_eqb n 2 (λ e. omega arith), ne_eqb n 3 (λ e. omega arith))
    (and-false ((bit 0 n || bit 1 n) && ((not (bit 1 n) || v6) && true)))

regroup : (a b c d e : Bool) → (((a && b) && (c && d)) && e) ≡ (a && (b && ((c && d) && e)))
regroup true b c d e = and_assoc b (c && d) e
regroup false b c d e = refl

pub tunnel_law : (s : Settings) (t f : ℕ) → (tunnel_allowed s (tunnel_read t f) && eqb (families (tunnel_read t f)) f) ≡ tunnel_test s t f
unfolding tunnel_allowed tunnel_tests in_pool unit_families tunnel_read families
tunnel_law s t f =
    regroup (leb s.first t) (ltb t (s.first + s.size)) (bit 0 f || bit 1 f) ((not (bit 1 f) || has_ipv6 s) && true) (eqb (flag (bit 0 f) + 2 * flag (bit 1 f)) f)
    ∙ rw (families_law f (has_ipv6 s))

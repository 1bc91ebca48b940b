-- F-SEID: reading and writing are inverse. Assumes nothing.
use Rattle.std.specs.Prelude.{Result, Ok, Err}
use mathlib.Core.Bool.{Bool, true, false, not, ◌&&◌, ◌||◌}
use mathlib.Core.List.{List, [], ◌∷◌, ◌++◌}
use mathlib.Core.Option.{some}
use mathlib.Core.Path.{◌≡◌, refl, sym, ap, ◌∙◌}
use Prim.Native.Nat.{ℕ, zero, suc, ◌+◌, ◌*◌, ◌^◌, ◌≤◌, ◌<◌}
use native.Mathlib.Omega.{arith}
use borrow.Author.Tests.{le-ltb, ltb-false}
use lib.Dec.{T, ltb, eqb, lit<}
use lib.ListN.{length, length-append}
use lib.Seq.{take_all}
use Rattle.octets.specs.Choice.{flag, is_nil}
use Rattle.octets.specs.Octets.{be, bit, number, number_at, part, octet_at, octets}
use Rattle.octets.proofs.Parts.{part_first}
use Rattle.octets.proofs.Numbers.{bytes_be}
use Rattle.octets.proofs.Put.{part_two}
use Rattle.octets.proofs.Digits.{be_part, drop_octets}
use Rattle.rules.specs.Elements.{address_of, fseid_length, seid_answer, read_fseid, fseid_octets, value, too_short, incorrect}
use Rattle.laws.proofs.ElementLaws.{fseid_back}
use Rattle.fseid.specs.Meaning.{fseid_answer}
use Rattle.fseid.specs.Trips.{WholeFseid, ipv4_in, ipv6_in, FseidInverse, FseidCodeBack}
use Rattle.element.proofs.OctetLaws.{part_front}
use Rattle.element.proofs.FlagLaws.{two_bits}
use Rattle.element.proofs.AnswerLaws.{some_same}
use Rattle.element.proofs.TripLaws.{refused_is_not, not_refused, value_same, wrote}
use Rattle.element.specs.declared.Refusal as code-refusal

-- octets after the value are ignored
pub fseid_more : (s rest : List ℕ) (n : ℕ) → read_fseid s ≡ value n → read_fseid (s ++ rest) ≡ value n
unfolding read_fseid fseid_length number_at
fseid_more [] rest n h = refused_is_not h
fseid_more (f ∷ xs) rest n h =
    let l : ℕ = 8 + 4 * flag (bit 1 f) + 16 * flag (bit 0 f) in
    let one = not_refused (not (bit 0 f || bit 1 f)) incorrect _ n h in
    let two = not_refused (ltb (length xs) l) too_short _ n one.1 in
    let k : l ≤ length xs = ltb-false (length xs) l two.0 in
    let e = length-append xs rest in
    rw (one.0, le-ltb (length (xs ++ rest)) l (omega arith), part_front 0 8 xs rest (omega arith)) two.1

-- a SEID that is not 0, with an address of either family or both, is read from its octets, whatever follows
pub fseid_read_written : (n : ℕ) (a b rest : List ℕ) → 1 ≤ n → n < 256 ^ 8 → T (address_of 4 a) → T (address_of 16 b) → T (not (is_nil a && is_nil b))
    → read_fseid (fseid_octets n a b ++ rest) ≡ value n
fseid_read_written n a b rest h k p q r = fseid_more (fseid_octets n a b) rest n (fseid_back n a b h k p q r)

-- an address that is there is not empty
address_there_lem : (b : Bool) (at : ℕ) (xs : List ℕ) → at + 4 * flag b ≤ length xs → flag (not (is_nil (part at (4 * flag b) xs))) ≡ flag b
address_there_lem true at xs h = rw (part_first at 4 xs (lit< tt) h)
address_there_lem false at xs h = refl

address6_there : (b : Bool) (at : ℕ) (xs : List ℕ) → at + 16 * flag b ≤ length xs → flag (not (is_nil (part at (16 * flag b) xs))) ≡ flag b
address6_there true at xs h = rw (part_first at 16 xs (lit< tt) h)
address6_there false at xs h = refl

seid_is : (k n : ℕ) → seid_answer k ≡ value n → k ≡ n
unfolding seid_answer
seid_is k n h = value_same (not_refused (eqb k 0) incorrect (value k) n h).1

-- the octets of a SEID that was read and of the addresses there, with nothing ignored, are those it was read from
pub fseid_written_read : (s : List ℕ) (n : ℕ) → T (octets s) → read_fseid s ≡ value n → WholeFseid s
    → fseid_octets n (ipv4_in s) (ipv6_in s) ≡ s
unfolding read_fseid fseid_length number_at octet_at fseid_octets
fseid_written_read [] n o h p = refused_is_not h
fseid_written_read (f ∷ xs) n o h p =
    let a : ℕ = flag (bit 1 f) in
    let b : ℕ = flag (bit 0 f) in
    let one = not_refused (not (bit 0 f || bit 1 f)) incorrect _ n h in
    let two = not_refused (ltb (length xs) (8 + 4 * a + 16 * b)) too_short _ n one.1 in
    let s : List ℕ = f ∷ xs in
    let e : number (part 0 8 xs) ≡ n = seid_is (number (part 0 8 xs)) n two.1 in
    let w = p.whole in
    let flags : 2 * a + b ≡ f = two_bits f p.low in
    let seid : be 8 n ≡ part 1 8 s = ap (be 8) (sym e) ∙ be_part 0 8 xs (drop_octets 1 s o) (omega arith) in
    let all : part 1 8 s ++ (part 9 (4 * a) s ++ part (9 + 4 * a) (16 * b) s) ≡ xs =
    ap (λ (l : List ℕ). part 1 8 s ++ l) (part_two 9 (4 * a) (16 * b) s) ∙ part_two 1 8 (4 * a + 16 * b) s ∙ take_all (8 + (4 * a + 16 * b)) xs (omega arith) in
    rw (address_there_lem (bit 1 f) 9 s (omega arith), address6_there (bit 0 f) (9 + 4 * a) s (omega arith), seid, flags) (ap (λ (l : List ℕ). f ∷ l) all)

pub fseid_inverse : FseidInverse
fseid_inverse = record { back = fseid_read_written; again = fseid_written_read }

fseid_answer_lem : (n : ℕ) (a : Result ℕ code-refusal.Refusal) → fseid_answer a ≡ value n → a ≡ Ok n
fseid_answer_lem n (Ok m) q = ap Ok (value_same q)
fseid_answer_lem n (Err r) q = refused_is_not q

not_zero : (n : ℕ) → T (not (eqb n 0)) → 1 ≤ n
not_zero zero h = absurd h
not_zero (suc n) h = omega arith

four_octets_lem : (n : ℕ) → T (address_of 4 (be 4 n))
unfolding address_of be
four_octets_lem n = bytes_be 4 n

four_there : (n : ℕ) → T (not (is_nil (be 4 n) && true))
unfolding be
four_there n = tt

pub fseid_code_back : FseidCodeBack
unfolding FseidCodeBack address_of
fseid_code_back seid ipv4 n space after rest a k c d =
    let w = wrote (λ m. not (eqb m 0)) (λ m. fseid_octets m (be 4 ipv4) []) space after n (some seid) c in
    let m : w.meant ≡ seid = sym (some_same w.is) in
    let pos : 1 ≤ seid = not_zero seid (rw m at w.ok) in
    fseid_answer_lem seid a
    (d
    ∙ ap (λ (l : List ℕ). read_fseid (l ++ rest)) (w.there ∙ ap (λ (q : ℕ). fseid_octets q (be 4 ipv4) []) m)
    ∙ fseid_read_written seid (be 4 ipv4) [] rest pos k (four_octets_lem ipv4) tt (four_there ipv4))

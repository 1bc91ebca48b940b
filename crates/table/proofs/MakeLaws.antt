-- Making an empty table: the settings' tests, and the steps that write it.
-- Assumes nothing.
use mathlib.Core.Path.{◌≡◌, refl, sym, ap, ap₂, ◌∙◌}
use Prim.Native.Nat.{ℕ, ◌+◌, ◌-◌, ◌≤◌, ◌*◌}
use native.Mathlib.Omega.{arith}
use mathlib.Core.Bool.{Bool, true, false, not, ◌&&◌, ◌||◌}
use mathlib.Core.List.{List, [], ◌∷◌, ◌++◌, append-nil}
use borrow.Author.Tests.{eq-eqb, ne_eqb, not-true, not-false}
use lib.ListN.{length, take, drop, drop_of_length-le}
use lib.Seq.{take_at, drop_at}
use lib.Dec.{T, eqb}
use Rattle.octets.specs.Choice.{all_of, is_nil}
use Rattle.octets.specs.Octets.{put, be, zeros, padded, octets, concat_map}
use Rattle.octets.proofs.Tests.{is_true, of_true}
use Rattle.octets.proofs.Numbers.{length_be, bytes_be, length_zeros, zeros_split}
use Rattle.octets.proofs.Bools.{and-false, and-true}
use Rattle.rules.specs.Model.{Settings, Peer}
use Rattle.rules.specs.Layout.{session_width, table_length, area, settings_octets, encode, settings_width}
use Rattle.rules.specs.Sound.{pool_tests, address_pool_tests, limit_tests, peers_tests, ipv6_allowed, settings_tests, settings_allowed, length_for, make}
use Rattle.laws.proofs.TableLaws.{ipv6_short}
use Rattle.std.specs.Prelude.{Ok, Err}
use Rattle.unit.specs.Meaning.{settings_given}
use Rattle.table.specs.Answers.{made_of}

-- ---- zeros

take_zeros : (n m : ℕ) → take n (zeros (n + m)) ≡ zeros n
take_zeros n m = ap (take n) (zeros_split n m) ∙ take_at (zeros n) (zeros m) n (length_zeros n)

drop_zeros : (n m : ℕ) → drop n (zeros (n + m)) ≡ zeros m
drop_zeros n m = ap (drop n) (zeros_split n m) ∙ drop_at (zeros n) (zeros m) n (length_zeros n)

-- ---- which settings are allowed

nil_length : (v : List ℕ) → is_nil v ≡ eqb (length v) 0
nil_length [] = refl
nil_length (x ∷ v) = sym (ne_eqb (length (x ∷ v)) 0 (λ e. omega arith))

address_is : (v : List ℕ) → ipv6_allowed v ≡ (eqb (length v) 0 || eqb (length v) 16)
unfolding ipv6_allowed
address_is v = ap (λ (b : Bool). b || eqb (length v) 16) (nil_length v)

allowed_is : (a f z u k l : ℕ) (b c : Peer) (v : List ℕ) → T (octets v)
    → settings_allowed (settings_given a v f z u k l b c) ≡ (ipv6_allowed v && (all_of (pool_tests f z) && (all_of (address_pool_tests u k) && (all_of (limit_tests l) && all_of (peers_tests z b c)))))
unfolding settings_allowed settings_tests
allowed_is a f z u k l b c v o =
    rw (eq-eqb (length (be 4 a)) 4 (length_be 4 a), is_true (octets (be 4 a)) (bytes_be 4 a), is_true (octets v) o, and-true (all_of (peers_tests z b c)))

-- ---- how long a table is

pub length_refused : (l : ℕ) (b : Bool) → b ≡ all_of (limit_tests l) → not b ≡ true → 0 ≡ length_for l
unfolding length_for
length_refused l b q h = sym (rw (← q, not-true b h))

pub length_allowed : (l : ℕ) (b : Bool) → b ≡ all_of (limit_tests l) → not b ≡ false → table_length l ≡ length_for l
unfolding length_for
length_allowed l b q h = sym (rw (← q, not-false b h))

-- ---- the answers

module _ (a f z u n l : ℕ) (b c : Peer) (v t : List ℕ) (o : T (octets v)) where
  refused : (settings_allowed (settings_given a v f z u n l b c) && eqb (length t) (table_length l)) ≡ false → made_of (Err (record {})) t ≡ make (settings_given a v f z u n l b c) t
  unfolding make
  refused e = sym (rw e)

  pub make_length : (length t ≡ table_length l → ⊥) → made_of (Err (record {})) t ≡ make (settings_given a v f z u n l b c) t
  make_length h = refused (rw (ne_eqb (length t) (table_length l) h) (and-false (settings_allowed (settings_given a v f z u n l b c))))

  module _ (r : Bool) (q : r ≡ (eqb (length v) 0 || eqb (length v) 16)) where
    pub make_address : not r ≡ true → made_of (Err (record {})) t ≡ make (settings_given a v f z u n l b c) t
    make_address h = refused (rw (allowed_is a f z u n l b c v o, address_is v, ← q, not-true r h))

    pub address_good : not r ≡ false → T (ipv6_allowed v) × (length v ≤ 16)
    address_good h = let good : T (ipv6_allowed v) = of_true (address_is v ∙ sym q ∙ not-false r h) in (good, ipv6_short v good)

  -- the settings read from the parameters are allowed or not
  module _ (s : Settings) (given : s ≡ settings_given a v f z u n l b c) (p : Bool) (k : p ≡ settings_allowed s) where
    pub make_settings : not p ≡ true → made_of (Err (record {})) t ≡ make (settings_given a v f z u n l b c) t
    make_settings g = refused (rw (← given, ← k, not-true p g))

    pub make_made : not p ≡ false → length t ≡ table_length l → (t' : List ℕ) → t' ≡ encode s [] → made_of (Ok tt) t' ≡ make (settings_given a v f z u n l b c) t
    unfolding make
    make_made g e' t' e =
        let yes' : (settings_allowed (settings_given a v f z u n l b c) && eqb (length t) (table_length l)) ≡ true = rw (← given, ← k, not-false p g, eq-eqb (length t) (table_length l) e') in
        ap (made_of (Ok tt)) (e ∙ ap (λ (x : Settings). encode x []) given) ∙ sym (rw yes')

-- ---- the table's octets

module _ (l n : ℕ) (t t' : List ℕ) (k : n ≡ table_length l) (long : length t ≡ n) (e : t' ≡ put 0 (zeros n) t) where
  cleared : t' ≡ zeros n
  unfolding put
  cleared =
      let none : drop (0 + length (zeros n)) t ≡ [] = drop_of_length-le t {i = 0 + length (zeros n)} (omega (arith, length_zeros n)) in
      e ∙ ap (λ (x : List ℕ). zeros n ++ x) none ∙ append-nil (zeros n)

  whole : t' ≡ zeros (settings_width + (2 + l * session_width))
  whole = cleared ∙ ap zeros (omega arith)

  -- the settings' part of it is zero
  pub front_cleared : take settings_width t' ≡ zeros settings_width
  front_cleared = ap (take settings_width) whole ∙ take_zeros settings_width (2 + l * session_width)

  two_zeros : zeros 2 ≡ 0 ∷ 0 ∷ []
  unfolding zeros
  two_zeros = refl

  pub encoded_empty : (s : Settings) (w : List ℕ) → s.limit ≡ l → w ≡ settings_octets s → w ++ drop settings_width t' ≡ encode s []
  unfolding encode area padded concat_map be
  encoded_empty s w room q =
      ap₂ ◌++◌ q (ap (drop settings_width) whole ∙ drop_zeros settings_width (2 + l * session_width) ∙ zeros_split 2 (l * session_width) ∙ ap (λ (x : List ℕ). x ++ zeros (l * session_width)) two_zeros)
      ∙ (let e : l * session_width ≡ s.limit * session_width - 0 = omega (arith, room) in ap (λ (m : ℕ). settings_octets s ++ (0 ∷ 0 ∷ zeros m)) e)

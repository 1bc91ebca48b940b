-- The answers of the record tests, return by return: premises are what the code knows there.
-- Assumes nothing.
use Rattle.std.specs.Option.{is_some}
use mathlib.Core.Path.{◌≡◌, refl, sym, ap, ◌∙◌}
use Prim.Native.Nat.{ℕ, suc, ◌+◌, ◌*◌, ◌/◌, ◌%◌, ◌^◌, ◌≤◌, ◌<◌}
use native.Mathlib.Omega.{arith}
use native.Mathlib.Numerals.{add-one}
use mathlib.Core.Bool.{Bool, true, false, not, ◌&&◌, ◌||◌}
use mathlib.Core.List.{List, [], ◌∷◌, ◌++◌}
use borrow.Author.Tests.{lt-ltb, le-ltb, le-leb, lt-leb, eqb-true, ne_eqb, not-false}
use lib.ListN.{length, drop, get_or}
use lib.Seq.{drop-cons}
use lib.Dec.{T, leb, ltb, eqb, leb→le, ltb→lt}
use Rattle.octets.specs.Choice.{all_of, flag}
use Rattle.octets.specs.Octets.{part, number, all_zero, octets}
use Rattle.octets.specs.Fields.{fields_at}
use Rattle.octets.specs.Lists.{member}
use Rattle.octets.proofs.Ordered.{orders}
use Rattle.octets.proofs.Tests.{and_left, and_right, of_true, each}
use Rattle.octets.proofs.Digits.{number_after, after_number, from_zero, number_below, part_octets}
use Rattle.octets.proofs.Put.{part_two, length_part}
use Rattle.octets.proofs.FieldLaws.{octet_field, zero_number, zero_append, zero_fields}
use Rattle.rules.specs.Model.{Settings}
use Rattle.rules.specs.Layout.{endpoint_width, pdr_width, csid_width, far_at, far_id_at, source_at, match_at, teid_at, families_at, named_endpoint_at, pdr_address_there_at, pdr_address_at, endpoint_teid_at, endpoint_families_at, endpoint_address_there_at, endpoint_address_at, csid_id_type_at, csid_address_at, csid_address_rest_at}
use Rattle.laws.proofs.LayoutLaws.{endpoint_view}
use Rattle.unit.specs.declared.Settings.{Settings as Unit}
use Rattle.unit.specs.Meaning.{settings_of}
use Rattle.unit.proofs.FieldLaws.{ipv6_there}
use Rattle.records.specs.Kept.{pdr_sound, endpoint_sound, csid_sound, ids_of, has_ipv6, optional_test, families_test, tunnel_test, match_test, pdr_test, endpoint_test, address_test, type_test, csid_test}
use Rattle.records.proofs.Slots.{endpoint_law, pdr_law, csid_law}
use Rattle.octets.proofs.Bools.{and-false, and_assoc}

-- ---- FQ-CSIDs

after_append : (v : ℕ) (xs ys : List ℕ) → number_after v (xs ++ ys) ≡ number_after (number_after v xs) ys
unfolding number_after
after_append v [] ys = refl
after_append v (x ∷ xs) ys = after_append (v * 256 + x) xs ys

number_append : (xs ys : List ℕ) → number (xs ++ ys) ≡ number xs * (256 ^ length ys) + number ys
number_append xs ys = sym (from_zero (xs ++ ys)) ∙ after_append 0 xs ys ∙ ap (λ (v : ℕ). number_after v ys) (from_zero xs) ∙ after_number (number xs) ys

-- the type and the first two octets of the address, as one number
type_below : (k a x y : ℕ) → a ≡ x * 65536 + y → x < 65536 → y < 65536 → ltb (k * 65536 + x) 193572 ≡ type_test k a
type_below k a x y e hx hy =
    orders k 1
    (λ h. lt-ltb (k * 65536 + x) 193572 (omega arith) ∙ sym (rw (le-leb k 2 (omega arith), ne_eqb k 2 (λ q. omega arith))))
    (λ h. orders k 2
    (λ j. let q : k ≡ 2 = omega arith in
    rw q
    (orders 62500 x
    (λ m. le-ltb (131072 + x) 193572 (omega arith) ∙ sym (lt-leb (a / 4096) 999999 (omega arith)))
    (λ m. lt-ltb (131072 + x) 193572 (omega arith) ∙ sym (le-leb (a / 4096) 999999 (omega arith)))))
    (λ j. le-ltb (k * 65536 + x) 193572 (omega arith) ∙ sym (rw (lt-leb k 2 j))))

pub type_small : (t : Bool) (k a : ℕ) → t ≡ type_test k a → not t ≡ false → k ≤ 2
type_small t k a q h = orders k 2 (λ j. j) (λ j. let z : ◌≡◌ {A = ℕ} 0 1 = ap flag (sym (rw (lt-leb k 2 j) at q) ∙ not-false t h) in omega arith)

-- the test of type and address: of what tells in the first four octets of the address, and of the other twelve
type_apart : (k a b : ℕ) → (leb k 2 && address_test k a b) ≡ (type_test k a && (eqb k 1 || eqb b 0))
type_apart k a b = go (eqb k 1) refl
  where
    go : (t : Bool) → eqb k 1 ≡ t → (leb k 2 && address_test k a b) ≡ (type_test k a && (eqb k 1 || eqb b 0))
    go true e = let q : k ≡ 1 = eqb-true k 1 e in rw q
    go false e = rw e (sym (and_assoc (leb k 2) (not (eqb k 2) || leb (a / 4096) 999999) (eqb b 0)))

-- none of two numbers is set, or the type is 1
set_law : (k x y : ℕ) → k ≤ 2 → leb (flag (not (eqb x 0)) + flag (not (eqb y 0))) (k % 2 * 2) ≡ (eqb k 1 || (eqb x 0 && eqb y 0))
set_law k x y h =
    orders k 0
    (λ j. let q : k ≡ 0 = omega arith in rw q (few (eqb x 0) (eqb y 0)))
    (λ j. orders k 1
    (λ m. let q : k ≡ 1 = omega arith in rw q (any (eqb x 0) (eqb y 0)))
    (λ m. let q : k ≡ 2 = omega arith in rw q (few (eqb x 0) (eqb y 0))))
  where
    few : (p q : Bool) → leb (flag (not p) + flag (not q)) 0 ≡ (p && q)
    few true true = refl
    few true false = refl
    few false true = refl
    few false false = refl

    any : (p q : Bool) → leb (flag (not p) + flag (not q)) 2 ≡ true
    any true true = refl
    any true false = refl
    any false true = refl
    any false false = refl

module _ (xs : List ℕ) (e : length xs ≡ csid_width) where
  pub rest_law : (x y a b : ℕ) → get_or xs csid_id_type_at 0 ≤ 2 → x ≡ number (part csid_address_rest_at 8 xs) → y ≡ number (part (csid_address_rest_at + 8) 4 xs) → a ≡ flag (not (eqb x 0)) → b ≡ flag (not (eqb y 0))
      → leb (a + b) (get_or xs csid_id_type_at 0 % 2 * 2) ≡ (eqb (get_or xs csid_id_type_at 0) 1 || all_zero (part csid_address_rest_at 12 xs))
  rest_law x y a b h p q f g =
      let z : all_zero (part csid_address_rest_at 12 xs) ≡ (eqb x 0 && eqb y 0) =
      ap all_zero (sym (part_two csid_address_rest_at 8 4 xs)) ∙ zero_append (part csid_address_rest_at 8 xs) (part (csid_address_rest_at + 8) 4 xs) ∙ rw (zero_number (part csid_address_rest_at 8 xs), zero_number (part (csid_address_rest_at + 8) 4 xs), p, q) in
      rw (f, g, z) (set_law (get_or xs csid_id_type_at 0) x y h)

  module _ (o : T (octets xs)) where
    pub type_law : (v : ℕ) → v ≡ number (part csid_address_at 2 xs) → v < 256 ^ 2 → ltb (get_or xs csid_id_type_at 0 * 65536 + v) 193572 ≡ type_test (get_or xs csid_id_type_at 0) (number (part csid_address_at 4 xs))
    type_law v q l =
        let n : length (part (csid_address_at + 2) 2 xs) ≡ 2 = length_part (csid_address_at + 2) 2 xs (omega arith) in
        let m : number (part csid_address_at 4 xs) ≡ v * 65536 + number (part (csid_address_at + 2) 2 xs) =
        ap number (sym (part_two csid_address_at 2 2 xs)) ∙ number_append (part csid_address_at 2 xs) (part (csid_address_at + 2) 2 xs) ∙ rw (n, ← q) in
        let b : number (part (csid_address_at + 2) 2 xs) < 65536 = rw n at (number_below (part (csid_address_at + 2) 2 xs) (part_octets 4 2 xs o)) in
        type_below (get_or xs csid_id_type_at 0) (number (part csid_address_at 4 xs)) v (number (part (csid_address_at + 2) 2 xs)) m (omega arith) b

    pub csid_is : csid_sound xs ≡ (ltb (get_or xs 0 0) 6 && (type_test (get_or xs csid_id_type_at 0) (number (part csid_address_at 4 xs)) && (eqb (get_or xs csid_id_type_at 0) 1 || all_zero (part csid_address_rest_at 12 xs))))
    unfolding fields_at csid_test
    csid_is =
        csid_law xs e o
        ∙ rw (octet_field 0 xs, octet_field csid_id_type_at xs, zero_number (part csid_address_rest_at 12 xs))
        (ap (λ (b : Bool). ltb (get_or xs 0 0) 6 && b) (type_apart (get_or xs csid_id_type_at 0) (number (part csid_address_at 4 xs)) (number (part csid_address_rest_at 12 xs))))

-- ---- F-TEIDs and endpoints

module _ (u : Unit) where
  abbrev s : Settings
  s = settings_of u

  fits : u.first + u.size ≤ 2 ^ 32 → s.first + s.size ≤ 2 ^ 32
  unfolding settings_of
  fits h = h

  module _ (t f v : ℕ) (q : v ≡ t) where
    pub tunnel_is : tunnel_test s t f ≡ (leb u.first v && (ltb v (u.first + u.size) && families_test f (is_some u.ipv6)))
    unfolding settings_of
    tunnel_is = λ i. leb u.first (sym q i) && (ltb (sym q i) (u.first + u.size) && families_test f (ipv6_there u i))

  module _ (pool : u.first + u.size ≤ 2 ^ 32) (xs : List ℕ) (e : length xs ≡ endpoint_width) (o : T (octets xs)) where
    pub endpoint_is : endpoint_sound s xs ≡ (tunnel_test s (number (part endpoint_teid_at 4 xs)) (get_or xs endpoint_families_at 0) && (optional_test (get_or xs endpoint_address_there_at 0) (number (part endpoint_address_at 4 xs)) && true))
    unfolding fields_at endpoint_test
    endpoint_is = endpoint_law s (fits pool) xs e o ∙ rw (octet_field endpoint_families_at xs, octet_field endpoint_address_there_at xs)

-- ---- PDRs

in_turn : (f s m a : Bool) → all_of (f ∷ s ∷ m ∷ a ∷ []) ≡ (s && (f && (a && m)))
in_turn true true true true = refl
in_turn true true true false = refl
in_turn true true false true = refl
in_turn true true false false = refl
in_turn true false m a = refl
in_turn false true m a = refl
in_turn false false m a = refl

module _ (u : Unit) (live xs : List ℕ) where
  -- what it matches on
  abbrev matches : Bool
  matches = match_test (settings_of u) live (get_or xs match_at 0) (number (part teid_at 4 xs)) (get_or xs families_at 0) (get_or xs named_endpoint_at 0)

  pub stray : all_zero (part teid_at 5 xs) ≡ all_zero (number (part teid_at 4 xs) ∷ get_or xs families_at 0 ∷ [])
  unfolding fields_at
  stray = zero_fields teid_at (4 ∷ 1 ∷ []) xs ∙ rw (octet_field families_at xs)

  pub match_zero : all_zero (part match_at 7 xs) ≡ all_zero (get_or xs match_at 0 ∷ number (part teid_at 4 xs) ∷ get_or xs families_at 0 ∷ get_or xs named_endpoint_at 0 ∷ [])
  unfolding fields_at
  match_zero = zero_fields match_at (1 ∷ 4 ∷ 1 ∷ 1 ∷ []) xs ∙ rw (octet_field match_at xs, octet_field families_at xs, octet_field named_endpoint_at xs)

  module _ (pool : u.first + u.size ≤ 2 ^ 32) (e : length xs ≡ pdr_width) (o : T (octets xs)) where
    abbrev far : Bool
    far = optional_test (get_or xs far_at 0) (number (part far_id_at 4 xs))

    abbrev address : Bool
    address = optional_test (get_or xs pdr_address_there_at 0) (number (part pdr_address_at 4 xs))

    -- the tests of its fields
    abbrev tests : List Bool
    tests = far ∷ ltb (get_or xs source_at 0) 16 ∷ matches ∷ address ∷ []

    pdr_is : pdr_sound (settings_of u) live xs ≡ all_of tests
    unfolding fields_at pdr_test
    pdr_is = pdr_law (settings_of u) (fits u pool) live xs e o ∙ rw (octet_field far_at xs, octet_field source_at xs, octet_field match_at xs, octet_field families_at xs, octet_field named_endpoint_at xs, octet_field pdr_address_there_at xs)

    pub pdr_source : 15 < get_or xs source_at 0 → false ≡ pdr_sound (settings_of u) live xs
    pdr_source h = sym (pdr_is ∙ rw (le-ltb (get_or xs source_at 0) 16 (omega arith)) (and-false far))

    -- in the order of the code
    pub pdr_turns : pdr_sound (settings_of u) live xs ≡ (ltb (get_or xs source_at 0) 16 && (far && (address && matches)))
    pdr_turns = pdr_is ∙ in_turn far (ltb (get_or xs source_at 0) 16) matches address

-- ---- endpoint IDs

or_assoc : (a b c : Bool) → ((a || b) || c) ≡ (a || (b || c))
or_assoc true b c = refl
or_assoc false b c = refl

-- what was found, with what is left
pub found_more : (rows : List (List ℕ)) (i id : ℕ) (f m : Bool) → i < length rows → (f || member id (ids_of (drop i rows))) ≡ m
    → ((f || eqb id (get_or (get_or rows i []) 0 0)) || member id (ids_of (drop (i + 1) rows))) ≡ m
unfolding ids_of member
found_more rows i id f m h q =
    or_assoc f (eqb id (get_or (get_or rows i []) 0 0)) (member id (ids_of (drop (i + 1) rows)))
    ∙ (let e : i + 1 ≡ suc i = add-one i in rw e (rw (drop-cons rows i [] h, endpoint_view (get_or rows i [])) at q))

-- ---- the TEID of a record that is sound is of the pool

module _ (u : Unit) (pool : u.first + u.size ≤ 2 ^ 32) where
  tunnel_pool : (t f : ℕ) → T (tunnel_test (settings_of u) t f) → (u.first ≤ t) × (t < u.first + u.size)
  unfolding settings_of
  tunnel_pool t f k =
      let families = families_test f (has_ipv6 (settings_of u)) in
      let r = and_right (leb u.first t) (ltb t (u.first + u.size) && families) k in
      (leb→le u.first t (and_left (leb u.first t) (ltb t (u.first + u.size) && families) k), ltb→lt t (u.first + u.size) (and_left (ltb t (u.first + u.size)) families r))

  pub endpoint_pool : (xs : List ℕ) → length xs ≡ endpoint_width → T (octets xs) → endpoint_sound (settings_of u) xs ≡ true → (u.first ≤ number (part endpoint_teid_at 4 xs)) × (number (part endpoint_teid_at 4 xs) < u.first + u.size)
  endpoint_pool xs e o k =
      tunnel_pool (number (part endpoint_teid_at 4 xs)) (get_or xs endpoint_families_at 0)
      (and_left (tunnel_test (settings_of u) (number (part endpoint_teid_at 4 xs)) (get_or xs endpoint_families_at 0)) (optional_test (get_or xs endpoint_address_there_at 0) (number (part endpoint_address_at 4 xs)) && true) (of_true (sym (endpoint_is u pool xs e o) ∙ k)))

  pub pdr_pool : (live xs : List ℕ) → length xs ≡ pdr_width → T (octets xs) → pdr_sound (settings_of u) live xs ≡ true → get_or xs match_at 0 ≡ 1
      → (u.first ≤ number (part teid_at 4 xs)) × (number (part teid_at 4 xs) < u.first + u.size)
  pdr_pool live xs e o k there =
      let held : Bool = tunnel_test (settings_of u) (number (part teid_at 4 xs)) (get_or xs families_at 0) in
      let matched : T (matches u live xs) = (each (tests u live xs pool e o) (of_true (sym (pdr_is u live xs pool e o) ∙ k))).1.1.0 in
      let one : T (eqb (get_or xs named_endpoint_at 0) 0 && held) = rw there at matched in
      tunnel_pool (number (part teid_at 4 xs)) (get_or xs families_at 0) (and_right (eqb (get_or xs named_endpoint_at 0) 0) held one)

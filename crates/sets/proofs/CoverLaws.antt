-- What an FQ-CSID covers, octet by octet. Assumes nothing.
use mathlib.Core.Path.{◌≡◌, refl, sym, ap, ap₂, ◌∙◌, subst}
use Prim.Native.Nat.{ℕ, ◌+◌, ◌-◌, ◌*◌, ◌/◌, ◌%◌, ◌≤◌}
use native.Mathlib.Omega.{arith}
use mathlib.Core.Bool.{Bool, true, false, ◌&&◌, ◌||◌}
use mathlib.Core.List.{List, [], ◌∷◌, map}
use lib.ListN.{length, take, drop, get_or}
use lib.Dec.{T, eqb, eqb→eq}
use borrow.Author.Tests.{eq-eqb, ne_eqb}
use Rattle.octets.specs.Choice.{pick}
use Rattle.octets.specs.Octets.{be, number, part, octets, octet_at, same_octets, slices}
use Rattle.octets.specs.Fields.{fields_at}
use Rattle.octets.specs.Lists.{member, any}
use Rattle.octets.proofs.FieldLaws.{octet_field}
use Rattle.octets.proofs.Digits.{be_number, part_octets}
use Rattle.octets.proofs.Numbers.{same_refl, same_eq, same_append}
use Rattle.octets.proofs.Put.{part_from, length_part, part_two}
use Rattle.octets.proofs.Tests.{of_true}
use Rattle.laws.proofs.LayoutLaws.{csid_address_lem}
use Rattle.rules.specs.Layout.{csid_from, view_csid, view_area, view_session, csid_width, csids_at, csid_count_at, csid_id_type_at, csid_number_at, csid_address_at}
use Rattle.rules.specs.Elements as rules
use Rattle.rules.specs.Elements.{address_length}
use Rattle.rules.specs.Apply.{covers, covers_session}
use Rattle.sets.specs.Listed.{listed_address_octets, csid_count, listed_in}
use Rattle.std.specs.Simd.{first_chunks}
use Rattle.plan.proofs.ChainLaws.{chunks_slices}

-- ---- one of the CSIDs

-- what is left to look at gives the same answer
member_any : (x : ℕ) (xs : List (List ℕ)) → member x (map number xs) ≡ any (λ (y : List ℕ). eqb x (number y)) xs
unfolding member any
member_any x [] = refl
member_any x (y ∷ ys) = ap (λ (b : Bool). eqb x (number y) || b) (member_any x ys)

pub member_pairs : (csid m : ℕ) (cs : List ℕ) → any (λ (y : List ℕ). eqb csid (number y)) (first_chunks 2 m cs) ≡ member csid (rules.csids_read m cs)
unfolding rules.csids_read
member_pairs csid m cs = rw chunks_slices (sym (member_any csid (slices 2 m cs)))

-- ---- one of a session's

module _ (v xs : List ℕ) (long : length xs ≡ csid_width) (o : T (octets xs)) where
  abbrev width : ℕ
  width = address_length (get_or xs csid_id_type_at 0)

  abbrev node : ℕ
  node = get_or v (1 + listed_address_octets v + 2 * csid_count v) 0 % 16

  -- the four tests
  by_octets : covers (listed_in v) (view_csid xs)
      ≡ (eqb (get_or xs 0 0) node && eqb (get_or xs csid_id_type_at 0) (get_or v 0 0 / 16) && same_octets (part csid_address_at width xs) (part 1 (listed_address_octets v) v)
      && member (number (part csid_number_at 2 xs)) (rules.csids_read (csid_count v) (drop (1 + listed_address_octets v) v)))
  unfolding covers listed_in view_csid csid_from fields_at octet_at
  by_octets = rw (csid_address_lem xs long o, octet_field 0 xs, octet_field csid_id_type_at xs)

  module _ (a : ℕ) (is : a ≡ listed_address_octets v) where
    pub other_node_lem : (get_or v (1 + a + 2 * csid_count v) 0 % 16 ≡ get_or xs 0 0 → ⊥) → false ≡ covers (listed_in v) (view_csid xs)
    other_node_lem n = sym (by_octets ∙ rw (ne_eqb (get_or xs 0 0) node (λ e. n (ap (λ (k : ℕ). get_or v (1 + k + 2 * csid_count v) 0 % 16) is ∙ sym e))))

    module _ (n : get_or v (1 + a + 2 * csid_count v) 0 % 16 ≡ get_or xs 0 0) where
      same_node : eqb (get_or xs 0 0) node ≡ true
      same_node = eq-eqb (get_or xs 0 0) node (sym n ∙ ap (λ (k : ℕ). get_or v (1 + k + 2 * csid_count v) 0 % 16) is)

      pub other_type : (get_or v 0 0 / 16 ≡ get_or xs csid_id_type_at 0 → ⊥) → false ≡ covers (listed_in v) (view_csid xs)
      other_type t = sym (by_octets ∙ rw (same_node, ne_eqb (get_or xs csid_id_type_at 0) (get_or v 0 0 / 16) (λ e. t (sym e))))

      module _ (t : get_or v 0 0 / 16 ≡ get_or xs csid_id_type_at 0) (b : Bool) (same : b ≡ same_octets (part csid_address_at a xs) (part 1 a v)) where
        by_rest : covers (listed_in v) (view_csid xs) ≡ (b && member (number (part csid_number_at 2 xs)) (rules.csids_read (csid_count v) (drop (1 + a) v)))
        unfolding octet_at
        by_rest =
            let w : width ≡ a = ap address_length (sym t) ∙ sym is in
            by_octets ∙ rw (same_node, eq-eqb (get_or xs csid_id_type_at 0) (get_or v 0 0 / 16) (sym t), w, ← is, same)

        pub other_address_lem : b ≡ false → false ≡ covers (listed_in v) (view_csid xs)
        other_address_lem e = sym (by_rest ∙ rw e)

        pub by_csid : b ≡ true → (q n m : ℕ) → n ≡ 1 + a → q ≡ number (part csid_number_at 2 xs) → m ≡ csid_count v → {r : Bool} → r ≡ member q (rules.csids_read m (take (length v - n) (drop n v))) → r ≡ covers (listed_in v) (view_csid xs)
        by_csid e q k m ek eq em h = h ∙ rw (part_from, ek, eq, em) (sym (by_rest ∙ rw e))

-- ---- those of a session

any_map : {A : Type 0} (p : A → Bool) (f : List ℕ → A) (xs : List (List ℕ)) → any (λ (x : List ℕ). p (f x)) xs ≡ any p (map f xs)
unfolding any
any_map p f [] = refl
any_map p f (x ∷ xs) = ap (λ (b : Bool). p (f x) || b) (any_map p f xs)

pub covers_any : (v slot : List ℕ) (n : ℕ) → n ≡ get_or slot csid_count_at 0
    → any (λ (c : List ℕ). covers (listed_in v) (view_csid c)) (first_chunks csid_width n (take (length slot - csids_at) (drop csids_at slot))) ≡ covers_session (view_session slot) (listed_in v)
unfolding covers_session view_session view_area octet_at
covers_any v slot n e = rw (chunks_slices, part_from, e) (any_map (covers (listed_in v)) view_csid (slices csid_width (get_or slot csid_count_at 0) (drop csids_at slot)))

-- ---- two addresses by their numbers

by_number : (p q : List ℕ) → T (octets p) → T (octets q) → length p ≡ length q → eqb (number p) (number q) ≡ same_octets p q
by_number p q op oq l = go (same_octets p q) (eqb (number p) (number q)) refl refl
  where
    same : eqb (number p) (number q) ≡ true → p ≡ q
    same e = sym (be_number p op) ∙ ap₂ be l (eqb→eq (number p) (number q) (of_true e)) ∙ be_number q oq

    go : (a b : Bool) → same_octets p q ≡ a → eqb (number p) (number q) ≡ b → b ≡ a
    go true true e f = refl
    go false false e f = refl
    go true false e f = sym f ∙ eq-eqb (number p) (number q) (ap number (same_eq p q (of_true e)))
    go false true e f = sym (ap (same_octets p) (sym (same f)) ∙ same_refl p) ∙ e

module _ (s v : List ℕ) (os : T (octets s)) (ov : T (octets v)) where
  pub address_of : (i j n : ℕ) → i + n ≤ length s → j + n ≤ length v → eqb (number (part i n s)) (number (part j n v)) ≡ same_octets (part i n s) (part j n v)
  address_of i j n h k = by_number (part i n s) (part j n v) (part_octets i n s os) (part_octets j n v ov) (length_part i n s h ∙ sym (length_part j n v k))

  address_two : (i j : ℕ) → i + 16 ≤ length s → j + 16 ≤ length v
      → (eqb (number (part i 8 s)) (number (part j 8 v)) && eqb (number (part (i + 8) 8 s)) (number (part (j + 8) 8 v))) ≡ same_octets (part i 16 s) (part j 16 v)
  address_two i j h k =
      ap₂ (λ (a b : Bool). a && b) (address_of i j 8 (omega arith) (omega arith)) (address_of (i + 8) (j + 8) 8 (omega arith) (omega arith))
      ∙ sym (same_append (part i 8 s) (part (i + 8) 8 s) (part j 8 v) (part (j + 8) 8 v) (length_part i 8 s (omega arith) ∙ sym (length_part j 8 v (omega arith))))
      ∙ ap₂ same_octets (part_two i 8 8 s) (part_two j 8 8 v)

  module _ (i j : ℕ) (h : i + 16 ≤ length s) (k : j + 16 ≤ length v) where
    abbrev later : Bool
    later = eqb (number (part (i + 8) 8 s)) (number (part (j + 8) 8 v))

    pub address_later : number (part i 8 s) ≡ number (part j 8 v) → later ≡ same_octets (part i 16 s) (part j 16 v)
    address_later e = sym (ap (λ (b : Bool). b && later) (eq-eqb _ _ e)) ∙ address_two i j h k

    pub address_front : (number (part i 8 s) ≡ number (part j 8 v) → ⊥) → eqb (number (part i 8 s)) (number (part j 8 v)) ≡ same_octets (part i 16 s) (part j 16 v)
    address_front e = ne_eqb _ _ e ∙ sym (ap (λ (b : Bool). b && later) (ne_eqb _ _ e)) ∙ address_two i j h k

-- an address has 4 octets or 16
pub address_octets : (k n : ℕ) → n ≡ address_length k → T (eqb n 4 || eqb n 16)
unfolding address_length
address_octets k n e = rw e (go (eqb k 1))
  where
    go : (b : Bool) → T (eqb (pick b 16 4) 4 || eqb (pick b 16 4) 16)
    go true = tt
    go false = tt

pub address_four : (n : ℕ) → (n ≡ 16 → ⊥) → T (eqb n 4 || eqb n 16) → n ≡ 4
address_four n e h = eqb→eq n 4 (subst (λ (b : Bool). T b) (ap (λ (b : Bool). eqb n 4 || b) (ne_eqb n 16 e) ∙ or-false (eqb n 4)) h)
  where
    or-false : (b : Bool) → (b || false) ≡ b
    or-false true = refl
    or-false false = refl

-- An FQ-CSID that was read: what its struct says of it, and the item of its row. Assumes nothing.
use mathlib.Core.Path.{◌≡◌, refl, sym, ap, subst, ◌∙◌}
use Prim.Native.Nat.{ℕ, zero, suc, ◌^◌, ◌<◌}
use native.Mathlib.Omega.{arith}
use mathlib.Core.Bool.{Bool, true, false}
use mathlib.Core.Option.{none, some}
use mathlib.Core.List.{List, [], ◌∷◌, ◌++◌, map}
use lib.ListN.{length}
use lib.Dec.{T, ltb, eqb, ltb→lt}
use borrow.Author.Tests.{ne_eqb}
use Rattle.octets.specs.Choice.{pick, all_of}
use Rattle.octets.specs.Octets.{be, number, slices}
use Rattle.octets.specs.Fields.{fit, field_octets}
use Rattle.octets.proofs.Tests.{and_left, each}
use Rattle.octets.proofs.Numbers.{number_be}
use Rattle.rules.specs.Elements.{Fqcsid, sets, removal, csids_read, csid_fields, node_of}
use Rattle.rules.specs.Reading.{csid_count_allowed}
use Rattle.rules.specs.Request.{sets_csid, clears_csids}
use Rattle.rules.specs.Message.{modification}
use Rattle.plan.specs.Rows.{row_address}
use Rattle.fqcsid.specs.Meaning.{address_widths, csid_widths, csid_numbers, csid_address, fqcsid_tests, fqcsid_meant, fqcsid_of}
use Rattle.fqcsid.specs.declared.FqCsid.{FqCsid}
use Rattle.request.specs.Items.{csid_item, item_of, row_item}
use Rattle.request.specs.Csids.{csid_count_fits, bare_csid, csid_words, csid_taken}

-- ---- the value that a struct means

node_of_lem : (m t : ℕ) (a cs : List ℕ) (n : ℕ) → node_of (csid_fields m t a cs n) ≡ n
unfolding node_of csid_fields
node_of_lem zero t a cs n = refl
node_of_lem (suc m) t a cs n = refl

length_slices : (m : ℕ) (xs : List ℕ) → length (map number (slices 2 m xs)) ≡ m
unfolding slices
length_slices zero xs = refl
length_slices (suc m) xs = ap suc (length_slices m _)

count_of : (k m t : ℕ) (a xs : List ℕ) (n : ℕ) → csid_count_allowed k (csid_fields m t a (csids_read m xs) n) ≡ csid_count_fits k m
unfolding csid_count_allowed csid_fields csid_count_fits csids_read
count_of k zero t a xs n = refl
count_of k (suc m) t a xs n = rw (length_slices (suc m) xs, ne_eqb (suc m) 0 (λ e. absurd (omega arith)))

address_same : (t h l : ℕ) → pick (eqb t 1) (be 8 h ++ be 8 l) (be 4 l) ≡ field_octets (address_widths t) (h ∷ l ∷ [])
unfolding address_widths field_octets be
address_same t h l = by_test (eqb t 1)
  where
    by_test : (b : Bool) → pick b (be 8 h ++ be 8 l) (be 4 l) ≡ field_octets (pick b (8 ∷ 8 ∷ []) (0 ∷ 4 ∷ [])) (h ∷ l ∷ [])
    by_test true = refl
    by_test false = refl

first_fits : (m c : ℕ) (cs : List ℕ) → m ≡ 1 → T (fit (csid_widths m) (c ∷ cs)) → c < 256 ^ 2
unfolding csid_widths fit
first_fits m c cs e h = ltb→lt c (256 ^ 2) (and_left (ltb c (256 ^ 2)) (fit (0 ∷ 0 ∷ 0 ∷ []) cs) (subst (λ (k : ℕ). T (fit (csid_widths k) (c ∷ cs))) e h))

one_of_them : (m t : ℕ) (a : List ℕ) (c b d e n : ℕ) → m ≡ 1 → c < 256 ^ 2
    → csid_fields m t a (csids_read m (field_octets (csid_widths m) (c ∷ b ∷ d ∷ e ∷ []))) n ≡ sets t a (c ∷ []) n
unfolding csid_fields csids_read csid_widths slices field_octets be
one_of_them m t a c b d e n q h = rw q (ap (λ (k : ℕ). sets t a (k ∷ []) n) (number_be 2 c h))

module _ (x : FqCsid) (y : Fqcsid) (means : fqcsid_of x ≡ some y) where
  meant : (fqcsid_meant x ≡ y) × T (all_of (fqcsid_tests x))
  unfolding fqcsid_of
  meant = by_test (all_of (fqcsid_tests x)) means
    where
      by_test : (b : Bool) → pick b (some (fqcsid_meant x)) none ≡ some y → (fqcsid_meant x ≡ y) × T b
      by_test true h = (cc, tt)
      by_test false h = let z : ◌≡◌ {A = ℕ} 0 1 = cc in absurd (omega arith)

  pub meant_node : node_of y ≡ x.node_type
  meant_node = ap node_of (sym meant.0) ∙ node_of_lem x.count _ _ _ _

  pub meant_small : x.node_type < 16
  unfolding fqcsid_tests
  meant_small = ltb→lt x.node_type 16 (each (fqcsid_tests x) meant.1).1.1.0

  pub meant_count : (k : ℕ) → csid_count_allowed k y ≡ csid_count_fits k x.count
  meant_count k = ap (csid_count_allowed k) (sym meant.0) ∙ count_of k x.count _ _ _ _

  fits : T (fit (csid_widths x.count) (csid_numbers x))
  unfolding fqcsid_tests
  fits = (each (fqcsid_tests x) meant.1).1.1.1.1.0

  -- the row of a value with one CSID at most
  removes : x.count ≡ 0 → removal x.node_type ≡ y
  unfolding csid_fields
  removes e = sym (rw e) ∙ meant.0

  sets_one : x.count ≡ 1 → sets x.id_type (pick (eqb x.id_type 1) (be 8 x.address_high ++ be 8 x.address_low) (be 4 x.address_low)) (x.csids_1 ∷ []) x.node_type ≡ y
  sets_one e =
      let small = first_fits x.count x.csids_1 _ e fits in
      ap (λ (a : List ℕ). sets x.id_type a (x.csids_1 ∷ []) x.node_type) (address_same x.id_type x.address_high x.address_low)
      ∙ sym (one_of_them x.count x.id_type (csid_address x) _ x.csids_2 x.csids_3 x.csids_4 x.node_type e small) ∙ meant.0

  pub csid_row_lem : (k : ℕ) → true ≡ csid_count_fits k x.count → row_item (csid_words (csid_taken x)) ≡ sets_csid y
  unfolding row_item item_of csid_item csid_taken row_address csid_count_fits
  csid_row_lem k h = go x.count refl
    where
      go : (m : ℕ) → x.count ≡ m → row_item (csid_words (csid_taken x)) ≡ sets_csid y
      go zero e = rw e (ap sets_csid (removes e))
      go (suc zero) e = rw e (ap sets_csid (sets_one e))
      go (suc (suc m)) e =
          let b : true ≡ false = h ∙ rw (e, ne_eqb (suc (suc m)) 0 (λ z. absurd (omega arith)), ne_eqb (suc (suc m)) 1 (λ z. absurd (omega arith))) in
          let z : ◌≡◌ {A = ℕ} 0 1 = cc in
          absurd (omega arith)

pub null_row : row_item (csid_words (bare_csid 3 0)) ≡ clears_csids
unfolding row_item item_of csid_item
null_row = refl

-- ---- the number of CSIDs

module _ (kind m : ℕ) where
  pub no_csids : m ≡ 0 → eqb kind modification ≡ csid_count_fits kind m
  unfolding csid_count_fits
  no_csids e = rw e

  pub one_csid : m ≡ 1 → true ≡ csid_count_fits kind m
  unfolding csid_count_fits
  one_csid e = rw e

  pub more_csids : (m ≡ 0 → ⊥) → (m ≡ 1 → ⊥) → false ≡ csid_count_fits kind m
  unfolding csid_count_fits
  more_csids a b = rw (ne_eqb m 0 a, ne_eqb m 1 b)

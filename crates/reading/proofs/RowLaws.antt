-- The words of a row under writes, and the members that it then holds. Assumes nothing.
use mathlib.Core.Path.{◌≡◌, refl, sym, ap, subst}
use mathlib.Core.Logic.{inl, inr}
use Prim.Native.Nat.{ℕ, zero, suc, ◌+◌, ◌*◌, ◌≤◌}
use native.Mathlib.Omega.{arith}
use mathlib.Core.Bool.{Bool, true, false}
use mathlib.Core.Option.{Option, none, some}
use mathlib.Core.List.{List, [], ◌∷◌, ◌++◌}
use lib.ListN.{length, set}
use lib.Dec.{eqb}
use borrow.Author.Tests.{ne_eqb}
use Rattle.octets.specs.Choice.{pick, flag, is_some}
use Rattle.octets.specs.Octets.{be, bit}
use Rattle.octets.specs.Lists.{member}
use Rattle.octets.proofs.Tests.{of_true}
use Rattle.rules.specs.Elements.{Fteid, given, choose, UeIp, v4_flag, v6_flag, ch_flag, chid_flag}
use Rattle.rules.specs.Reading.{Members, with_pdr_id, with_precedence, with_far, with_pdi, with_source, with_local, with_endpoint_id, with_address, member_there}
use Rattle.rules.specs.Types as ie
use Rattle.plan.specs.Rows.{row_width, word, fteid_from, ue_from, present, row_fteid, row_local, row_ue, row_far}
use Rattle.plan.specs.Words as its
use Rattle.frame.proofs.Among.{OneOf}
use Rattle.reading.specs.Rows.{member_types, plain_types, there_word, row_members, Tidy}
use Rattle.reading.proofs.Places.{one_of}

-- ---- a row taken apart

uncons : (P : List ℕ → Type 0) (n : ℕ) → ((x : ℕ) (xs : List ℕ) → length xs ≡ n → P (x ∷ xs)) → (row : List ℕ) → length row ≡ suc n → P row
uncons P n f [] h = absurd (omega arith)
uncons P n f (x ∷ xs) h = f x xs (omega arith)

nothing_left : (P : List ℕ → Type 0) → P [] → (row : List ℕ) → length row ≡ 0 → P row
nothing_left P p [] h = p
nothing_left P p (x ∷ xs) h = absurd (omega arith)

pub apart : (P : List ℕ → Type 0)
    → ((a b c d e f g h i j k l m n o p q r s t : ℕ) → P (a ∷ b ∷ c ∷ d ∷ e ∷ f ∷ g ∷ h ∷ i ∷ j ∷ k ∷ l ∷ m ∷ n ∷ o ∷ p ∷ q ∷ r ∷ s ∷ t ∷ [])) → (row : List ℕ) → length row ≡ row_width → P row
apart P w =
    uncons P 19 (λ a.
    uncons (λ u. P (a ∷ u)) 18 (λ b.
    uncons (λ u. P (a ∷ b ∷ u)) 17 (λ c.
    uncons (λ u. P (a ∷ b ∷ c ∷ u)) 16 (λ d.
    uncons (λ u. P (a ∷ b ∷ c ∷ d ∷ u)) 15 (λ e.
    uncons (λ u. P (a ∷ b ∷ c ∷ d ∷ e ∷ u)) 14 (λ f.
    uncons (λ u. P (a ∷ b ∷ c ∷ d ∷ e ∷ f ∷ u)) 13 (λ g.
    uncons (λ u. P (a ∷ b ∷ c ∷ d ∷ e ∷ f ∷ g ∷ u)) 12 (λ h.
    uncons (λ u. P (a ∷ b ∷ c ∷ d ∷ e ∷ f ∷ g ∷ h ∷ u)) 11 (λ i.
    uncons (λ u. P (a ∷ b ∷ c ∷ d ∷ e ∷ f ∷ g ∷ h ∷ i ∷ u)) 10 (λ j.
    uncons (λ u. P (a ∷ b ∷ c ∷ d ∷ e ∷ f ∷ g ∷ h ∷ i ∷ j ∷ u)) 9 (λ k.
    uncons (λ u. P (a ∷ b ∷ c ∷ d ∷ e ∷ f ∷ g ∷ h ∷ i ∷ j ∷ k ∷ u)) 8 (λ l.
    uncons (λ u. P (a ∷ b ∷ c ∷ d ∷ e ∷ f ∷ g ∷ h ∷ i ∷ j ∷ k ∷ l ∷ u)) 7 (λ m.
    uncons (λ u. P (a ∷ b ∷ c ∷ d ∷ e ∷ f ∷ g ∷ h ∷ i ∷ j ∷ k ∷ l ∷ m ∷ u)) 6 (λ n.
    uncons (λ u. P (a ∷ b ∷ c ∷ d ∷ e ∷ f ∷ g ∷ h ∷ i ∷ j ∷ k ∷ l ∷ m ∷ n ∷ u)) 5 (λ o.
    uncons (λ u. P (a ∷ b ∷ c ∷ d ∷ e ∷ f ∷ g ∷ h ∷ i ∷ j ∷ k ∷ l ∷ m ∷ n ∷ o ∷ u)) 4 (λ p.
    uncons (λ u. P (a ∷ b ∷ c ∷ d ∷ e ∷ f ∷ g ∷ h ∷ i ∷ j ∷ k ∷ l ∷ m ∷ n ∷ o ∷ p ∷ u)) 3 (λ q.
    uncons (λ u. P (a ∷ b ∷ c ∷ d ∷ e ∷ f ∷ g ∷ h ∷ i ∷ j ∷ k ∷ l ∷ m ∷ n ∷ o ∷ p ∷ q ∷ u)) 2 (λ r.
    uncons (λ u. P (a ∷ b ∷ c ∷ d ∷ e ∷ f ∷ g ∷ h ∷ i ∷ j ∷ k ∷ l ∷ m ∷ n ∷ o ∷ p ∷ q ∷ r ∷ u)) 1 (λ s.
    uncons (λ u. P (a ∷ b ∷ c ∷ d ∷ e ∷ f ∷ g ∷ h ∷ i ∷ j ∷ k ∷ l ∷ m ∷ n ∷ o ∷ p ∷ q ∷ r ∷ s ∷ u)) 0 (λ t.
    nothing_left (λ u. P (a ∷ b ∷ c ∷ d ∷ e ∷ f ∷ g ∷ h ∷ i ∷ j ∷ k ∷ l ∷ m ∷ n ∷ o ∷ p ∷ q ∷ r ∷ s ∷ t ∷ u)) (w a b c d e f g h i j k l m n o p q r s t)))))))))))))))))))))

-- ---- writes

-- a tidy row that holds these members
pub record Holding (m : Members) (row : List ℕ) : Type 0 where
  pub members : row_members row ≡ m
  pub tidy : Tidy row

-- the members with a plain one of type t
unfoldable pub plain_put : ℕ → ℕ → Members → Members
plain_put t n m = pick (eqb t ie.pdr_id) (with_pdr_id n m) (pick (eqb t ie.precedence) (with_precedence n m) (pick (eqb t ie.far_id) (with_far (some n) m) (pick (eqb t ie.source_interface) (with_source n m) (with_endpoint_id n m))))

-- a fact of every type that holds a number, and of every type of a member
pub by_plain : (P : ℕ → Type 0) → P ie.pdr_id → P ie.precedence → P ie.far_id → P ie.source_interface → P ie.endpoint_id → (t : ℕ) → member t plain_types ≡ true → P t
by_plain P a b c d e t h = go (one_of t ie.pdr_id (ie.precedence ∷ ie.far_id ∷ ie.source_interface ∷ ie.endpoint_id ∷ []) (of_true h))
  where
    go : OneOf t ie.pdr_id (ie.precedence ∷ ie.far_id ∷ ie.source_interface ∷ ie.endpoint_id ∷ []) → P t
    go (inl q) = subst P (sym q) a
    go (inr (inl q)) = subst P (sym q) b
    go (inr (inr (inl q))) = subst P (sym q) c
    go (inr (inr (inr (inl q)))) = subst P (sym q) d
    go (inr (inr (inr (inr q)))) = subst P (sym q) e

pub by_member : (P : ℕ → Type 0) → P ie.pdr_id → P ie.precedence → P ie.far_id → P ie.pdi → P ie.source_interface → P ie.fteid → P ie.ue_ip_address → P ie.endpoint_id → (t : ℕ) → member t member_types ≡ true → P t
by_member P a b c d e f g i t h = go (one_of t ie.pdr_id (ie.precedence ∷ ie.far_id ∷ ie.pdi ∷ ie.source_interface ∷ ie.fteid ∷ ie.ue_ip_address ∷ ie.endpoint_id ∷ []) (of_true h))
  where
    go : OneOf t ie.pdr_id (ie.precedence ∷ ie.far_id ∷ ie.pdi ∷ ie.source_interface ∷ ie.fteid ∷ ie.ue_ip_address ∷ ie.endpoint_id ∷ []) → P t
    go (inl q) = subst P (sym q) a
    go (inr (inl q)) = subst P (sym q) b
    go (inr (inr (inl q))) = subst P (sym q) c
    go (inr (inr (inr (inl q)))) = subst P (sym q) d
    go (inr (inr (inr (inr (inl q))))) = subst P (sym q) e
    go (inr (inr (inr (inr (inr (inl q)))))) = subst P (sym q) f
    go (inr (inr (inr (inr (inr (inr (inl q))))))) = subst P (sym q) g
    go (inr (inr (inr (inr (inr (inr (inr q))))))) = subst P (sym q) i

-- a row with other words, of which the first six are as small
tidied : {row' : List ℕ} → length row' ≡ row_width → word its.has_pdr_id row' ≤ 1 → word its.has_precedence row' ≤ 1 → word its.has_far_id row' ≤ 2 → word its.has_source row' ≤ 1 → word its.has_endpoint_id row' ≤ 1 → word its.has_pdi row' ≤ 1 → Tidy row'
tidied w a b c d e f = record { wide = w; pdr_id = a; precedence = b; far = c; source = d; endpoint_id = e; pdi = f }

module _ (row : List ℕ) where
  abbrev Writes : (List ℕ → List ℕ) → (Members → Members) → Type 0
  Writes f g = Tidy row → Holding (g (row_members row)) (f row)

  wrote : (f : List ℕ → List ℕ) (g : Members → Members) → ((a b c d e f' g' h i j k l m n o p q r s t : ℕ)
      → let x = a ∷ b ∷ c ∷ d ∷ e ∷ f' ∷ g' ∷ h ∷ i ∷ j ∷ k ∷ l ∷ m ∷ n ∷ o ∷ p ∷ q ∷ r ∷ s ∷ t ∷ [] in Tidy x → Holding (g (row_members x)) (f x)) → Writes f g
  wrote f g w z = apart (λ x. Tidy x → Holding (g (row_members x)) (f x)) w row z.wide z

  pub put_plain : (t n : ℕ) → member t plain_types ≡ true → Writes (λ x. set (set x (there_word t) 1) (there_word t + 6) n) (plain_put t n)
  unfolding there_word plain_put row_members present row_far row_local row_fteid row_ue
  put_plain t n =
      by_plain (λ t. Writes (λ x. set (set x (there_word t) 1) (there_word t + 6) n) (plain_put t n))
      (wrote (λ x. set (set x 1 1) 7 n) (with_pdr_id n) (λ a b c d e f g h i j k l m n o p q r s t z. record { members = refl; tidy = tidied refl (omega arith) z.precedence z.far z.source z.endpoint_id z.pdi }))
      (wrote (λ x. set (set x 2 1) 8 n) (with_precedence n) (λ a b c d e f g h i j k l m n o p q r s t z. record { members = refl; tidy = tidied refl z.pdr_id (omega arith) z.far z.source z.endpoint_id z.pdi }))
      (wrote (λ x. set (set x 3 1) 9 n) (with_far (some n)) (λ a b c d e f g h i j k l m n o p q r s t z. record { members = refl; tidy = tidied refl z.pdr_id z.precedence (omega arith) z.source z.endpoint_id z.pdi }))
      (wrote (λ x. set (set x 4 1) 10 n) (with_source n) (λ a b c d e f g h i j k l m n o p q r s t z. record { members = refl; tidy = tidied refl z.pdr_id z.precedence z.far (omega arith) z.endpoint_id z.pdi }))
      (wrote (λ x. set (set x 5 1) 11 n) (with_endpoint_id n) (λ a b c d e f g h i j k l m n o p q r s t z. record { members = refl; tidy = tidied refl z.pdr_id z.precedence z.far z.source (omega arith) z.pdi }))
      t

  pub put_null_far : Writes (λ x. set x 3 2) (with_far none)
  unfolding row_members present row_far row_local row_fteid row_ue
  put_null_far = wrote (λ x. set x 3 2) (with_far none) (λ a b c d e f g h i j k l m n o p q r s t z. record { members = refl; tidy = tidied refl z.pdr_id z.precedence (omega arith) z.source z.endpoint_id z.pdi })

  pub put_pdi : Writes (λ x. set x 6 1) with_pdi
  unfolding row_members present row_far row_local row_fteid row_ue
  put_pdi = wrote (λ x. set x 6 1) with_pdi (λ a b c d e f g h i j k l m n o p q r s t z. record { members = refl; tidy = tidied refl z.pdr_id z.precedence z.far z.source z.endpoint_id (omega arith) })

  -- the six words of an F-TEID
  abbrev pub six_set : ℕ → ℕ → ℕ → ℕ → ℕ → ℕ → List ℕ → List ℕ
  six_set f t a h l c x = set (set (set (set (set (set x 12 f) 13 t) 14 a) 15 h) 16 l) 17 c

  pub put_fteid : (u v w x y z : ℕ) (local : Fteid) → (u ≡ 0 → ⊥) → fteid_from u v w x y z ≡ local → Writes (six_set u v w x y z) (with_local local)
  unfolding row_members present row_far row_local row_fteid row_ue
  put_fteid u v w x y z local there is =
      wrote (six_set u v w x y z) (with_local local)
      (λ a b c d e f g h i j k l m n o p q r s t tidy. record {
        members = ap (λ (o : Option Fteid). record { pdr_id = present b h; precedence = present c i; far = pick (eqb d 2) (some none) (pick (eqb d 1) (some (some j)) none); pdi = eqb g 1; source = present e k; local = o; endpoint_id = present f l; address = ue_from s t })
            (rw (ne_eqb u 0 there) (ap some is));
        tidy = tidied refl tidy.pdr_id tidy.precedence tidy.far tidy.source tidy.endpoint_id tidy.pdi;
      })

  -- the two words of a UE IP Address
  abbrev pub two_set : ℕ → ℕ → List ℕ → List ℕ
  two_set k a x = set (set x its.ue_kind k) its.ue_address a

  pub put_ue : (u v : ℕ) (address : UeIp) → ue_from u v ≡ some address → Writes (two_set u v) (with_address address)
  unfolding row_members present row_far row_local row_fteid row_ue
  put_ue u v address is =
      wrote (two_set u v) (with_address address)
      (λ a b c d e f g h i j k l m n o p q r s t z. record {
        members = ap (λ (w : Option UeIp). record { pdr_id = present b h; precedence = present c i; far = pick (eqb d 2) (some none) (pick (eqb d 1) (some (some j)) none); pdi = eqb g 1; source = present e k; local = pick (eqb m 0) none (some (fteid_from m n o p q r)); endpoint_id = present f l; address = w }) is;
        tidy = tidied refl z.pdr_id z.precedence z.far z.source z.endpoint_id z.pdi;
      })

-- ---- what a word says

is_one : (n : ℕ) → (n ≡ 0 → ⊥) → n ≤ 1 → n ≡ 1
is_one n h l = omega arith

present_there : (n v : ℕ) → (n ≡ 0 → ⊥) → n ≤ 1 → is_some (present n v) ≡ true
unfolding present
present_there n v h l = rw (is_one n h l)

present_none : (n v : ℕ) → n ≡ 0 → is_some (present n v) ≡ false
unfolding present
present_none n v h = rw h

module _ (row : List ℕ) (z : Tidy row) where
  -- a word that is set is a member that is there
  pub held : (t : ℕ) → member t member_types ≡ true → (word (there_word t) row ≡ 0 → ⊥) → member_there t (row_members row) ≡ true
  unfolding there_word member_there row_members row_far row_local row_ue ue_from
  held =
      by_member (λ t. (word (there_word t) row ≡ 0 → ⊥) → member_there t (row_members row) ≡ true)
      (λ h. present_there _ _ h z.pdr_id)
      (λ h. present_there _ _ h z.precedence)
      (λ h. far_there (word its.has_far_id row) (word its.far_id row) h z.far)
      (λ h. rw (is_one _ h z.pdi))
      (λ h. present_there _ _ h z.source)
      (λ h. rw (ne_eqb (word its.flags row) 0 h))
      (λ h. rw (ne_eqb (word its.ue_kind row) 0 h))
      (λ h. present_there _ _ h z.endpoint_id)
    where
      far_there : (n v : ℕ) → (n ≡ 0 → ⊥) → n ≤ 2 → is_some (pick (eqb n 2) (some none) (pick (eqb n 1) (some (some v)) none)) ≡ true
      far_there zero v h l = absurd (h refl)
      far_there (suc zero) v h l = refl
      far_there (suc (suc zero)) v h l = refl
      far_there (suc (suc (suc n))) v h l = absurd (omega arith)

  pub unheld : (t : ℕ) → member t member_types ≡ true → word (there_word t) row ≡ 0 → member_there t (row_members row) ≡ false
  unfolding there_word member_there row_members row_far row_local row_ue ue_from
  unheld =
      by_member (λ t. word (there_word t) row ≡ 0 → member_there t (row_members row) ≡ false)
      (λ h. present_none _ _ h)
      (λ h. present_none _ _ h)
      (λ h. rw h)
      (λ h. rw h)
      (λ h. present_none _ _ h)
      (λ h. rw h)
      (λ h. rw h)
      (λ h. present_none _ _ h)

-- ---- columns

pub column_low : (t : ℕ) → member t plain_types ≡ true → there_word t ≤ 5
unfolding there_word
column_low = by_plain (λ t. there_word t ≤ 5) (omega arith) (omega arith) (omega arith) (omega arith) (omega arith)

pub column_none : (t : ℕ) → (t ≡ ie.pdr_id → ⊥) → (t ≡ ie.precedence → ⊥) → (t ≡ ie.far_id → ⊥) → (t ≡ ie.source_interface → ⊥) → (t ≡ ie.endpoint_id → ⊥) → (t ≡ ie.pdi → ⊥) → (t ≡ ie.fteid → ⊥) → (t ≡ ie.ue_ip_address → ⊥) → 0 ≡ there_word t
unfolding there_word
column_none t a b c d e f g h = rw (ne_eqb t ie.pdr_id a, ne_eqb t ie.precedence b, ne_eqb t ie.far_id c, ne_eqb t ie.source_interface d, ne_eqb t ie.endpoint_id e, ne_eqb t ie.pdi f, ne_eqb t ie.fteid g, ne_eqb t ie.ue_ip_address h)

-- ---- an F-TEID from its words

pub from_words : (f t a h l c : ℕ) → fteid_from f t a h l c
    ≡ pick (ch_flag f) (choose (v4_flag f) (v6_flag f) (pick (chid_flag f) (some c) none))
    (given t (be (4 * flag (v4_flag f)) a) (be (8 * flag (v6_flag f)) h ++ be (8 * flag (v6_flag f)) l))
unfolding fteid_from be
from_words f t a h l c = by_bits (bit 0 f) (bit 1 f)
  where
    by_bits : (v4 v6 : Bool) → pick (bit 2 f) (choose v4 v6 (pick (bit 3 f) (some c) none)) (given t (pick v4 (be 4 a) []) (pick v6 (be 8 h ++ be 8 l) []))
        ≡ pick (bit 2 f) (choose v4 v6 (pick (bit 3 f) (some c) none)) (given t (be (4 * flag v4) a) (be (8 * flag v6) h ++ be (8 * flag v6) l))
    by_bits true true = refl
    by_bits true false = refl
    by_bits false true = refl
    by_bits false false = refl

-- What an Update PDR's row makes of a PDR's octets are the octets of the updated PDR.
-- Assumes nothing.
use mathlib.Core.Path.{◌≡◌, refl, sym, ap, ◌∙◌}
use mathlib.Core.Bool.{Bool, true, false, false≢true}
use mathlib.Core.Option.{Option, none, some}
use mathlib.Core.List.{List, ◌++◌}
use Prim.Native.Nat.{ℕ, ◌+◌, ◌≤◌}
use native.Mathlib.Omega.{arith}
use lib.Dec.{eqb, lit<}
use borrow.Author.Tests.{eqb-true}
use lib.ListN.{length, set}
use Rattle.octets.specs.Choice.{pick, flag, is_some, value_or}
use Rattle.octets.specs.Octets.{be, put, zeros}
use Rattle.octets.proofs.Put.{put_put}
use Rattle.octets.proofs.Numbers.{length_be}
use Rattle.octets.proofs.FieldLaws.{put_field}
use Rattle.rules.specs.Model.{Pdr}
use Rattle.rules.specs.Layout.{pdr_widths, pdr_numbers, pdr_octets, precedence_at, far_at, far_id_at}
use Rattle.laws.proofs.LayoutLaws.{length_pdr}
use Rattle.rules.specs.Apply.{or_old, pdr_with}
use Rattle.plan.specs.Rows.{word, present, row_far, row_change}
use Rattle.plan.specs.Words as its
use Rattle.session.specs.Records.{record_with_precedence, record_with_far, updated_record}

-- a PDR with what a row names replaced
unfoldable pub changed : List ℕ → Pdr → Pdr
changed row p = pdr_with (or_old p.precedence (row_change row).precedence) (or_old p.far (row_change row).far) p

put_precedence : (p : Pdr) (m : ℕ) → put precedence_at (be 4 m) (pdr_octets p) ≡ pdr_octets (pdr_with m p.far p)
unfolding pdr_octets pdr_numbers
put_precedence p m = put_field 1 pdr_widths (pdr_numbers p) m (lit< tt) refl

-- a FAR ID is two fields
put_far : (p : Pdr) (g : Option ℕ) → put far_id_at (be 4 (value_or 0 g)) (put far_at (be 1 (flag (is_some g))) (pdr_octets p)) ≡ pdr_octets (pdr_with p.precedence g p)
unfolding pdr_octets pdr_numbers
put_far p g =
    ap (put far_id_at (be 4 (value_or 0 g))) (put_field 2 pdr_widths (pdr_numbers p) (flag (is_some g)) (lit< tt) refl)
    ∙ put_field 3 pdr_widths (set (pdr_numbers p) 2 (flag (is_some g))) (value_or 0 g) (lit< tt) refl

precedence_changed : (row : List ℕ) (p : Pdr) → record_with_precedence row (pdr_octets p) ≡ pdr_octets (pdr_with (or_old p.precedence (row_change row).precedence) p.far p)
unfolding record_with_precedence row_change present
precedence_changed row p = go (eqb (word its.has_precedence row) 1)
  where
    go : (b : Bool) → pick b (put precedence_at (be 4 (word its.precedence row)) (pdr_octets p)) (pdr_octets p) ≡ pdr_octets (pdr_with (or_old p.precedence (pick b (some (word its.precedence row)) none)) p.far p)
    go true = unfold or_old in (put_precedence p (word its.precedence row))
    go false = unfold or_old in refl

not_both : (n : ℕ) → eqb n 1 ≡ true → eqb n 2 ≡ false
not_both n e = let h = eqb-true n 1 e in rw h

pdr_long : (p : Pdr) → far_at + 1 ≤ length (pdr_octets p)
pdr_long p = omega (arith, length_pdr p)

far_none : (t : List ℕ) → far_at + 1 ≤ length t → put far_at (zeros 5) t ≡ put far_id_at (be 4 0) (put far_at (be 1 0) t)
far_none t h =
    let e : zeros 5 ≡ be 1 0 ++ be 4 0 = unfold be zeros in refl in
    ap (λ (l : List ℕ). put far_at l t) e ∙ sym (put_put far_at 1 (be 1 0) (be 4 0) t (length_be 1 0) h)

far_changed : (row : List ℕ) (p : Pdr) → record_with_far row (pdr_octets p) ≡ pdr_octets (pdr_with p.precedence (or_old p.far (row_change row).far) p)
unfolding record_with_far row_change row_far
far_changed row p = go (eqb (word its.has_far_id row) 1) (eqb (word its.has_far_id row) 2) (not_both (word its.has_far_id row))
  where
    t : List ℕ
    t = pdr_octets p

    go : (one two : Bool) → (one ≡ true → two ≡ false)
        → pick one (put far_id_at (be 4 (word its.far_id row)) (put far_at (be 1 1) t)) (pick two (put far_at (zeros 5) t) t)
        ≡ pdr_octets (pdr_with p.precedence (or_old p.far (pick two (some none) (pick one (some (some (word its.far_id row))) none))) p)
    go true true h = absurd (false≢true (sym (h refl)))
    go true false h = unfold or_old in (put_far p (some (word its.far_id row)))
    go false true h = unfold or_old in (far_none t (pdr_long p) ∙ put_far p none)
    go false false h = unfold or_old in refl

pub record_changed : (row : List ℕ) (p : Pdr) → updated_record row (pdr_octets p) ≡ pdr_octets (changed row p)
unfolding updated_record changed
record_changed row p =
    ap (record_with_far row) (precedence_changed row p) ∙ far_changed row (pdr_with (or_old p.precedence (row_change row).precedence) p.far p)

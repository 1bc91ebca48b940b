-- The F-TEID of a row by the bits of its flags: what it is, which hold it makes and which CHOOSE it is.
-- Assumes nothing.
use mathlib.Core.Path.{◌≡◌, refl, ap}
use mathlib.Core.Bool.{Bool, true, false, not, ◌&&◌, ◌||◌}
use mathlib.Core.Option.{Option, none, some}
use mathlib.Core.List.{List, [], ◌++◌}
use Prim.Native.Nat.{ℕ}
use lib.Dec.{eqb}
use Rattle.octets.specs.Choice.{pick, is_some, is_nil, bind_option}
use Rattle.octets.specs.Octets.{be, bit}
use Rattle.octets.specs.Rows.{has_tag}
use Rattle.rules.specs.Model.{Holding}
use Rattle.rules.specs.Elements.{Fteid, given, choose, has_v4, has_v6, chooses}
use Rattle.rules.specs.Stages.{restored_holding, endpoint_restored, pdr_restored}
use Rattle.rules.specs.Grants.{Kind, of_pdr, of_endpoint, Choice, choice_of, endpoint_choice, pdr_choice, choice_id}
use Rattle.plan.specs.Rows.{word, fteid_from, row_fteid, row_local, row_pdr, row_endpoint}
use Rattle.rules.specs.Types as ie
use Rattle.plan.specs.Words as its
use Rattle.plan.specs.RowRules.{has_fteid, row_holding, row_choice, row_choose_id, row_ipv4, row_ipv6}

-- ---- the value

-- by its three flags: CH, V4 and V6, and the CHOOSE ID
unfoldable pub fteid_by : Bool → Bool → Bool → Option ℕ → ℕ → List ℕ → List ℕ → Fteid
fteid_by ch v4 v6 i t a b = pick ch (choose v4 v6 i) (given t (pick v4 a []) (pick v6 b []))

by_chooses : (ch v4 v6 : Bool) (i : Option ℕ) (t : ℕ) (a b : List ℕ) → chooses (fteid_by ch v4 v6 i t a b) ≡ ch
unfolding chooses fteid_by
by_chooses true v4 v6 i t a b = refl
by_chooses false v4 v6 i t a b = refl

by_v4 : (ch v4 v6 : Bool) (i : Option ℕ) (t : ℕ) (a b : List ℕ) → is_nil a ≡ false → has_v4 (fteid_by ch v4 v6 i t a b) ≡ v4
unfolding has_v4 fteid_by
by_v4 true v4 v6 i t a b h = refl
by_v4 false true v6 i t a b h = ap not h
by_v4 false false v6 i t a b h = refl

by_v6 : (ch v4 v6 : Bool) (i : Option ℕ) (t : ℕ) (a b : List ℕ) → is_nil b ≡ false → has_v6 (fteid_by ch v4 v6 i t a b) ≡ v6
unfolding has_v6 fteid_by
by_v6 true v4 v6 i t a b h = refl
by_v6 false v4 true i t a b h = ap not h
by_v6 false v4 false i t a b h = refl

nonempty4 : (n : ℕ) → is_nil (be 4 n) ≡ false
unfolding be
nonempty4 n = refl

nonempty16 : (h l : ℕ) → is_nil (be 8 h ++ be 8 l) ≡ false
unfolding be
nonempty16 h l = refl

pub row_is : (row : List ℕ)
    → row_fteid row
    ≡ fteid_by (bit 2 (word its.flags row)) (bit 0 (word its.flags row)) (bit 1 (word its.flags row)) (pick (bit 3 (word its.flags row)) (some (word its.choose_id row)) none) (word its.teid row) (be 4 (word its.ipv4 row)) (be 8 (word its.ipv6_high row) ++ be 8 (word its.ipv6_low row))
unfolding row_fteid fteid_from fteid_by
row_is row = refl

pub chooses_row : (row : List ℕ) → chooses (row_fteid row) ≡ bit 2 (word its.flags row)
chooses_row row = rw (row_is row) (by_chooses _ _ _ _ _ _ _)

pub v4_row : (row : List ℕ) → has_v4 (row_fteid row) ≡ bit 0 (word its.flags row)
v4_row row = rw (row_is row) (by_v4 _ _ _ _ _ _ _ (nonempty4 _))

pub v6_row : (row : List ℕ) → has_v6 (row_fteid row) ≡ bit 1 (word its.flags row)
v6_row row = rw (row_is row) (by_v6 _ _ _ _ _ _ _ (nonempty16 _ _))

-- without CH
pub given_row : (row : List ℕ) → bit 2 (word its.flags row) ≡ false → row_fteid row ≡ given (word its.teid row) (row_ipv4 row) (row_ipv6 row)
unfolding row_ipv4 row_ipv6 fteid_by
given_row row h = rw (row_is row, h)

-- ---- the hold

-- the hold of a row that restores
abbrev pub hold_of : List ℕ → Holding
hold_of row = record { shared = not (has_tag ie.create_endpoint row); teid = word its.teid row; v4 = bit 0 (word its.flags row); v6 = bit 1 (word its.flags row); source = pick (has_tag ie.create_endpoint row) 0 (word its.source row) }

restored_by : (shared : Bool) (source : ℕ) (ch v4 v6 : Bool) (i : Option ℕ) (t : ℕ) (a b : List ℕ) → is_nil a ≡ false → is_nil b ≡ false
    → restored_holding shared source (fteid_by ch v4 v6 i t a b) ≡ pick ch none (some (record { shared = shared; teid = t; v4 = v4; v6 = v6; source = source }))
unfolding restored_holding fteid_by
restored_by shared source true v4 v6 i t a b h k = refl
restored_by shared source false true true i t a b h k = rw (h, k)
restored_by shared source false true false i t a b h k = rw h
restored_by shared source false false true i t a b h k = rw k
restored_by shared source false false false i t a b h k = refl

restored_row : (shared : Bool) (source : ℕ) (row : List ℕ)
    → restored_holding shared source (row_fteid row)
    ≡ pick (bit 2 (word its.flags row)) none (some (record { shared = shared; teid = word its.teid row; v4 = bit 0 (word its.flags row); v6 = bit 1 (word its.flags row); source = source }))
restored_row shared source row = rw (row_is row) (restored_by shared source _ _ _ _ _ _ _ (nonempty4 _) (nonempty16 _ _))

bind_pick : {A B : Type 0} (z : Bool) (v : A) (g : A → Option B) → bind_option (pick z none (some v)) g ≡ pick z none (g v)
bind_pick true v g = refl
bind_pick false v g = refl

pub holding_row : (row : List ℕ) → row_holding row ≡ pick (has_fteid row && not (bit 2 (word its.flags row))) (some (hold_of row)) none
unfolding row_holding has_fteid endpoint_restored pdr_restored row_endpoint row_pdr row_local
holding_row row =
    rw (bind_pick (eqb (word its.flags row) 0) (row_fteid row) (restored_holding true (word its.source row)), restored_row true (word its.source row) row, restored_row false 0 row)
    (one (has_tag ie.create_endpoint row) (has_tag ie.create_pdr row) (eqb (word its.flags row) 0) (bit 2 (word its.flags row)))
  where
    hold : Bool → ℕ → Holding
    hold shared source = record { shared = shared; teid = word its.teid row; v4 = bit 0 (word its.flags row); v6 = bit 1 (word its.flags row); source = source }

    one : (e p z ch : Bool)
        → pick e (pick ch none (some (hold false 0))) (pick p (pick z none (pick ch none (some (hold true (word its.source row))))) none)
        ≡ pick ((e || (p && not z)) && not ch) (some (hold (not e) (pick e 0 (word its.source row)))) none
    one true p z true = refl
    one true p z false = refl
    one false true true ch = refl
    one false true false true = refl
    one false true false false = refl
    one false false z ch = refl

pub restores_row : (row : List ℕ) → is_some (row_holding row) ≡ (has_fteid row && not (bit 2 (word its.flags row)))
restores_row row = rw (holding_row row) (one (has_fteid row && not (bit 2 (word its.flags row))))
  where
    one : (b : Bool) → is_some (pick b (some (hold_of row)) none) ≡ b
    one true = refl
    one false = refl

-- ---- the CHOOSE

chosen_row : (k : Kind) (n : ℕ) (row : List ℕ)
    → choice_of k n (row_fteid row)
    ≡ pick (bit 2 (word its.flags row)) (some (record { kind = k; id = n; v4 = bit 0 (word its.flags row); v6 = bit 1 (word its.flags row); choose_id = pick (bit 3 (word its.flags row)) (some (word its.choose_id row)) none })) none
unfolding choice_of fteid_by
chosen_row k n row = rw (row_is row) (one (bit 2 (word its.flags row)))
  where
    one : (ch : Bool)
        → choice_of k n (fteid_by ch (bit 0 (word its.flags row)) (bit 1 (word its.flags row)) (pick (bit 3 (word its.flags row)) (some (word its.choose_id row)) none) (word its.teid row) (be 4 (word its.ipv4 row)) (be 8 (word its.ipv6_high row) ++ be 8 (word its.ipv6_low row)))
        ≡ pick ch (some (record { kind = k; id = n; v4 = bit 0 (word its.flags row); v6 = bit 1 (word its.flags row); choose_id = pick (bit 3 (word its.flags row)) (some (word its.choose_id row)) none })) none
    one true = refl
    one false = refl

-- the CHOOSE of a row that chooses
abbrev pub choose_of : List ℕ → Choice
choose_of row =
    record { kind = pick (has_tag ie.create_endpoint row) of_endpoint of_pdr; id = pick (has_tag ie.create_endpoint row) (word its.endpoint_id row) (word its.pdr_id row); v4 = bit 0 (word its.flags row); v6 = bit 1 (word its.flags row); choose_id = pick (bit 3 (word its.flags row)) (some (word its.choose_id row)) none }

pub choice_row : (row : List ℕ) → row_choice row ≡ pick (has_fteid row && bit 2 (word its.flags row)) (some (choose_of row)) none
unfolding row_choice has_fteid endpoint_choice pdr_choice row_endpoint row_pdr row_local
choice_row row =
    rw (bind_pick (eqb (word its.flags row) 0) (row_fteid row) (choice_of of_pdr (word its.pdr_id row)), chosen_row of_pdr (word its.pdr_id row) row, chosen_row of_endpoint (word its.endpoint_id row) row)
    (one (has_tag ie.create_endpoint row) (has_tag ie.create_pdr row) (eqb (word its.flags row) 0) (bit 2 (word its.flags row)))
  where
    chosen : Kind → ℕ → Choice
    chosen k n = record { kind = k; id = n; v4 = bit 0 (word its.flags row); v6 = bit 1 (word its.flags row); choose_id = pick (bit 3 (word its.flags row)) (some (word its.choose_id row)) none }

    one : (e p z ch : Bool)
        → pick e (pick ch (some (chosen of_endpoint (word its.endpoint_id row))) none) (pick p (pick z none (pick ch (some (chosen of_pdr (word its.pdr_id row))) none)) none)
        ≡ pick ((e || (p && not z)) && ch) (some (chosen (pick e of_endpoint of_pdr) (pick e (word its.endpoint_id row) (word its.pdr_id row)))) none
    one true p z true = refl
    one true p z false = refl
    one false true true ch = refl
    one false true false true = refl
    one false true false false = refl
    one false false z ch = refl

pub chooses_some : (row : List ℕ) → is_some (row_choice row) ≡ (has_fteid row && bit 2 (word its.flags row))
chooses_some row = rw (choice_row row) (one (has_fteid row && bit 2 (word its.flags row)))
  where
    one : (b : Bool) → is_some (pick b (some (choose_of row)) none) ≡ b
    one true = refl
    one false = refl

pub choose_id_row : (row : List ℕ) → row_choose_id row ≡ pick ((has_fteid row && bit 2 (word its.flags row)) && bit 3 (word its.flags row)) (some (word its.choose_id row)) none
unfolding row_choose_id
choose_id_row row = rw (choice_row row) (one (has_fteid row && bit 2 (word its.flags row)) (bit 3 (word its.flags row)))
  where
    chosen : Bool → Choice
    chosen d = record { kind = pick (has_tag ie.create_endpoint row) of_endpoint of_pdr; id = pick (has_tag ie.create_endpoint row) (word its.endpoint_id row) (word its.pdr_id row); v4 = bit 0 (word its.flags row); v6 = bit 1 (word its.flags row); choose_id = pick d (some (word its.choose_id row)) none }

    one : (b d : Bool) → bind_option (pick b (some (chosen d)) none) choice_id ≡ pick (b && d) (some (word its.choose_id row)) none
    one true true = refl
    one true false = refl
    one false d = refl

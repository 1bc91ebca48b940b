-- Cause 73 by the rows, and by the maps of taken TEIDs and addresses. Assumes nothing.
use mathlib.Core.Path.{◌≡◌, refl, sym, ap, ap₂, ◌∙◌}
use mathlib.Core.Bool.{Bool, true, false, not, ◌&&◌, ◌||◌, false≢true, or-true, or-false, or_assoc}
use mathlib.Core.Option.{Option, none, some}
use mathlib.Core.List.{List, [], ◌∷◌, ◌++◌, map}
use Prim.Native.Nat.{ℕ, ◌+◌, ◌-◌, ◌<◌}
use native.Mathlib.Omega.{arith}
use lib.Dec.{T, leb, ltb, leb→le, ltb→lt}
use Rattle.octets.specs.Choice.{one_of, is_some}
use Rattle.octets.specs.Lists.{member, any, all_pairs, collect}
use Rattle.octets.proofs.Tests.{and_left, and_right, of_true}
use Rattle.rules.specs.Model.{Settings, Session, Sessions, Holding, teid_of, held_teids, in_address_pool, held_addresses}
use Rattle.rules.specs.Elements.{UeIp, ue_given, ue_choose, ue_other, ue_address_of}
use Rattle.rules.specs.Request.{Request}
use Rattle.rules.specs.Sound.{in_pool, agree, marked}
use Rattle.rules.specs.Stages.{removed_pdrs, lacks_family, strange, restored_holdings, clash, addresses_of, wrong_address, restored_addresses, address_clash, request_rules, broken_rules, breaks_rule, live_pdrs, live_endpoints}
use Rattle.plan.specs.Rows.{word, row_ue, request_in}
use Rattle.plan.specs.Words as its
use Rattle.plan.specs.RowRules.{on_some, request_of, of_fteid, creates, of_address, takes_address, marked_address, row_holding, restores, held_in, same_id, other_choice, other_hold, disagree}
use Rattle.plan.proofs.ListLaws.{any_ext, any_or, any_keep, any_map, any_collect, any_in_lem, any_pair}
use Rattle.plan.proofs.RequestLaws.{any_fteids}
use Rattle.plan.proofs.UeLaws.{any_addresses}
use Rattle.plan.proofs.TunnelLaws.{held_row, strange_some}
use Rattle.stages.specs.RowRules.{creates_live, names_dead, updates_gone, pdi_names_both, pdi_names_absent, breaks_id, breaks_fteid, breaks_address, breaks_row, some_row}
use Rattle.stages.specs.Rules.{clash_by, breaks_rule_by}
use Rattle.stages.proofs.RuleLaws.{any_ones, pair_ones, twice_rows, created_rows, dead_rows, updates_rows, both_rows, absent_rows, choices_rows, held_rows, shared_rows}

-- ---- rows

-- some row or some two rows
some_is : (p : List ℕ → Bool) (rows : List (List ℕ)) → some_row p rows ≡ (any p rows || any_pair disagree rows)
unfolding some_row any any_pair
some_is p [] = refl
some_is p (row ∷ rows) =
    ap (λ (b : Bool). p row || (any (disagree row) rows || (b || false))) (some_is p rows) ∙ one (p row) (any (disagree row) rows) (any p rows) (any_pair disagree rows)
  where
    one : (a b c d : Bool) → (a || (b || ((c || d) || false))) ≡ ((a || c) || (b || d))
    one true b c d = refl
    one false true true d = refl
    one false true false d = refl
    one false false c d = or-false (c || d)

some_ext : (p q : List ℕ → Bool) → ((row : List ℕ) → p row ≡ q row) → (rows : List (List ℕ)) → some_row p rows ≡ some_row q rows
some_ext p q h rows = some_is p rows ∙ ap (λ (b : Bool). b || any_pair disagree rows) (any_ext p q h rows) ∙ sym (some_is q rows)

holds_some : (held : ℕ → Bool) (o : Option Holding) → on_some (λ h. held (teid_of h)) o ≡ restores held o
unfolding on_some restores
holds_some held none = refl
holds_some held (some h) = refl

-- the tests in 01's order, and in the rows' order
shuffle : (q1 p1 p2 p3 p4 p5 q2 p6 p7 p8 a1 a2 q3 : Bool)
    → (one_of (q1 ∷ p1 ∷ p2 ∷ p3 ∷ p4 ∷ p5 ∷ q2 ∷ p6 ∷ p7 ∷ a1 ∷ []) || ((p8 || q3) || a2))
    ≡ (one_of (one_of (p1 ∷ p2 ∷ p3 ∷ p4 ∷ p5 ∷ []) ∷ one_of (p6 ∷ p7 ∷ p8 ∷ []) ∷ (a1 || a2) ∷ []) || one_of (q1 ∷ q2 ∷ q3 ∷ []))
shuffle q1 true p2 p3 p4 p5 q2 p6 p7 p8 a1 a2 q3 = simp or-true
shuffle q1 false true p3 p4 p5 q2 p6 p7 p8 a1 a2 q3 = simp or-true
shuffle q1 false false true p4 p5 q2 p6 p7 p8 a1 a2 q3 = simp or-true
shuffle q1 false false false true p5 q2 p6 p7 p8 a1 a2 q3 = simp or-true
shuffle q1 false false false false true q2 p6 p7 p8 a1 a2 q3 = simp or-true
shuffle q1 false false false false false q2 true p7 p8 a1 a2 q3 = simp or-true
shuffle q1 false false false false false q2 false true p8 a1 a2 q3 = simp or-true
shuffle q1 false false false false false q2 false false true a1 a2 q3 = simp or-true
shuffle q1 false false false false false q2 false false false true a2 q3 = simp or-true
shuffle q1 false false false false false q2 false false false false true q3 = simp or-true
shuffle true false false false false false q2 false false false false false q3 = refl
shuffle false false false false false false true false false false false false q3 = refl
shuffle false false false false false false false false false false false false true = refl
shuffle false false false false false false false false false false false false false = refl

-- the IDs of the PDRs that go
abbrev gone : Session → List (List ℕ) → List ℕ
gone x rows = removed_pdrs (request_of false rows) x.pdrs

module _ (held held_address : ℕ → Bool) (s : Settings) (x : Session) (seid : ℕ) (restoring noted : Bool) (rows : List (List ℕ)) where
  ids_rows : any (breaks_id (live_pdrs x) (live_endpoints x) (gone x rows) rows) rows
      ≡ one_of (any (creates_live (live_pdrs x) (live_endpoints x)) rows ∷ any (names_dead (live_pdrs x) (live_endpoints x)) rows ∷ any (updates_gone (gone x rows)) rows ∷ any pdi_names_both rows ∷ any (pdi_names_absent (live_endpoints x) rows) rows ∷ [])
  unfolding breaks_id
  ids_rows = sym (any_ones (creates_live (live_pdrs x) (live_endpoints x) ∷ names_dead (live_pdrs x) (live_endpoints x) ∷ updates_gone (gone x rows) ∷ pdi_names_both ∷ pdi_names_absent (live_endpoints x) rows ∷ []) rows)

  fteid_rows : any (breaks_fteid held s) rows ≡ one_of (any (of_fteid (lacks_family s)) rows ∷ any (of_fteid (strange s)) rows ∷ any (λ row. restores held (row_holding row)) rows ∷ [])
  unfolding breaks_fteid
  fteid_rows = sym (any_ones (of_fteid (lacks_family s) ∷ of_fteid (strange s) ∷ (λ row. restores held (row_holding row)) ∷ []) rows)

  pair_rows : any_pair disagree rows ≡ one_of (any_pair same_id rows ∷ any_pair other_choice rows ∷ any_pair other_hold rows ∷ [])
  unfolding disagree
  pair_rows = sym (pair_ones (same_id ∷ other_choice ∷ other_hold ∷ []) rows)

  address_rows : any (breaks_address held_address s restoring) rows ≡ (any (of_address (wrong_address s restoring)) rows || any (of_address (takes_address s held_address)) rows)
  unfolding breaks_address
  address_rows = sym (any_or (of_address (wrong_address s restoring)) (of_address (takes_address s held_address)) rows)

  rows_is : some_row (breaks_row held held_address s restoring (live_pdrs x) (live_endpoints x) (gone x rows) rows) rows
      ≡ (one_of (any (breaks_id (live_pdrs x) (live_endpoints x) (gone x rows) rows) rows ∷ any (breaks_fteid held s) rows ∷ any (breaks_address held_address s restoring) rows ∷ []) || any_pair disagree rows)
  unfolding breaks_row
  rows_is =
      some_is (breaks_row held held_address s restoring (live_pdrs x) (live_endpoints x) (gone x rows) rows) rows
      ∙ ap (λ (b : Bool). b || any_pair disagree rows) (sym (any_ones (breaks_id (live_pdrs x) (live_endpoints x) (gone x rows) rows ∷ breaks_fteid held s ∷ breaks_address held_address s restoring ∷ []) rows))

  wrong_rows : any (wrong_address s (request_in seid restoring noted rows).restoring) (addresses_of (request_in seid restoring noted rows)) ≡ any (of_address (wrong_address s restoring)) rows
  unfolding request_in
  wrong_rows = any_addresses (wrong_address s restoring) seid restoring noted rows

  taken_rows : any held_address (restored_addresses s (request_in seid restoring noted rows)) ≡ any (of_address (takes_address s held_address)) rows
  unfolding restored_addresses takes_address
  taken_rows =
      any_keep held_address (in_address_pool s) (collect ue_address_of (addresses_of (request_in seid restoring noted rows)))
      ∙ any_collect (λ a. in_address_pool s a && held_address a) ue_address_of (addresses_of (request_in seid restoring noted rows))
      ∙ any_addresses (λ v. on_some (λ a. in_address_pool s a && held_address a) (ue_address_of v)) seid restoring noted rows

  clash_rows : clash_by held (request_in seid restoring noted rows) ≡ (any (λ row. restores held (row_holding row)) rows || any_pair other_hold rows)
  unfolding clash_by
  clash_rows =
      ap₂ ◌||◌
      (held_rows (λ h. held (teid_of h)) seid restoring noted rows ∙ any_ext (λ row. on_some (λ h. held (teid_of h)) (row_holding row)) (λ row. restores held (row_holding row)) (λ row. holds_some held (row_holding row)) rows)
      (shared_rows seid restoring noted rows)

  -- cause 73 by the rows
  pub breaks_rows_lem : breaks_rule_by held held_address s x (request_in seid restoring noted rows)
      ≡ some_row (breaks_row held held_address s restoring (live_pdrs x) (live_endpoints x) (gone x rows) rows) rows
  unfolding breaks_rule_by request_rules
  breaks_rows_lem =
      rw (twice_rows x seid restoring noted rows, created_rows x seid restoring noted rows, dead_rows x seid restoring noted rows, updates_rows x seid restoring noted rows, both_rows x seid restoring noted rows, absent_rows x seid restoring noted rows, choices_rows x seid restoring noted rows, any_fteids (lacks_family s) seid restoring noted rows, any_fteids (strange s) seid restoring noted rows, wrong_rows, taken_rows, clash_rows, rows_is, ids_rows, fteid_rows, address_rows, pair_rows)
      (shuffle (any_pair same_id rows) (any (creates_live (live_pdrs x) (live_endpoints x)) rows) (any (names_dead (live_pdrs x) (live_endpoints x)) rows) (any (updates_gone (gone x rows)) rows) (any pdi_names_both rows)
      (any (pdi_names_absent (live_endpoints x) rows) rows) (any_pair other_choice rows) (any (of_fteid (lacks_family s)) rows) (any (of_fteid (strange s)) rows)
      (any (λ row. restores held (row_holding row)) rows) (any (of_address (wrong_address s restoring)) rows) (any (of_address (takes_address s held_address)) rows) (any_pair other_hold rows))

-- ---- the map in place of the records

two_more : (bs : List Bool) (c d : Bool) → one_of (bs ++ (c ∷ d ∷ [])) ≡ (one_of bs || (c || d))
two_more [] c d = ap (λ (b : Bool). c || b) (or-false d)
two_more (b ∷ bs) c d = ap (λ (e : Bool). b || e) (two_more bs c d) ∙ sym (or_assoc b (one_of bs) (c || d))

-- the rules as they stand: tests of the TEIDs and addresses in the records
rule_by : (s : Settings) (m : Sessions) (x : Session) (r : Request) → breaks_rule s m x r ≡ breaks_rule_by (λ t. member t (held_teids m)) (λ a. member a (held_addresses s m)) s x r
unfolding breaks_rule broken_rules breaks_rule_by request_rules clash clash_by address_clash
rule_by s m x r =
    two_more (request_rules s x r) (clash m r) (address_clash s m r)
    ∙ ap₂ (λ (b c : Bool). one_of (request_rules s x r) || ((b || not (all_pairs agree (restored_holdings r))) || c))
    (any_in_lem (map teid_of (restored_holdings r)) (held_teids m) ∙ any_map (λ t. member t (held_teids m)) teid_of (restored_holdings r))
    (any_in_lem (restored_addresses s r) (held_addresses s m))

module _ (held other : ℕ → Bool) (s : Settings) (alike : (t : ℕ) → in_pool s t ≡ true → held t ≡ other t) where
  -- a row with a TEID outside the pool breaks another rule
  restores_same : (row : List ℕ) → of_fteid (strange s) row ≡ false → restores held (row_holding row) ≡ restores other (row_holding row)
  restores_same row h = held_row held row ∙ one (is_some (row_holding row)) refl ∙ sym (held_row other row)
    where
      inside : (a b c : Bool) → ((not a || b) || c) ≡ false → a ≡ true
      inside true b c e = refl
      inside false b c e = absurd (false≢true (sym e))

      one : (b : Bool) → is_some (row_holding row) ≡ b → (is_some (row_holding row) && held (word its.teid row)) ≡ (is_some (row_holding row) && other (word its.teid row))
      one false e = rw e
      one true e = rw e (alike (word its.teid row) (inside (in_pool s (word its.teid row)) _ _ (sym (strange_some s row e) ∙ h)))

  fteid_same : (row : List ℕ) → breaks_fteid held s row ≡ breaks_fteid other s row
  unfolding breaks_fteid
  fteid_same row = one (of_fteid (strange s) row) refl
    where
      one : (b : Bool) → of_fteid (strange s) row ≡ b
          → one_of (of_fteid (lacks_family s) row ∷ of_fteid (strange s) row ∷ restores held (row_holding row) ∷ []) ≡ one_of (of_fteid (lacks_family s) row ∷ of_fteid (strange s) row ∷ restores other (row_holding row) ∷ [])
      one true e = rw e
      one false e = rw (restores_same row e)

module _ (held other : ℕ → Bool) (s : Settings) (alike : (a : ℕ) → in_address_pool s a ≡ true → held a ≡ other a) where
  takes_same : (v : UeIp) → takes_address s held v ≡ takes_address s other v
  unfolding takes_address ue_address_of on_some
  takes_same (ue_given a) = one (in_address_pool s a) refl
    where
      one : (b : Bool) → in_address_pool s a ≡ b → (b && held a) ≡ (b && other a)
      one true e = alike a e
      one false e = refl
  takes_same ue_choose = refl
  takes_same ue_other = refl

  on_some_same : (o : Option UeIp) → on_some (takes_address s held) o ≡ on_some (takes_address s other) o
  unfolding on_some
  on_some_same none = refl
  on_some_same (some v) = takes_same v

  address_same : (restoring : Bool) (row : List ℕ) → breaks_address held s restoring row ≡ breaks_address other s restoring row
  unfolding breaks_address of_address
  address_same restoring row = ap (λ (b : Bool). of_address (wrong_address s restoring) row || (creates row && b)) (on_some_same (row_ue row))

-- Tests that agree with the records on the numbers of the pools give the rules.
pub breaks_by : (held held_address : ℕ → Bool) (s : Settings) (m : Sessions) (x : Session) (seid : ℕ) (restoring noted : Bool) (rows : List (List ℕ))
    → ((t : ℕ) → in_pool s t ≡ true → held t ≡ member t (held_teids m))
    → ((a : ℕ) → in_address_pool s a ≡ true → held_address a ≡ member a (held_addresses s m))
    → breaks_rule_by held held_address s x (request_in seid restoring noted rows) ≡ breaks_rule s m x (request_in seid restoring noted rows)
unfolding breaks_row
breaks_by held held_address s m x seid restoring noted rows alike alike_address =
    let other : ℕ → Bool = λ t. member t (held_teids m) in
    let other_address : ℕ → Bool = λ a. member a (held_addresses s m) in
    breaks_rows_lem held held_address s x seid restoring noted rows
    ∙ some_ext (breaks_row held held_address s restoring (live_pdrs x) (live_endpoints x) (gone x rows) rows) (breaks_row other other_address s restoring (live_pdrs x) (live_endpoints x) (gone x rows) rows)
    (λ row. ap₂ (λ (b c : Bool). one_of (breaks_id (live_pdrs x) (live_endpoints x) (gone x rows) rows row ∷ b ∷ c ∷ [])) (fteid_same held other s alike row) (address_same held_address other_address s alike_address restoring row))
    rows
    ∙ sym (breaks_rows_lem other other_address s x seid restoring noted rows)
    ∙ sym (rule_by s m x (request_in seid restoring noted rows))

-- A map: bit i says whether the number at offset i of the pool is held.
map_says : (first size : ℕ) (words held : List ℕ) → ((i : ℕ) → i < size → marked words i ≡ member (first + i) held)
    → (n : ℕ) → T (leb first n && ltb n (first + size)) → marked words (n - first) ≡ member n held
map_says first size words held h n e =
    let low = leb→le first n (and_left (leb first n) (ltb n (first + size)) e) in
    let high = ltb→lt n (first + size) (and_right (leb first n) (ltb n (first + size)) e) in
    let back : first + (n - first) ≡ n = omega arith in
    h (n - first) (omega arith) ∙ ap (λ (k : ℕ). member k held) back

pub map_agrees : (s : Settings) (m : Sessions) (words : List ℕ) → ((i : ℕ) → i < s.size → marked words i ≡ member (s.first + i) (held_teids m))
    → (t : ℕ) → in_pool s t ≡ true → held_in s words t ≡ member t (held_teids m)
unfolding held_in
map_agrees s m words h t e = rw e (map_says s.first s.size words (held_teids m) h t (unfold in_pool in (of_true e)))

pub addresses_agree : (s : Settings) (m : Sessions) (words : List ℕ) → ((i : ℕ) → i < s.address_count → marked words i ≡ member (s.first_address + i) (held_addresses s m))
    → (a : ℕ) → in_address_pool s a ≡ true → marked_address s words a ≡ member a (held_addresses s m)
addresses_agree s m words h a e = map_says s.first_address s.address_count words (held_addresses s m) h a (unfold in_address_pool in (of_true e))

-- ---- what the code has found

pub rule_found : (s' s : Settings) (words addresses pdrs endpoints away : List ℕ) (x : Session) (restoring : Bool) (rows : List (List ℕ)) (r : Bool) → s' ≡ s → pdrs ≡ live_pdrs x → endpoints ≡ live_endpoints x → away ≡ gone x rows
    → r ≡ some_row (breaks_row (held_in s' words) (marked_address s' addresses) s' restoring pdrs endpoints away rows) rows → r ≡ breaks_rule_by (held_in s words) (marked_address s addresses) s x (request_of restoring rows)
rule_found s' s words addresses pdrs endpoints away x restoring rows r e p q g a =
    a ∙ (λ i. some_row (breaks_row (held_in (e i) words) (marked_address (e i) addresses) (e i) restoring (p i) (q i) (g i) rows) rows) ∙ sym (breaks_rows_lem (held_in s words) (marked_address s addresses) s x 0 restoring false rows)

-- the request's SEID and element 129 do not matter
pub rule_rows : (held held_address : ℕ → Bool) (s : Settings) (x : Session) (seid : ℕ) (restoring noted : Bool) (rows : List (List ℕ))
    → breaks_rule_by held held_address s x (request_in 0 restoring false rows) ≡ breaks_rule_by held held_address s x (request_in seid restoring noted rows)
rule_rows held held_address s x seid restoring noted rows = breaks_rows_lem held held_address s x 0 restoring false rows ∙ sym (breaks_rows_lem held held_address s x seid restoring noted rows)

-- The rows with their grants' TEIDs mean the same request. Assumes nothing.
use mathlib.Core.Path.{◌≡◌, refl, ap, ◌∙◌}
use mathlib.Core.Bool.{Bool, true, false, ◌&&◌, ◌||◌}
use mathlib.Core.Option.{none, some}
use mathlib.Core.List.{List, [], ◌∷◌, ◌++◌, map}
use Prim.Native.Nat.{ℕ}
use native.Mathlib.Omega.{arith}
use lib.Dec.{eqb, ltb}
use lib.Seq.{get_or-set_other}
use borrow.Author.Tests.{eqb-true}
use lib.ListN.{set}
use Rattle.octets.specs.Choice.{pick}
use Rattle.octets.specs.Octets.{be, bit}
use Rattle.octets.specs.Lists.{any, keep, collect}
use Rattle.octets.specs.Rows.{has_tag}
use Rattle.octets.proofs.ListLaws.{map_same, map-map, collect_same, collect_map}
use Rattle.rules.specs.Elements.{sets, removal}
use Rattle.rules.specs.Request.{cleared, changed}
use Rattle.rules.specs.Grants.{Grant}
use Rattle.plan.specs.Rows.{word, tagged, fteid_from, row_fteid, ue_from, row_ue, row_strange, row_local, present, row_pdr, row_endpoint, row_far, row_change, row_pdi, row_pdr_id, row_endpoint_id, row_address, row_csid, is_null_row, request_in}
use Rattle.rules.specs.Types as ie
use Rattle.plan.specs.Words as its
use Rattle.grants.specs.Choosing.{choosing, chosen_by, row_with, chooses_address, row_with_address}
use Rattle.grants.proofs.PlanLaws.{word_set, choosing_bit}

-- ---- one row

-- only the TEID and the address words differ, and the F-TEID and the UE IP Address are the same
pub record Alike (a b : List ℕ) : Type 0 where
  pub words : (k : ℕ) → (k ≡ 13 → ⊥) → (k ≡ 19 → ⊥) → word k a ≡ word k b
  pub fteid : row_fteid a ≡ row_fteid b
  pub ue : row_ue a ≡ row_ue b

-- a CHOOSE has no TEID
fteid_choose : (f t t' a h l c : ℕ) → bit 2 f ≡ true → fteid_from f t a h l c ≡ fteid_from f t' a h l c
unfolding fteid_from
fteid_choose f t t' a h l c e = rw e

set_fteid : (row : List ℕ) (t : ℕ) → bit 2 (word its.flags row) ≡ true → row_fteid (set row 13 t) ≡ row_fteid row
unfolding row_fteid
set_fteid row t e =
    let f = word_set row t 12 (λ z. omega arith) in
    let a = word_set row t 14 (λ z. omega arith) in
    let h = word_set row t 15 (λ z. omega arith) in
    let l = word_set row t 16 (λ z. omega arith) in
    let c = word_set row t 17 (λ z. omega arith) in
    (λ j. fteid_from (f j) (word its.teid (set row 13 t)) (a j) (h j) (l j) (c j))
    ∙ fteid_choose (word its.flags row) (word its.teid (set row 13 t)) (word its.teid row) (word its.ipv4 row) (word its.ipv6_high row) (word its.ipv6_low row) (word its.choose_id row) e

teid_ue : (row : List ℕ) (t : ℕ) → row_ue (set row 13 t) ≡ row_ue row
unfolding row_ue
teid_ue row t =
    let k = word_set row t 18 (λ z. omega arith) in
    let a = word_set row t 19 (λ z. omega arith) in
    λ j. ue_from (k j) (a j)

pub alike_with : (gs : List Grant) (row : List ℕ) → Alike (row_with gs row) row
unfolding row_with
alike_with gs row = one (choosing ie.create_endpoint row) (choosing 1 row) refl refl _
  where
    one : (b d : Bool) → choosing ie.create_endpoint row ≡ b → choosing 1 row ≡ d → (t : ℕ) → Alike (pick (b || d) (set row 13 t) row) row
    one true d e f t = record { words = λ k n _. word_set row t k n; fteid = set_fteid row t (choosing_bit ie.create_endpoint row e); ue = teid_ue row t }
    one false true e f t = record { words = λ k n _. word_set row t k n; fteid = set_fteid row t (choosing_bit 1 row f); ue = teid_ue row t }
    one false false e f t = record { words = λ k n _. refl; fteid = refl; ue = refl }

-- a CHOOSE has no address
address_word : (row : List ℕ) (a k : ℕ) → (k ≡ 19 → ⊥) → word k (set row 19 a) ≡ word k row
address_word row a k n = get_or-set_other row 19 k a 0 n

choose_ue : (k a b : ℕ) → eqb k 2 ≡ true → ue_from k a ≡ ue_from k b
unfolding ue_from
choose_ue k a b e = let z = eqb-true k 2 e in rw z

address_fteid : (row : List ℕ) (a : ℕ) → row_fteid (set row 19 a) ≡ row_fteid row
unfolding row_fteid
address_fteid row a =
    let f = address_word row a 12 (λ z. omega arith) in
    let t = address_word row a 13 (λ z. omega arith) in
    let p = address_word row a 14 (λ z. omega arith) in
    let h = address_word row a 15 (λ z. omega arith) in
    let l = address_word row a 16 (λ z. omega arith) in
    let c = address_word row a 17 (λ z. omega arith) in
    λ j. fteid_from (f j) (t j) (p j) (h j) (l j) (c j)

pub alike_address : (a : ℕ) (row : List ℕ) → Alike (row_with_address a row) row
unfolding row_with_address chooses_address
alike_address a row = one (has_tag ie.create_endpoint row || has_tag ie.create_pdr row) (eqb (word its.ue_kind row) 2) refl
  where
    one : (b c : Bool) → eqb (word its.ue_kind row) 2 ≡ c → Alike (pick (b && c) (set row 19 a) row) row
    one true true e =
        record {
          words = λ k _ n. address_word row a k n;
          fteid = address_fteid row a;
          ue =
              let k = address_word row a 18 (λ z. omega arith) in
              unfold row_ue in ((λ j. ue_from (k j) (word its.ue_address (set row 19 a))) ∙ choose_ue (word its.ue_kind row) (word its.ue_address (set row 19 a)) (word its.ue_address row) e);
        }
    one true false e = record { words = λ k n _. refl; fteid = refl; ue = refl }
    one false c e = record { words = λ k n _. refl; fteid = refl; ue = refl }

-- one change after another
pub alike_then : {a b c : List ℕ} → Alike a b → Alike b c → Alike a c
alike_then p q = record { words = λ k n m. p.words k n m ∙ q.words k n m; fteid = p.fteid ∙ q.fteid; ue = p.ue ∙ q.ue }

module _ {a b : List ℕ} (w : Alike a b) where
  same_tag : (t : ℕ) → has_tag t a ≡ has_tag t b
  unfolding has_tag
  same_tag t = ap (λ (x : ℕ). eqb x t) (w.words 0 (λ z. omega arith) (λ z. omega arith))

  same_pdr : row_pdr a ≡ row_pdr b
  unfolding row_pdr row_local present
  same_pdr =
      let i = w.words 7 (λ z. omega arith) (λ z. omega arith) in
      let p = w.words 8 (λ z. omega arith) (λ z. omega arith) in
      let has_far = w.words 3 (λ z. omega arith) (λ z. omega arith) in
      let far = w.words 9 (λ z. omega arith) (λ z. omega arith) in
      let source = w.words 10 (λ z. omega arith) (λ z. omega arith) in
      let has_end = w.words 5 (λ z. omega arith) (λ z. omega arith) in
      let end = w.words 11 (λ z. omega arith) (λ z. omega arith) in
      let flags = w.words 12 (λ z. omega arith) (λ z. omega arith) in
      let v = w.fteid in
      let ue = w.ue in
      λ j. record {
        id = i j;
        precedence = p j;
        far = pick (eqb (has_far j) 1) (some (far j)) none;
        source = source j;
        local = pick (eqb (flags j) 0) none (some (v j));
        endpoint = pick (eqb (has_end j) 1) (some (end j)) none;
        address = ue j;
      }

  same_endpoint : row_endpoint a ≡ row_endpoint b
  unfolding row_endpoint
  same_endpoint = let i = w.words 11 (λ z. omega arith) (λ z. omega arith) in let v = w.fteid in let ue = w.ue in λ j. record { id = i j; local = v j; address = ue j }

  same_change : row_change a ≡ row_change b
  unfolding row_change row_far present
  same_change =
      let i = w.words 7 (λ z. omega arith) (λ z. omega arith) in
      let has_p = w.words 2 (λ z. omega arith) (λ z. omega arith) in
      let p = w.words 8 (λ z. omega arith) (λ z. omega arith) in
      let has_far = w.words 3 (λ z. omega arith) (λ z. omega arith) in
      let far = w.words 9 (λ z. omega arith) (λ z. omega arith) in
      let pdi = w.words 6 (λ z. omega arith) (λ z. omega arith) in
      λ j. record {
        id = i j;
        precedence = pick (eqb (has_p j) 1) (some (p j)) none;
        far = pick (eqb (has_far j) 2) (some none) (pick (eqb (has_far j) 1) (some (some (far j))) none);
        pdi = eqb (pdi j) 1;
      }

  same_csid : row_csid a ≡ row_csid b
  unfolding row_csid row_address
  same_csid =
      let use1 = w.words 1 (λ z. omega arith) (λ z. omega arith) in
      let node = w.words 7 (λ z. omega arith) (λ z. omega arith) in
      let type = w.words 8 (λ z. omega arith) (λ z. omega arith) in
      let high = w.words 9 (λ z. omega arith) (λ z. omega arith) in
      let low = w.words 10 (λ z. omega arith) (λ z. omega arith) in
      let csid = w.words 11 (λ z. omega arith) (λ z. omega arith) in
      λ j. pick (eqb (use1 j) 1) (some (sets (type j) (pick (eqb (type j) 1) (be 8 (high j) ++ be 8 (low j)) (be 4 (low j))) (csid j ∷ []) (node j)))
      (pick (eqb (use1 j) 2) (some (removal (node j))) none)

  same_null : is_null_row a ≡ is_null_row b
  unfolding is_null_row
  same_null = ap (λ (x : ℕ). eqb x 3) (w.words 1 (λ z. omega arith) (λ z. omega arith))

  same_pdi : row_pdi a ≡ row_pdi b
  same_pdi = ap (λ (x : ℕ). eqb x 1) (w.words 6 (λ z. omega arith) (λ z. omega arith))

  same_strange : row_strange a ≡ row_strange b
  same_strange = ap (ltb 2) (w.words 18 (λ z. omega arith) (λ z. omega arith))

  pub same_chosen : (anything : Bool) (t : ℕ) → chosen_by anything t a ≡ chosen_by anything t b
  unfolding chosen_by
  same_chosen anything t =
      let tag = same_tag t in
      let flags = w.words 12 (λ z. omega arith) (λ z. omega arith) in
      let ue = w.words 18 (λ z. omega arith) (λ z. omega arith) in
      λ j. tag j && pick anything (bit 2 (flags j) || eqb (ue j) 2) (bit 2 (flags j))

-- ---- all rows

module _ (h : List ℕ → List ℕ) (alike : (row : List ℕ) → Alike (h row) row) where
  tagged_with : (t : ℕ) (rows : List (List ℕ)) → tagged t (map h rows) ≡ map h (tagged t rows)
  unfolding tagged keep
  tagged_with t [] = refl
  tagged_with t (row ∷ rows) =
      ap (λ (b : Bool). pick b (h row ∷ tagged t (map h rows)) (tagged t (map h rows))) (same_tag (alike row) t) ∙ one (has_tag t row) (tagged_with t rows)
    where
      one : (b : Bool) → tagged t (map h rows) ≡ map h (tagged t rows)
          → pick b (h row ∷ tagged t (map h rows)) (tagged t (map h rows)) ≡ map h (pick b (row ∷ tagged t rows) (tagged t rows))
      one true ih = ap (λ (l : List (List ℕ)). h row ∷ l) ih
      one false ih = ih

  tagged_map : {A : Type 0} (t : ℕ) (v : List ℕ → A) → ((row : List ℕ) → v (h row) ≡ v row) → (rows : List (List ℕ)) → map v (tagged t (map h rows)) ≡ map v (tagged t rows)
  tagged_map t v e rows = ap (map v) (tagged_with t rows) ∙ map-map h v (tagged t rows) ∙ map_same (λ row. v (h row)) v e (tagged t rows)

  any_with : (v : List ℕ → Bool) → ((row : List ℕ) → v (h row) ≡ v row) → (rows : List (List ℕ)) → any v (map h rows) ≡ any v rows
  unfolding any
  any_with v e [] = refl
  any_with v e (row ∷ rows) = let here = e row in let more = any_with v e rows in λ j. here j || more j

  tagged_any : (t : ℕ) (v : List ℕ → Bool) → ((row : List ℕ) → v (h row) ≡ v row) → (rows : List (List ℕ)) → any v (tagged t (map h rows)) ≡ any v (tagged t rows)
  tagged_any t v e rows = ap (any v) (tagged_with t rows) ∙ any_with v e (tagged t rows)

  -- the FQ-CSIDs of the rows, and whether one removes all
  pub csids_same : (rows : List (List ℕ)) → collect row_csid (tagged ie.fqcsid (map h rows)) ≡ collect row_csid (tagged ie.fqcsid rows)
  csids_same rows =
      ap (collect row_csid) (tagged_with 65 rows) ∙ collect_map h row_csid (tagged ie.fqcsid rows) ∙ collect_same (λ row. row_csid (h row)) row_csid (λ row. same_csid (alike row)) (tagged ie.fqcsid rows)

  pub nulls_same : (rows : List (List ℕ)) → any is_null_row (tagged ie.fqcsid (map h rows)) ≡ any is_null_row (tagged ie.fqcsid rows)
  nulls_same rows = tagged_any 65 is_null_row (λ row. same_null (alike row)) rows

  pub request_same : (seid : ℕ) (restoring noted : Bool) (rows : List (List ℕ)) → request_in seid restoring noted (map h rows) ≡ request_in seid restoring noted rows
  unfolding request_in
  request_same seid restoring noted rows =
      let pdrs = tagged_map 1 row_pdr (λ row. same_pdr (alike row)) rows in
      let endpoints = tagged_map ie.create_endpoint row_endpoint (λ row. same_endpoint (alike row)) rows in
      let changes = tagged_map 9 row_change (λ row. same_change (alike row)) rows in
      let gone_pdrs = tagged_map 15 row_pdr_id (λ row. (alike row).words 7 (λ z. omega arith) (λ z. omega arith)) rows in
      let gone_endpoints = tagged_map ie.remove_endpoint row_endpoint_id (λ row. (alike row).words 11 (λ z. omega arith) (λ z. omega arith)) rows in
      let pdis = tagged_any 9 row_pdi (λ row. same_pdi (alike row)) rows in
      let pdrs_strange = tagged_any ie.create_pdr row_strange (λ row. same_strange (alike row)) rows in
      let endpoints_strange = tagged_any ie.create_endpoint row_strange (λ row. same_strange (alike row)) rows in
      λ j. record {
        seid = seid;
        restoring = restoring;
        pdrs = pdrs j;
        endpoints = endpoints j;
        changes = changes j;
        gone_pdrs = gone_pdrs j;
        gone_endpoints = gone_endpoints j;
        csids = pick (nulls_same rows j) cleared (changed (csids_same rows j));
        unsupported = noted || pdis j || pdrs_strange j || endpoints_strange j;
        listed = [];
      }

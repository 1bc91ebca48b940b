-- What the calls inside each function leave, over plain lists.
-- Assumes nothing.
use Rattle.std.specs.Prelude.{Result, Ok, Err}
use mathlib.Core.Path.{◌≡◌, refl, sym, ap, ◌∙◌}
use mathlib.Core.Bool.{Bool}
use mathlib.Core.List.{List, [], ◌∷◌}
use Prim.Native.Nat.{ℕ, ◌+◌, ◌-◌, ◌*◌, ◌%◌, ◌≤◌, ◌<◌}
use native.Mathlib.Numerals.{add-one}
use native.Mathlib.Omega.{arith}
use borrow.Author.Tests.{eq-eqb, ne_eqb}
use lib.ListN.{length, take, drop, get_or}
use lib.Seq.{drop-cons}
use Rattle.octets.proofs.Put.{length_part, put_whole}
pub use Rattle.octets.proofs.Put.{part_part}
use Rattle.octets.specs.Choice.{pick}
use Rattle.octets.specs.Octets.{be, part, put, zeros}
use Rattle.octets.specs.Fields.{width_of, field_octets}
use Rattle.octets.specs.Rows.{has_tag}
use Rattle.octets.proofs.FieldLaws.{length_field_octets}
use Rattle.plan.specs.Rows.{word}
use Rattle.rules.specs.Types as ie
use Rattle.rules.specs.Layout.{pdr_widths, endpoint_widths, pdr_width, endpoint_width, csid_width, pdrs_at, session_width, precedence_at, far_at, far_id_at}
use Rattle.rules.specs.Limits.{max_pdrs}
use Rattle.plan.specs.Words as its
use Rattle.areas.specs.declared.Area.{Area}
use Rattle.areas.specs.Counted.{Fits, area_in, place_in, replaced_in, cleared_in, with_record, without_record}
use Rattle.areas.proofs.Steps.{found_room}
use Rattle.session.specs.Areas.{area_of_pdrs, area_of_endpoints, area_of_csids}
use Rattle.session.specs.Records.{if_is, address_there, row_match, pdr_values, pdr_record, endpoint_values, endpoint_record, csid_record_widths, csid_values, csid_record, record_with_precedence, record_with_far, updated_record}
use Rattle.session.specs.Build.{without_pdrs, updated_at, updated_pdr, followed_csid, row_applied, passed, built}

-- ---- the areas fit a slot

pub pdrs_fit_lem : (a : Area) (n : ℕ) → a ≡ area_of_pdrs → n ≡ session_width → Fits a n
pdrs_fit_lem a n e h = rw (e, h) (record { count = omega arith; narrow = omega arith; records = omega arith; keyed = omega arith })

-- and keys of theirs are numbers
pub pdrs_key : (a : Area) → a ≡ area_of_pdrs → a.key ≤ 8
pdrs_key a e = rw e (omega arith)

pub endpoints_fit_lem : (a : Area) (n : ℕ) → a ≡ area_of_endpoints → n ≡ session_width → Fits a n
endpoints_fit_lem a n e h = rw (e, h) (record { count = omega arith; narrow = omega arith; records = omega arith; keyed = omega arith })

-- and keys of theirs are numbers
pub endpoints_key : (a : Area) → a ≡ area_of_endpoints → a.key ≤ 8
endpoints_key a e = rw e (omega arith)

pub csids_fit_lem : (a : Area) (n : ℕ) → a ≡ area_of_csids → n ≡ session_width → Fits a n
csids_fit_lem a n e h = rw (e, h) (record { count = omega arith; narrow = omega arith; records = omega arith; keyed = omega arith })

-- and keys of theirs are numbers
pub csids_key : (a : Area) → a ≡ area_of_csids → a.key ≤ 8
csids_key a e = rw e (omega arith)

-- a record of the area's width
pub pdr_wide : (a : Area) (n : ℕ) → a ≡ area_of_pdrs → n ≡ pdr_width → n ≡ a.width
pdr_wide a n e h = rw (e, h)

pub pdr_room_lem : (a : Area) (p : ℕ) → a ≡ area_of_pdrs → p < 16 → p < a.room
pdr_room_lem a p e h = rw e h

-- a record put into an area is put into its like
pub put_there : (a b : Area) (r s done : List ℕ) → a ≡ b → done ≡ with_record a r s → done ≡ with_record b r s
put_there a b r s done e q = q ∙ ap (λ (x : Area). with_record x r s) e

pub csid_wide : (a : Area) (n : ℕ) → a ≡ area_of_csids → n ≡ csid_width → n ≡ a.width
csid_wide a n e h = rw (e, h)

-- ---- records

pub written_whole : (ws vs s out : List ℕ) → length vs ≡ length ws → width_of ws ≡ length s → out ≡ put 0 (field_octets ws vs) s → out ≡ field_octets ws vs
written_whole ws vs s out e w q = q ∙ put_whole (field_octets ws vs) s (length_field_octets ws vs e ∙ w)

pub pdr_written : (row s out : List ℕ) (there far kind teid families endpoint held address : ℕ) → pdr_width ≡ length s
    → kind ≡ row_match row → there ≡ if_is (word its.has_far_id row) 1 1 → far ≡ if_is (word its.has_far_id row) 1 (word its.far_id row) → teid ≡ if_is kind 1 (word its.teid row)
    → families ≡ if_is kind 1 (word its.flags row % 4) → endpoint ≡ if_is kind 2 (word its.endpoint_id row)
    → held ≡ address_there row → address ≡ if_is held 1 (word its.ue_address row)
    → out ≡ put 0 (field_octets pdr_widths (word its.pdr_id row ∷ word its.precedence row ∷ there ∷ far ∷ word its.source row ∷ kind ∷ teid ∷ families ∷ endpoint ∷ held ∷ address ∷ [])) s
    → out ≡ pdr_record row
unfolding pdr_record pdr_values
pdr_written row s out there far kind teid families endpoint held address long k a b c d e l m q =
    written_whole _ _ s out refl long q ∙ rw (a, b, c, d, e, k, m, l)

pub endpoint_written : (row s out : List ℕ) (held address : ℕ) → endpoint_width ≡ length s → held ≡ address_there row → address ≡ if_is held 1 (word its.ue_address row)
    → out ≡ put 0 (field_octets endpoint_widths (word its.endpoint_id row ∷ word its.teid row ∷ word its.flags row % 4 ∷ held ∷ address ∷ [])) s → out ≡ endpoint_record row
unfolding endpoint_record endpoint_values
endpoint_written row s out held address long l m q = written_whole _ _ s out refl long q ∙ rw (m, l)

pub csid_long : (row s out : List ℕ) → csid_width ≡ length s → word its.id_type row ≡ 1
    → out ≡ put 0 (field_octets (1 ∷ 1 ∷ 8 ∷ 8 ∷ 0 ∷ 2 ∷ []) (word its.node_type row ∷ word its.id_type row ∷ word its.address_high row ∷ word its.address_low row ∷ 0 ∷ word its.csid row ∷ [])) s → out ≡ csid_record row
unfolding csid_record csid_record_widths csid_values
csid_long row s out long e q = written_whole _ _ s out refl long q ∙ rw (eq-eqb _ _ e)

pub csid_short : (row s out : List ℕ) → csid_width ≡ length s → (word its.id_type row ≡ 1 → ⊥)
    → out ≡ put 0 (field_octets (1 ∷ 1 ∷ 4 ∷ 8 ∷ 4 ∷ 2 ∷ []) (word its.node_type row ∷ word its.id_type row ∷ word its.address_low row ∷ 0 ∷ 0 ∷ word its.csid row ∷ [])) s → out ≡ csid_record row
unfolding csid_record csid_record_widths csid_values
csid_short row s out long e q = written_whole _ _ s out refl long q ∙ rw (ne_eqb _ _ e)

-- ---- updates

pub precedence_set : (row s out : List ℕ) → word its.has_precedence row ≡ 1 → out ≡ put precedence_at (be 4 (word its.precedence row)) s → out ≡ record_with_precedence row s
unfolding record_with_precedence
precedence_set row s out e q = q ∙ rw (eq-eqb _ _ e)

pub precedence_kept : (row s : List ℕ) → (word its.has_precedence row ≡ 1 → ⊥) → s ≡ record_with_precedence row s
unfolding record_with_precedence
precedence_kept row s e = rw (ne_eqb _ _ e)

pub far_set : (row s mid out : List ℕ) → word its.has_far_id row ≡ 1 → mid ≡ put far_at (be 1 1) s → out ≡ put far_id_at (be 4 (word its.far_id row)) mid → out ≡ record_with_far row s
unfolding record_with_far
far_set row s mid out e m q = q ∙ rw (m, eq-eqb _ _ e)

pub far_gone : (row s out : List ℕ) → (word its.has_far_id row ≡ 1 → ⊥) → word its.has_far_id row ≡ 2 → out ≡ put far_at (zeros 5) s → out ≡ record_with_far row s
unfolding record_with_far
far_gone row s out n e q = q ∙ rw (ne_eqb _ _ n, eq-eqb _ _ e)

pub far_kept : (row s : List ℕ) → (word its.has_far_id row ≡ 1 → ⊥) → (word its.has_far_id row ≡ 2 → ⊥) → s ≡ record_with_far row s
unfolding record_with_far
far_kept row s n m = rw (ne_eqb _ _ n, ne_eqb _ _ m)

pub updated_at_lem : (row s fresh rec mid new done : List ℕ) (p end : ℕ) (a : Area) → length s ≡ session_width → p < 16 → a ≡ area_of_pdrs → length fresh ≡ pdr_width → end ≡ pdrs_at + p * pdr_width + pdr_width
    → rec ≡ put 0 (take (end - (pdrs_at + p * pdr_width)) (drop (pdrs_at + p * pdr_width) s)) fresh → mid ≡ record_with_precedence row rec → new ≡ record_with_far row mid → done ≡ replaced_in a p new s
    → done ≡ updated_at row p s
unfolding updated_at updated_record area_in
updated_at_lem row s fresh rec mid new done p end a long less ea lf ee er em en ed =
    let e : end - (pdrs_at + p * pdr_width) ≡ pdr_width = omega arith in
    let whole : rec ≡ part (pdrs_at + p * pdr_width) pdr_width s = er ∙ rw e (put_whole (part (pdrs_at + p * pdr_width) pdr_width s) fresh (length_part (pdrs_at + p * pdr_width) pdr_width s (omega arith) ∙ sym lf)) in
    ed ∙ rw (ea, en, em, whole, ← part_part pdrs_at (max_pdrs * pdr_width) (p * pdr_width) pdr_width s (omega arith))

pub update_place : (row s : List ℕ) (a : Area) (place : Result ℕ ℕ) (p : ℕ) → a ≡ area_of_pdrs → place ≡ place_in a (word its.pdr_id row) s → place ≡ Ok p → p < 16
update_place row s a place p ea e f =
    let h = found_room area_of_pdrs s (word its.pdr_id row) p (rw ea at (sym e ∙ f)) in
    omega (arith, h.0, h.1)

pub update_found : (row s done : List ℕ) (a : Area) (place : Result ℕ ℕ) (p : ℕ) → a ≡ area_of_pdrs → place ≡ place_in a (word its.pdr_id row) s → place ≡ Ok p → done ≡ updated_at row p s → done ≡ updated_pdr row s
unfolding updated_pdr
update_found row s done a place p ea e f d = d ∙ rw (← ea, ← e, f)

pub update_none : (row s : List ℕ) (a : Area) (place : Result ℕ ℕ) (p : ℕ) → a ≡ area_of_pdrs → place ≡ place_in a (word its.pdr_id row) s → place ≡ Err p → s ≡ updated_pdr row s
unfolding updated_pdr
update_none row s a place p ea e f = rw (← ea, ← e, f)

-- ---- FQ-CSIDs

pub csid_set : (row s rec done : List ℕ) (a : Area) → a ≡ area_of_csids → word its.verb row ≡ 1 → rec ≡ csid_record row → done ≡ with_record a rec s → done ≡ followed_csid row s
unfolding followed_csid
csid_set row s rec done a ea e r d = d ∙ rw (ea, r, eq-eqb _ _ e)

pub csid_removed : (row s done : List ℕ) (a : Area) → a ≡ area_of_csids → (word its.verb row ≡ 1 → ⊥) → word its.verb row ≡ 2 → done ≡ without_record a (word its.node_type row) s → done ≡ followed_csid row s
unfolding followed_csid
csid_removed row s done a ea n e d = d ∙ rw (ea, ne_eqb _ _ n, eq-eqb _ _ e)

pub csids_cleared : (row s done : List ℕ) (a : Area) → a ≡ area_of_csids → (word its.verb row ≡ 1 → ⊥) → (word its.verb row ≡ 2 → ⊥) → word its.verb row ≡ 3 → done ≡ cleared_in a s → done ≡ followed_csid row s
unfolding followed_csid
csids_cleared row s done a ea n m e d = d ∙ rw (ea, ne_eqb _ _ n, ne_eqb _ _ m, eq-eqb _ _ e)

pub csids_kept : (row s : List ℕ) → (word its.verb row ≡ 1 → ⊥) → (word its.verb row ≡ 2 → ⊥) → (word its.verb row ≡ 3 → ⊥) → s ≡ followed_csid row s
unfolding followed_csid
csids_kept row s n m k = rw (ne_eqb _ _ n, ne_eqb _ _ m, ne_eqb _ _ k)

-- ---- rows

pub row_130 : (row s done : List ℕ) (a : Area) → a ≡ area_of_endpoints → word its.tag row ≡ ie.remove_endpoint → done ≡ without_record a (word its.endpoint_id row) s → done ≡ row_applied row s
unfolding row_applied
row_130 row s done a ea e d = d ∙ rw (ea, e)

pub row_127 : (row s done rec : List ℕ) → word its.tag row ≡ ie.create_endpoint → rec ≡ endpoint_record row → done ≡ with_record area_of_endpoints rec s → done ≡ row_applied row s
unfolding row_applied
row_127 row s done rec e r d = d ∙ rw (e, r)

pub row_1 : (row s done rec : List ℕ) → word its.tag row ≡ ie.create_pdr → rec ≡ pdr_record row → done ≡ with_record area_of_pdrs rec s → done ≡ row_applied row s
unfolding row_applied
row_1 row s done rec e r d = d ∙ rw (e, r)

pub row_9 : (row s done : List ℕ) → word its.tag row ≡ ie.update_pdr → done ≡ updated_pdr row s → done ≡ row_applied row s
unfolding row_applied
row_9 row s done e d = d ∙ rw e

pub row_65 : (row s done : List ℕ) → word its.tag row ≡ ie.fqcsid → done ≡ followed_csid row s → done ≡ row_applied row s
unfolding row_applied
row_65 row s done e d = d ∙ rw e

pub row_none : (row s : List ℕ) → (word its.tag row ≡ ie.remove_endpoint → ⊥) → (word its.tag row ≡ ie.create_endpoint → ⊥) → (word its.tag row ≡ ie.create_pdr → ⊥) → (word its.tag row ≡ ie.update_pdr → ⊥) → (word its.tag row ≡ ie.fqcsid → ⊥) → s ≡ row_applied row s
unfolding row_applied
row_none row s b c d e f = rw (ne_eqb _ _ b, ne_eqb _ _ c, ne_eqb _ _ d, ne_eqb _ _ e, ne_eqb _ _ f)

-- ---- PDRs taken out, and a pass over the rows: one of those that are left

pub without_more : (ids s : List ℕ) (i : ℕ) → i < length ids → without_pdrs (drop i ids) s ≡ without_pdrs (drop (i + 1) ids) (without_record area_of_pdrs (get_or ids i 0) s)
unfolding without_pdrs
without_more ids s i h = rw (drop-cons ids i 0 h, add-one i)

passed_more : (kind : ℕ) (rows : List (List ℕ)) (s : List ℕ) (i : ℕ) → i < length rows
    → passed kind (drop i rows) s ≡ passed kind (drop (i + 1) rows) (pick (has_tag kind (get_or rows i [])) (row_applied (get_or rows i []) s) s)
unfolding passed
passed_more kind rows s i h = rw (drop-cons rows i [] h, add-one i)

module _ (kind : ℕ) (rows : List (List ℕ)) (s : List ℕ) (i : ℕ) (h : i < length rows) where
  abbrev row : List ℕ
  row = get_or rows i []

  pub passed_hit : get_or row 0 0 ≡ kind → passed kind (drop i rows) s ≡ passed kind (drop (i + 1) rows) (row_applied row s)
  unfolding has_tag
  passed_hit e = passed_more kind rows s i h ∙ ap (λ (b : Bool). passed kind (drop (i + 1) rows) (pick b (row_applied row s) s)) (eq-eqb _ _ e)

  pub passed_miss : (get_or row 0 0 ≡ kind → ⊥) → passed kind (drop i rows) s ≡ passed kind (drop (i + 1) rows) s
  unfolding has_tag
  passed_miss e = passed_more kind rows s i h ∙ ap (λ (b : Bool). passed kind (drop (i + 1) rows) (pick b (row_applied row s) s)) (ne_eqb _ _ e)

-- ---- the passes in turn

pub built_in_turn : (gone : List ℕ) (rows : List (List ℕ)) (s a b c d e f : List ℕ) → a ≡ without_pdrs gone s → b ≡ passed ie.remove_endpoint rows a → c ≡ passed ie.create_endpoint rows b → d ≡ passed ie.create_pdr rows c → e ≡ passed ie.update_pdr rows d → f ≡ passed ie.fqcsid rows e → f ≡ built gone rows s
unfolding built
built_in_turn gone rows s a b c d e f pa pb pc pd pe pf = pf ∙ rw (pe, pd, pc, pb, pa)

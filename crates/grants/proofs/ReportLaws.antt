-- The reports that are read from the plan at exit, at the places of the rows with something chosen, are the rules' reports of what the records
-- get. Assumes nothing.
use mathlib.Core.Path.{◌≡◌, refl, sym, ap, ap₂, ◌∙◌}
use mathlib.Core.Bool.{Bool, true, false, ◌&&◌, ◌||◌, or-true}
use mathlib.Core.Option.{Option, none, some}
use mathlib.Core.List.{List, [], ◌∷◌, ◌++◌, map, map-map, append-nil}
use Prim.Native.Nat.{ℕ, zero, suc, ◌+◌, ◌*◌, ◌≤◌}
use native.Mathlib.Decide.{ℕ_discrete}
use native.Mathlib.Omega.{arith}
use borrow.Author.Tests.{eq-eqb, ne_eqb, eqb-true}
use lib.Dec.{T, eqb, ltb}
use lib.ListN.{length, take, drop, set, length-append, length-set, length-drop}
use lib.Seq.{length-take-le, take_all, get_or-set_same, get_or-set_other}
use Rattle.octets.specs.Choice.{pick, is_some, bind_option}
use Rattle.octets.specs.Octets.{bit, slices}
use Rattle.octets.specs.Lists.{all, keep}
use Rattle.octets.specs.Rows.{has_tag}
use Rattle.octets.proofs.Tests.{all_cons}
use Rattle.octets.proofs.ListLaws.{Every, all_append}
use Rattle.laws.proofs.RequestLaws.{EndpointRead}
use Rattle.rules.specs.Model.{Tunnel}
use Rattle.rules.specs.Elements.{given, choose, ue_given, ue_choose, ue_other, ue_chooses}
use Rattle.rules.specs.Request.{Request}
use Rattle.rules.specs.Grants.{Kind, of_pdr, of_endpoint, Grant, Got, same_kind, granted_teid}
use Rattle.rules.specs.Reply.{Report, chosen_tunnel, chosen_ip, pdr_report, endpoint_report, something_chosen, reports}
use Rattle.rules.specs.Types as ie
use Rattle.plan.specs.Rows.{row_width, word, rows_of, tagged, fteid_from, row_fteid, row_local, ue_from, row_ue, row_pdr, row_endpoint, request_in}
use Rattle.plan.specs.Words as its
use Rattle.writing.specs.Families.{tunnel_in}
use Rattle.created.specs.Groups.{Told, report_in, kind_in, is_told, reports_of, all_reports, id_fits}
use Rattle.created.specs.Entries.{max_grants, row_id, row_entry, granted_tunnel, granted_address, told_of, row_told, told_at, tolds_at}
use Rattle.grants.specs.Choosing.{choosing, chosen_by, places_by, report_places, row_with, chooses_address, row_with_address}
use Rattle.grants.proofs.ChoiceLaws.{rows_at}
use Rattle.grants.proofs.RequestLaws.{Alike, alike_with, alike_address, alike_then, same_chosen}

-- ---- one row: what the rules report

-- the F-TEID of a row that chooses one
abbrev tunnel_of : ℕ → List ℕ → Option Tunnel
tunnel_of t row = pick (bit 2 (word its.flags row)) (some (record { teid = t; v4 = bit 0 (word its.flags row); v6 = bit 1 (word its.flags row) })) none

fteid_tunnel : (t : ℕ) (row : List ℕ) → chosen_tunnel t (row_fteid row) ≡ tunnel_of t row
unfolding row_fteid fteid_from
fteid_tunnel t row = one (bit 2 (word its.flags row)) _ _ _ _ _ _
  where
    one : (b v4 v6 : Bool) (c : Option ℕ) (n : ℕ) (a h : List ℕ) → chosen_tunnel t (pick b (choose v4 v6 c) (given n a h)) ≡ pick b (some (record { teid = t; v4 = v4; v6 = v6 })) none
    one true v4 v6 c n a h = unfold chosen_tunnel in refl
    one false v4 v6 c n a h = unfold chosen_tunnel in refl

no_flags : bit 2 0 ≡ false
unfolding bit
no_flags = refl

local_tunnel_lem : (t : ℕ) (row : List ℕ) → bind_option (row_local row) (chosen_tunnel t) ≡ tunnel_of t row
unfolding row_local
local_tunnel_lem t row = one (ℕ_discrete (word its.flags row) 0)
  where
    one : Dec (word its.flags row ≡ 0) → bind_option (pick (eqb (word its.flags row) 0) none (some (row_fteid row))) (chosen_tunnel t) ≡ tunnel_of t row
    one (yes e) =
        rw (eq-eqb (word its.flags row) 0 e) (sym (ap (λ (b : Bool). pick b (some (record { teid = t; v4 = bit 0 (word its.flags row); v6 = bit 1 (word its.flags row) })) none) (ap (bit 2) e ∙ no_flags)))
    one (no n) = rw (ne_eqb (word its.flags row) 0 n) (fteid_tunnel t row)

-- the address of a row that chooses one
abbrev address_of : ℕ → List ℕ → Option ℕ
address_of a row = pick (eqb (word its.ue_kind row) 2) (some a) none

chosen_ip_lem : (a : ℕ) (row : List ℕ) → bind_option (row_ue row) (chosen_ip a) ≡ address_of a row
unfolding row_ue ue_from chosen_ip ue_chooses
chosen_ip_lem a row = one (ℕ_discrete (word its.ue_kind row) 0) (ℕ_discrete (word its.ue_kind row) 1)
  where
    one : Dec (word its.ue_kind row ≡ 0) → Dec (word its.ue_kind row ≡ 1)
        → bind_option (pick (eqb (word its.ue_kind row) 0) none (some (pick (eqb (word its.ue_kind row) 1) (ue_given (word its.ue_address row)) (pick (eqb (word its.ue_kind row) 2) ue_choose ue_other)))) (chosen_ip a) ≡ address_of a row
    one (yes e) d = rw e
    one (no n) (yes e) = rw e
    one (no n) (no m) = rw (ne_eqb (word its.ue_kind row) 0 n, ne_eqb (word its.ue_kind row) 1 m) (two (eqb (word its.ue_kind row) 2))
      where
        two : (b : Bool) → chosen_ip a (pick b ue_choose ue_other) ≡ pick b (some a) none
        two true = refl
        two false = refl

something_is : (b c : Bool) (t : Tunnel) (a : ℕ) → (is_some (pick b (some t) none) || is_some (pick c (some a) none)) ≡ (b || c)
something_is true c t a = refl
something_is false true t a = refl
something_is false false t a = refl

-- ---- one row: what the plan at exit tells

module _ (gs : List Grant) where
  -- the TEID that a row's kind and ID got
  abbrev own_teid : List ℕ → ℕ
  own_teid row = granted_teid gs (kind_in (word its.tag row)) (row_id row)

  module _ (row : List ℕ) (l : length row ≡ row_width) (c : (choosing ie.create_endpoint row || choosing 1 row) ≡ true) where
    pub with_teid_lem : word its.teid (row_with gs row) ≡ own_teid row
    unfolding row_with
    with_teid_lem = rw (c, get_or-set_same row 13 (own_teid row) 0 (omega arith))

module _ (gs : List Grant) (a : ℕ) where
  -- what a request's records get
  abbrev pub gets : Kind → ℕ → Got
  gets k i = record { teid = granted_teid gs k i; address = a }

  -- a row with all that it was granted
  abbrev pub row_got : List ℕ → List ℕ
  row_got row = row_with_address a (row_with gs row)

  pub alike_got_lem : (row : List ℕ) → Alike (row_got row) row
  alike_got_lem row = alike_then (alike_address a (row_with gs row)) (alike_with gs row)

  pub address_word : (row : List ℕ) (k : ℕ) → (k ≡ 19 → ⊥) → word k (row_with_address a row) ≡ word k row
  unfolding row_with_address
  address_word row k n = one (chooses_address row)
    where
      one : (b : Bool) → word k (pick b (set row 19 a) row) ≡ word k row
      one true = get_or-set_other row 19 k a 0 n
      one false = refl

  length_teid : (row : List ℕ) → length (row_with gs row) ≡ length row
  unfolding row_with
  length_teid row = one (choosing ie.create_endpoint row || choosing 1 row)
    where
      one : (b : Bool) → length (pick b (set row 13 (granted_teid gs (kind_in (word its.tag row)) (row_id row))) row) ≡ length row
      one true = length-set row 13 _
      one false = refl

  module _ (row : List ℕ) (l : length row ≡ row_width) (tags : (has_tag ie.create_endpoint row || has_tag ie.create_pdr row) ≡ true) where
    -- the TEID
    teid_got : bit 2 (word its.flags row) ≡ true → word its.teid (row_got row) ≡ own_teid gs row
    teid_got e = address_word (row_with gs row) 13 (λ z. omega arith) ∙ with_teid_lem gs row l (unfold choosing in (rw e (both_true (has_tag ie.create_endpoint row) (has_tag ie.create_pdr row) tags)))
      where
        both_true : (b c : Bool) → (b || c) ≡ true → ((b && true) || (c && true)) ≡ true
        both_true true c h = refl
        both_true false true h = refl
        both_true false false h = h

    -- the address
    address_chosen : eqb (word its.ue_kind row) 2 ≡ true → chooses_address (row_with gs row) ≡ true
    unfolding chooses_address has_tag
    address_chosen e =
        let tag = (alike_with gs row).words 0 (λ z. omega arith) (λ z. omega arith) in
        let kind = (alike_with gs row).words 18 (λ z. omega arith) (λ z. omega arith) in
        (λ j. (eqb (tag j) ie.create_endpoint || eqb (tag j) ie.create_pdr) && eqb (kind j) 2) ∙ rw (e, tags)

    pub address_got_lem : eqb (word its.ue_kind row) 2 ≡ true → word its.ue_address (row_got row) ≡ a
    unfolding row_with_address
    address_got_lem e = rw (address_chosen e) (get_or-set_same (row_with gs row) 19 a 0 (omega (arith, length_teid row)))

    got_tunnel : granted_tunnel (row_entry (row_got row)) ≡ tunnel_of (own_teid gs row) row
    unfolding granted_tunnel row_entry tunnel_in
    got_tunnel =
        let f = (alike_got_lem row).words 12 (λ z. omega arith) (λ z. omega arith) in
        let t : ℕ = word its.teid (row_got row) in
        (λ j. pick {X = Option Tunnel} (bit 2 (f j)) (some (record { teid = t; v4 = bit 0 (f j); v6 = bit 1 (f j) })) none) ∙ one (bit 2 (word its.flags row)) refl
      where
        one : (b : Bool) → bit 2 (word its.flags row) ≡ b
            → pick {X = Option Tunnel} b (some (record { teid = word its.teid (row_got row); v4 = bit 0 (word its.flags row); v6 = bit 1 (word its.flags row) })) none
            ≡ pick b (some (record { teid = own_teid gs row; v4 = bit 0 (word its.flags row); v6 = bit 1 (word its.flags row) })) none
        one true e = let p = teid_got e in λ j. some (record { teid = p j; v4 = bit 0 (word its.flags row); v6 = bit 1 (word its.flags row) })
        one false e = refl

    got_address : granted_address (row_entry (row_got row)) ≡ address_of a row
    unfolding granted_address row_entry
    got_address =
        let k = (alike_got_lem row).words 18 (λ z. omega arith) (λ z. omega arith) in
        (λ j. pick (eqb (k j) 2) (some (word its.ue_address (row_got row))) none) ∙ one (eqb (word its.ue_kind row) 2) refl
      where
        one : (b : Bool) → eqb (word its.ue_kind row) 2 ≡ b → pick b (some (word its.ue_address (row_got row))) none ≡ pick b (some a) none
        one true e = ap some (address_got_lem e)
        one false e = refl

    got_id : row_id (row_got row) ≡ row_id row
    unfolding row_id
    got_id =
        let w = alike_got_lem row in
        let tag = w.words 0 (λ z. omega arith) (λ z. omega arith) in
        let pdr = w.words 7 (λ z. omega arith) (λ z. omega arith) in
        let endpoint = w.words 11 (λ z. omega arith) (λ z. omega arith) in
        λ j. pick (eqb (tag j) 1) (pdr j) (endpoint j)

    told_is : (row_told (row_got row)).report ≡ record { id = row_id row; local = tunnel_of (own_teid gs row) row; address = address_of a row }
    unfolding row_told told_of row_entry
    told_is = let i = got_id in let t = got_tunnel in let p = got_address in λ j. record { id = i j; local = t j; address = p j }

  tag_is : (tag : ℕ) (row : List ℕ) → has_tag tag row ≡ true → word its.tag row ≡ tag
  unfolding has_tag
  tag_is tag row h = eqb-true (word its.tag row) tag h

  pdr_told : (row : List ℕ) → length row ≡ row_width → has_tag ie.create_pdr row ≡ true → (row_told (row_got row)).report ≡ pdr_report gets (row_pdr row)
  unfolding pdr_report row_pdr row_id kind_in
  pdr_told row l h =
      let t = tag_is ie.create_pdr row h in
      told_is row l (rw h (or-true (has_tag ie.create_endpoint row)))
      ∙ rw t
      (let x = sym (local_tunnel_lem (granted_teid gs of_pdr (word its.pdr_id row)) row) in let y = sym (chosen_ip_lem a row) in λ j. record { id = word its.pdr_id row; local = x j; address = y j })

  endpoint_told : (row : List ℕ) → length row ≡ row_width → has_tag ie.create_endpoint row ≡ true → (row_told (row_got row)).report ≡ endpoint_report gets (row_endpoint row)
  unfolding endpoint_report row_endpoint row_id kind_in
  endpoint_told row l h =
      let t = tag_is ie.create_endpoint row h in
      told_is row l (rw h)
      ∙ rw t
      (let x = sym (fteid_tunnel (granted_teid gs of_endpoint (word its.endpoint_id row)) row) in let y = sym (chosen_ip_lem a row) in λ j. record { id = word its.endpoint_id row; local = x j; address = y j })

  pdr_something : (row : List ℕ) → something_chosen (pdr_report gets (row_pdr row)) ≡ (bit 2 (word its.flags row) || eqb (word its.ue_kind row) 2)
  unfolding something_chosen pdr_report row_pdr
  pdr_something row =
      rw (local_tunnel_lem (granted_teid gs of_pdr (word its.pdr_id row)) row, chosen_ip_lem a row)
      (something_is (bit 2 (word its.flags row)) (eqb (word its.ue_kind row) 2) _ a)

  endpoint_something : (row : List ℕ) → something_chosen (endpoint_report gets (row_endpoint row)) ≡ (bit 2 (word its.flags row) || eqb (word its.ue_kind row) 2)
  unfolding something_chosen endpoint_report row_endpoint
  endpoint_something row =
      rw (fteid_tunnel (granted_teid gs of_endpoint (word its.endpoint_id row)) row, chosen_ip_lem a row)
      (something_is (bit 2 (word its.flags row)) (eqb (word its.ue_kind row) 2) _ a)

  -- ---- all rows of a type

  module _ (tag : ℕ) (g : List ℕ → Report) (each : (row : List ℕ) → length row ≡ row_width → has_tag tag row ≡ true → (row_told (row_got row)).report ≡ g row)
      (chosen : (row : List ℕ) → something_chosen (g row) ≡ (bit 2 (word its.flags row) || eqb (word its.ue_kind row) 2)) where
    told_tag : (n : ℕ) (plan : List ℕ) → n * row_width ≤ length plan
        → map report_in (map row_told (keep (chosen_by true tag) (map row_got (rows_of n plan)))) ≡ keep something_chosen (map g (tagged tag (rows_of n plan)))
    unfolding keep slices tagged
    told_tag zero plan h = refl
    told_tag (suc n) plan h =
        let d = length-drop row_width plan in
        one (take row_width plan) (rows_of n (drop row_width plan)) (length-take-le row_width plan (omega arith)) (told_tag n (drop row_width plan) (omega arith))
      where
        one : (row : List ℕ) (rows : List (List ℕ)) → length row ≡ row_width
            → map report_in (map row_told (keep (chosen_by true tag) (map row_got rows))) ≡ keep something_chosen (map g (tagged tag rows))
            → map report_in (map row_told (pick (chosen_by true tag (row_got row)) (row_got row ∷ keep (chosen_by true tag) (map row_got rows)) (keep (chosen_by true tag) (map row_got rows))))
            ≡ keep something_chosen (map g (pick (has_tag tag row) (row ∷ tagged tag rows) (tagged tag rows)))
        one row rows l ih = rw (same_chosen (alike_got_lem row) true tag) (two (has_tag tag row) (bit 2 (word its.flags row) || eqb (word its.ue_kind row) 2) refl refl (unfold chosen_by in refl))
          where
            two : (b c : Bool) → has_tag tag row ≡ b → (bit 2 (word its.flags row) || eqb (word its.ue_kind row) 2) ≡ c → chosen_by true tag row ≡ (has_tag tag row && (bit 2 (word its.flags row) || eqb (word its.ue_kind row) 2))
                → map report_in (map row_told (pick (chosen_by true tag row) (row_got row ∷ keep (chosen_by true tag) (map row_got rows)) (keep (chosen_by true tag) (map row_got rows))))
                ≡ keep something_chosen (map g (pick (has_tag tag row) (row ∷ tagged tag rows) (tagged tag rows)))
            two false c e f k = rw (k, e) ih
            two true true e f k = let here = each row l e in rw (k, e, chosen row, f) (λ j. here j ∷ ih j)
            two true false e f k = rw (k, e, chosen row, f) ih

-- ---- the reports of one kind

kind_told : (k : Kind) (tag : ℕ) (b : Bool) → same_kind k (kind_in tag) ≡ b → (row : List ℕ) → chosen_by true tag row ≡ true → is_told k (row_told row) ≡ b
unfolding is_told row_told told_of row_entry chosen_by has_tag
kind_told k tag b e row h = let t = eqb-true (word its.tag row) tag (first (eqb (word its.tag row) tag) _ h) in rw t e
  where
    first : (x y : Bool) → (x && y) ≡ true → x ≡ true
    first true y z = refl
    first false y z = z

told_kind : (k : Kind) (tag : ℕ) (b : Bool) → same_kind k (kind_in tag) ≡ b → (rows : List (List ℕ))
    → keep (is_told k) (map row_told (keep (chosen_by true tag) rows)) ≡ pick b (map row_told (keep (chosen_by true tag) rows)) []
unfolding keep
told_kind k tag true e [] = refl
told_kind k tag false e [] = refl
told_kind k tag b e (row ∷ rows) = one (chosen_by true tag row) refl (told_kind k tag b e rows)
  where
    one : (c : Bool) → chosen_by true tag row ≡ c → keep (is_told k) (map row_told (keep (chosen_by true tag) rows)) ≡ pick b (map row_told (keep (chosen_by true tag) rows)) []
        → keep (is_told k) (map row_told (pick c (row ∷ keep (chosen_by true tag) rows) (keep (chosen_by true tag) rows))) ≡ pick b (map row_told (pick c (row ∷ keep (chosen_by true tag) rows) (keep (chosen_by true tag) rows))) []
    one true c ih = rw (kind_told k tag b e row c) (two b ih)
      where
        two : (d : Bool) → keep (is_told k) (map row_told (keep (chosen_by true tag) rows)) ≡ pick d (map row_told (keep (chosen_by true tag) rows)) []
            → pick d (row_told row ∷ keep (is_told k) (map row_told (keep (chosen_by true tag) rows))) (keep (is_told k) (map row_told (keep (chosen_by true tag) rows)))
            ≡ pick d (row_told row ∷ map row_told (keep (chosen_by true tag) rows)) []
        two true f = ap (λ (ts : List Told). row_told row ∷ ts) f
        two false f = f
    one false c ih = ih

keep_append : (p : Told → Bool) (xs ys : List Told) → keep p (xs ++ ys) ≡ keep p xs ++ keep p ys
unfolding keep
keep_append p [] ys = refl
keep_append p (x ∷ xs) ys = one (p x) (keep_append p xs ys)
  where
    one : (b : Bool) → keep p (xs ++ ys) ≡ keep p xs ++ keep p ys → pick b (x ∷ keep p (xs ++ ys)) (keep p (xs ++ ys)) ≡ pick b (x ∷ keep p xs) (keep p xs) ++ keep p ys
    one true e = ap (λ (ts : List Told). x ∷ ts) e
    one false e = e

module _ (rows : List (List ℕ)) where
  abbrev pub tells : List Told
  tells = map row_told (keep (chosen_by true ie.create_endpoint) rows) ++ map row_told (keep (chosen_by true ie.create_pdr) rows)

  told_pdrs : reports_of of_pdr tells ≡ map report_in (map row_told (keep (chosen_by true ie.create_pdr) rows))
  unfolding reports_of
  told_pdrs =
      ap (map report_in)
      (keep_append (is_told of_pdr) (map row_told (keep (chosen_by true ie.create_endpoint) rows)) (map row_told (keep (chosen_by true ie.create_pdr) rows))
      ∙ ap₂ (λ (x y : List Told). x ++ y) (told_kind of_pdr ie.create_endpoint false (unfold same_kind kind_in in refl) rows) (told_kind of_pdr ie.create_pdr true (unfold same_kind kind_in in refl) rows))

  told_endpoints : reports_of of_endpoint tells ≡ map report_in (map row_told (keep (chosen_by true ie.create_endpoint) rows))
  unfolding reports_of
  told_endpoints =
      ap (map report_in)
      (keep_append (is_told of_endpoint) (map row_told (keep (chosen_by true ie.create_endpoint) rows)) (map row_told (keep (chosen_by true ie.create_pdr) rows))
      ∙ ap₂ (λ (x y : List Told). x ++ y) (told_kind of_endpoint ie.create_endpoint true (unfold same_kind kind_in in refl) rows) (told_kind of_endpoint ie.create_pdr false (unfold same_kind kind_in in refl) rows)
      ∙ append-nil (map row_told (keep (chosen_by true ie.create_endpoint) rows)))

-- ---- all reports

few_places : (tag at : ℕ) (rows : List (List ℕ)) → length (places_by (chosen_by true tag) at rows) ≤ length (tagged tag rows)
unfolding places_by tagged keep chosen_by
few_places tag at [] = omega arith
few_places tag at (row ∷ rows) = one (has_tag tag row) (bit 2 (word its.flags row) || eqb (word its.ue_kind row) 2) (few_places tag (at + row_width) rows)
  where
    one : (b c : Bool) → length (places_by (chosen_by true tag) (at + row_width) rows) ≤ length (tagged tag rows)
        → length (pick (b && c) (at ∷ places_by (chosen_by true tag) (at + row_width) rows) (places_by (chosen_by true tag) (at + row_width) rows)) ≤ length (pick b (row ∷ tagged tag rows) (tagged tag rows))
    one true true h = omega arith
    one true false h = omega arith
    one false c h = h

module _ (n : ℕ) (plan : List ℕ) (few : length (tagged ie.create_endpoint (rows_of n plan)) + length (tagged ie.create_pdr (rows_of n plan)) ≤ max_grants) where
  all_places : report_places n plan ≡ places_by (chosen_by true ie.create_endpoint) 0 (rows_of n plan) ++ places_by (chosen_by true ie.create_pdr) 0 (rows_of n plan)
  unfolding report_places
  all_places =
      let es = places_by (chosen_by true ie.create_endpoint) 0 (rows_of n plan) in
      let ps = places_by (chosen_by true ie.create_pdr) 0 (rows_of n plan) in
      take_all max_grants (es ++ ps) (omega (arith, length-append es ps, few_places ie.create_endpoint 0 (rows_of n plan), few_places ie.create_pdr 0 (rows_of n plan)))

  -- what the rows at the places tell
  pub told_rows : tolds_at plan (report_places n plan) ≡ tells (rows_of n plan)
  unfolding told_at
  told_rows = ap (tolds_at plan) all_places ∙ rows_at row_told plan (chosen_by true ie.create_endpoint) (chosen_by true ie.create_pdr) n

module _ (gs : List Grant) (a : ℕ) (seid : ℕ) (restoring noted : Bool) (n : ℕ) (plan : List ℕ) (h : n * row_width ≤ length plan) where
  abbrev request : Request
  request = request_in seid restoring noted (rows_of n plan)

  -- the rules' reports, by the rows that hold what they were granted
  pub told_reports : all_reports (tells (map (row_got gs a) (rows_of n plan))) ≡ reports (gets gs a) request
  unfolding reports request_in
  told_reports =
      let rows : List (List ℕ) = rows_of n plan in
      let ps = told_pdrs (map (row_got gs a) rows) ∙ told_tag gs a ie.create_pdr (λ row. pdr_report (gets gs a) (row_pdr row)) (pdr_told gs a) (pdr_something gs a) n plan h ∙ ap (keep something_chosen) (sym (map-map (pdr_report (gets gs a)) row_pdr (tagged ie.create_pdr rows))) in
      let es = told_endpoints (map (row_got gs a) rows) ∙ told_tag gs a ie.create_endpoint (λ row. endpoint_report (gets gs a) (row_endpoint row)) (endpoint_told gs a) (endpoint_something gs a) n plan h ∙ ap (keep something_chosen) (sym (map-map (endpoint_report (gets gs a)) row_endpoint (tagged ie.create_endpoint rows))) in
      λ j. record { pdrs = ps j; endpoints = es j }

-- ---- IDs fit

pdrs_fit_lem : (rows : List (List ℕ)) → T (all id_fits (map row_told (keep (chosen_by true ie.create_pdr) rows)))
unfolding all keep
pdrs_fit_lem [] = tt
pdrs_fit_lem (row ∷ rows) = one (chosen_by true ie.create_pdr row) refl (pdrs_fit_lem rows)
  where
    one : (b : Bool) → chosen_by true ie.create_pdr row ≡ b → T (all id_fits (map row_told (keep (chosen_by true ie.create_pdr) rows)))
        → T (all id_fits (map row_told (pick b (row ∷ keep (chosen_by true ie.create_pdr) rows) (keep (chosen_by true ie.create_pdr) rows))))
    one true e h =
        all_cons id_fits (row_told row) (map row_told (keep (chosen_by true ie.create_pdr) rows))
        (unfold id_fits in (rw (kind_told of_pdr ie.create_pdr true (unfold same_kind kind_in in refl) row e) tt)) h
    one false e h = h

endpoint_fits_lem : (row : List ℕ) → has_tag ie.create_endpoint row ≡ true → T (ltb (word its.endpoint_id row) 256) → T (id_fits (row_told row))
unfolding id_fits is_told row_told told_of row_entry row_id kind_in same_kind
endpoint_fits_lem row h g = let t = tag_is [] 0 ie.create_endpoint row h in rw t g

endpoints_fit_lem : (rows : List (List ℕ)) → Every EndpointRead (map row_endpoint (tagged ie.create_endpoint rows)) → T (all id_fits (map row_told (keep (chosen_by true ie.create_endpoint) rows)))
unfolding all keep tagged chosen_by
endpoints_fit_lem [] r = tt
endpoints_fit_lem (row ∷ rows) r = one (has_tag ie.create_endpoint row) (bit 2 (word its.flags row) || eqb (word its.ue_kind row) 2) refl r (λ r'. endpoints_fit_lem rows r')
  where
    one : (b c : Bool) → has_tag ie.create_endpoint row ≡ b → Every EndpointRead (map row_endpoint (pick b (row ∷ tagged ie.create_endpoint rows) (tagged ie.create_endpoint rows)))
        → (Every EndpointRead (map row_endpoint (tagged ie.create_endpoint rows)) → T (all id_fits (map row_told (keep (chosen_by true ie.create_endpoint) rows))))
        → T (all id_fits (map row_told (pick (b && c) (row ∷ keep (chosen_by true ie.create_endpoint) rows) (keep (chosen_by true ie.create_endpoint) rows))))
    one false c e r' ih = ih r'
    one true true e r' ih =
        all_cons id_fits (row_told row) (map row_told (keep (chosen_by true ie.create_endpoint) rows)) (endpoint_fits_lem row e (unfold row_endpoint in r'.0.id)) (ih r'.1)
    one true false e r' ih = ih r'.1

pub tells_fit : (rows : List (List ℕ)) → Every EndpointRead (map row_endpoint (tagged ie.create_endpoint rows)) → T (all id_fits (tells rows))
tells_fit rows r =
    all_append id_fits (map row_told (keep (chosen_by true ie.create_endpoint) rows)) (map row_told (keep (chosen_by true ie.create_pdr) rows)) (endpoints_fit_lem rows r) (pdrs_fit_lem rows)

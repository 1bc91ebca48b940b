-- The octets that a row gives a record are those of the record that the rules make of the row.
-- Assumes nothing.
use mathlib.Core.Path.{◌≡◌, refl, sym, ap, ◌∙◌}
use mathlib.Core.Bool.{Bool, true, false}
use mathlib.Core.Option.{none, some}
use mathlib.Core.List.{List, [], ◌∷◌, ◌++◌}
use Prim.Native.Nat.{ℕ, ◌+◌, ◌*◌, ◌/◌, ◌%◌}
use native.Mathlib.Omega.{arith}
use native.Mathlib.Nat.{div-one}
use borrow.Author.Tests.{eqb-true, eqb-false}
use lib.Dec.{eqb}
use lib.ListN.{take, drop}
use Rattle.octets.specs.Choice.{pick, flag, is_some, value_or}
use Rattle.octets.specs.Octets.{be, number, bit}
use Rattle.octets.specs.Fields.{field_octets}
use Rattle.octets.proofs.Numbers.{bytes_be}
use Rattle.octets.proofs.Digits.{be_back, octets_append, take_octets, drop_octets}
use Rattle.rules.specs.Model.{Tunnel, Match, Pdr, Endpoint, Csid}
use Rattle.rules.specs.Elements.{given, choose, ue_given, ue_choose, ue_other}
use Rattle.rules.specs.Layout.{families, pdr_widths, endpoint_widths, match_kind, match_teid, match_families, match_endpoint, pdr_numbers, endpoint_numbers, csid_slot_widths, csid_slot_numbers, pdr_octets, endpoint_octets, csid_octets}
use Rattle.rules.specs.Grants.{Kind, Got}
use Rattle.rules.specs.Apply.{tunnel_from, named_match, match_from, address_got, address_from, made_pdr, made_endpoint}
use Rattle.plan.specs.Rows.{word, present, fteid_from, row_fteid, row_local, ue_from, row_ue, row_pdr, row_endpoint, row_address}
use Rattle.plan.specs.Words as its
use Rattle.session.specs.Records.{if_is, address_there, row_match, pdr_values, pdr_record, endpoint_values, endpoint_record, csid_record_widths, csid_values, csid_record}

-- ---- tunnels

flag_bit : (n : ℕ) → flag (eqb (n % 2) 1) ≡ n % 2
flag_bit n = go (eqb (n % 2) 1) refl
  where
    go : (b : Bool) → eqb (n % 2) 1 ≡ b → flag b ≡ n % 2
    go true e = sym (eqb-true (n % 2) 1 e)
    go false e = let h = eqb-false (n % 2) 1 e in omega (arith, h)

-- V4 is bit 1 of the flags and V6 bit 2
two_flags : (f : ℕ) → flag (bit 0 f) + 2 * flag (bit 1 f) ≡ f % 4
unfolding bit
two_flags f =
    let a : f / 1 ≡ f = div-one f in
    rw (a, flag_bit f, flag_bit (f / 2)) (omega arith)

-- the tunnel of a row, its TEID given or chosen
unfoldable pub row_tunnel : List ℕ → Tunnel
row_tunnel row = tunnel_from (word its.teid row) (row_fteid row)

teid_families : (f t a h l c : ℕ) → tunnel_from t (fteid_from f t a h l c) ≡ record { teid = t; v4 = bit 0 f; v6 = bit 1 f }
unfolding tunnel_from fteid_from
teid_families f t a h l c = go (bit 2 f) (bit 0 f) (bit 1 f)
  where
    go : (ch v4 v6 : Bool) → tunnel_from t (pick ch (choose v4 v6 (pick (bit 3 f) (some c) none)) (given t (pick v4 (be 4 a) []) (pick v6 (be 8 h ++ be 8 l) []))) ≡ record { teid = t; v4 = v4; v6 = v6 }
    go true v4 v6 = refl
    go false true true = unfold be in refl
    go false true false = unfold be in refl
    go false false true = unfold be in refl
    go false false false = refl

tunnel_octets : (row : List ℕ) → ((row_tunnel row).teid ≡ word its.teid row) × (families (row_tunnel row) ≡ word its.flags row % 4)
unfolding row_tunnel row_fteid families
tunnel_octets row =
    let e = teid_families (word its.flags row) (word its.teid row) (word its.ipv4 row) (word its.ipv6_high row) (word its.ipv6_low row) (word its.choose_id row) in
    (ap (λ (t : Tunnel). t.teid) e, ap (λ (t : Tunnel). flag t.v4 + 2 * flag t.v6) e ∙ two_flags (word its.flags row))

-- ---- PDR

-- what a row's CHOOSEs got stands in its words
abbrev pub of_row : List ℕ → Kind → ℕ → Got
of_row row k i = record { teid = word its.teid row; address = word its.ue_address row }

unfoldable pub pdr_of : List ℕ → Pdr
pdr_of row = made_pdr (of_row row) (row_pdr row)

far_numbers : (there v : ℕ) (rest : List ℕ) → if_is there 1 1 ∷ if_is there 1 v ∷ rest ≡ flag (is_some (present there v)) ∷ value_or 0 (present there v) ∷ rest
unfolding if_is present
far_numbers there v rest = go (eqb there 1)
  where
    go : (b : Bool) → pick b 1 0 ∷ pick b v 0 ∷ rest ≡ flag (is_some (pick b (some v) none)) ∷ value_or 0 (pick b (some v) none) ∷ rest
    go true = refl
    go false = refl

match_numbers : (row rest : List ℕ)
    → let l = match_from (word its.teid row) (row_local row) (present (word its.has_endpoint_id row) (word its.endpoint_id row)) in
    row_match row ∷ if_is (row_match row) 1 (word its.teid row) ∷ if_is (row_match row) 1 (word its.flags row % 4) ∷ if_is (row_match row) 2 (word its.endpoint_id row) ∷ rest
    ≡ match_kind l ∷ match_teid l ∷ match_families l ∷ match_endpoint l ∷ rest
unfolding row_match row_local present if_is
match_numbers row rest = go (eqb (word its.flags row) 0) (eqb (word its.has_endpoint_id row) 1)
  where
    go : (none? ep : Bool)
        → let k : ℕ = pick none? (pick ep 2 0) 1 in
        let l = match_from (word its.teid row) (pick none? none (some (row_fteid row))) (pick ep (some (word its.endpoint_id row)) none) in
        k ∷ pick (eqb k 1) (word its.teid row) 0 ∷ pick (eqb k 1) (word its.flags row % 4) 0 ∷ pick (eqb k 2) (word its.endpoint_id row) 0 ∷ rest ≡ match_kind l ∷ match_teid l ∷ match_families l ∷ match_endpoint l ∷ rest
    go true true = unfold match_from named_match match_kind match_teid match_families match_endpoint in refl
    go true false = unfold match_from named_match match_kind match_teid match_families match_endpoint in refl
    go false ep = let e = tunnel_octets row in unfold match_from match_kind match_teid match_families match_endpoint row_tunnel in (rw (e.1, e.0))

-- ---- addresses

address_numbers_lem : (row rest : List ℕ)
    → let o = address_from (word its.ue_address row) (row_ue row) in
    address_there row ∷ if_is (address_there row) 1 (word its.ue_address row) ∷ rest ≡ flag (is_some o) ∷ value_or 0 o ∷ rest
unfolding address_there if_is row_ue ue_from address_from
address_numbers_lem row rest = go (eqb (word its.ue_kind row) 0) refl (eqb (word its.ue_kind row) 1) refl (eqb (word its.ue_kind row) 2) refl
  where
    a : ℕ
    a = word its.ue_address row

    go : (none? : Bool) → eqb (word its.ue_kind row) 0 ≡ none? → (one : Bool) → eqb (word its.ue_kind row) 1 ≡ one → (two : Bool) → eqb (word its.ue_kind row) 2 ≡ two
        → let there : ℕ = pick one 1 (pick two 1 0) in
        let o = address_from a (pick none? none (some (pick one (ue_given a) (pick two ue_choose ue_other)))) in
        there ∷ pick (eqb there 1) a 0 ∷ rest ≡ flag (is_some o) ∷ value_or 0 o ∷ rest
    go true e₀ true e₁ two e₂ = let z = eqb-true (word its.ue_kind row) 0 e₀ in let y = eqb-true (word its.ue_kind row) 1 e₁ in absurd (omega arith)
    go true e₀ false e₁ true e₂ = let z = eqb-true (word its.ue_kind row) 0 e₀ in let y = eqb-true (word its.ue_kind row) 2 e₂ in absurd (omega arith)
    go true e₀ false e₁ false e₂ = unfold address_from in refl
    go false e₀ true e₁ two e₂ = unfold address_from address_got in refl
    go false e₀ false e₁ true e₂ = unfold address_from address_got in refl
    go false e₀ false e₁ false e₂ = unfold address_from address_got in refl

pub pdr_record_lem : (row : List ℕ) → pdr_record row ≡ pdr_octets (pdr_of row)
unfolding pdr_record pdr_values pdr_octets pdr_numbers pdr_of made_pdr row_pdr
pdr_record_lem row =
    ap (λ (l : List ℕ). field_octets pdr_widths (word its.pdr_id row ∷ word its.precedence row ∷ l))
    (far_numbers (word its.has_far_id row) (word its.far_id row) _
    ∙ ap (λ (l : List ℕ). flag (is_some (present (word its.has_far_id row) (word its.far_id row))) ∷ value_or 0 (present (word its.has_far_id row) (word its.far_id row)) ∷ word its.source row ∷ l) (match_numbers row _ ∙ ap (λ (l : List ℕ). match_kind matched ∷ match_teid matched ∷ match_families matched ∷ match_endpoint matched ∷ l) (address_numbers_lem row _)))
  where
    matched : Match
    matched = match_from (word its.teid row) (row_local row) (present (word its.has_endpoint_id row) (word its.endpoint_id row))

-- ---- endpoint

unfoldable pub endpoint_of : List ℕ → Endpoint
endpoint_of row = made_endpoint (of_row row) (row_endpoint row)

pub endpoint_record_lem : (row : List ℕ) → endpoint_record row ≡ endpoint_octets (endpoint_of row)
unfolding endpoint_record endpoint_values endpoint_octets endpoint_numbers endpoint_of made_endpoint row_endpoint row_tunnel
endpoint_record_lem row =
    let e = tunnel_octets row in
    ap (λ (l : List ℕ). field_octets endpoint_widths (word its.endpoint_id row ∷ word its.teid row ∷ word its.flags row % 4 ∷ l)) (address_numbers_lem row _) ∙ rw (e.1, e.0)

-- ---- FQ-CSID

unfoldable pub csid_of : List ℕ → Csid
csid_of row = record { node_type = word its.node_type row; id_type = word its.id_type row; address = row_address row; csid = word its.csid row }

pub csid_record_lem : (row : List ℕ) → csid_record row ≡ csid_octets (csid_of row)
unfolding csid_record csid_record_widths csid_values csid_octets csid_slot_numbers csid_of row_address field_octets
csid_record_lem row = go (eqb (word its.id_type row) 1)
  where
    long : List ℕ
    long = be 8 (word its.address_high row) ++ be 8 (word its.address_low row)

    go : (b : Bool)
        → field_octets (pick b (1 ∷ 1 ∷ 8 ∷ 8 ∷ 0 ∷ 2 ∷ []) (1 ∷ 1 ∷ 4 ∷ 8 ∷ 4 ∷ 2 ∷ []))
        (pick b (word its.node_type row ∷ word its.id_type row ∷ word its.address_high row ∷ word its.address_low row ∷ 0 ∷ word its.csid row ∷ []) (word its.node_type row ∷ word its.id_type row ∷ word its.address_low row ∷ 0 ∷ 0 ∷ word its.csid row ∷ []))
        ≡ (let a = pick b long (be 4 (word its.address_low row)) in
        field_octets csid_slot_widths (word its.node_type row ∷ word its.id_type row ∷ number (take 4 a) ∷ number (drop 4 a) ∷ word its.csid row ∷ []))
    go true =
        let o = octets_append (be 8 (word its.address_high row)) (be 8 (word its.address_low row)) (bytes_be 8 (word its.address_high row)) (bytes_be 8 (word its.address_low row)) in
        rw (be_back 4 (take 4 long) (unfold be in refl) (take_octets 4 long o), be_back 12 (drop 4 long) (unfold be in refl) (drop_octets 4 long o))
        (unfold be in refl)
    go false =
        rw (be_back 4 (take 4 (be 4 (word its.address_low row))) (unfold be in refl) (take_octets 4 (be 4 (word its.address_low row)) (bytes_be 4 (word its.address_low row))))
        (unfold be number in refl)

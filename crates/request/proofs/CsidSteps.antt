-- An FQ-CSID of a message: what the code does with it is the rules' step. Assumes nothing.
use mathlib.Core.Path.{◌≡◌, refl, sym, ap, ap₂, ◌∙◌}
use Prim.Native.Nat.{ℕ, ◌+◌, ◌*◌, ◌≤◌, ◌<◌}
use native.Mathlib.Omega.{arith}
use mathlib.Core.Bool.{Bool, true, false, not, ◌&&◌}
use mathlib.Core.Option.{Option, none, some}
use mathlib.Core.List.{List, [], ◌∷◌}
use lib.ListN.{length, set, get_or}
use lib.Dec.{eqb}
use borrow.Author.Tests.{ne_eqb}
use Rattle.octets.specs.Choice.{pick, is_nil, map_option}
use Rattle.octets.specs.Octets.{put}
use Rattle.octets.specs.Lists.{member, keep}
use Rattle.rules.specs.Elements.{Refusal, incorrect, cause_of, refuse, value, read_fqcsid, Fqcsid}
use Rattle.rules.specs.Message.{body_place, elements, has_type, modification}
use Rattle.rules.specs.Request as rules
use Rattle.rules.specs.Reading.{Reading, done, refusal_at, with_csid, csid_read, alone_in}
use Rattle.rules.specs.Request.{sets_csid, clears_csids, with_item, with_node, pdr_in}
use Rattle.rules.specs.Types as ie
use Rattle.rules.specs.Causes as why
use Rattle.plan.specs.Rows.{row_width}
use Rattle.laws.proofs.MessageLaws.{counts_alike}
use Rattle.reading.specs.Verdicts.{numbered, fault}
use Rattle.request.specs.Items.{is_update, has_row, met, Means, Follows, with_row}
use Rattle.request.specs.declared.row.Csid.{Csid}
use Rattle.request.specs.declared.items.Draft.{Draft}
use Rattle.request.specs.Csids.{csid_count_fits, bare_csid, csid_words, csid_taken}
use Rattle.fqcsid.specs.Meaning.{fqcsid_of}
use Rattle.fqcsid.specs.declared.FqCsid.{FqCsid}
use Rattle.request.proofs.CsidLaws.{meant_node, meant_small, meant_count, csid_row_lem, null_row}
use Rattle.request.proofs.DraftLaws.{step_fault, went, row_added, node_added}
use Rattle.std.specs.Prelude.{Result, Ok}
use Rattle.reading.specs.declared.Fault.{Fault}

-- ---- FQ-CSIDs

module _ (kind : ℕ) (alone : Bool) (p : ℕ) (v nodes words : List ℕ) (c : Draft) where
  abbrev clearing : Bool
  clearing = is_nil v && eqb kind modification && alone

  pub csid_clears : true ≡ clearing → row_width * c.rows + row_width ≤ length words → {x : Csid} {b : Draft} {words' : List ℕ} → x ≡ bare_csid 3 0 → (b ≡ with_row false c) × (words' ≡ put (row_width * c.rows) (csid_words x) words)
      → Follows (csid_read kind alone p v) c nodes words (Ok b) nodes words'
  unfolding csid_read
  csid_clears h room e to =
      rw (to.0, to.1, e) (record { follows = λ d m. went (with_item clears_csids d) (rw (← h)) (row_added m clears_csids (csid_words (bare_csid 3 0)) false null_row (unfold has_row is_update in refl) (unfold pdr_in in refl) refl room) })

  module _ (other : false ≡ clearing) where
    pub csid_refused_lem : (q : Refusal) {s : Result Draft Fault} → some (refuse q) ≡ some (read_fqcsid v) → s ≡ fault (cause_of q) 65 p → Follows (csid_read kind alone p v) c nodes words s nodes words
    unfolding csid_read
    csid_refused_lem q h e = let k : refuse q ≡ read_fqcsid v = cc in rw e (record { follows = λ d m. step_fault (rw (← other, ← k)) })

    module _ (x : FqCsid) (read : map_option value (fqcsid_of x) ≡ some (read_fqcsid v)) where
      -- with the value that was read
      with_value : (P : Type 0) → ((y : Fqcsid) → fqcsid_of x ≡ some y → read_fqcsid v ≡ value y → P) → P
      with_value P f = by_option (fqcsid_of x) refl read
        where
          by_option : (o : Option Fqcsid) → fqcsid_of x ≡ o → map_option value o ≡ some (read_fqcsid v) → P
          by_option none q h = let z : ◌≡◌ {A = ℕ} 0 1 = cc in absurd (omega arith)
          by_option (some y) q h = f y q cc

      node : ℕ
      node = x.node_type

      pub node_small : x.node_type < 16
      node_small = with_value (x.node_type < 16) (λ y q h. meant_small x y q)

      -- the rules' step, by what the code tests
      value_is : (y : Fqcsid) → fqcsid_of x ≡ some y → read_fqcsid v ≡ value y → {d : rules.Draft} → Means d c nodes words
          → csid_read kind alone p v d ≡ pick (csid_count_fits kind x.count && not (met x.node_type nodes)) (done (with_csid y d)) (refusal_at incorrect ie.fqcsid p)
      unfolding csid_read
      value_is y q h {d} m =
          rw (← other, h)
          (ap₂ (λ (a b : Bool). pick (a && not b) (done (with_csid y d)) (refusal_at incorrect ie.fqcsid p)) (meant_count x y q kind) (ap (λ (n : ℕ). member n d.nodes) (meant_node x y q) ∙ sym (m.seen x.node_type)))

      pub csid_count_lem : false ≡ csid_count_fits kind x.count → Follows (csid_read kind alone p v) c nodes words (fault why.incorrect ie.fqcsid p) nodes words
      unfolding cause_of
      csid_count_lem h =
          with_value _ (λ y q e. record {
            follows = λ d m.
                let w : csid_read kind alone p v d ≡ refusal_at incorrect ie.fqcsid p = value_is y q e m ∙ rw (← h) in
                step_fault (ap (λ (z : Reading rules.Draft). numbered z) w);
          })

      pub csid_repeat : true ≡ csid_count_fits kind x.count → (get_or nodes x.node_type 0 ≡ 0 → ⊥) → Follows (csid_read kind alone p v) c nodes words (fault why.incorrect ie.fqcsid p) nodes words
      unfolding cause_of
      csid_repeat h n =
          with_value _ (λ y q e. record {
            follows = λ d m.
                let w : csid_read kind alone p v d ≡ refusal_at incorrect ie.fqcsid p = value_is y q e m ∙ rw (← h, ne_eqb _ 0 n) in
                step_fault (ap (λ (z : Reading rules.Draft). numbered z) w);
          })

      module _ (h : true ≡ csid_count_fits kind x.count) (n : get_or nodes x.node_type 0 ≡ 0) (wide : length nodes ≡ 16) where
        went_on : (y : Fqcsid) → fqcsid_of x ≡ some y → read_fqcsid v ≡ value y → {d : rules.Draft} → Means d c nodes words → csid_read kind alone p v d ≡ done (with_csid y d)
        went_on y q e m = value_is y q e m ∙ rw (← h, n)

        low : x.node_type < length nodes
        low = let l = node_small in omega arith

        pub csid_taken_lem : row_width * c.rows + row_width ≤ length words → {z : Csid} {b : Draft} {words' : List ℕ} → z ≡ csid_taken x → (b ≡ with_row false c) × (words' ≡ put (row_width * c.rows) (csid_words z) words)
            → Follows (csid_read kind alone p v) c nodes words (Ok b) (set nodes x.node_type 1) words'
        csid_taken_lem room i to =
            rw (to.0, to.1, i)
            (with_value _ (λ y q e. record {
              follows = λ d m.
                  went (with_node x.node_type (with_item (sets_csid y) d)) (went_on y q e m ∙ rw (meant_node x y q))
                  (node_added (row_added m (sets_csid y) (csid_words (csid_taken x)) false (csid_row_lem x y q kind h) (unfold has_row is_update in refl) (unfold pdr_in in refl) refl room) x.node_type low);
            }))

-- ---- a null FQ-CSID that stands alone

module _ (s v : List ℕ) (kind : ℕ) where
  pub clear_long : (length v ≡ 0 → ⊥) → false ≡ (is_nil v && eqb kind modification && alone_in (elements body_place s))
  clear_long = go v
    where
      go : (xs : List ℕ) → (length xs ≡ 0 → ⊥) → false ≡ (is_nil xs && eqb kind modification && alone_in (elements body_place s))
      go [] h = absurd (h refl)
      go (x ∷ xs) h = refl

  pub clear_other : (kind ≡ modification → ⊥) → false ≡ (is_nil v && eqb kind modification && alone_in (elements body_place s))
  clear_other h = sym (rw (ne_eqb kind modification h) (none (is_nil v)))
    where
      none : (b : Bool) → (b && false && alone_in (elements body_place s)) ≡ false
      none true = refl
      none false = refl

  pub clear_alone : {n : ℕ} → length v ≡ 0 → kind ≡ modification → n ≡ length (keep (has_type ie.fqcsid) (elements 0 s)) → eqb n 1 ≡ (is_nil v && eqb kind modification && alone_in (elements body_place s))
  unfolding alone_in
  clear_alone {n} l k e = go v l
    where
      go : (xs : List ℕ) → length xs ≡ 0 → eqb n 1 ≡ (is_nil xs && eqb kind modification && eqb (length (keep (has_type ie.fqcsid) (elements body_place s))) 1)
      go [] h = rw (k, e, counts_alike ie.fqcsid 0 body_place s)
      go (x ∷ xs) h = absurd (omega arith)

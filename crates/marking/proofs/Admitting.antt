-- A session's slot, tested and marked: endpoints first, then PDRs.
-- Assumes nothing.
use Rattle.std.specs.Prelude.{Result, Ok}
use Rattle.marking.specs.declared.Broken.{Broken}
use Rattle.marking.specs.Refusal.{refusal}
use Rattle.std.proofs.Common.{◌≡◌, ℕ, suc, ◌+◌, ◌-◌, ◌≤◌, Bool, true, false, not, ◌&&◌, T, List, [], ◌∷◌, ◌++◌, map, length, get_or, sym, refl, ap, ◌∙◌, subst, ap₂, suc-le-suc, zero-le, le_trans, le_of_eq, add_assoc, zero-add, arith}
use mathlib.Core.Option.{Option, none, some}
use borrow.Author.Tests.{not-true, not-false}
use lib.ListN.{length-map}
use Rattle.octets.specs.Choice.{pick, flag, cons_option}
use Rattle.octets.specs.Octets.{slices}
use Rattle.octets.specs.Lists.{all, collect}
use Rattle.octets.proofs.Tests.{of_true}
use Rattle.rules.specs.Model.{Settings, Session, Holding, Pdr, session_holdings, session_teids, teid_of, pdr_holding, endpoint_holding, endpoint_id}
use Rattle.rules.specs.Layout.{view_pdr, view_endpoint, pdr_width, endpoint_width, csid_width, pdr_count_at, endpoint_count_at, csid_count_at}
use Rattle.rules.specs.Sound.{in_pool, records_allowed, marked}
use Rattle.laws.proofs.KeptRules.{records_kept}
use Rattle.pool.specs.Map.{mark, marks, new_marks, offsets}
use Rattle.pool.proofs.Marks.{length_marks}
use Rattle.marking.specs.Walk.{session_marks}
use Rattle.marking.proofs.MapWalk.{records_in_pool}
use Rattle.marking.proofs.SessionWalk.{session_split}
use Rattle.unit.specs.declared.Settings.{Settings as Unit}
use Rattle.unit.specs.Meaning.{settings_of}
use Rattle.records.specs.Kept.{pdr_sound, endpoint_sound, csid_sound, endpoint_ids}
use Rattle.records.specs.Slot.{area_sound, head_sound, pdr_area, endpoint_area, csid_area}
use Rattle.records.proofs.SlotLaws.{Counts, counts_headed, slot_of, view_slot}
use Rattle.records.proofs.Turns.{slot_areas}
use Rattle.marking.specs.Marking.{endpoint_holds, pdr_holds, slot_holds, marks_after, new_after, walked, Marked, slot_keeps, Admitted}
use Rattle.octets.proofs.Bools.{and-false}
use Rattle.octets.proofs.Numbers.{length_slices}

-- ---- marking one list of holds and then another

marks_both : (first : ℕ) (ws : List ℕ) (hs ks : List Holding) → marks_after first ws (hs ++ ks) ≡ marks_after first (marks_after first ws hs) ks
unfolding marks_after marks offsets
marks_both first ws [] ks = refl
marks_both first ws (h ∷ hs) ks = marks_both first (mark ws (h.teid - first)) hs ks

new_both : (first : ℕ) (ws : List ℕ) (hs ks : List Holding) → new_after first ws (hs ++ ks) ≡ new_after first ws hs + new_after first (marks_after first ws hs) ks
unfolding new_after marks_after new_marks marks offsets
new_both first ws [] ks = sym (zero-add (new_after first ws ks))
new_both first ws (h ∷ hs) ks =
    ap (λ (n : ℕ). flag (not (marked ws (h.teid - first))) + n) (new_both first (mark ws (h.teid - first)) hs ks)
    ∙ sym (add_assoc (flag (not (marked ws (h.teid - first)))) (new_after first (mark ws (h.teid - first)) hs) (new_after first (marks_after first (mark ws (h.teid - first)) hs) ks))

pub length_after : (first : ℕ) (ws : List ℕ) (hs : List Holding) → length (marks_after first ws hs) ≡ length ws
unfolding marks_after
length_after first ws hs = length_marks ws (offsets first (map teid_of hs))

-- ---- a slot's holds

abbrev pub endpoints_of : List ℕ → List Holding
endpoints_of xs = endpoint_holds (get_or xs endpoint_count_at 0) (endpoint_area xs)

abbrev pub pdrs_of : List ℕ → List Holding
pdrs_of xs = pdr_holds (get_or xs pdr_count_at 0) (pdr_area xs)

holds_are : (xs : List ℕ) → Counts xs → slot_holds xs ≡ endpoints_of xs ++ pdrs_of xs
unfolding slot_holds session_holdings slot_of endpoint_holds pdr_holds
holds_are xs c = ap session_holdings (view_slot xs c)

keeps_are : (xs : List ℕ) → Counts xs → (first : ℕ) (ws : List ℕ)
    → session_marks first ws [] (slot_holds xs) ≡ (session_marks first ws [] (endpoints_of xs) && session_marks first (marks_after first ws (endpoints_of xs)) [] (pdrs_of xs))
unfolding slot_holds slot_of endpoint_holds pdr_holds marks_after
keeps_are xs c first ws = ap (λ (x : Session). session_marks first ws [] (session_holdings x)) (view_slot xs c) ∙ session_split first ws (slot_of xs)

length_collect : (ps : List Pdr) → length (collect pdr_holding ps) ≤ length ps
unfolding collect
length_collect [] = zero-le
length_collect (p ∷ ps) = one (pdr_holding p) (length_collect ps)
  where
    one : (o : Option Holding) → length (collect pdr_holding ps) ≤ length ps → length (cons_option o (collect pdr_holding ps)) ≤ suc (length ps)
    one none h = le_trans h (omega arith)
    one (some k) h = suc-le-suc h

few_endpoints_lem : (xs : List ℕ) → length (endpoints_of xs) ≡ get_or xs endpoint_count_at 0
unfolding endpoint_holds
few_endpoints_lem xs =
    length-map (map view_endpoint (slices endpoint_width (get_or xs endpoint_count_at 0) (endpoint_area xs))) endpoint_holding
    ∙ length-map (slices endpoint_width (get_or xs endpoint_count_at 0) (endpoint_area xs)) view_endpoint
    ∙ length_slices endpoint_width (get_or xs endpoint_count_at 0) (endpoint_area xs)

few_pdrs_lem : (xs : List ℕ) → length (pdrs_of xs) ≤ get_or xs pdr_count_at 0
unfolding pdr_holds
few_pdrs_lem xs =
    le_trans (length_collect (map view_pdr (slices pdr_width (get_or xs pdr_count_at 0) (pdr_area xs))))
    (le_of_eq (length-map (slices pdr_width (get_or xs pdr_count_at 0) (pdr_area xs)) view_pdr ∙ length_slices pdr_width (get_or xs pdr_count_at 0) (pdr_area xs)))

-- ---- what an answer of a walk says

module _ {sound : Bool} {first : ℕ} {ws : List ℕ} {hs : List Holding} {r : Result ℕ Broken} {ws' : List ℕ} (m : Marked sound first ws hs r ws') where
  new_is : (n : ℕ) → r ≡ Ok n → ((sound && session_marks first ws [] hs) ≡ true) × (n ≡ new_after first ws hs)
  unfolding walked
  new_is n e = go (sound && session_marks first ws [] hs) (sym m.answer ∙ e)
    where
      go : (b : Bool) → pick b (Ok (new_after first ws hs)) refusal ≡ Ok n → (b ≡ true) × (n ≡ new_after first ws hs)
      go true e = (refl, (cc))
      go false e = absurd (let z : ◌≡◌ {A = ℕ} 0 1 = cc in omega arith)

  marked_long : (n : ℕ) → r ≡ Ok n → length ws' ≡ length ws
  marked_long n e = ap length (m.words n e) ∙ length_after first ws hs

  clash_is : r ≡ refusal → (sound && session_marks first ws [] hs) ≡ false
  unfolding walked
  clash_is e = go (sound && session_marks first ws [] hs) (sym m.answer ∙ e)
    where
      go : (b : Bool) → pick b (Ok (new_after first ws hs)) refusal ≡ refusal → b ≡ false
      go true e = absurd (let z : ◌≡◌ {A = ℕ} 0 1 = cc in omega arith)
      go false e = refl

pub records_pooled : (s : Settings) (x : Session) → T (records_allowed s x) → T (all (in_pool s) (session_teids x))
records_pooled s x a =
    let k = records_kept s x a in
    records_in_pool s x (map endpoint_id x.endpoints) k.pdrs k.endpoints

-- ---- the slot's tests in the order of the code

regroup : (p e c x y : Bool) → ((p && (e && c)) && (x && y)) ≡ (c && ((e && x) && (p && y)))
regroup true true true x y = refl
regroup true true false x y = refl
regroup true false true x y = refl
regroup true false false x y = refl
regroup false e false x y = refl
regroup false e true x y = sym (and-false (e && x))

module _ (u : Unit) (ws xs : List ℕ) (h : Bool) (q : h ≡ head_sound xs) where
  abbrev s : Settings
  s = settings_of u

  abbrev first : ℕ
  first = u.first

  abbrev pub csids_sound : Bool
  csids_sound = area_sound csid_sound csid_width 1 (get_or xs csid_count_at 0) (csid_area xs)

  abbrev pub endpoints_sound : Bool
  endpoints_sound = area_sound (endpoint_sound s) endpoint_width 1 (get_or xs endpoint_count_at 0) (endpoint_area xs)

  abbrev pub pdrs_sound : Bool
  pdrs_sound = area_sound (pdr_sound s (endpoint_ids (get_or xs endpoint_count_at 0) (endpoint_area xs))) pdr_width 2 (get_or xs pdr_count_at 0) (pdr_area xs)

  clashes : (w : List ℕ) → slot_keeps s ws xs ≡ false → Admitted s ws xs refusal w
  clashes w e = record {
    answer = sym (rw e);
    words = λ n z. absurd (let u : ◌≡◌ {A = ℕ} 0 1 = cc in omega arith);
    few = λ n z. absurd (let u : ◌≡◌ {A = ℕ} 0 1 = cc in omega arith);
  }

  pub admit_broken : (w : List ℕ) → not h ≡ true → Admitted s ws xs refusal w
  unfolding slot_keeps
  admit_broken w k = clashes w (rw (slot_areas s xs, ← q, not-true h k))

  module _ (k : not h ≡ false) where
    pub slot_counts : Counts xs
    slot_counts = counts_headed xs (of_true (sym q ∙ not-false h k))

    keeps_is : slot_keeps s ws xs
        ≡ (csids_sound && ((endpoints_sound && session_marks first ws [] (endpoints_of xs)) && (pdrs_sound && session_marks first (marks_after first ws (endpoints_of xs)) [] (pdrs_of xs))))
    unfolding slot_keeps settings_of
    keeps_is =
        rw (slot_areas s xs, ← q, not-false h k, keeps_are xs slot_counts first ws)
        (regroup pdrs_sound endpoints_sound csids_sound (session_marks first ws [] (endpoints_of xs)) (session_marks first (marks_after first ws (endpoints_of xs)) [] (pdrs_of xs)))

    module _ (c : Bool) (qc : c ≡ csids_sound) where
      pub admit_csids : (w : List ℕ) → not c ≡ true → Admitted s ws xs refusal w
      admit_csids w kc = clashes w (keeps_is ∙ rw (← qc, not-true c kc))

      module _ (kc : not c ≡ false) (ends : Result ℕ Broken) (w : List ℕ) (me : Marked endpoints_sound first ws (endpoints_of xs) ends w) where
        areas_keep : slot_keeps s ws xs ≡ ((endpoints_sound && session_marks first ws [] (endpoints_of xs)) && (pdrs_sound && session_marks first (marks_after first ws (endpoints_of xs)) [] (pdrs_of xs)))
        areas_keep = keeps_is ∙ rw (← qc, not-false c kc)

        pub ends_long : (e : ℕ) → ends ≡ Ok e → length w ≡ length ws
        ends_long e z = marked_long me e z

        pub admit_ends : (w' : List ℕ) → ends ≡ refusal → Admitted s ws xs refusal w'
        admit_ends w' z = clashes w' (areas_keep ∙ rw (clash_is me z))

        module _ (e : ℕ) (ze : ends ≡ Ok e) (pdrs : Result ℕ Broken) (w₁ : List ℕ) (mp : Marked pdrs_sound first w (pdrs_of xs) pdrs w₁) where
          pdrs_after_lem : Marked pdrs_sound first (marks_after first ws (endpoints_of xs)) (pdrs_of xs) pdrs w₁
          pdrs_after_lem = subst (λ (v : List ℕ). Marked pdrs_sound first v (pdrs_of xs) pdrs w₁) (me.words e ze) mp

          pub admit_rules : (w' : List ℕ) → pdrs ≡ refusal → Admitted s ws xs refusal w'
          admit_rules w' z = clashes w' (areas_keep ∙ (λ i. (new_is me e ze).0 i && clash_is pdrs_after_lem z i))

          pub admit_few : (p : ℕ) → pdrs ≡ Ok p → e + p ≤ 24
          admit_few p zp = omega (arith, me.few e ze, mp.few p zp, few_endpoints_lem xs, few_pdrs_lem xs, slot_counts.endpoints, slot_counts.pdrs)

          pub admit_whole : (p : ℕ) → pdrs ≡ Ok p → Admitted s ws xs (Ok (e + p)) w₁
          unfolding settings_of
          admit_whole p zp =
              let ne = new_is me e ze in
              let np = new_is pdrs_after_lem p zp in
              let yes' : slot_keeps s ws xs ≡ true = areas_keep ∙ (λ i. ne.0 i && np.0 i) in
              let count : new_after first ws (slot_holds xs) ≡ e + p =
              ap (new_after first ws) (holds_are xs slot_counts) ∙ new_both first ws (endpoints_of xs) (pdrs_of xs) ∙ sym (ap₂ ◌+◌ ne.1 np.1) in
              let map' : w₁ ≡ marks_after first ws (slot_holds xs) =
              pdrs_after_lem.words p zp ∙ sym (ap (marks_after first ws) (holds_are xs slot_counts) ∙ marks_both first ws (endpoints_of xs) (pdrs_of xs)) in
              record {
                answer = sym (λ i. pick (yes' i) (Ok (count i)) refusal);
                words = λ n z. map';
                few = λ n z. let same : e + p ≡ n = cc in omega (arith, admit_few p zp);
              }

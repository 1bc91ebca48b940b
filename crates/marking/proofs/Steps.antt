-- The loops that mark holds: what is left gives the same answer, the same map and the same number of new marks.
-- Assumes nothing.
use Rattle.std.specs.Prelude.{Result, Ok}
use Rattle.marking.specs.declared.Broken.{Broken}
use Rattle.marking.specs.Refusal.{refusal}
use Rattle.std.proofs.Common.{◌≡◌, ℕ, ◌+◌, ◌-◌, ◌≤◌, Bool, true, false, not, ◌&&◌, ◌||◌, List, [], ◌∷◌, ◌++◌, map, length, sym, refl, ap, ◌∙◌, subst, zero-le, le_trans, le_of_eq, add-zero, add_assoc, zero-add, arith, lit≤}
use mathlib.Core.Option.{Option, none, some}
use Rattle.octets.specs.Choice.{pick, flag, cons_option}
use Rattle.octets.specs.Lists.{collect}
use Rattle.octets.proofs.Bools.{or-false}
use Rattle.rules.specs.Model.{Holding, Pdr, Endpoint, pdr_holding, endpoint_holding, tunnel_holding}
use Rattle.rules.specs.Sound.{marked}
use Rattle.pool.specs.Map.{mark, marks, new_marks, offsets}
use Rattle.pool.proofs.Marks.{length_mark}
use Rattle.marking.specs.Walk.{joins, session_marks}
use Rattle.marking.proofs.RecordWalk.{marks_nil, record_none, record_some, look_none}
use Rattle.marking.proofs.SessionWalk.{endpoint_step}
use Rattle.marking.specs.Marking.{marks_after, new_after, step_of, words_of, walked, Marked}

-- ---- one hold more

marks_cons : (first : ℕ) (ws : List ℕ) (h : Holding) (hs : List Holding) → marks_after first ws (h ∷ hs) ≡ marks_after first (mark ws (h.teid - first)) hs
unfolding marks_after marks offsets
marks_cons first ws h hs = refl

new_cons : (first : ℕ) (ws : List ℕ) (h : Holding) (hs : List Holding)
    → new_after first ws (h ∷ hs) ≡ flag (not (marked ws (h.teid - first))) + new_after first (mark ws (h.teid - first)) hs
unfolding new_after new_marks offsets
new_cons first ws h hs = refl

flag_few : (b : Bool) → flag b ≤ 1
flag_few true = lit≤ tt
flag_few false = lit≤ tt

-- what an answer of one step says
step_new : (first : ℕ) (ws : List ℕ) (earlier : List Holding) (h : Holding) (k : ℕ) → step_of first ws earlier (some h) ≡ Ok k
    → ((not (marked ws (h.teid - first)) || joins earlier h) ≡ true) × (k ≡ flag (not (marked ws (h.teid - first))))
unfolding step_of
step_new first ws earlier h k e = go (marked ws (h.teid - first)) (joins earlier h) e
  where
    go : (b j : Bool) → pick {X = Result ℕ Broken} b (pick j (Ok 0) refusal) (Ok 1) ≡ Ok k → ((not b || j) ≡ true) × (k ≡ flag (not b))
    go true true e = (refl, (cc))
    go true false e = absurd (let z : ◌≡◌ {A = ℕ} 0 1 = cc in omega arith)
    go false j e = (refl, (cc))

step_bad : (first : ℕ) (ws : List ℕ) (earlier : List Holding) (h : Holding) → step_of first ws earlier (some h) ≡ refusal → (not (marked ws (h.teid - first)) || joins earlier h) ≡ false
unfolding step_of
step_bad first ws earlier h e = go (marked ws (h.teid - first)) (joins earlier h) e
  where
    go : (b j : Bool) → pick {X = Result ℕ Broken} b (pick j (Ok 0) refusal) (Ok 1) ≡ refusal → (not b || j) ≡ false
    go true true e = absurd (let z : ◌≡◌ {A = ℕ} 0 1 = cc in omega arith)
    go true false e = refl
    go false j e = absurd (let z : ◌≡◌ {A = ℕ} 0 1 = cc in omega arith)

pub step_few : (first : ℕ) (ws : List ℕ) (earlier : List Holding) (o : Option Holding) (k : ℕ) → step_of first ws earlier o ≡ Ok k → k ≤ 1
unfolding step_of
step_few first ws earlier none k e = let z : k ≡ 0 = cc in omega arith
step_few first ws earlier (some h) k e = let t = step_new first ws earlier h k e in omega (arith, t.1, flag_few (not (marked ws (h.teid - first))))

hold_none : (a : Pdr) (left : List Pdr) → pdr_holding a ≡ none → collect pdr_holding (a ∷ left) ≡ collect pdr_holding left
unfolding collect
hold_none a left e = ap (λ (o : Option Holding). cons_option o (collect pdr_holding left)) e

hold_some : (a : Pdr) (h : Holding) (left : List Pdr) → pdr_holding a ≡ some h → collect pdr_holding (a ∷ left) ≡ h ∷ collect pdr_holding left
unfolding collect
hold_some a h left e = ap (λ (o : Option Holding). cons_option o (collect pdr_holding left)) e

new_few : (first : ℕ) (ws : List ℕ) (hs : List Holding) → new_after first ws hs ≤ length hs
unfolding new_after new_marks offsets
new_few first ws [] = zero-le
new_few first ws (h ∷ hs) = omega (arith, flag_few (not (marked ws (h.teid - first))), new_few first (mark ws (h.teid - first)) hs)

-- What holds in a loop that marks the holds hs: ws₀ is the map before it, ws the map at its head, left are the holds to come, and new
-- were new.
pub record Marking (first : ℕ) (ws₀ : List ℕ) (hs : List Holding) (ws : List ℕ) (earlier left : List Holding) (new : ℕ) : Type 0 where
  pub long : length ws ≡ length ws₀
  pub keeps : session_marks first ws earlier left ≡ session_marks first ws₀ [] hs
  pub words : marks_after first ws left ≡ marks_after first ws₀ hs
  pub count : new + new_after first ws left ≡ new_after first ws₀ hs

module _ {first : ℕ} {ws₀ : List ℕ} {hs : List Holding} where
  pub marking_start : Marking first ws₀ hs ws₀ [] hs 0
  marking_start = record { long = refl; keeps = refl; words = refl; count = zero-add (new_after first ws₀ hs) }

  -- a hold that is accepted
  marking_turn : {ws : List ℕ} {earlier left : List Holding} {new : ℕ} (h : Holding) (earlier' : List Holding) (test : Bool) (k : ℕ)
      → Marking first ws₀ hs ws earlier (h ∷ left) new
      → session_marks first ws earlier (h ∷ left) ≡ (test && session_marks first (mark ws (h.teid - first)) earlier' left)
      → test ≡ true → k ≡ flag (not (marked ws (h.teid - first)))
      → Marking first ws₀ hs (mark ws (h.teid - first)) earlier' left (new + k)
  marking_turn {ws} {earlier} {left} {new} h earlier' test k m step t e =
      record {
        long = length_mark ws (h.teid - first) ∙ m.long;
        keeps = sym (step ∙ ap (λ (b : Bool). b && session_marks first (mark ws (h.teid - first)) earlier' left) t) ∙ m.keeps;
        words = sym (marks_cons first ws h left) ∙ m.words;
        count = add_assoc new k (new_after first (mark ws (h.teid - first)) left)
            ∙ ap (λ (n : ℕ). new + n) (ap (λ (j : ℕ). j + new_after first (mark ws (h.teid - first)) left) e ∙ sym (new_cons first ws h left)) ∙ m.count;
      }

  -- one that is not
  marking_bad : {ws : List ℕ} {earlier left : List Holding} {new : ℕ} (h : Holding) (earlier' : List Holding) (test : Bool)
      → Marking first ws₀ hs ws earlier (h ∷ left) new
      → session_marks first ws earlier (h ∷ left) ≡ (test && session_marks first (mark ws (h.teid - first)) earlier' left)
      → test ≡ false → session_marks first ws₀ [] hs ≡ false
  marking_bad {ws} {earlier} {left} h earlier' test m step t =
      sym m.keeps ∙ step ∙ ap (λ (b : Bool). b && session_marks first (mark ws (h.teid - first)) earlier' left) t

  pub marking_end : {ws : List ℕ} {earlier : List Holding} {new : ℕ} (sound : Bool) → sound ≡ true → Marking first ws₀ hs ws earlier [] new → Marked sound first ws₀ hs (Ok new) ws
  unfolding walked marks_after new_after marks new_marks offsets
  marking_end {ws} {earlier} {new} sound e m =
      let yes' : session_marks first ws₀ [] hs ≡ true = sym m.keeps ∙ marks_nil first ws earlier in
      let few : new ≤ length hs = le_trans (le_of_eq (sym (add-zero new) ∙ m.count)) (new_few first ws₀ hs) in
      record { answer = sym (rw (e, yes', ← m.count) (ap Ok (add-zero new))); words = λ n e. m.words; few = λ n e. let same : new ≡ n = cc in omega arith }

  -- ---- endpoints: each has to be the first on its TEID

  module _ {ws : List ℕ} {new : ℕ} (e : Endpoint) (es : List Endpoint) (m : Marking first ws₀ hs ws [] (map endpoint_holding (e ∷ es)) new) where
    abbrev offset : ℕ
    offset = e.local.teid - first

    first_on : (not (marked ws offset) || joins [] (endpoint_holding e)) ≡ not (marked ws offset)
    unfolding collect
    first_on = ap (λ (j : Bool). not (marked ws offset) || j) (look_none (endpoint_holding e)) ∙ or-false (not (marked ws offset))

    pub endpoint_turn : (k : ℕ) → step_of first ws [] (some (endpoint_holding e)) ≡ Ok k
        → Marking first ws₀ hs (words_of first ws (some (endpoint_holding e))) [] (map endpoint_holding es) (new + k)
    unfolding endpoint_holding tunnel_holding words_of
    endpoint_turn k q =
        let t = step_new first ws [] (endpoint_holding e) k q in
        marking_turn (endpoint_holding e) [] (not (marked ws offset)) k m (endpoint_step first ws e es) (sym first_on ∙ t.0) t.1

    pub endpoint_clash : step_of first ws [] (some (endpoint_holding e)) ≡ refusal → session_marks first ws₀ [] hs ≡ false
    unfolding endpoint_holding tunnel_holding
    endpoint_clash q =
        marking_bad (endpoint_holding e) [] (not (marked ws offset)) m (endpoint_step first ws e es) (sym first_on ∙ step_bad first ws [] (endpoint_holding e) q)

  -- ---- PDRs, some of which hold a TEID

  module _ {ws : List ℕ} {new : ℕ} (done : List Pdr) (a : Pdr) (left : List Pdr)
      (m : Marking first ws₀ hs ws (collect pdr_holding done) (collect pdr_holding (a ∷ left)) new) where
    turn_with : (o : Option Holding) → pdr_holding a ≡ o → (k : ℕ) → step_of first ws (collect pdr_holding done) o ≡ Ok k
        → Marking first ws₀ hs (words_of first ws o) (collect pdr_holding (done ++ a ∷ [])) (collect pdr_holding left) (new + k)
    unfolding step_of words_of
    turn_with none e k q =
        let z : k ≡ 0 = cc in
        let same = hold_none a left e in
        record {
          long = m.long;
          keeps = sym (record_none pdr_holding first ws done a left e) ∙ m.keeps;
          words = ap (marks_after first ws) (sym same) ∙ m.words;
          count = (λ i. (ap (λ (n : ℕ). new + n) z ∙ add-zero new) i + new_after first ws (sym same i)) ∙ m.count;
        }
    turn_with (some h) e k q =
        let same = hold_some a h left e in
        let t = step_new first ws (collect pdr_holding done) h k q in
        marking_turn h (collect pdr_holding (done ++ a ∷ [])) (not (marked ws (h.teid - first)) || joins (collect pdr_holding done) h) k
        (subst (λ (l : List Holding). Marking first ws₀ hs ws (collect pdr_holding done) l new) same m)
        (ap (session_marks first ws (collect pdr_holding done)) (sym same) ∙ record_some pdr_holding first ws done a h left e) t.0 t.1

    pub pdr_turn : (k : ℕ) → step_of first ws (collect pdr_holding done) (pdr_holding a) ≡ Ok k
        → Marking first ws₀ hs (words_of first ws (pdr_holding a)) (collect pdr_holding (done ++ a ∷ [])) (collect pdr_holding left) (new + k)
    pdr_turn k q = turn_with (pdr_holding a) refl k q

    clash_with : (o : Option Holding) → pdr_holding a ≡ o → step_of first ws (collect pdr_holding done) o ≡ refusal → session_marks first ws₀ [] hs ≡ false
    unfolding step_of
    clash_with none e q = absurd (let z : ◌≡◌ {A = ℕ} 0 1 = cc in omega arith)
    clash_with (some h) e q =
        let same = hold_some a h left e in
        marking_bad h (collect pdr_holding (done ++ a ∷ [])) (not (marked ws (h.teid - first)) || joins (collect pdr_holding done) h)
        (subst (λ (l : List Holding). Marking first ws₀ hs ws (collect pdr_holding done) l new) same m)
        (ap (session_marks first ws (collect pdr_holding done)) (sym same) ∙ record_some pdr_holding first ws done a h left e) (step_bad first ws (collect pdr_holding done) h q)

    pub pdr_clash : step_of first ws (collect pdr_holding done) (pdr_holding a) ≡ refusal → session_marks first ws₀ [] hs ≡ false
    pdr_clash q = clash_with (pdr_holding a) refl q

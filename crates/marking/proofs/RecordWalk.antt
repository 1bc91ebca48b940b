-- The walk over records, some of which hold a TEID: one record at a time, and the look back over the records passed.
-- `done` are the records of one kind passed, and `left` those to come; the holds of endpoints come before those of PDRs and may not be shared.
-- Assumes nothing.
use Rattle.std.proofs.Common.{◌≡◌, ℕ, ◌-◌, Bool, true, false, not, ◌&&◌, ◌||◌, T, eqb, List, [], ◌∷◌, ◌++◌, map, sym, refl, ap, ◌∙◌, ap₂, append_assoc, append-nil}
use mathlib.Core.Bool.{and_assoc, or-false}
use mathlib.Core.Option.{Option, none, some}
use Rattle.octets.specs.Choice.{same_bool, cons_option}
use Rattle.octets.specs.Lists.{all, collect}
use Rattle.octets.proofs.Tests.{all_head, all_tail, all_cons, is_false}
use Rattle.octets.proofs.Bools.{and-true}
use Rattle.rules.specs.Model.{Holding, teid_of}
use Rattle.rules.specs.Sound.{share_tests, marked}
use Rattle.pool.specs.Map.{mark, marks, offsets}
use Rattle.marking.specs.Walk.{on_same, shared_with, joins, session_marks}
use Rattle.marking.proofs.Joining.{joins_nil, joins_cons, joins_append}

-- ---- lists of holds

pub marks_nil : (first : ℕ) (ws : List ℕ) (earlier : List Holding) → session_marks first ws earlier [] ≡ true
unfolding session_marks
marks_nil first ws earlier = refl

pub marks_step : (first : ℕ) (ws : List ℕ) (earlier : List Holding) (h : Holding) (hs : List Holding)
    → session_marks first ws earlier (h ∷ hs)
    ≡ ((not (marked ws (h.teid - first)) || joins earlier h) && session_marks first (mark ws (h.teid - first)) (earlier ++ h ∷ []) hs)
unfolding session_marks
marks_step first ws earlier h hs = refl

-- one list of holds and then another
pub marks_more : (first : ℕ) (ws : List ℕ) (earlier hs ks : List Holding)
    → session_marks first ws earlier (hs ++ ks)
    ≡ (session_marks first ws earlier hs && session_marks first (marks ws (offsets first (map teid_of hs))) (earlier ++ hs) ks)
unfolding session_marks marks offsets
marks_more first ws earlier [] ks = ap (λ (l : List Holding). session_marks first ws l ks) (sym (append-nil earlier))
marks_more first ws earlier (h ∷ hs) ks =
    ap (λ (b : Bool). (not (marked ws (h.teid - first)) || joins earlier h) && b)
    (marks_more first (mark ws (h.teid - first)) (earlier ++ h ∷ []) hs ks
    ∙ ap (λ (l : List Holding). session_marks first (mark ws (h.teid - first)) (earlier ++ h ∷ []) hs && session_marks first (marks (mark ws (h.teid - first)) (offsets first (map teid_of hs))) l ks)
    (append_assoc earlier (h ∷ []) hs))
    ∙ sym (and_assoc (not (marked ws (h.teid - first)) || joins earlier h) (session_marks first (mark ws (h.teid - first)) (earlier ++ h ∷ []) hs) _)

-- ---- holds that may not be shared

abbrev pub unshared : Holding → Bool
unshared h = not h.shared

-- they are passed over in the look back
joins_past : (us hs : List Holding) (h : Holding) → T (all unshared us) → joins (us ++ hs) h ≡ joins hs h
unfolding on_same
joins_past [] hs h g = refl
joins_past (u ∷ us) hs h g =
    joins_cons h u (us ++ hs)
    ∙ ap (λ (b : Bool). ((b && eqb u.teid h.teid) && shared_with h u) || joins (us ++ hs) h) (is_false u.shared (all_head unshared u us g))
    ∙ joins_past us hs h (all_tail unshared u us g)

marks_past : (first : ℕ) (ws : List ℕ) (us earlier hs : List Holding) → T (all unshared us) → session_marks first ws (us ++ earlier) hs ≡ session_marks first ws earlier hs
unfolding session_marks
marks_past first ws us earlier [] g = refl
marks_past first ws us earlier (h ∷ hs) g =
    let past = joins_past us earlier h g in
    let ih = marks_past first (mark ws (h.teid - first)) us (earlier ++ h ∷ []) hs g in
    (λ i. (not (marked ws (h.teid - first)) || past i) && session_marks first (mark ws (h.teid - first)) (append_assoc us earlier (h ∷ []) i) hs)
    ∙ ap (λ (b : Bool). (not (marked ws (h.teid - first)) || joins earlier h) && b) ih

-- endpoints first, then PDRs, each with a look back at its own kind
pub marks_split : (first : ℕ) (ws : List ℕ) (us hs : List Holding) → T (all unshared us)
    → session_marks first ws [] (us ++ hs) ≡ (session_marks first ws [] us && session_marks first (marks ws (offsets first (map teid_of us))) [] hs)
marks_split first ws us hs g =
    marks_more first ws [] us hs
    ∙ ap (λ (b : Bool). session_marks first ws [] us && b)
    (ap (λ (l : List Holding). session_marks first (marks ws (offsets first (map teid_of us))) l hs) (sym (append-nil us))
    ∙ marks_past first (marks ws (offsets first (map teid_of us))) us [] hs g)

-- a hold that may not be shared has to be the first on its TEID
share_no : (h k : Holding) → T (unshared h) → shared_with h k ≡ false
unfolding shared_with share_tests
share_no h k g = one k.shared h.shared _ g
  where
    one : (a b c : Bool) → T (not b) → (a && (b && c)) ≡ false
    one a true c x = absurd x
    one true false c x = refl
    one false false c x = refl

joins_no : (earlier : List Holding) (h : Holding) → T (unshared h) → joins earlier h ≡ false
joins_no [] h g = joins_nil h
joins_no (k ∷ ks) h g = joins_cons h k ks ∙ one (on_same h k) (share_no h k g) (joins_no ks h g)
  where
    one : (b : Bool) {c d : Bool} → c ≡ false → d ≡ false → ((b && c) || d) ≡ false
    one true e f = λ i. e i || f i
    one false e f = f

pub marks_own : (first : ℕ) (ws : List ℕ) (h : Holding) (hs : List Holding) → T (unshared h)
    → session_marks first ws [] (h ∷ hs) ≡ (not (marked ws (h.teid - first)) && session_marks first (mark ws (h.teid - first)) [] hs)
marks_own first ws h hs g =
    marks_step first ws [] h hs
    ∙ ap₂ ◌&&◌ (ap (λ (b : Bool). not (marked ws (h.teid - first)) || b) (joins_no [] h g) ∙ or-false (not (marked ws (h.teid - first))))
    (marks_past first (mark ws (h.teid - first)) (h ∷ []) [] hs (one g))
  where
    one : T (unshared h) → T (all unshared (h ∷ []))
    one x = all_cons unshared h [] x (unfold all in tt)

-- ---- PDRs

-- the look back: a PDR's hold on the same TEID, with the same use
look_pdr : (h k : Holding) → h.shared ≡ true → k.shared ≡ true
    → joins (k ∷ []) h ≡ (eqb k.teid h.teid && (same_bool k.v4 h.v4 && (same_bool k.v6 h.v6 && eqb k.source h.source)))
unfolding on_same shared_with share_tests
look_pdr h k e f =
    joins_cons h k []
    ∙ (λ i. ((f i && eqb k.teid h.teid) && (f i && (e i && (same_bool k.v4 h.v4 && (same_bool k.v6 h.v6 && and-true (eqb k.source h.source) i))))) || joins_nil h i)
    ∙ or-false _

-- ---- records of one kind

module _ {A : Type 0} (hold : A → Option Holding) where
  collect_last : (done : List A) (a : A) → collect hold (done ++ a ∷ []) ≡ collect hold done ++ cons_option (hold a) []
  unfolding collect
  collect_last [] a = refl
  collect_last (d ∷ done) a = ap (cons_option (hold d)) (collect_last done a) ∙ sym (one (hold d) (collect hold done))
    where
      one : (o : Option Holding) (hs : List Holding) → cons_option o hs ++ cons_option (hold a) [] ≡ cons_option o (hs ++ cons_option (hold a) [])
      one none hs = refl
      one (some h) hs = refl

  collect_none : (a : A) (left : List A) → hold a ≡ none → collect hold (a ∷ left) ≡ collect hold left
  unfolding collect
  collect_none a left e = ap (λ (o : Option Holding). cons_option o (collect hold left)) e

  collect_some : (a : A) (h : Holding) (left : List A) → hold a ≡ some h → collect hold (a ∷ left) ≡ h ∷ collect hold left
  unfolding collect
  collect_some a h left e = ap (λ (o : Option Holding). cons_option o (collect hold left)) e

  -- a record that holds none
  pub record_none : (first : ℕ) (ws : List ℕ) (done : List A) (a : A) (left : List A) → hold a ≡ none
      → session_marks first ws (collect hold done) (collect hold (a ∷ left)) ≡ session_marks first ws (collect hold (done ++ a ∷ [])) (collect hold left)
  record_none first ws done a left e =
      let passed : collect hold (done ++ a ∷ []) ≡ collect hold done = collect_last done a ∙ ap (λ (o : Option Holding). collect hold done ++ cons_option o []) e ∙ append-nil (collect hold done) in
      λ i. session_marks first ws (sym passed i) (collect_none a left e i)

  -- one that holds a TEID
  pub record_some : (first : ℕ) (ws : List ℕ) (done : List A) (a : A) (h : Holding) (left : List A) → hold a ≡ some h
      → session_marks first ws (collect hold done) (collect hold (a ∷ left))
      ≡ ((not (marked ws (h.teid - first)) || joins (collect hold done) h) && session_marks first (mark ws (h.teid - first)) (collect hold (done ++ a ∷ [])) (collect hold left))
  record_some first ws done a h left e =
      let passed : collect hold (done ++ a ∷ []) ≡ collect hold done ++ h ∷ [] = collect_last done a ∙ ap (λ (o : Option Holding). collect hold done ++ cons_option o []) e in
      ap (session_marks first ws (collect hold done)) (collect_some a h left e)
      ∙ marks_step first ws (collect hold done) h (collect hold left)
      ∙ ap (λ (l : List Holding). (not (marked ws (h.teid - first)) || joins (collect hold done) h) && session_marks first (mark ws (h.teid - first)) l (collect hold left)) (sym passed)

  -- the look back from the last of some records
  pub look_back : (ds : List A) (d : A) (h : Holding) → joins (collect hold (ds ++ d ∷ [])) h ≡ (joins (collect hold ds) h || joins (cons_option (hold d) []) h)
  look_back ds d h = ap (λ (hs : List Holding). joins hs h) (collect_last ds d) ∙ joins_append h (collect hold ds) (cons_option (hold d) [])

pub look_none : (h : Holding) → joins (cons_option none []) h ≡ false
look_none h = joins_nil h

pub look_some : (h k : Holding) → h.shared ≡ true → k.shared ≡ true
    → joins (cons_option (some k) []) h ≡ (eqb k.teid h.teid && (same_bool k.v4 h.v4 && (same_bool k.v6 h.v6 && eqb k.source h.source)))
look_some h k e f = look_pdr h k e f

-- A group's end, and a turn of the loop over its elements. Assumes nothing.
use mathlib.Core.Path.{◌≡◌, refl, sym, ap, ◌∙◌}
use mathlib.Core.Logic.{inl, inr}
use Prim.Native.Nat.{ℕ, zero, suc, ◌+◌, ◌-◌, ◌^◌, ◌≤◌, ◌<◌}
use native.Mathlib.Nat.{le_trans}
use native.Mathlib.Omega.{arith}
use mathlib.Core.Bool.{Bool, true, false, ◌&&◌}
use mathlib.Core.Option.{Option, none, some}
use mathlib.Core.List.{List, [], ◌∷◌}
use lib.ListN.{length, take, drop, length-drop}
use lib.Dec.{eqb}
use borrow.Author.Tests.{ne_eqb}
use Rattle.octets.specs.Choice.{pick}
use Rattle.octets.specs.Lists.{member}
use Rattle.octets.proofs.Put.{part_from}
use Rattle.rules.specs.Elements.{Refusal, missing, conditional, incorrect, cause_of, Fteid}
use Rattle.rules.specs.Message.{inside, Element, elements, places_of}
use Rattle.rules.specs.Reading.{Reading, faulty, done, refusal_at, and_then, requiring, Members, with_pdi, member_there, pdi_in, value_read, member_read, members_read, unopened, pdi_end, pdi_read, pdr_item, endpoint_item, change_from, item_from}
use Rattle.rules.specs.Types as ie
use Rattle.rules.specs.Causes as why
use Rattle.plan.specs.Rows.{word, present, row_local, row_fteid}
use Rattle.plan.specs.Words as its
use Rattle.frame.proofs.Among.{OneOf}
use Rattle.frame.proofs.Walk.{value_places}
use Rattle.laws.proofs.MessageLaws.{el}
use Rattle.frame.proofs.Front.{Front, behind}
use Rattle.std.specs.Prelude.{Result, Ok, Err}
use Rattle.std.specs.Result.{result_and}
use Rattle.reading.specs.declared.Fault.{Fault}
use Rattle.reading.specs.Verdicts.{stopped, numbered, outcome, fault, fine}
use Rattle.reading.specs.Rows.{there_word, row_members, Tidy, Reads, own_read, is_pdi, closing, closed_read}
use Rattle.reading.proofs.Places.{pdi_in_create, pdi_type}
use Rattle.reading.proofs.MemberLaws.{stops, is_done}

-- ---- what is missing

need_then : {A B C : Type 0} (c : Refusal) (t p : ℕ) (o : Option A) (k : A → Reading B) (j : B → Reading C) → and_then (requiring c t p o k) j ≡ requiring c t p o (λ x. and_then (k x) j)
need_then c t p none k j = refl
need_then c t p (some a) k j = refl

-- a word that is 0 is a member that is missing
module _ {A : Type 0} (m : A) (next : Result (Unit {0}) Fault) (c : Refusal) (t p : ℕ) where
  lacks : (a v : ℕ) (k : ℕ → Reading A) → a ≤ 1 → outcome next m ≡ numbered (k v) → outcome (pick (eqb a 0) (fault (cause_of c) t p) next) m ≡ numbered (requiring c t p (present a v) k)
  unfolding present
  lacks zero v k l h = refl
  lacks (suc zero) v k l h = h
  lacks (suc (suc a)) v k l h = absurd (omega arith)

  lacks_then : {B : Type 0} (a v : ℕ) (k : ℕ → Reading B) (j : B → Reading A) → a ≤ 1 → outcome next m ≡ numbered (and_then (k v) j)
      → outcome (pick (eqb a 0) (fault (cause_of c) t p) next) m ≡ numbered (and_then (requiring c t p (present a v) k) j)
  lacks_then a v k j l h = lacks a v (λ x. and_then (k x) j) l h ∙ sym (ap (λ (x : Reading A). numbered x) (need_then c t p (present a v) k j))

  lacks_pdi : {B : Type 0} (a : ℕ) (r : Reading B) (j : B → Reading A) → a ≤ 1 → outcome next m ≡ numbered (and_then r j)
      → outcome (pick (eqb a 0) (fault (cause_of c) t p) next) m ≡ numbered (and_then (pick (eqb a 1) r (refusal_at c t p)) j)
  lacks_pdi zero r j l h = refl
  lacks_pdi (suc zero) r j l h = h
  lacks_pdi (suc (suc a)) r j l h = absurd (omega arith)

  lacks_local : {B : Type 0} (b : Bool) (v : Fteid) (k : Fteid → Reading B) (j : B → Reading A) → outcome next m ≡ numbered (and_then (k v) j)
      → outcome (pick b (fault (cause_of c) t p) next) m ≡ numbered (and_then (requiring c t p (pick b none (some v)) k) j)
  lacks_local true v k j h = refl
  lacks_local false v k j h = h

-- the answers of `require`, one in the other, and a group's end
abbrev Required : List ℕ → ℕ → ℕ → ℕ → (Result (Unit {0}) Fault) → (Result (Unit {0}) Fault) → Type 0
Required row c p t next r = r ≡ pick (eqb (word (there_word t) row) 0) (fault c t p) next

-- a requirement and what follows it, where that is met
and_pick : (b : Bool) (f : Fault) (s : Result (Unit {0}) Fault) → result_and (pick b (Err f) fine) s ≡ pick b (Err f) s
and_pick true f s = refl
and_pick false f s = refl

and_assoc : (a b c : Result (Unit {0}) Fault) → result_and (result_and a b) c ≡ result_and a (result_and b c)
and_assoc (Ok x) b c = refl
and_assoc (Err f) b c = refl

pub required_and : (row : List ℕ) (c p t : ℕ) (r next : Result (Unit {0}) Fault) → Required row c p t fine r → Required row c p t next (result_and r next)
required_and row c p t r next h = rw h (and_pick (eqb (word (there_word t) row) 0) _ next)

pub and_four : (r₁ r₂ r₃ r₄ x y z : Result (Unit {0}) Fault) → x ≡ result_and r₁ r₂ → y ≡ result_and x r₃ → z ≡ result_and y r₄ → z ≡ result_and r₁ (result_and r₂ (result_and r₃ r₄))
and_four r₁ r₂ r₃ r₄ x y z e f g = rw (g, f, e) (and_assoc (result_and r₁ r₂) r₃ r₄ ∙ and_assoc r₁ r₂ (result_and r₃ r₄))

abbrev Ends : List ℕ → ℕ → ℕ → (Result (Unit {0}) Fault) → Type 0
Ends row g p r = outcome r (row_members row) ≡ numbered (closing g p (row_members row))

module _ (row : List ℕ) (z : Tidy row) (g p : ℕ) where
  pub ends_pdi : {a : Result (Unit {0}) Fault} → g ≡ ie.pdi → Required row why.mandatory_missing p ie.source_interface fine a → Ends row g p a
  unfolding closing pdi_end row_members cause_of there_word
  ends_pdi e a = rw (e, a) (lacks (row_members row) fine missing ie.source_interface p (word its.has_source row) (word its.source row) (λ n. done (row_members row)) z.source refl)

  pub ends_create : {a b c d : Result (Unit {0}) Fault} → g ≡ ie.create_pdr → Required row why.mandatory_missing p ie.source_interface fine a → Required row why.mandatory_missing p ie.pdr_id a b → Required row why.mandatory_missing p ie.precedence b c → Required row why.mandatory_missing p ie.pdi c d → Ends row g p d
  unfolding closing item_from pdr_item row_members cause_of there_word
  ends_create {a} {b} {c} {d} e h q r s =
      rw (e, s)
      (lacks_pdi (row_members row) c missing ie.pdi p (word its.has_pdi row) _ _ z.pdi
      (rw r (lacks_then (row_members row) b missing ie.precedence p (word its.has_precedence row) (word its.precedence row) _ _ z.precedence
      (rw q (lacks_then (row_members row) a missing ie.pdr_id p (word its.has_pdr_id row) (word its.pdr_id row) _ _ z.pdr_id
      (rw h (lacks_then (row_members row) fine missing ie.source_interface p (word its.has_source row) (word its.source row) _ _ z.source refl)))))))

  pub ends_endpoint : {a b : Result (Unit {0}) Fault} → g ≡ ie.create_endpoint → Required row why.mandatory_missing p ie.endpoint_id fine a → Required row why.conditional_missing p ie.fteid a b → Ends row g p b
  unfolding closing item_from endpoint_item row_members row_local cause_of there_word
  ends_endpoint {a} {b} e h q =
      rw (e, q)
      (lacks_local (row_members row) a conditional ie.fteid p (eqb (word its.flags row) 0) (row_fteid row) _ _
      (rw h (lacks_then (row_members row) fine missing ie.endpoint_id p (word its.has_endpoint_id row) (word its.endpoint_id row) _ _ z.endpoint_id refl)))

  pub ends_pdr : {a : Result (Unit {0}) Fault} → OneOf g ie.update_pdr (ie.remove_pdr ∷ []) → Required row why.mandatory_missing p ie.pdr_id fine a → Ends row g p a
  unfolding closing item_from change_from row_members cause_of there_word
  ends_pdr (inl e) h = rw (e, h) (lacks_then (row_members row) fine missing ie.pdr_id p (word its.has_pdr_id row) (word its.pdr_id row) _ _ z.pdr_id refl)
  ends_pdr (inr e) h = rw (e, h) (lacks_then (row_members row) fine missing ie.pdr_id p (word its.has_pdr_id row) (word its.pdr_id row) _ _ z.pdr_id refl)

  pub ends_other : {a : Result (Unit {0}) Fault} → (g ≡ ie.create_pdr → ⊥) → (g ≡ ie.pdi → ⊥) → (g ≡ ie.create_endpoint → ⊥) → (OneOf g ie.update_pdr (ie.remove_pdr ∷ []) → ⊥) → Required row why.mandatory_missing p ie.endpoint_id fine a → Ends row g p a
  unfolding closing item_from row_members cause_of there_word
  ends_other h i j k l =
      rw (ne_eqb g ie.create_pdr h, ne_eqb g ie.pdi i, ne_eqb g ie.create_endpoint j, ne_eqb g ie.update_pdr (λ q. k (inl q)), ne_eqb g ie.remove_pdr (λ q. k (inr q)), l)
      (lacks_then (row_members row) fine missing ie.endpoint_id p (word its.has_endpoint_id row) (word its.endpoint_id row) _ _ z.endpoint_id refl)

-- ---- a turn of the loop over the elements of a group, with the element of type t at the front of the rest

-- only a Create PDR opens its PDI
pick_inner : {X : Type 0} (a b c d e : Bool) (x y z i u r : X) → (e && d) ≡ false
    → pick a x (pick b y (pick c z (pick d (pick e i u) r))) ≡ pick a x (pick b y (pick c z (pick d (pick e u u) r)))
pick_inner a b c true true x y z i u r h = let n : ◌≡◌ {A = ℕ} 0 1 = cc in absurd (omega arith)
pick_inner a b c true false x y z i u r h = refl
pick_inner a b c false e x y z i u r h = refl

value_alike : (g t p : ℕ) (v : List ℕ) (m : Members) → is_pdi g t ≡ false → value_read pdi_read g t p v m ≡ value_read unopened g t p v m
unfolding value_read pdi_in is_pdi
value_alike g t p v m h = pick_inner (eqb t ie.pdr_id) (eqb t ie.precedence) (eqb t ie.far_id) (eqb t ie.pdi) (eqb g ie.create_pdr) _ _ _ _ _ _ h

then_done : {A : Type 0} (x : Reading A) → and_then x (λ n. done n) ≡ x
then_done (faulty f) = refl
then_done (done a) = refl

-- a member, and then what stands inside it
member_split : (g t p : ℕ) (v : List ℕ) (m : Members) → member_read pdi_read g (el p t v) m ≡ and_then (own_read g t p v m) (λ n. pick (is_pdi g t) (pdi_read p v n) (done n))
unfolding own_read
member_split g t p v m = go (is_pdi g t) refl
  where
    in_pdi : (o : Bool) → pick o (refusal_at incorrect ie.pdi p) (pdi_read p v (with_pdi m)) ≡ and_then (pick o (refusal_at incorrect ie.pdi p) (done (with_pdi m))) (λ n. pdi_read p v n)
    in_pdi true = refl
    in_pdi false = refl

    opened : g ≡ ie.create_pdr → t ≡ ie.pdi → member_read pdi_read g (el p t v) m ≡ and_then (member_read unopened g (el p t v) m) (λ n. pdi_read p v n)
    opened a b = rw (a, b) (unfold member_read places_of member member_there value_read pdi_in in (in_pdi m.pdi))

    go : (b : Bool) → is_pdi g t ≡ b → member_read pdi_read g (el p t v) m ≡ and_then (member_read unopened g (el p t v) m) (λ n. pick b (pdi_read p v n) (done n))
    go true h = opened (pdi_in_create g t (sym h)) (pdi_type g t (sym h))
    go false h = unfold member_read in (rw (value_alike g t p v m h) (sym (then_done _)))

-- a PDI opens no group, so it does not matter how one would be read
unopened_same : (es : List Element) (m : Members) → members_read pdi_read 2 es m ≡ members_read unopened 2 es m
unfolding members_read member_read
unopened_same [] m = refl
unopened_same (e ∷ es) m =
    rw (value_alike 2 e.type e.place e.content m (unfold is_pdi in refl)) (step (member_read unopened 2 e m) (λ n. unopened_same es n))
  where
    step : (x : Reading Members) → ((n : Members) → members_read pdi_read 2 es n ≡ members_read unopened 2 es n) → and_then x (members_read pdi_read 2 es) ≡ and_then x (members_read unopened 2 es)
    step (faulty f) k = refl
    step (done n) k = k n

pub pdi_same : (p : ℕ) (v : List ℕ) (m : Members) → closed_read 2 p v m ≡ pdi_read p v m
unfolding closed_read closing pdi_read
pdi_same p v m = ap (λ (x : Reading Members). and_then x (pdi_end p)) (unopened_same (elements (inside p) v) m)

-- what is left, from its place on, gives the same members from this row as the whole from the first; a place fits a word
pub record Going (g p : ℕ) (s row₀ : List ℕ) (at : ℕ) (rest row : List ℕ) : Type 0 where
  pub tidy : Tidy row
  pub same : members_read pdi_read g (elements (inside p) s) (row_members row₀) ≡ members_read pdi_read g (elements at rest) (row_members row)
  pub fits : at + length rest < 2 ^ 64

module _ {g p t e : ℕ} {s row₀ : List ℕ} {at : ℕ} {rest row : List ℕ} (f : Front rest t e) (inv : Going g p s row₀ at rest row) where
  abbrev v : List ℕ
  v = take (e - 4) (drop 4 rest)

  -- what comes after the element at the front
  abbrev after : Members → Reading Members
  after = members_read pdi_read g (elements (at + e) (behind rest e))

  -- what stands inside it
  abbrev inner : Members → Reading Members
  inner n = pick (is_pdi g t) (pdi_read at v n) (done n)

  ahead : members_read pdi_read g (elements (inside p) s) (row_members row₀) ≡ and_then (and_then (own_read g t at v (row_members row)) inner) after
  unfolding members_read
  ahead =
      inv.same ∙ ap (λ (es : List Element). members_read pdi_read g es (row_members row)) (f.cons at)
      ∙ ap (λ (x : Reading Members). and_then x after) (member_split g t at v (row_members row))

  closed : closed_read g p s (row_members row₀) ≡ and_then (and_then (and_then (own_read g t at v (row_members row)) inner) after) (closing g p)
  unfolding closed_read
  closed = ap (λ (x : Reading Members). and_then x (closing g p)) ahead

  -- the places of the element's value and of what comes after it
  pub value_fits : at + 4 + length v < 2 ^ 64
  value_fits = value_places at e rest (le_trans f.low f.high) f.high inv.fits

  fits_after : at + e + length (behind rest e) < 2 ^ 64
  fits_after = let h = f.high in let i = inv.fits in let l = ap length (part_from e rest) ∙ length-drop e rest in omega arith

  module _ (r : Result (Unit {0}) Fault) (own : List ℕ) (read : Reads (own_read g t at v (row_members row)) own r) where
    pub turn_refused : {f : Fault} → r ≡ Err f → Reads (closed_read g p s (row_members row₀)) own (Err f)
    turn_refused {f} q =
        let h : outcome r (row_members own) ≡ stopped f.cause f.kind f.place = ap (λ (z : Result (Unit {0}) Fault). outcome z (row_members own)) q in
        let o : numbered (own_read g t at v (row_members row)) ≡ stopped f.cause f.kind f.place = sym read.told ∙ h in
        let one = stops (own_read g t at v (row_members row)) inner o in
        let two = stops (and_then (own_read g t at v (row_members row)) inner) after one in
        let three = stops (and_then (and_then (own_read g t at v (row_members row)) inner) after) (closing g p) two in
        record { told = sym (ap (λ (z : Reading Members). numbered z) closed ∙ three); tidy = read.tidy }

    module _ (went : r ≡ fine) where
      own_is : own_read g t at v (row_members row) ≡ done (row_members own)
      own_is = is_done _ _ (sym read.told ∙ ap (λ (z : Result (Unit {0}) Fault). outcome z (row_members own)) went)

      pub turn_shut : false ≡ is_pdi g t → Going g p s row₀ (at + e) (behind rest e) own
      turn_shut h = record { tidy = read.tidy; same = ahead ∙ rw (own_is, ← h); fits = fits_after }

      module _ (pdi : true ≡ is_pdi g t) (q : Result (Unit {0}) Fault) (all : List ℕ) (within : Reads (closed_read 2 at v (row_members own)) all q) where
        inner_told : numbered (pdi_read at v (row_members own)) ≡ outcome q (row_members all)
        inner_told = sym (within.told ∙ ap (λ (z : Reading Members). numbered z) (pdi_same at v (row_members own)))

        pub turn_inside : {f : Fault} → q ≡ Err f → Reads (closed_read g p s (row_members row₀)) all (Err f)
        turn_inside {f} k =
            let h : outcome q (row_members all) ≡ stopped f.cause f.kind f.place = ap (λ (z : Result (Unit {0}) Fault). outcome z (row_members all)) k in
            let o : numbered (pdi_read at v (row_members own)) ≡ stopped f.cause f.kind f.place = inner_told ∙ h in
            let w : closed_read g p s (row_members row₀) ≡ and_then (and_then (pdi_read at v (row_members own)) after) (closing g p) = closed ∙ rw (own_is, ← pdi) in
            let one = stops (pdi_read at v (row_members own)) after o in
            let two = stops (and_then (pdi_read at v (row_members own)) after) (closing g p) one in
            record { told = sym (ap (λ (z : Reading Members). numbered z) w ∙ two); tidy = within.tidy }

        pub turn_open : q ≡ fine → Going g p s row₀ (at + e) (behind rest e) all
        turn_open k =
            let o : pdi_read at v (row_members own) ≡ done (row_members all) = is_done _ _ (inner_told ∙ ap (λ (z : Result (Unit {0}) Fault). outcome z (row_members all)) k) in
            record { tidy = within.tidy; same = ahead ∙ rw (own_is, ← pdi, o); fits = fits_after }

pub turns_done : {g p : ℕ} {s row₀ : List ℕ} {at : ℕ} {rest row : List ℕ} {r : Result (Unit {0}) Fault} → Going g p s row₀ at rest row → elements at rest ≡ []
    → outcome r (row_members row) ≡ numbered (closing g p (row_members row)) → Reads (closed_read g p s (row_members row₀)) row r
unfolding closed_read members_read
turns_done {g} {p} {s} {row₀} {at} {rest} {row} inv e h =
    record {
      told = h ∙ sym (ap (λ (x : Reading Members). numbered (and_then x (closing g p))) (inv.same ∙ ap (λ (es : List Element). members_read pdi_read g es (row_members row)) e));
      tidy = inv.tidy;
    }

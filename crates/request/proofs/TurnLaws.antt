-- The elements of a message in turn: a turn of the loop, and the plan at its end. Assumes nothing.
use mathlib.Core.Path.{◌≡◌, refl, sym, ap, ap₂, subst, ◌∙◌}
use Prim.Native.Nat.{ℕ, zero, suc, ◌+◌, ◌-◌, ◌^◌, ◌≤◌, ◌<◌}
use native.Mathlib.Omega.{arith}
use mathlib.Core.Bool.{Bool, true, false, not, ◌||◌}
use mathlib.Core.Option.{Option, none, some}
use mathlib.Core.List.{List, [], ◌∷◌, map}
use lib.ListN.{length, take, drop, replicate, length-drop}
use lib.Seq.{length-take-le}
use lib.Dec.{eqb}
use borrow.Author.Tests.{ne_eqb}
use Rattle.octets.specs.Choice.{pick, value_or}
use Rattle.octets.specs.Octets.{slices}
use Rattle.octets.specs.Lists.{member, any, keep, collect}
use Rattle.octets.proofs.Put.{part_from}
use Rattle.rules.specs.Elements.{cause_of, missing}
use Rattle.rules.specs.Message.{body_place, Element, elements, establishment}
use Rattle.rules.specs.Request as asked
use Rattle.rules.specs.Reading as rules
use Rattle.rules.specs.Reading.{Reading, done, and_then, requiring, alone_in, elements_read, finished, read}
use Rattle.rules.specs.Request.{empty_draft, restoring_in, creates_any, request_from}
use Rattle.rules.specs.Types as ie
use Rattle.rules.specs.Causes as why
use Rattle.plan.specs.Rows.{row_width}
use Rattle.laws.proofs.WeightLaws.{Light, light_none, light_next, light_room, light_end}
use Rattle.frame.proofs.Walk.{value_places}
use Rattle.frame.proofs.Front.{Front, behind}
use Rattle.reading.specs.Verdicts.{stopped, numbered, fault}
use Rattle.reading.proofs.MemberLaws.{stops}
use Rattle.request.specs.Items.{row_item, has_row, met, SeidThere, Means, Follows, Roomy, Enough, Ended, AllRead, element_at, plan_of, concluded}
use Rattle.request.specs.Requests.{whole, result_of, meant}
use Rattle.request.specs.declared.Plan.{Plan}
use Rattle.request.specs.declared.items.Draft.{Draft}
use Rattle.request.proofs.PlanLaws.{no_row, restoring_same, request_same}
use Rattle.std.specs.Prelude.{Result, Ok, Err}
use Rattle.reading.specs.declared.Fault.{Fault}
use Rattle.request.proofs.DraftLaws.{same_Err}

-- ---- the loop

-- what is left, from its place on, gives the same draft from this one as the whole from the first
pub record Going (kind : ℕ) (s words₀ : List ℕ) (at : ℕ) (rest words nodes : List ℕ) (c : Draft) : Type 0 where
  pub draft : asked.Draft
  pub means : Means draft c nodes words
  pub same : elements_read kind (alone_in (elements body_place s)) (elements body_place s) empty_draft ≡ elements_read kind (alone_in (elements body_place s)) (elements at rest) draft
  pub placed : at + length rest ≤ body_place + length s
  pub light : Light has_row (alone_in (elements body_place s)) s rest draft
  pub long : length words ≡ length words₀
  pub wide : length nodes ≡ 16

start_means : (words : List ℕ) → Means empty_draft (record { rows = 0; seid = 0; flags = 0; noted = false; creates = false }) (replicate 16 0) words
unfolding any collect creates_any slices keep member
start_means words = record { seid = refl; seid_there = tt; flags = refl; noted = refl; creates = refl; seen = λ k. none_seen 16 k; rows = refl }
  where
    none_seen : (n k : ℕ) → met k (replicate n 0) ≡ false
    none_seen zero k = refl
    none_seen (suc n) zero = refl
    none_seen (suc n) (suc k) = none_seen n k

pub going_none : (kind : ℕ) (s words : List ℕ) → Going kind s words body_place s words (replicate 16 0) (record { rows = 0; seid = 0; flags = 0; noted = false; creates = false })
going_none kind s words = record { draft = empty_draft; means = start_means words; same = refl; placed = omega arith; light = light_none has_row no_row body_place s; long = refl; wide = refl }

-- as many rows as items that have one
slices_length : (n : ℕ) (xs : List ℕ) → length (slices row_width n xs) ≡ n
unfolding slices
slices_length zero xs = refl
slices_length (suc n) xs = ap suc (slices_length n (drop row_width xs))

map_length : {A B : Type 0} (f : A → B) (xs : List A) → length (map f xs) ≡ length xs
map_length f [] = refl
map_length f (x ∷ xs) = let h = map_length f xs in omega arith

module _ {kind : ℕ} {s words₀ : List ℕ} {at : ℕ} {rest words nodes : List ℕ} {c : Draft} (g : Going kind s words₀ at rest words nodes c) where
  rows_are : c.rows ≡ length (keep has_row g.draft.items)
  rows_are = sym (map_length row_item (slices row_width c.rows words) ∙ slices_length c.rows words) ∙ ap length g.means.rows

  module _ {t e : ℕ} (f : Front rest t e) (enough : Enough s words₀) where
    abbrev v : List ℕ
    v = take (e - 4) (drop 4 rest)

    pub turn_room : Roomy c nodes words
    turn_room =
        let few = light_room has_row no_row (let l = f.low in let h = f.high in omega arith) g.light in
        let n = rows_are in
        let l = g.long in
        let short = enough.short in
        record { wide = g.wide; row = let r = enough.row in omega arith; few = omega arith }

    -- the places of the element's value
    pub turn_fits : at + 4 + length v < 2 ^ 64
    turn_fits = value_places at e rest (let l = f.low in let h = f.high in omega arith) f.high (let p = g.placed in let q = enough.short in omega arith)

    ahead : elements_read kind (alone_in (elements body_place s)) (elements body_place s) empty_draft ≡ and_then (element_at kind (alone_in (elements body_place s)) t at v g.draft) (elements_read kind (alone_in (elements body_place s)) (elements (at + e) (behind rest e)))
    unfolding elements_read
    ahead = g.same ∙ ap (λ (es : List Element). elements_read kind (alone_in (elements body_place s)) es g.draft) (f.cons at)

    module _ {r : Result Draft Fault} {nodes' words' : List ℕ} (step : Follows (element_at kind (alone_in (elements body_place s)) t at v) c nodes words r nodes' words') where
      pub turn_fault : {f : Fault} {exit : List ℕ} → r ≡ Err f → AllRead (elements_read kind (alone_in (elements body_place s)) (elements body_place s) empty_draft) (Err f) exit
      turn_fault {f} q =
          let o = (step.follows g.draft g.means).fault f q in
          let all : numbered (elements_read kind (alone_in (elements body_place s)) (elements body_place s) empty_draft) ≡ stopped f.cause f.kind f.place =
          ap (λ (z : Reading asked.Draft). numbered z) ahead ∙ stops (element_at kind (alone_in (elements body_place s)) t at v g.draft) (elements_read kind (alone_in (elements body_place s)) (elements (at + e) (behind rest e))) o in
          record { fault = λ k h. all ∙ ap (λ (x : Fault). stopped x.cause x.kind x.place) (same_Err _ _ h); next = λ d h. no_next h }
        where
          no_next : {d : Draft} {X : Type 0} → ◌≡◌ {A = Result Draft Fault} (Err f) (Ok d) → X
          no_next h = let z : ◌≡◌ {A = ℕ} 0 1 = cc in absurd (omega arith)

      pub turn_next : {b : Draft} → r ≡ Ok b → length words' ≡ length words → length nodes' ≡ 16 → Going kind s words₀ (at + e) (behind rest e) words' nodes' b
      turn_next {b} q long wide =
          let w = (step.follows g.draft g.means).next b q in
          let l = f.low in
          let h = f.high in
          let own : length v ≡ e - 4 = length-take-le (e - 4) (drop 4 rest) (rw length-drop (omega arith)) in
          let after : length (behind rest e) ≡ length rest - e = ap length (part_from e rest) ∙ length-drop e rest in
          record {
            draft = w.draft;
            means = w.means;
            same = ahead ∙ ap (λ (x : Reading asked.Draft). and_then x (elements_read kind (alone_in (elements body_place s)) (elements (at + e) (behind rest e)))) w.is;
            placed = let p = g.placed in omega arith;
            light = light_next has_row no_row kind (at + e) (f.cons at) (omega arith) g.light w.is;
            long = long ∙ g.long;
            wide = wide;
          }

  pub turns_end : elements at rest ≡ [] → Enough s words₀ → AllRead (elements_read kind (alone_in (elements body_place s)) (elements body_place s) empty_draft) (Ok c) words
  unfolding elements_read
  turns_end e enough =
      let whole : elements_read kind (alone_in (elements body_place s)) (elements body_place s) empty_draft ≡ done g.draft = g.same ∙ ap (λ (es : List Element). elements_read kind (alone_in (elements body_place s)) es g.draft) e in
      let few = light_end has_row no_row g.light in
      let n = rows_are in
      let ended : Ended (elements_read kind (alone_in (elements body_place s)) (elements body_place s) empty_draft) c words = record { nodes = nodes; read = record { draft = g.draft; is = whole; means = g.means }; room = let l = g.long in let r = enough.row in omega arith } in
      record { fault = λ f h. no_fault h; next = λ b h. subst (λ (k : Draft). Ended (elements_read kind (alone_in (elements body_place s)) (elements body_place s) empty_draft) k words) (same_draft h) ended }
    where
      no_fault : {f : Fault} {X : Type 0} → ◌≡◌ {A = Result Draft Fault} (Ok c) (Err f) → X
      no_fault h = let z : ◌≡◌ {A = ℕ} 0 1 = cc in absurd (omega arith)

      same_draft : {b : Draft} → ◌≡◌ {A = Result Draft Fault} (Ok c) (Ok b) → c ≡ b
      same_draft h = cc

-- ---- the end of a message

module _ {d : asked.Draft} {c : Draft} {nodes words : List ℕ} (m : Means d c nodes words) where
  pub concluded_same : (kind : ℕ) → meant (concluded kind c) words ≡ result_of (finished kind d)
  unfolding concluded finished cause_of
  concluded_same kind = go (eqb kind establishment)
    where
      by_seid : (o : Option ℕ) → value_or 0 o ≡ c.seid → SeidThere o
          → meant (pick (eqb c.seid 0) (fault why.mandatory_missing ie.fseid 0) (Ok (plan_of c c.seid))) words ≡ result_of (requiring missing ie.fseid 0 o (λ n. done (request_from n d)))
      by_seid none e t = rw (sym e)
      by_seid (some n) e t = rw (← e, ne_eqb n 0 t) (ap whole (request_same m n))

      go : (b : Bool) → meant (pick b (pick (eqb c.flags 2 || c.creates) (pick (eqb c.seid 0) (fault why.mandatory_missing ie.fseid 0) (Ok (plan_of c c.seid))) (fault why.mandatory_missing ie.create_pdr 0)) (Ok (plan_of c 0))) words
          ≡ result_of (pick b (pick (restoring_in d || creates_any d.items) (requiring missing ie.fseid 0 d.seid (λ n. done (request_from n d))) (rules.refusal_at missing ie.create_pdr 0)) (done (request_from 0 d)))
      go false = ap whole (request_same m 0)
      go true = ap₂ (λ (x y : Bool). meant (pick (x || y) (pick (eqb c.seid 0) (fault why.mandatory_missing ie.fseid 0) (Ok (plan_of c c.seid))) (fault why.mandatory_missing ie.create_pdr 0)) words) (restoring_same m) m.creates ∙ by_test (restoring_in d || creates_any d.items)
        where
          by_test : (x : Bool) → meant (pick x (pick (eqb c.seid 0) (fault why.mandatory_missing ie.fseid 0) (Ok (plan_of c c.seid))) (fault why.mandatory_missing ie.create_pdr 0)) words
              ≡ result_of (pick x (requiring missing ie.fseid 0 d.seid (λ n. done (request_from n d))) (rules.refusal_at missing ie.create_pdr 0))
          by_test true = by_seid d.seid (sym m.seid) m.seid_there
          by_test false = unfold cause_of in refl

lacks_yes : (x : Bool) → true ≡ not x → x ≡ false
lacks_yes true h = let z : ◌≡◌ {A = ℕ} 0 1 = cc in absurd (omega arith)
lacks_yes false h = refl

lacks_no : (x : Bool) → false ≡ not x → x ≡ true
lacks_no true h = refl
lacks_no false h = let z : ◌≡◌ {A = ℕ} 0 1 = cc in absurd (omega arith)

-- the cases of a message's end
module _ (c : Draft) (kind : ℕ) where
  pub end_other : {p : Plan} → (kind ≡ establishment → ⊥) → p ≡ plan_of c 0 → Ok p ≡ concluded kind c
  unfolding concluded
  end_other h e = rw e (sym (rw (ne_eqb kind establishment h)))

  module _ (first : kind ≡ establishment) where
    pub end_no_pdr : true ≡ not (eqb c.flags 2 || c.creates) → fault why.mandatory_missing ie.create_pdr 0 ≡ concluded kind c
    unfolding concluded
    end_no_pdr h = sym (rw (first, lacks_yes (eqb c.flags 2 || c.creates) h))

    module _ (some-pdr : false ≡ not (eqb c.flags 2 || c.creates)) where
      pub end_no_seid : c.seid ≡ 0 → fault why.mandatory_missing ie.fseid 0 ≡ concluded kind c
      unfolding concluded
      end_no_seid h = sym (rw (first, lacks_no (eqb c.flags 2 || c.creates) some-pdr, h))

      pub end_whole : {p : Plan} → (c.seid ≡ 0 → ⊥) → p ≡ plan_of c c.seid → Ok p ≡ concluded kind c
      unfolding concluded
      end_whole h e = rw e (sym (rw (first, lacks_no (eqb c.flags 2 || c.creates) some-pdr, ne_eqb c.seid 0 h)))

-- A session's slot: endpoints first, then PDRs; and its offsets are those that the session holds.
-- Assumes nothing.
use Rattle.std.specs.Prelude.{Result, Ok}
use Rattle.marking.specs.declared.Broken.{Broken}
use Rattle.marking.specs.Refusal.{refusal}
use Rattle.std.proofs.Common.{◌≡◌, ℕ, ◌+◌, ◌-◌, ◌<◌, ◌≤◌, Bool, true, false, not, ◌&&◌, ◌||◌, T, List, [], ◌∷◌, ◌++◌, map, length, get_or, sym, refl, ap, ◌∙◌, ap₂, arith, lt-ltb}
use mathlib.Core.Bool.{or_assoc}
use mathlib.Core.Option.{Option, none, some}
use Rattle.octets.specs.Choice.{pick, cons_option}
use Rattle.octets.specs.Octets.{octet_at, slices}
use Rattle.octets.specs.Lists.{any, keep, collect}
use Rattle.octets.proofs.ListLaws.{collect_append, collect_same, collect_map}
use Rattle.rules.specs.Model.{Settings, Pdr, Endpoint, pdr_address, endpoint_address, in_address_pool, session_addresses}
use Rattle.rules.specs.Layout.{view_pdr, view_endpoint, pdr_width, endpoint_width, pdr_count_at, endpoint_count_at, pdr_address_there_at, endpoint_address_there_at}
use Rattle.rules.specs.Sound.{marked}
use Rattle.laws.proofs.LayoutLaws.{pdr_view, endpoint_view}
use Rattle.pool.specs.Map.{marks, new_marks, offsets}
use Rattle.pool.proofs.Marks.{marks_append, length_marks, new_append}
use Rattle.marking.specs.Walk.{address_offsets}
use Rattle.records.specs.Slot.{head_sound, pdr_area, endpoint_area}
use Rattle.records.proofs.SlotLaws.{counts_headed, slot_of, view_slot}
use Rattle.marking.specs.Offsets.{address_at, offset_of, offsets_in, slot_offsets, held_offsets, earlier, Agrees, AreaClaimed, SlotClaimed}
use Rattle.marking.proofs.AddressSteps.{below}
use Rattle.marking.proofs.AddressAreas.{any_same}

-- ---- one list of offsets and then another

any_both : (p : ℕ → Bool) (is js : List ℕ) → any p (is ++ js) ≡ (any p is || any p js)
unfolding any
any_both p [] js = refl
any_both p (i ∷ is) js = ap (λ (b : Bool). p i || b) (any_both p is js) ∙ sym (or_assoc (p i) (any p is) (any p js))

-- what an answer says
module _ {turn count : ℕ} {is : List ℕ} {most : ℕ} {hs ws : List ℕ} {r : Result ℕ Broken} {hs' ws' : List ℕ} (c : AreaClaimed turn count is most hs ws r hs' ws') where
  area_clash : r ≡ refusal → any (earlier turn hs) is ≡ true
  area_clash e = go (any (earlier turn hs) is) (sym c.answer ∙ e)
    where
      go : (b : Bool) → pick b refusal (Ok (new_marks ws is)) ≡ refusal → b ≡ true
      go true z = refl
      go false z = absurd (let u : ◌≡◌ {A = ℕ} 0 1 = cc in omega arith)

  area_new : (k : ℕ) → r ≡ Ok k → (any (earlier turn hs) is ≡ false) × (k ≡ new_marks ws is)
  area_new k e = go (any (earlier turn hs) is) (sym c.answer ∙ e)
    where
      go : (b : Bool) → pick b refusal (Ok (new_marks ws is)) ≡ Ok k → (b ≡ false) × (k ≡ new_marks ws is)
      go true z = absurd (let u : ◌≡◌ {A = ℕ} 0 1 = cc in omega arith)
      go false z = (refl, (cc))

  pub area_long : (k : ℕ) → r ≡ Ok k → length ws' ≡ length ws
  area_long k e = ap length (c.words k e) ∙ length_marks ws is

-- the offsets of an area, and of a slot
module _ (s : Settings) (xs : List ℕ) where
  abbrev pub ends_of : List ℕ
  ends_of = offsets_in s endpoint_width endpoint_address_there_at (get_or xs endpoint_count_at 0) (endpoint_area xs)

  abbrev pub pdrs_of : List ℕ
  pdrs_of = offsets_in s pdr_width pdr_address_there_at (get_or xs pdr_count_at 0) (pdr_area xs)

  offsets_are : slot_offsets s xs ≡ ends_of ++ pdrs_of
  unfolding slot_offsets octet_at
  offsets_are = refl

-- ---- the offsets that the session in a slot holds

module _ (s : Settings) where
  held : List ℕ → List ℕ
  held as' = offsets s.first_address (keep (in_address_pool s) as')

  held_cons : (a : ℕ) (as' : List ℕ) → held (a ∷ as') ≡ cons_option (offset_of s (some a)) (held as')
  unfolding held offsets keep offset_of
  held_cons a as' = go (in_address_pool s a)
    where
      go : (b : Bool) → map (λ t. t - s.first_address) (pick b (a ∷ keep (in_address_pool s) as') (keep (in_address_pool s) as'))
          ≡ cons_option (pick b (some (a - s.first_address)) none) (map (λ t. t - s.first_address) (keep (in_address_pool s) as'))
      go true = refl
      go false = refl

  held_all : (as' : List ℕ) → held as' ≡ collect (λ a. offset_of s (some a)) as'
  held_all [] = unfold held offsets keep collect in refl
  held_all (a ∷ as') = held_cons a as' ∙ ap (cons_option (offset_of s (some a))) (held_all as') ∙ unfold collect in refl

  -- the addresses of records, and then their offsets
  held_collect : {A : Type 0} (f : A → Option ℕ) (rs : List A) → collect (λ a. offset_of s (some a)) (collect f rs) ≡ collect (λ r. offset_of s (f r)) rs
  unfolding collect
  held_collect f [] = refl
  held_collect f (r ∷ rs) = go (f r) (held_collect f rs)
    where
      go : (o : Option ℕ) → collect (λ a. offset_of s (some a)) (collect f rs) ≡ collect (λ r. offset_of s (f r)) rs
          → collect (λ a. offset_of s (some a)) (cons_option o (collect f rs)) ≡ cons_option (offset_of s o) (collect (λ r. offset_of s (f r)) rs)
      go none e = e ∙ unfold offset_of in refl
      go (some a) e = ap (cons_option (offset_of s (some a))) e

  of_records : {A : Type 0} (f : A → Option ℕ) (view : List ℕ → A) (at : ℕ) → ((xs : List ℕ) → f (view xs) ≡ address_at at xs)
      → (w n : ℕ) (a : List ℕ) → collect (λ r. offset_of s (f r)) (map view (slices w n a)) ≡ offsets_in s w at n a
  unfolding offsets_in
  of_records f view at e w n a =
      collect_map view (λ r. offset_of s (f r)) (slices w n a)
      ∙ collect_same (λ xs. offset_of s (f (view xs))) (λ xs. offset_of s (address_at at xs)) (λ xs. ap (offset_of s) (e xs)) (slices w n a)

  address_pdr : (xs : List ℕ) → pdr_address (view_pdr xs) ≡ address_at pdr_address_there_at xs
  address_pdr xs = ap pdr_address (pdr_view xs)

  address_endpoint : (xs : List ℕ) → endpoint_address (view_endpoint xs) ≡ address_at endpoint_address_there_at xs
  address_endpoint xs = ap endpoint_address (endpoint_view xs)

  held_are : (xs : List ℕ) → T (head_sound xs) → held_offsets s xs ≡ slot_offsets s xs
  unfolding held_offsets address_offsets
  held_are xs h = ap (address_offsets s) (view_slot xs (counts_headed xs h)) ∙ go ∙ sym (offsets_are s xs)
    where
      ends : List Endpoint
      ends = map view_endpoint (slices endpoint_width (get_or xs endpoint_count_at 0) (endpoint_area xs))

      pdrs : List Pdr
      pdrs = map view_pdr (slices pdr_width (get_or xs pdr_count_at 0) (pdr_area xs))

      go : address_offsets s (slot_of xs) ≡ ends_of s xs ++ pdrs_of s xs
      go =
          unfold address_offsets session_addresses slot_of held in
          (held_all (collect endpoint_address ends ++ collect pdr_address pdrs)
          ∙ collect_append (λ a. offset_of s (some a)) (collect endpoint_address ends) (collect pdr_address pdrs)
          ∙ ap₂ ◌++◌ (held_collect endpoint_address ends ∙ of_records endpoint_address view_endpoint endpoint_address_there_at address_endpoint endpoint_width (get_or xs endpoint_count_at 0) (endpoint_area xs))
          (held_collect pdr_address pdrs ∙ of_records pdr_address view_pdr pdr_address_there_at address_pdr pdr_width (get_or xs pdr_count_at 0) (pdr_area xs)))

-- ---- the answers

-- before its turn a session's holders are those of the map
before_turn : (turn count : ℕ) (hs ws : List ℕ) → 1 ≤ turn → Agrees (turn - 1) count hs ws → (i : ℕ) → i < count → earlier turn hs i ≡ marked ws i
unfolding earlier
before_turn turn count hs ws one g i h = rw (lt-ltb (get_or hs i 0) turn (omega (arith, g.until i h)), g.free i h) (go (marked ws i))
  where
    go : (b : Bool) → (not (not b) && true) ≡ b
    go true = refl
    go false = refl

pub later : (turn count : ℕ) (hs ws : List ℕ) → Agrees (turn - 1) count hs ws → Agrees turn count hs ws
later turn count hs ws g = record { long = g.long; most = g.most; last = g.last; free = g.free; until = λ i h. omega (arith, g.until i h) }

-- so is any of the offsets of a list that are all of the pool
any_before : (p q : ℕ → Bool) (count : ℕ) → ((i : ℕ) → i < count → p i ≡ q i) → (f : List ℕ → Option ℕ) → ((xs : List ℕ) (i : ℕ) → some i ≡ f xs → i < count) → (xss : List (List ℕ)) → any p (collect f xss) ≡ any q (collect f xss)
unfolding collect any
any_before p q count e f b [] = refl
any_before p q count e f b (xs ∷ xss) = go (f xs) (b xs) (any_before p q count e f b xss)
  where
    go : (o : Option ℕ) → ((i : ℕ) → some i ≡ o → i < count) → any p (collect f xss) ≡ any q (collect f xss) → any p (cons_option o (collect f xss)) ≡ any q (cons_option o (collect f xss))
    go none b z = z
    go (some i) b z = λ j. e i (b i refl) j || z j

module _ (s : Settings) (turn : ℕ) (hs ws xs : List ℕ) (h : T (head_sound xs)) (one : 1 ≤ turn) (g : Agrees (turn - 1) s.address_count hs ws) where
  any_in_lem : (w at n : ℕ) (a : List ℕ) → any (earlier turn hs) (offsets_in s w at n a) ≡ any (marked ws) (offsets_in s w at n a)
  unfolding offsets_in
  any_in_lem w at n a =
      any_before (earlier turn hs) (marked ws) s.address_count (before_turn turn s.address_count hs ws one g) (λ ys. offset_of s (address_at at ys)) (λ ys i e. below s i (address_at at ys) e) (slices w n a)

  held_both : held_offsets s xs ≡ ends_of s xs ++ pdrs_of s xs
  held_both = held_are s xs h ∙ offsets_are s xs

  any_held : any (marked ws) (held_offsets s xs) ≡ (any (earlier turn hs) (ends_of s xs) || any (earlier turn hs) (pdrs_of s xs))
  any_held =
      ap (any (marked ws)) held_both
      ∙ any_both (marked ws) (ends_of s xs) (pdrs_of s xs)
      ∙ (λ j. sym (any_in_lem endpoint_width endpoint_address_there_at (get_or xs endpoint_count_at 0) (endpoint_area xs)) j || sym (any_in_lem pdr_width pdr_address_there_at (get_or xs pdr_count_at 0) (pdr_area xs)) j)

  clash : any (marked ws) (held_offsets s xs) ≡ true → (hs' ws' : List ℕ) → SlotClaimed s turn ws xs refusal hs' ws'
  clash t hs' ws' =
      record {
        admitted = record {
          answer = sym (rw t);
          words = λ n z. absurd (let u : ◌≡◌ {A = ℕ} 0 1 = cc in omega arith);
          few = λ n z. absurd (let u : ◌≡◌ {A = ℕ} 0 1 = cc in omega arith);
        };
        agrees = λ n z. absurd (let u : ◌≡◌ {A = ℕ} 0 1 = cc in omega arith);
      }

  module _ (e : Result ℕ Broken) (hs₁ ws₁ : List ℕ) (qe : AreaClaimed turn s.address_count (ends_of s xs) (get_or xs endpoint_count_at 0) hs ws e hs₁ ws₁) where
    pub slot_ends : e ≡ refusal → SlotClaimed s turn ws xs refusal hs₁ ws₁
    slot_ends z = clash (any_held ∙ rw (area_clash qe z)) hs₁ ws₁

    module _ (k : ℕ) (ze : e ≡ Ok k) (p : Result ℕ Broken) (hs₂ ws₂ : List ℕ) (qp : AreaClaimed turn s.address_count (pdrs_of s xs) (get_or xs pdr_count_at 0) hs₁ ws₁ p hs₂ ws₂) where
      pdrs_same : any (earlier turn hs₁) (pdrs_of s xs) ≡ any (earlier turn hs) (pdrs_of s xs)
      pdrs_same = any_same (earlier turn hs₁) (earlier turn hs) (qe.same k ze) (pdrs_of s xs)

      pub slot_pdrs : p ≡ refusal → SlotClaimed s turn ws xs refusal hs₂ ws₂
      slot_pdrs z = clash (any_held ∙ rw ((area_new qe k ze).0, ← pdrs_same, area_clash qp z)) hs₂ ws₂

      pub slot_few : (j : ℕ) → p ≡ Ok j → k + j ≤ 24
      slot_few j zp = let c = counts_headed xs h in omega (arith, qe.few k ze, qp.few j zp, c.endpoints, c.pdrs)

      pub slot_whole : (j : ℕ) → p ≡ Ok j → SlotClaimed s turn ws xs (Ok (k + j)) hs₂ ws₂
      slot_whole j zp =
          let a = area_new qe k ze in
          let b = area_new qp j zp in
          let we = qe.words k ze in
          let unmet : any (marked ws) (held_offsets s xs) ≡ false = any_held ∙ rw (a.0, ← pdrs_same, b.0) in
          let new : new_marks ws (held_offsets s xs) ≡ k + j =
          ap (new_marks ws) held_both ∙ new_append ws (ends_of s xs) (pdrs_of s xs) ∙ sym (ap₂ ◌+◌ a.1 (b.1 ∙ ap (λ (v : List ℕ). new_marks v (pdrs_of s xs)) we)) in
          record {
            admitted = record {
              answer = sym (rw unmet (ap Ok new));
              words = λ n _. qp.words j zp ∙ ap (λ (v : List ℕ). marks v (pdrs_of s xs)) we ∙ sym (marks_append ws (ends_of s xs) (pdrs_of s xs)) ∙ ap (marks ws) (sym held_both);
              few = λ n v. let same : k + j ≡ n = cc in let t = slot_few j zp in omega arith;
            };
            agrees = λ n _. qp.agrees j zp;
          }

-- The loop over an area's records: what is left gives the same answer, the same map and the same number.
-- Assumes nothing.
use Rattle.std.specs.Prelude.{Result, Ok}
use Rattle.marking.specs.declared.Broken.{Broken}
use Rattle.marking.specs.Refusal.{refusal}
use Rattle.std.proofs.Common.{◌≡◌, ℕ, ◌+◌, ◌-◌, ◌*◌, ◌<◌, ◌≤◌, Bool, true, false, ◌||◌, List, [], ◌∷◌, length, get_or, take, drop, sym, refl, ap, ◌∙◌, subst, zero-le, add-zero, add_assoc, zero-add, arith}
use mathlib.Core.Option.{Option}
use Rattle.octets.specs.Choice.{pick, cons_option}
use Rattle.octets.specs.Octets.{part, slices}
use Rattle.octets.specs.Lists.{any, collect}
use Rattle.rules.specs.Limits.{max_sessions}
use Rattle.rules.specs.Model.{Settings}
use Rattle.pool.specs.Map.{marks, new_marks}
use Rattle.records.proofs.Turns.{slices_more}
use Rattle.marking.specs.Offsets.{address_at, offset_of, offsets_in, Present, holder_at, earlier, Agrees, Claimable, Claimed, AreaClaimed}
use Rattle.marking.proofs.AddressSteps.{below, claimable, Entering, entering, marks_more, new_more, new_few, length_mark_by}

-- the same answer about each is the same about any
pub any_same : (p q : ℕ → Bool) → ((i : ℕ) → p i ≡ q i) → (is : List ℕ) → any p is ≡ any q is
unfolding any
any_same p q e [] = refl
any_same p q e (i ∷ is) = λ j. e i j || any_same p q e is j

module _ (s : Settings) (w at : ℕ) (a : List ℕ) (n : ℕ) where
  -- the offsets from place i on, and that of the record there
  abbrev pub left_from : ℕ → List ℕ
  left_from i = offsets_in s w at (n - i) (drop (i * w) a)

  abbrev pub offset_at : ℕ → Option ℕ
  offset_at i = offset_of s (address_at at (part (i * w) w a))

  left_start : left_from 0 ≡ offsets_in s w at n a
  left_start = let e : n - 0 ≡ n = omega arith in let z : 0 * w ≡ 0 = omega arith in rw (e, z)

  left_more : (i : ℕ) → i < n → left_from i ≡ cons_option (offset_at i) (left_from (i + 1))
  unfolding offsets_in collect
  left_more i h = rw (slices_more w a n i h)

  left_none : (i : ℕ) → n ≤ i → left_from i ≡ []
  unfolding offsets_in collect slices
  left_none i h = let e : n - i ≡ 0 = omega arith in rw e

  -- as the code has the slot
  slot_at : (i : ℕ) → offset_of s (address_at at (take (i * w + w - i * w) (drop (i * w) a))) ≡ offset_at i
  slot_at i = let span : i * w + w - i * w ≡ w = omega arith in rw span

  -- it says by 0 or 1 whether it has an address
  pub there_at : Present w at n a → (i : ℕ) → i < n → get_or (take (i * w + w - i * w) (drop (i * w) a)) at 0 ≤ 1
  there_at e i h = let span : i * w + w - i * w ≡ w = omega arith in rw span (e.there i h)

  module _ (turn : ℕ) (hs₀ ws₀ : List ℕ) where
    pub record Claiming (hs ws : List ℕ) (i new : ℕ) : Type 0 where
      pub within : i ≤ n
      pub few : new ≤ i
      pub long : length ws ≡ length ws₀
      pub agrees : Agrees turn s.address_count hs ws
      pub same : (j : ℕ) → earlier turn hs j ≡ earlier turn hs₀ j
      pub any_left : any (earlier turn hs₀) (left_from i) ≡ any (earlier turn hs₀) (offsets_in s w at n a)
      pub words : marks ws (left_from i) ≡ marks ws₀ (offsets_in s w at n a)
      pub many : new + new_marks ws (left_from i) ≡ new_marks ws₀ (offsets_in s w at n a)

    pub claiming_none : Agrees turn s.address_count hs₀ ws₀ → Claiming hs₀ ws₀ 0 0
    claiming_none g =
        record {
          within = zero-le;
          few = zero-le;
          long = refl;
          agrees = g;
          same = λ j. refl;
          any_left = ap (any (earlier turn hs₀)) left_start;
          words = ap (marks ws₀) left_start;
          many = zero-add (new_marks ws₀ (left_from 0)) ∙ ap (new_marks ws₀) left_start;
        }

    module _ (one : 1 ≤ turn) (most : turn ≤ max_sessions) (fits : s.address_count ≤ 64 * length ws₀) {hs ws : List ℕ} {i new : ℕ} (m : Claiming hs ws i new) (h : i < n) (p : ℕ)
        (qp : p ≡ holder_at (offset_of s (address_at at (take (i * w + w - i * w) (drop (i * w) a))))) where
      here : p ≡ holder_at (offset_at i)
      here = qp ∙ ap holder_at (slot_at i)

      room : s.address_count ≤ 64 * length ws
      room = omega (arith, m.long)

      pub claiming_here : Claimable p hs ws
      claiming_here =
          subst (λ (k : ℕ). Claimable k hs ws) (sym here)
          (claimable turn s.address_count hs ws one most room m.agrees (offset_at i) (λ j e. below s j (address_at at (part (i * w) w a)) e))

      module _ (r : Result ℕ Broken) (hs' ws' : List ℕ) (c : Claimed turn p hs ws r hs' ws') where
        entered : Entering turn s.address_count hs ws one most room m.agrees (left_from (i + 1)) (offset_at i) r hs' ws'
        entered =
            entering turn s.address_count hs ws one most room m.agrees (left_from (i + 1)) (offset_at i) (λ j e. below s j (address_at at (part (i * w) w a)) e) r hs' ws'
            (subst (λ (k : ℕ). Claimed turn k hs ws r hs' ws') here c)

        back : (is : List ℕ) → any (earlier turn hs₀) is ≡ any (earlier turn hs) is
        back = any_same (earlier turn hs₀) (earlier turn hs) (λ j. sym (m.same j))

        pub claiming_clash : r ≡ refusal → AreaClaimed turn s.address_count (offsets_in s w at n a) n hs₀ ws₀ refusal hs' ws'
        claiming_clash e =
            let t : any (earlier turn hs₀) (offsets_in s w at n a) ≡ true =
            sym m.any_left ∙ ap (any (earlier turn hs₀)) (left_more i h) ∙ back (cons_option (offset_at i) (left_from (i + 1))) ∙ entered.clash e in
            record {
              answer = sym (rw t);
              words = λ k z. absurd (let v : ◌≡◌ {A = ℕ} 0 1 = cc in omega arith);
              agrees = λ k z. absurd (let v : ◌≡◌ {A = ℕ} 0 1 = cc in omega arith);
              same = λ k z. absurd (let v : ◌≡◌ {A = ℕ} 0 1 = cc in omega arith);
              few = λ k z. absurd (let v : ◌≡◌ {A = ℕ} 0 1 = cc in omega arith);
            }

        pub claiming_more : (k : ℕ) → r ≡ Ok k → Claiming hs' ws' (i + 1) (new + k)
        claiming_more k e =
            let qk = entered.new k e in
            let qw = entered.words k e in
            record {
              within = omega arith;
              few = omega (arith, m.few, qk, new_few ws (offset_at i));
              long = ap length qw ∙ length_mark_by ws (offset_at i) ∙ m.long;
              agrees = entered.agrees k e;
              same = λ j. entered.same k e j ∙ m.same j;
              any_left =
                  back (left_from (i + 1))
                  ∙ sym (entered.free k e)
                  ∙ sym (back (cons_option (offset_at i) (left_from (i + 1))))
                  ∙ ap (any (earlier turn hs₀)) (sym (left_more i h))
                  ∙ m.any_left;
              words = ap (λ (v : List ℕ). marks v (left_from (i + 1))) qw ∙ sym (marks_more ws (left_from (i + 1)) (offset_at i)) ∙ ap (marks ws) (sym (left_more i h)) ∙ m.words;
              many =
                  add_assoc new k (new_marks ws' (left_from (i + 1)))
                  ∙ (λ j. new + (qk j + new_marks (qw j) (left_from (i + 1))))
                  ∙ ap (λ (x : ℕ). new + x) (sym (new_more ws (left_from (i + 1)) (offset_at i)) ∙ ap (new_marks ws) (sym (left_more i h)))
                  ∙ m.many;
            }

    pub claiming_all : {hs ws : List ℕ} {i new : ℕ} → Claiming hs ws i new → n ≤ i → AreaClaimed turn s.address_count (offsets_in s w at n a) n hs₀ ws₀ (Ok new) hs ws
    unfolding any marks new_marks
    claiming_all {hs} {ws} {i} {new} m h =
        let none-met : any (earlier turn hs₀) (offsets_in s w at n a) ≡ false = sym m.any_left ∙ ap (any (earlier turn hs₀)) (left_none i h) in
        let all : new ≡ new_marks ws₀ (offsets_in s w at n a) = sym (add-zero new) ∙ ap (λ (l : List ℕ). new + new_marks ws l) (sym (left_none i h)) ∙ m.many in
        record {
          answer = sym (λ j. pick (none-met j) refusal (Ok (sym all j)));
          words = λ k z. ap (marks ws) (sym (left_none i h)) ∙ m.words;
          agrees = λ k z. m.agrees;
          same = λ k z. m.same;
          few = λ k z. let v : new ≡ k = cc in omega (arith, m.few, m.within);
        }

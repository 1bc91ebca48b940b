-- The address of one record: where its holder stands, and what entering it does to the holders and to the map. Premises are what the code knows
-- there.
-- Assumes nothing.
use Rattle.std.specs.Prelude.{Result, Ok}
use Rattle.marking.specs.declared.Broken.{Broken}
use Rattle.marking.specs.Refusal.{refusal}
use Rattle.std.proofs.Common.{◌≡◌, ℕ, ◌+◌, ◌-◌, ◌*◌, ◌%◌, ◌^◌, ◌<◌, ◌≤◌, Bool, true, false, not, ◌&&◌, eqb, ltb, leb, List, length, get_or, set, sym, refl, ap, ◌∙◌, subst, arith, lit≤, ltb→lt, leb→le, length-set, get_or-set_other, get_or-set_same, le-ltb, lt-ltb, eq-eqb, ne_eqb, eqb-true, le-leb}
use mathlib.Core.Option.{Option, none, some}
use native.Mathlib.Decide.{ℕ_discrete}
use Rattle.octets.specs.Choice.{pick, flag, cons_option}
use Rattle.octets.specs.Octets.{part, number}
use Rattle.octets.specs.Lists.{any}
use Rattle.octets.proofs.Tests.{of_true}
use Rattle.rules.specs.Limits.{max_sessions, max_addresses}
use Rattle.rules.specs.Model.{Settings, in_address_pool}
use Rattle.rules.specs.Layout.{option_read}
use Rattle.rules.specs.Sound.{marked}
use Rattle.pool.specs.Map.{mark, marks, new_marks}
use Rattle.pool.proofs.Marks.{length_mark, marked_mark, mark_there}
use Rattle.unit.specs.declared.Settings.{Settings as Unit}
use Rattle.unit.specs.Meaning.{settings_of}
use Rattle.marking.specs.Offsets.{address_at, offset_of, new_by, mark_by, holder_at, earlier, Agrees, Claimable, Claimed}

-- ---- where the holder stands

module _ (u : Unit) (at : ℕ) (xs : List ℕ) where
  offset_absent : get_or xs at 0 ≡ 0 → offset_of (settings_of u) (address_at at xs) ≡ none
  unfolding offset_of option_read
  offset_absent h = rw h

  offset_there : (get_or xs at 0 ≡ 0 → ⊥) → (a : ℕ) → a ≡ number (part (at + 1) 4 xs)
      → offset_of (settings_of u) (address_at at xs) ≡ pick (leb u.first_address a && ltb a (u.first_address + u.addresses)) (some (a - u.first_address)) none
  offset_there h a q = ap (offset_of (settings_of u)) address_is ∙ unfold offset_of in_address_pool settings_of in refl
    where
      address_is : address_at at xs ≡ some a
      address_is = unfold option_read in rw (ne_eqb (get_or xs at 0) 0 h, ← q)

  module _ (there : get_or xs at 0 ≤ 1) (a : ℕ) (q : a ≡ number (part (at + 1) 4 xs)) (small : a < 4294967296) (pool : u.first_address + u.addresses ≤ 2 ^ 32) (i : ℕ)
      (wraps : (i + (4294967296 + u.first_address)) % 2 ^ 64 ≡ get_or xs at 0 * 4294967296 + a) where
    pub holder_in : i < u.addresses → i ≡ holder_at (offset_of (settings_of u) (address_at at xs))
    holder_in h = go (ℕ_discrete (get_or xs at 0) 0)
      where
        go : Dec (get_or xs at 0 ≡ 0) → i ≡ holder_at (offset_of (settings_of u) (address_at at xs))
        go (yes z) = absurd (omega arith)
        go (no z) =
            let e : a ≡ i + u.first_address = omega arith in
            let d : a - u.first_address ≡ i = omega arith in
            sym (ap holder_at (offset_there z a q) ∙ rw (le-leb u.first_address a (omega arith), lt-ltb a (u.first_address + u.addresses) (omega arith), d))

    pub holder_out : u.addresses ≤ i → i < 2 ^ 64 → max_addresses ≡ holder_at (offset_of (settings_of u) (address_at at xs))
    holder_out h f = go (ℕ_discrete (get_or xs at 0) 0)
      where
        go : Dec (get_or xs at 0 ≡ 0) → max_addresses ≡ holder_at (offset_of (settings_of u) (address_at at xs))
        go (yes z) = sym (ap holder_at (offset_absent z))
        go (no z) = sym (ap holder_at (offset_there z a q ∙ outside (leb u.first_address a) (ltb a (u.first_address + u.addresses)) refl refl))
          where
            outside : (b c : Bool) → leb u.first_address a ≡ b → ltb a (u.first_address + u.addresses) ≡ c → pick (b && c) (some (a - u.first_address)) none ≡ none
            outside true true eb ec =
                let l = leb→le u.first_address a (of_true eb) in
                let m = ltb→lt a (u.first_address + u.addresses) (of_true ec) in
                absurd (omega arith)
            outside true false eb ec = refl
            outside false c eb ec = refl

-- an offset of the pool is below the number of addresses
pub below : (s : Settings) (i : ℕ) (o : Option ℕ) → some i ≡ offset_of s o → i < s.address_count
unfolding offset_of in_address_pool
below s i none e = let z : ◌≡◌ {A = ℕ} 0 1 = cc in absurd (omega arith)
below s i (some a) e = go (leb s.first_address a) (ltb a (s.first_address + s.address_count)) refl refl e
  where
    go : (b c : Bool) → leb s.first_address a ≡ b → ltb a (s.first_address + s.address_count) ≡ c → some i ≡ pick (b && c) (some (a - s.first_address)) none → i < s.address_count
    go true true eb ec q =
        let l = leb→le s.first_address a (of_true eb) in
        let h = ltb→lt a (s.first_address + s.address_count) (of_true ec) in
        let z : i ≡ a - s.first_address = cc in
        omega arith
    go true false eb ec q = let z : ◌≡◌ {A = ℕ} 0 1 = cc in absurd (omega arith)
    go false c eb ec q = let z : ◌≡◌ {A = ℕ} 0 1 = cc in absurd (omega arith)

-- ---- entering one, by the holder there

module _ (turn p : ℕ) (hs ws : List ℕ) where
  pub claim_new : get_or hs p 0 ≡ 0 → (ws' : List ℕ) → ws' ≡ mark ws p → Claimed turn p hs ws (Ok 1) (set hs p turn) ws'
  claim_new h ws' q = let e = eq-eqb (get_or hs p 0) 0 h in record { answer = sym (rw e); holders = sym (rw e); words = q ∙ sym (rw e) }

  module _ (h : get_or hs p 0 ≡ 0 → ⊥) where
    pub claim_clash : get_or hs p 0 < turn → Claimed turn p hs ws refusal hs ws
    claim_clash l = let e = ne_eqb (get_or hs p 0) 0 h in record { answer = sym (rw (e, lt-ltb (get_or hs p 0) turn l)); holders = sym (rw e); words = sym (rw e) }

    pub claim_own : turn ≤ get_or hs p 0 → Claimed turn p hs ws (Ok 0) hs ws
    claim_own l = let e = ne_eqb (get_or hs p 0) 0 h in record { answer = sym (rw (e, le-ltb (get_or hs p 0) turn l)); holders = sym (rw e); words = sym (rw e) }

-- ---- what it says of a record's offset

-- a holder more changes nothing of the earlier ones
same_earlier : (turn p : ℕ) (hs : List ℕ) → p < length hs → get_or hs p 0 ≡ 0 → (i : ℕ) → earlier turn (set hs p turn) i ≡ earlier turn hs i
unfolding earlier
same_earlier turn p hs l z i = go (ℕ_discrete i p)
  where
    never : (b : Bool) → (b && false) ≡ false
    never true = refl
    never false = refl

    go : Dec (i ≡ p) → earlier turn (set hs p turn) i ≡ earlier turn hs i
    go (no n) = rw (get_or-set_other hs p i turn 0 n)
    go (yes e) = rw (e, get_or-set_same hs p turn 0 l, le-ltb turn turn (omega arith), z) (never (not (eqb turn 0)))

module _ (turn count : ℕ) (hs ws : List ℕ) (one : 1 ≤ turn) (most : turn ≤ max_sessions) (fits : count ≤ 64 * length ws) (g : Agrees turn count hs ws) where
  -- the holder of an offset can be entered
  pub claimable : (o : Option ℕ) → ((i : ℕ) → some i ≡ o → i < count) → Claimable (holder_at o) hs ws
  claimable none b = record { within = omega (arith, g.long); room = λ z. absurd (omega (arith, g.last)) }
  claimable (some i) b = let l = b i refl in record { within = omega (arith, g.long, g.most); room = λ z. omega arith }

  -- a new one
  agrees_new : (i : ℕ) → i < count → get_or hs i 0 ≡ 0 → Agrees turn count (set hs i turn) (mark ws i)
  agrees_new i l z =
      record {
        long = length-set hs i turn ∙ g.long;
        most = g.most;
        last = subst (λ (k : ℕ). max_sessions ≤ k) (sym (get_or-set_other hs i max_addresses turn 0 (λ e. omega (arith, g.most)))) g.last;
        free = λ j h. free j h (ℕ_discrete j i);
        until = λ j h. until j h (ℕ_discrete j i);
      }
    where
      inside : i < length hs
      inside = omega (arith, g.long, g.most)

      free : (j : ℕ) → j < count → Dec (j ≡ i) → eqb (get_or (set hs i turn) j 0) 0 ≡ not (marked (mark ws i) j)
      free j h (yes e) = rw (e, get_or-set_same hs i turn 0 inside, ne_eqb turn 0 (λ q. omega arith), marked_mark ws i i (omega arith), eq-eqb i i refl)
      free j h (no n) = rw (get_or-set_other hs i j turn 0 n, marked_mark ws i j (omega arith), ne_eqb j i n) (g.free j h)

      until : (j : ℕ) → j < count → Dec (j ≡ i) → get_or (set hs i turn) j 0 ≤ turn
      until j h (yes e) = rw (e, get_or-set_same hs i turn 0 inside) (omega arith)
      until j h (no n) = rw (get_or-set_other hs i j turn 0 n) (g.until j h)

  module _ (rest : List ℕ) where
    -- what entering the offset o of a record before others leads to
    pub record Entering (o : Option ℕ) (r : Result ℕ Broken) (hs' ws' : List ℕ) : Type 0 where
      pub clash : r ≡ refusal → any (earlier turn hs) (cons_option o rest) ≡ true
      pub free : (k : ℕ) → r ≡ Ok k → any (earlier turn hs) (cons_option o rest) ≡ any (earlier turn hs) rest
      pub new : (k : ℕ) → r ≡ Ok k → k ≡ new_by ws o
      pub words : (k : ℕ) → r ≡ Ok k → ws' ≡ mark_by ws o
      pub agrees : (k : ℕ) → r ≡ Ok k → Agrees turn count hs' ws'
      pub same : (k : ℕ) → r ≡ Ok k → (i : ℕ) → earlier turn hs' i ≡ earlier turn hs i

    pub entering : (o : Option ℕ) → ((i : ℕ) → some i ≡ o → i < count) → (r : Result ℕ Broken) (hs' ws' : List ℕ) → Claimed turn (holder_at o) hs ws r hs' ws' → Entering o r hs' ws'
    unfolding any earlier new_by mark_by
    entering none b r hs' ws' c =
        let e = ne_eqb (get_or hs max_addresses 0) 0 (λ z. omega (arith, g.last)) in
        let answer : r ≡ Ok 0 = c.answer ∙ rw (e, le-ltb (get_or hs max_addresses 0) turn (omega (arith, g.last))) in
        let qh : hs' ≡ hs = c.holders ∙ rw e in
        let qw : ws' ≡ ws = c.words ∙ rw e in
        record {
          clash = λ z. absurd (let v : ◌≡◌ {A = ℕ} 0 1 = cc in omega arith);
          free = λ k z. refl;
          new = λ k z. cc;
          words = λ k z. qw;
          agrees = λ k z. rw (qh, qw) g;
          same = λ k z i. ap (λ (l : List ℕ). earlier turn l i) qh;
        }
    entering (some i) b r hs' ws' c = go (eqb (get_or hs i 0) 0) (ltb (get_or hs i 0) turn) refl refl
      where
        l : i < count
        l = b i refl

        inside : i < length hs
        inside = omega (arith, l, g.long, g.most)

        go : (x y : Bool) → eqb (get_or hs i 0) 0 ≡ x → ltb (get_or hs i 0) turn ≡ y → Entering (some i) r hs' ws'
        go true y ex ey =
            let z = eqb-true (get_or hs i 0) 0 ex in
            let answer : r ≡ Ok 1 = c.answer ∙ rw ex in
            let qh : hs' ≡ set hs i turn = c.holders ∙ rw ex in
            let qw : ws' ≡ mark ws i = c.words ∙ rw ex in
            let unmarked : marked ws i ≡ false = flip (marked ws i) (sym ex ∙ g.free i l) in
            let none_before : earlier turn hs i ≡ false = rw ex in
            record {
              clash = λ q. absurd (let v : ◌≡◌ {A = ℕ} 0 1 = cc in omega arith);
              free = λ k q. rw none_before;
              new = λ k q. let v : k ≡ 1 = cc in v ∙ sym (rw unmarked);
              words = λ k q. qw;
              agrees = λ k q. rw (qh, qw) (agrees_new i l z);
              same = λ k q j. ap (λ (m : List ℕ). earlier turn m j) qh ∙ same_earlier turn i hs inside z j;
            }
          where
            flip : (m : Bool) → true ≡ not m → m ≡ false
            flip true q = q
            flip false q = refl
        go false true ex ey =
            let answer : r ≡ refusal = c.answer ∙ rw (ex, ey) in
            let before : earlier turn hs i ≡ true = rw (ex, ey) in
            record {
              clash = λ q. rw before;
              free = λ k q. absurd (let v : ◌≡◌ {A = ℕ} 0 1 = cc in omega arith);
              new = λ k q. absurd (let v : ◌≡◌ {A = ℕ} 0 1 = cc in omega arith);
              words = λ k q. absurd (let v : ◌≡◌ {A = ℕ} 0 1 = cc in omega arith);
              agrees = λ k q. absurd (let v : ◌≡◌ {A = ℕ} 0 1 = cc in omega arith);
              same = λ k q. absurd (let v : ◌≡◌ {A = ℕ} 0 1 = cc in omega arith);
            }
        go false false ex ey =
            let answer : r ≡ Ok 0 = c.answer ∙ rw (ex, ey) in
            let qh : hs' ≡ hs = c.holders ∙ rw ex in
            let there : marked ws i ≡ true = flip (marked ws i) (sym ex ∙ g.free i l) in
            let qw : ws' ≡ ws = c.words ∙ rw ex in
            let none_before : earlier turn hs i ≡ false = rw (ex, ey) in
            record {
              clash = λ q. absurd (let v : ◌≡◌ {A = ℕ} 0 1 = cc in omega arith);
              free = λ k q. rw none_before;
              new = λ k q. let v : k ≡ 0 = cc in v ∙ sym (rw there);
              words = λ k q. qw ∙ sym (mark_there ws i there);
              agrees = λ k q. rw (qh, qw) g;
              same = λ k q j. ap (λ (m : List ℕ). earlier turn m j) qh;
            }
          where
            flip : (m : Bool) → false ≡ not m → m ≡ true
            flip true q = refl
            flip false q = q

-- ---- one record before the others

module _ (ws : List ℕ) (rest : List ℕ) where
  pub marks_more : (o : Option ℕ) → marks ws (cons_option o rest) ≡ marks (mark_by ws o) rest
  unfolding marks mark_by
  marks_more none = refl
  marks_more (some i) = refl

  pub new_more : (o : Option ℕ) → new_marks ws (cons_option o rest) ≡ new_by ws o + new_marks (mark_by ws o) rest
  unfolding new_marks mark_by new_by
  new_more none = omega arith
  new_more (some i) = refl

pub new_few : (ws : List ℕ) (o : Option ℕ) → new_by ws o ≤ 1
unfolding new_by
new_few ws none = lit≤ tt
new_few ws (some i) = go (marked ws i)
  where
    go : (b : Bool) → flag (not b) ≤ 1
    go true = lit≤ tt
    go false = lit≤ tt

pub length_mark_by : (ws : List ℕ) (o : Option ℕ) → length (mark_by ws o) ≡ length ws
unfolding mark_by
length_mark_by ws none = refl
length_mark_by ws (some i) = length_mark ws i

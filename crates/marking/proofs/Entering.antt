-- A session with its addresses, and the loop over a table's sessions: both walks at once.
-- Assumes nothing.
use Rattle.std.specs.Prelude.{Result, Ok}
use Rattle.marking.specs.declared.Broken.{Broken}
use Rattle.marking.specs.declared.New.{New}
use Rattle.marking.specs.declared.Tally.{Tally}
use Rattle.marking.specs.Refusal.{refusal}
use Rattle.std.proofs.Common.{◌≡◌, ℕ, ◌+◌, ◌-◌, ◌*◌, ◌^◌, ◌<◌, ◌≤◌, Bool, true, false, not, ◌&&◌, T, eqb, List, [], ◌∷◌, get_or, drop, set, replicate, sym, refl, ap, ◌∙◌, subst, zero-le, add-zero, zero-add, arith, lit<, lit≤, length-set, get_or-set_other, get_or-set_same}
use mathlib.Core.Path.{transport}
use lib.ListN.{length-replicate}
use Rattle.octets.specs.Choice.{pick, flag}
use Rattle.octets.specs.Octets.{part, slices, octet_at}
use Rattle.octets.specs.Lists.{any}
use Rattle.octets.proofs.Tests.{of_true, and_left}
use Rattle.rules.specs.Limits.{max_addresses, max_sessions}
use Rattle.rules.specs.Model.{Settings, is_peer}
use Rattle.rules.specs.Layout.{session_width}
use Rattle.rules.specs.Sound.{marked}
use Rattle.pool.specs.Map.{marks, new_marks}
use Rattle.pool.proofs.Marks.{zeros_at, marked_zeros}
use Rattle.records.specs.Slot.{slot_sound, slot_tests, head_sound}
use Rattle.marking.specs.Offsets.{held_offsets, holders_length, Agrees}
use Rattle.marking.specs.Marking.{marks_after, new_after, slot_holds, slot_keeps, Admitted, slot_teids, slot_free, SlotEntered, SessionClaimed, slots_keep, slots_free, teids_in, addresses_in, AllAdmitted, new_by, slots_by, Tallied}
use Rattle.marking.proofs.Through.{Through, through_none, through_more, through_stop, through_all}
use Rattle.octets.proofs.Bools.{and-false}
use Rattle.marking.specs.Offsets as held
use Rattle.laws.proofs.PeerLaws.{peer_cases}
use Rattle.records.proofs.Turns.{slices_more}
use Rattle.marking.specs.Walk.{session_marks}
use Rattle.octets.proofs.Ordered.{orders}

-- ---- what an answer says

module _ {s : Settings} {ws xs : List ℕ} {r : Result ℕ Broken} {ws' : List ℕ} (m : Admitted s ws xs r ws') where
  admitted_new : (k : ℕ) → r ≡ Ok k → (slot_keeps s ws xs ≡ true) × (k ≡ new_marks ws (slot_teids s xs)) × (ws' ≡ marks ws (slot_teids s xs))
  unfolding slot_teids marks_after new_after
  admitted_new k e = let f = go (slot_keeps s ws xs) (sym m.answer ∙ e) in (f.0, f.1, m.words k e)
    where
      go : (b : Bool) → pick b (Ok (new_after s.first ws (slot_holds xs))) refusal ≡ Ok k → (b ≡ true) × (k ≡ new_after s.first ws (slot_holds xs))
      go true q = (refl, (cc))
      go false q = absurd (let z : ◌≡◌ {A = ℕ} 0 1 = cc in omega arith)

  admitted_clash : r ≡ refusal → slot_keeps s ws xs ≡ false
  admitted_clash e = go (slot_keeps s ws xs) (sym m.answer ∙ e)
    where
      go : (b : Bool) → pick b (Ok (new_after s.first ws (slot_holds xs))) refusal ≡ refusal → b ≡ false
      go true q = absurd (let z : ◌≡◌ {A = ℕ} 0 1 = cc in omega arith)
      go false q = refl

  -- a slot that is admitted is sound
  pub admitted_sound : (k : ℕ) → r ≡ Ok k → T (slot_sound s xs)
  unfolding slot_keeps
  admitted_sound k e = and_left (slot_sound s xs) _ (of_true (admitted_new k e).0)

module _ {s : Settings} {as' xs : List ℕ} {r : Result ℕ Broken} {as₁ : List ℕ} (m : held.AddressesAdmitted s as' xs r as₁) where
  taken_new : (k : ℕ) → r ≡ Ok k → (slot_free s as' xs ≡ true) × (k ≡ new_marks as' (held_offsets s xs))
  unfolding slot_free
  taken_new k e = go (any (marked as') (held_offsets s xs)) (sym m.answer ∙ e)
    where
      go : (b : Bool) → pick b refusal (Ok (new_marks as' (held_offsets s xs))) ≡ Ok k → (not b ≡ true) × (k ≡ new_marks as' (held_offsets s xs))
      go true q = absurd (let z : ◌≡◌ {A = ℕ} 0 1 = cc in omega arith)
      go false q = (refl, (cc))

  taken_clash : r ≡ refusal → slot_free s as' xs ≡ false
  unfolding slot_free
  taken_clash e = go (any (marked as') (held_offsets s xs)) (sym m.answer ∙ e)
    where
      go : (b : Bool) → pick b refusal (Ok (new_marks as' (held_offsets s xs))) ≡ refusal → not b ≡ false
      go true q = refl
      go false q = absurd (let z : ◌≡◌ {A = ℕ} 0 1 = cc in omega arith)

-- ---- a session

module _ (s : Settings) (ws as' xs : List ℕ) (r : Result ℕ Broken) (w : List ℕ) (m : Admitted s ws xs r w) where
  broken : (v b : List ℕ) → (slot_keeps s ws xs && slot_free s as' xs) ≡ false → SlotEntered s ws as' xs refusal v b
  broken v b e = record {
    answer = sym (rw e);
    words = λ new q. absurd (let z : ◌≡◌ {A = ℕ} 0 1 = cc in omega arith);
    addresses = λ new q. absurd (let z : ◌≡◌ {A = ℕ} 0 1 = cc in omega arith);
    few = λ new q. absurd (let z : ◌≡◌ {A = ℕ} 0 1 = cc in omega arith);
  }

  not_held : (turn : ℕ) (v hs b : List ℕ) → SlotEntered s ws as' xs refusal v b → SessionClaimed s turn ws as' xs refusal v hs b
  not_held turn v hs b x = record { entered = x; agrees = λ new q. absurd (let z : ◌≡◌ {A = ℕ} 0 1 = cc in omega arith) }

  pub entered_clash : (turn : ℕ) (hs : List ℕ) → r ≡ refusal → SessionClaimed s turn ws as' xs refusal w hs as'
  entered_clash turn hs e = not_held turn w hs as' (broken w as' (rw (admitted_clash m e)))

  module _ (n : ℕ) (e : r ≡ Ok n) (turn : ℕ) (t : Result ℕ Broken) (hs b : List ℕ) (c : held.SlotClaimed s turn as' xs t hs b) where
    q : held.AddressesAdmitted s as' xs t b
    q = c.admitted

    pub entered_taken : t ≡ refusal → SessionClaimed s turn ws as' xs refusal w hs b
    entered_taken z = not_held turn w hs b (broken w b (rw (taken_clash q z) (and-false (slot_keeps s ws xs))))

    pub entered_whole : (k : ℕ) → t ≡ Ok k → SessionClaimed s turn ws as' xs (Ok (record { teids = n; addresses = k })) w hs b
    entered_whole k z =
        let f = admitted_new m n e in
        let g = taken_new q k z in
        record {
          entered = record {
            answer = sym (λ i. pick (f.0 i && g.0 i) (Ok (record { teids = sym f.1 i; addresses = sym g.1 i })) refusal);
            words = λ new y. f.2;
            addresses = λ new y. q.words k z;
            few = λ new y. let x : n ≡ new.teids = cc in let u : k ≡ new.addresses = cc in (omega (arith, m.few n e), omega (arith, q.few k z));
          };
          agrees = λ new y. c.agrees k z;
        }

module _ {s : Settings} {ws as' xs : List ℕ} {r : Result New Broken} {ws₁ as₁ : List ℕ} (m : SlotEntered s ws as' xs r ws₁ as₁) where
  entered_new : (new : New) → r ≡ Ok new → (slot_keeps s ws xs ≡ true) × (slot_free s as' xs ≡ true) × (new.teids ≡ new_marks ws (slot_teids s xs)) × (new.addresses ≡ new_marks as' (held_offsets s xs))
  entered_new new e = go (slot_keeps s ws xs) (slot_free s as' xs) (sym m.answer ∙ e)
    where
      go : (b c : Bool) → pick {X = Result New Broken} (b && c) (Ok (record { teids = new_marks ws (slot_teids s xs); addresses = new_marks as' (held_offsets s xs) })) refusal ≡ Ok new
          → (b ≡ true) × (c ≡ true) × (new.teids ≡ new_marks ws (slot_teids s xs)) × (new.addresses ≡ new_marks as' (held_offsets s xs))
      go true true q = (refl, refl, (cc), (cc))
      go true false q = absurd (let z : ◌≡◌ {A = ℕ} 0 1 = cc in omega arith)
      go false c q = absurd (let z : ◌≡◌ {A = ℕ} 0 1 = cc in omega arith)

  entered_not : {X : Type 0} → r ≡ refusal → (slot_keeps s ws xs ≡ false → X) → (slot_free s as' xs ≡ false → X) → X
  entered_not {X} e f g = go (slot_keeps s ws xs) (slot_free s as' xs) f g (sym m.answer ∙ e)
    where
      go : (b c : Bool) → (b ≡ false → X) → (c ≡ false → X) → pick {X = Result New Broken} (b && c) (Ok (record { teids = new_marks ws (slot_teids s xs); addresses = new_marks as' (held_offsets s xs) })) refusal ≡ refusal → X
      go true true f g q = absurd (let z : ◌≡◌ {A = ℕ} 0 1 = cc in omega arith)
      go true false f g q = g refl
      go false c f g q = f refl

-- ---- the loop

-- before the first session no address has a holder; the last place is never free
pub holders_none : (count k : ℕ) (as₀ : List ℕ) → count ≤ max_addresses → as₀ ≡ replicate k 0 → Agrees 0 count (set (replicate holders_length 0) max_addresses 65535) as₀
holders_none count k as₀ h e =
    record {
      long = length-set zeros max_addresses 65535 ∙ length-replicate {A = ℕ} holders_length 0;
      most = h;
      last = rw (get_or-set_same zeros max_addresses 65535 0 (rw (length-replicate {A = ℕ} holders_length 0) (lit< tt))) (lit≤ tt);
      free = λ i l. rw (other i l, e, marked_zeros k i);
      until = λ i l. rw (other i l) (omega arith);
    }
  where
    zeros : List ℕ
    zeros = replicate holders_length 0

    other : (i : ℕ) → i < count → ◌≡◌ {A = ℕ} (get_or (set zeros max_addresses 65535) i 0) 0
    other i l = get_or-set_other zeros max_addresses i 65535 0 (λ q. omega arith) ∙ zeros_at holders_length i

-- a slot that is admitted has a peer, which shares out its number
entered_peer : (s : Settings) (ws xs : List ℕ) → slot_keeps s ws xs ≡ true → T (is_peer (get_or xs 0 0))
unfolding slot_keeps slot_sound slot_tests head_sound octet_at
entered_peer s ws xs e = and_left (is_peer (get_or xs 0 0)) _ (and_left (head_sound xs) _ (and_left (slot_sound s xs) (session_marks s.first ws [] (slot_holds xs)) (of_true e)))

peer_one : (j p : ℕ) → T (is_peer p) → j * (2 - p) ≡ pick {X = ℕ} (eqb p 1) j 0
peer_one j = peer_cases (λ (p : ℕ). j * (2 - p) ≡ pick {X = ℕ} (eqb p 1) j 0) (omega arith) (omega arith)

peer_two : (j p : ℕ) → T (is_peer p) → j * (p - 1) ≡ pick {X = ℕ} (eqb p 2) j 0
peer_two j = peer_cases (λ (p : ℕ). j * (p - 1) ≡ pick {X = ℕ} (eqb p 2) j 0) (omega arith) (omega arith)

peer_both : (j p : ℕ) → T (is_peer p) → j * (2 - p) + j * (p - 1) ≡ j
peer_both j = peer_cases (λ (p : ℕ). j * (2 - p) + j * (p - 1) ≡ j) (omega arith) (omega arith)

peer_count_lem : (p : ℕ) → T (is_peer p) → 2 - p ≡ flag (eqb p 1)
peer_count_lem = peer_cases (λ (p : ℕ). 2 - p ≡ flag (eqb p 1)) refl refl

pub peer_within : (p : ℕ) → T (is_peer p) → (1 ≤ p) × (p ≤ 2)
peer_within = peer_cases (λ (p : ℕ). (1 ≤ p) × (p ≤ 2)) (omega arith) (omega arith)

-- a share is no more than the whole
pub share_small : (j p : ℕ) → j ≤ 24 → 1 ≤ p → p ≤ 2 → (j * (2 - p) ≤ 24) × (j * (p - 1) ≤ 24)
share_small j p h a b = orders p 1 (λ c. let e : p ≡ 1 = omega arith in rw e (omega arith)) (λ c. let e : p ≡ 2 = omega arith in rw e (omega arith))

module _ {c : Tally} {new : New} {p : ℕ} (t : Tallied c new p) where
  small : (new.teids * (2 - p) ≤ 24) × (new.teids * (p - 1) ≤ 24)
  small = share_small new.teids p t.teids t.least t.most

  pub fits_one : new.teids * (2 - p) < 2 ^ 64
  fits_one = let a = small in omega arith

  pub fits_ones : c.one + new.teids * (2 - p) < 2 ^ 64
  fits_ones = let a = small in let b = t.ones in omega arith

  pub fits_two : new.teids * (p - 1) < 2 ^ 64
  fits_two = let a = small in omega arith

  pub fits_twos : c.two + new.teids * (p - 1) < 2 ^ 64
  fits_twos = let a = small in let b = t.twos in omega arith

module _ (s : Settings) (ws₀ as₀ a : List ℕ) (n : ℕ) where
  abbrev slots : List (List ℕ)
  slots = slices session_width n a

  abbrev left : ℕ → List (List ℕ)
  left i = slices session_width (n - i) (drop (i * session_width) a)

  pub record Passing (ws hs as' : List ℕ) (i : ℕ) (c : Tally) : Type 0 where
    pub teids : Through (slot_keeps s) (slot_teids s) ws₀ a n ws i (c.one + c.two)
    pub addresses : Through (slot_free s) (held_offsets s) as₀ a n as' i c.taken
    pub agrees : Agrees i s.address_count hs as'
    pub ones : c.one + new_by s 1 ws (left i) ≡ new_by s 1 ws₀ slots
    pub twos : c.two + new_by s 2 ws (left i) ≡ new_by s 2 ws₀ slots
    pub firsts : c.first + slots_by 1 (left i) ≡ slots_by 1 slots
    pub few : c.first ≤ i

  pub passing_none : (hs : List ℕ) → Agrees 0 s.address_count hs as₀ → Passing ws₀ hs as₀ 0 (record { one = 0; two = 0; first = 0; taken = 0 })
  passing_none hs g =
      let e : n - 0 ≡ n = omega arith in
      record {
        teids = through_none (slot_keeps s) (slot_teids s) ws₀ a n;
        addresses = through_none (slot_free s) (held_offsets s) as₀ a n;
        agrees = g;
        ones = rw e (zero-add (new_by s 1 ws₀ slots));
        twos = rw e (zero-add (new_by s 2 ws₀ slots));
        firsts = rw e (zero-add (slots_by 1 slots));
        few = zero-le;
      }

  not_all : (v b : List ℕ) → (slots_keep s ws₀ slots && slots_free s as₀ slots) ≡ false → AllAdmitted s ws₀ as₀ slots refusal v b
  not_all v b e = record {
    answer = sym (rw e);
    words = λ c z. absurd (let y : ◌≡◌ {A = ℕ} 0 1 = cc in omega arith);
    addresses = λ c z. absurd (let y : ◌≡◌ {A = ℕ} 0 1 = cc in omega arith);
  }

  module _ {ws hs as' : List ℕ} {i : ℕ} {c : Tally} (p : Passing ws hs as' i c) where
    -- before the session's turn
    pub passing_turn : Agrees (i + 1 - 1) s.address_count hs as'
    passing_turn = let e : i + 1 - 1 ≡ i = omega arith in rw e p.agrees

    module _ (h : i < n) (row : List ℕ) (e : row ≡ part (i * session_width) session_width a) (r : Result New Broken) (ws₁ hs₁ as₁ : List ℕ) (m : SessionClaimed s (i + 1) ws as' row r ws₁ hs₁ as₁) where
      abbrev slot : List ℕ
      slot = part (i * session_width) session_width a

      here : SlotEntered s ws as' slot r ws₁ as₁
      here = subst (λ (x : List ℕ). SlotEntered s ws as' x r ws₁ as₁) e m.entered

      -- whose the session is
      pub passing_peer : (new : New) → r ≡ Ok new → T (is_peer (get_or slot 0 0))
      passing_peer new e = entered_peer s ws slot (entered_new here new e).0

      -- so it can be added
      pub passing_tally : (new : New) (q : ℕ) → r ≡ Ok new → q ≡ get_or slot 0 0 → n ≤ max_sessions → Tallied c new q
      passing_tally new q e z few =
          let w = peer_within q (subst (λ (x : ℕ). T (is_peer x)) (sym z) (passing_peer new e)) in
          let t = p.teids.few in
          let u = p.addresses.few in
          let f = p.few in
          let g = here.few new e in
          record { ones = omega arith; twos = omega arith; firsts = omega arith; addresses = omega arith; teids = g.0; new = g.1; least = w.0; most = w.1 }

      pub passing_more : (new : New) (q : ℕ) → r ≡ Ok new → q ≡ get_or slot 0 0 → Passing ws₁ hs₁ as₁ (i + 1) (record { one = c.one + new.teids * (2 - q); two = c.two + new.teids * (q - 1); first = c.first + (2 - q); taken = c.taken + new.addresses })
      unfolding new_by slots_by octet_at
      passing_more new q e z =
          let f = entered_new here new e in
          let few = here.few new e in
          let who : T (is_peer q) = subst (λ (x : ℕ). T (is_peer x)) (sym z) (passing_peer new e) in
          let w = here.words new e in
          let more : left i ≡ slot ∷ left (i + 1) = slices_more session_width a n i h in
          let sum : c.one + new.teids * (2 - q) + (c.two + new.teids * (q - 1)) ≡ c.one + c.two + new.teids = let b = peer_both new.teids q who in omega arith in
          let own : (x : ℕ) → new_by s x ws (left i) ≡ pick (eqb q x) new.teids 0 + new_by s x ws₁ (left (i + 1)) =
          λ x. ap (new_by s x ws) more ∙ (λ y. pick (eqb (sym z y) x) (sym f.2 y) 0 + new_by s x (sym w y) (left (i + 1))) in
          let count : slots_by 1 (left i) ≡ flag (eqb q 1) + slots_by 1 (left (i + 1)) = ap (slots_by 1) more ∙ (λ y. flag (eqb (sym z y) 1) + slots_by 1 (left (i + 1))) in
          record {
            teids = subst (λ (x : ℕ). Through (slot_keeps s) (slot_teids s) ws₀ a n ws₁ (i + 1) x) (sym sum) (through_more (slot_keeps s) (slot_teids s) ws₀ a n p.teids h new.teids ws₁ f.0 f.2 w few.0);
            addresses = through_more (slot_free s) (held_offsets s) as₀ a n p.addresses h new.addresses as₁ f.1 f.3 (here.addresses new e) few.1;
            agrees = m.agrees new e;
            ones = let b = peer_one new.teids q who in let v = own 1 in let d = p.ones in omega arith;
            twos = let b = peer_two new.teids q who in let v = own 2 in let d = p.twos in omega arith;
            firsts = let b = peer_count_lem q who in let d = p.firsts in omega (arith, count);
            few = let b = peer_within q who in let d = p.few in omega arith;
          }

      -- the same by the numbers that the code has
      front : get_or row 0 0 ≡ get_or slot 0 0
      front = ap (λ (x : List ℕ). get_or x 0 0) e

      pub turn_tally : (new : New) → r ≡ Ok new → n ≤ max_sessions → Tallied c new (get_or row 0 0)
      turn_tally new z few = passing_tally new (get_or row 0 0) z front few

      pub turn_added : (new : New) (c' : Tally) → r ≡ Ok new
          → (c'.one ≡ c.one + new.teids * (2 - get_or row 0 0)) × (c'.two ≡ c.two + new.teids * (get_or row 0 0 - 1)) × (c'.first ≡ c.first + (2 - get_or row 0 0)) × (c'.taken ≡ c.taken + new.addresses)
          → Passing ws₁ hs₁ as₁ (i + 1) c'
      turn_added new c' z y =
          transport (λ x. Passing ws₁ hs₁ as₁ (i + 1) (record { one = sym y.0 x; two = sym y.1 x; first = sym y.2 x; taken = sym y.3 x })) (passing_more new (get_or row 0 0) z front)

      pub passing_stop : (v b : List ℕ) → r ≡ refusal → AllAdmitted s ws₀ as₀ slots refusal v b
      unfolding slots_keep slots_free
      passing_stop v b z =
          entered_not here z
          (λ f. not_all v b (rw (through_stop (slot_keeps s) (slot_teids s) ws₀ a n p.teids h f)))
          (λ f. not_all v b (rw (through_stop (slot_free s) (held_offsets s) as₀ a n p.addresses h f) (and-false (slots_keep s ws₀ slots))))

    pub passing_all : n ≤ i → AllAdmitted s ws₀ as₀ slots (Ok c) ws as'
    unfolding slots_keep slots_free teids_in addresses_in new_by slots_by slices
    passing_all h =
        let t = through_all (slot_keeps s) (slot_teids s) ws₀ a n p.teids h in
        let u = through_all (slot_free s) (held_offsets s) as₀ a n p.addresses h in
        let e : n - i ≡ 0 = omega arith in
        let none_left : left i ≡ [] = rw e in
        let ones : new_by s 1 ws₀ slots ≡ c.one = sym p.ones ∙ ap (λ (l : List (List ℕ)). c.one + new_by s 1 ws l) none_left ∙ add-zero c.one in
        let twos : new_by s 2 ws₀ slots ≡ c.two = sym p.twos ∙ ap (λ (l : List (List ℕ)). c.two + new_by s 2 ws l) none_left ∙ add-zero c.two in
        let firsts : slots_by 1 slots ≡ c.first = sym p.firsts ∙ ap (λ (l : List (List ℕ)). c.first + slots_by 1 l) none_left ∙ add-zero c.first in
        record {
          answer = sym (λ j. pick (t.yes' j && u.yes' j) (Ok (record { one = ones j; two = twos j; first = firsts j; taken = sym u.count j })) refusal);
          words = λ c q. t.words;
          addresses = λ c q. u.words;
        }

-- How many items of a message have a row in the plan: each takes 9 octets of the message at least, but for one FQ-CSID of null length, which takes 4 and stands alone.
-- Assumes nothing.
use mathlib.Core.Path.{◌≡◌, subst, ap, ◌∙◌}
use Prim.Native.Nat.{ℕ, zero, suc, ◌+◌, ◌*◌, ◌/◌, ◌%◌, ◌≤◌, zero-le}
use native.Mathlib.Nat.{le_trans}
use native.Mathlib.Omega.{arith}
use mathlib.Core.Bool.{Bool, true, false, ◌||◌}
use mathlib.Core.List.{List, [], ◌∷◌, ◌++◌}
use lib.ListN.{length, drop, length-take, length-drop}
use lib.Dec.{ltb, eqb, nltb→le}
use Rattle.octets.specs.Choice.{pick, flag}
use Rattle.octets.specs.Lists.{member, any, keep}
use Rattle.octets.proofs.Tests.{pick_either}
use Rattle.octets.proofs.ListLaws.{Every, OnSome, pick_cases}
use Rattle.rules.specs.Elements.{Answer, refuse, value, missing, too_short, incorrect, Fqcsid, address_length, csid_rest, read_fseid, read_fqcsid, read_fteid, read_ue_ip}
use Rattle.rules.specs.Types as ie
use Rattle.rules.specs.Message.{inside, Element, element_length, elements_up_to, elements, has_type, places_of, number_width}
use Rattle.rules.specs.Reading.{Reading, done, and_then, named, requiring, Members, no_members, with_pdi, member_there, number_read, far_read, pdi_in, value_read, member_read, members_read, unopened, pdi_end, pdi_read, pdr_item, endpoint_item, change_from, item_from, group_read, element_read, alone_in}
use Rattle.rules.specs.Request.{Item, clears_csids, sets_csid, updates_endpoint, Draft, empty_draft, clears}
use Rattle.laws.proofs.ReadLaws.{OnValue, OnDone, anything, any_value, then_done, need_done, need_any}
use Rattle.laws.proofs.RequestLaws.{element_step}
use Rattle.laws.proofs.MessageLaws.{el, counts_alike}
use Rattle.laws.proofs.CsidLaws.{Few, any_more, flagged, counted, element_few, few_none}

-- ---- the weight of rows

-- items with a row, of a message with s octets after its header and rest of them not read yet
abbrev pub Weighs : (Item → Bool) → ℕ → ℕ → List Item → Type 0
Weighs has_row s rest is = 9 * length (keep has_row is) + rest ≤ s + 5 * flag (any clears is)

-- s the octets after the header, rest those not read yet, d what was read; `alone` as in elements_read
pub record Light (has_row : Item → Bool) (alone : Bool) (s rest : List ℕ) (d : Draft) : Type 0 where
  pub few : Few alone (length (keep (has_type ie.fqcsid) (elements 0 rest))) d.items
  pub weight : Weighs has_row (length s) (length rest) d.items

-- ---- elements lie within their octets

abbrev Within : ℕ → Element → Type 0
Within n e = 4 + length e.content ≤ n

within_up_to : (n k at : ℕ) (xs : List ℕ) → length xs ≤ k → Every (Within k) (elements_up_to n at xs)
unfolding elements_up_to
within_up_to zero k at xs h = tt
within_up_to (suc n) k at xs h =
    pick_cases (Every (Within k)) (ltb (length xs) 4) [] _ (λ _. tt)
    (λ long. let l = nltb→le (length xs) 4 long in
    let a = length-drop 4 xs in
    let b = length-take (element_length xs) (drop 4 xs) in
    let c = length-drop (4 + element_length xs) xs in
    (omega arith, within_up_to n k (at + (4 + element_length xs)) (drop (4 + element_length xs) xs) (omega arith)))

within : (k at : ℕ) (xs : List ℕ) → length xs ≤ k → Every (Within k) (elements at xs)
unfolding elements
within k at xs h = within_up_to (length xs) k at xs h

-- ---- a group has an ID, of an octet at least

some_octets : (t p : ℕ) (v : List ℕ) → OnDone (λ _. 1 ≤ length v) (number_read t p v)
unfolding number_read number_width
some_octets t p v =
    pick_cases (OnDone (λ _. 1 ≤ length v)) (ltb (length v) (number_width t)) _ _ (λ _. tt)
    (λ long. le_trans (pick_either (λ (w : ℕ). 1 ≤ w) (eqb t ie.pdr_id) _ _ (omega arith) (pick_either (λ (w : ℕ). 1 ≤ w) (eqb t ie.precedence || eqb t ie.far_id) _ _ (omega arith) (omega arith))) (nltb→le (length v) (number_width t) long))

module _ (n : ℕ) where
  -- what has an ID has 5 octets
  abbrev Heavy : Members → Type 0
  Heavy m = OnSome (λ _. 5 ≤ n) m.pdr_id × OnSome (λ _. 5 ≤ n) m.endpoint_id

  module _ (inner : ℕ → List ℕ → Members → Reading Members) (keeps : (p : ℕ) (v : List ℕ) (m : Members) → length v ≤ n → Heavy m → OnDone Heavy (inner p v m)) (g : ℕ) where
    value_heavy : (t p : ℕ) (v : List ℕ) (m : Members) → 4 + length v ≤ n → Heavy m → OnDone Heavy (value_read inner g t p v m)
    unfolding value_read pdi_in
    value_heavy t p v m h b =
        pick_either (OnDone Heavy) (eqb t ie.pdr_id) _ _ (then_done (λ _. 1 ≤ length v) Heavy (number_read t p v) _ (some_octets t p v) (λ _ k. (omega arith, b.1)))
        (pick_either (OnDone Heavy) (eqb t ie.precedence) _ _ (other (number_read t p v) _ (λ _. b))
        (pick_either (OnDone Heavy) (eqb t ie.far_id) _ _ (other (far_read g p v) _ (λ _. b))
        (pick_either (OnDone Heavy) (eqb t ie.pdi) _ _ (pick_either (OnDone Heavy) (eqb g ie.create_pdr) _ _ (keeps p v (with_pdi m) (omega arith) b) b)
        (pick_either (OnDone Heavy) (eqb t ie.source_interface) _ _ (other (number_read t p v) _ (λ _. b))
        (pick_either (OnDone Heavy) (eqb t ie.fteid) _ _ (other (named t p (read_fteid (eqb g ie.create_endpoint) v)) _ (λ _. b))
        (pick_either (OnDone Heavy) (eqb t ie.ue_ip_address) _ _ (other (named t p (read_ue_ip v)) _ (λ _. b))
        (then_done (λ _. 1 ≤ length v) Heavy (number_read t p v) _ (some_octets t p v) (λ _ k. (b.0, omega arith)))))))))
      where
        other : {A : Type 0} (r : Reading A) (next : A → Members) → ((a : A) → Heavy (next a)) → OnDone Heavy (and_then r (λ a. done (next a)))
        other r next k = then_done (λ _. Unit {0}) Heavy r (λ a. done (next a)) (anything r) (λ a _. k a)

    members_heavy : (es : List Element) (m : Members) → Every (Within n) es → Heavy m → OnDone Heavy (members_read inner g es m)
    unfolding members_read member_read
    members_heavy [] m h b = b
    members_heavy (e ∷ es) m h b =
        then_done Heavy Heavy (member_read inner g e m) _
        (pick_either (OnDone Heavy) (member e.type (places_of g)) _ _ (pick_either (OnDone Heavy) (member_there e.type m) _ _ tt (value_heavy e.type e.place e.content m h.0 b)) b)
        (λ m' b'. members_heavy es m' h.1 b')

  pdi_heavy : (p : ℕ) (v : List ℕ) (m : Members) → length v ≤ n → Heavy m → OnDone Heavy (pdi_read p v m)
  unfolding pdi_read pdi_end
  pdi_heavy p v m h b =
      then_done Heavy Heavy (members_read unopened ie.pdi (elements (inside p) v) m) (pdi_end p) (members_heavy unopened (λ _ _ _ _ b'. b') ie.pdi (elements (inside p) v) m (within n (inside p) v h) b)
      (λ m' b'. need_any Heavy missing ie.source_interface p m'.source (λ _. done m') (λ _. b'))

  abbrev Enough : Item → Type 0
  Enough _ = 5 ≤ n

  item_heavy : (g p : ℕ) (m : Members) → Heavy m → OnDone Enough (item_from g p m)
  unfolding item_from pdr_item endpoint_item change_from
  item_heavy g p m b =
      pick_either (OnDone Enough) (eqb g ie.create_pdr) _ _
      (pick_either (OnDone Enough) m.pdi _ _ (need_any Enough _ _ p m.precedence _ (λ _. of_pdr _ (λ i h. need_any Enough _ _ p m.source _ (λ _. h)))) tt)
      (pick_either (OnDone Enough) (eqb g ie.create_endpoint) _ _ (need_any Enough _ _ p m.local _ (λ _. of_endpoint _ (λ _ h. h)))
      (pick_either (OnDone Enough) (eqb g ie.update_pdr) _ _ (of_pdr _ (λ _ h. h)) (pick_either (OnDone Enough) (eqb g ie.remove_pdr) _ _ (of_pdr _ (λ _ h. h)) (of_endpoint _ (λ _ h. h)))))
    where
      of_pdr : (next : ℕ → Reading Item) → ((i : ℕ) → 5 ≤ n → OnDone Enough (next i)) → OnDone Enough (requiring missing ie.pdr_id p m.pdr_id next)
      of_pdr next k = need_done (λ _. 5 ≤ n) Enough missing ie.pdr_id p m.pdr_id next b.0 k

      of_endpoint : (next : ℕ → Reading Item) → ((i : ℕ) → 5 ≤ n → OnDone Enough (next i)) → OnDone Enough (requiring missing ie.endpoint_id p m.endpoint_id next)
      of_endpoint next k = need_done (λ _. 5 ≤ n) Enough missing ie.endpoint_id p m.endpoint_id next b.1 k

group_heavy : (g p : ℕ) (v : List ℕ) → OnDone (λ _. 5 ≤ length v) (group_read g p v)
unfolding group_read
group_heavy g p v =
    let n = length v in
    then_done (Heavy n) (Enough n) (members_read pdi_read g (elements (inside p) v) no_members) (item_from g p) (members_heavy n pdi_read (pdi_heavy n) g (elements (inside p) v) no_members (within n (inside p) v (omega arith)) (tt, tt)) (item_heavy n g p)

-- ---- an FQ-CSID that is read has an address

csid_heavy : (v : List ℕ) → OnValue (λ _. 5 ≤ length v) (read_fqcsid v)
unfolding read_fqcsid csid_rest address_length
csid_heavy [] = tt
csid_heavy (f ∷ xs) =
    pick_either P (ltb 2 (f / 16)) (refuse incorrect) _ tt
    (by_length (address_length (f / 16)) (2 * (f % 16)) _ (pick_either (λ (a : ℕ). 4 ≤ a) (eqb (f / 16) 1) 16 4 (omega arith) (omega arith)))
  where
    P : Answer Fqcsid → Type 0
    P a = OnValue (λ _. 5 ≤ length (f ∷ xs)) a

    any_heavy : (a : Answer Fqcsid) → 5 ≤ length (f ∷ xs) → P a
    any_heavy (refuse c) h = tt
    any_heavy (value c) h = h

    by_length : (a m : ℕ) (r : Answer Fqcsid) → 4 ≤ a → P (pick (ltb (length xs) (a + m + 1)) (refuse too_short) r)
    by_length a m r h = pick_cases P (ltb (length xs) (a + m + 1)) (refuse too_short) r (λ _. tt) (λ long. any_heavy r (omega (arith, nltb→le (length xs) (a + m + 1) long)))

-- ---- one more item

flag_few : (b : Bool) → flag b ≤ 1
flag_few true = omega arith
flag_few false = omega arith

keep_more : (p : Item → Bool) (is : List Item) (i : Item) → length (keep p (is ++ (i ∷ []))) ≡ length (keep p is) + flag (p i)
unfolding keep
keep_more p [] i = one (p i)
  where
    one : (b : Bool) → length (pick b (i ∷ []) []) ≡ 0 + flag b
    one true = omega arith
    one false = omega arith
keep_more p (x ∷ is) i = one (p x) (keep_more p is i)
  where
    one : (b : Bool) → length (keep p (is ++ (i ∷ []))) ≡ length (keep p is) + flag (p i) → length (pick b (x ∷ keep p (is ++ (i ∷ []))) (keep p (is ++ (i ∷ [])))) ≡ length (pick b (x ∷ keep p is) (keep p is)) + flag (p i)
    one true h = omega arith
    one false h = h

either_more : (a b : Bool) → (flag a ≤ flag (a || b)) × (flag b ≤ flag (a || b))
either_more true b = (omega arith, flag_few b)
either_more false b = (zero-le, omega arith)

-- none removed all so far, where an FQ-CSID comes
none_cleared : (alone : Bool) (n : ℕ) (is : List Item) → 1 ≤ n → Few alone n is → flag (any clears is) ≤ 0
none_cleared true n is l h = omega arith
none_cleared false n is l h = h

-- ---- a message's elements, one by one

module _ (has_row : Item → Bool) (no : has_row updates_endpoint ≡ false) where
  pub light_none : (at : ℕ) (s : List ℕ) → Light has_row (alone_in (elements at s)) s s empty_draft
  light_none at s = record { few = subst (λ (n : ℕ). Few (alone_in (elements at s)) n []) (counts_alike ie.fqcsid at 0 s) (few_none (elements at s)); weight = unfold keep any in (omega arith) }

  element_light : (kind : ℕ) (alone : Bool) (s rest after n : ℕ) (e : Element) (d : Draft) → 4 + length e.content + after ≤ rest → Few alone (flag (eqb e.type ie.fqcsid) + n) d.items
      → Weighs has_row s rest d.items → OnDone (λ d'. Weighs has_row s after d'.items) (element_read kind alone e d)
  element_light kind alone s rest after n e d l f w =
      element_step (λ _. Unit {0}) Long Long kind alone e d (λ d'. Weighs has_row s after d'.items) (any_value (read_fseid e.content)) (csid_heavy e.content) (group_heavy e.type e.place e.content)
      (record {
        skips = same;
        seid = λ _ _. same;
        restores = λ _. same;
        clears = λ t _. unfold clears in (omega (arith, row clears_csids, (marked clears_csids).1, none_cleared alone (flag came + n) d.items (omega (arith, flagged came t)) f));
        sets = λ _ c k. more (sets_csid c) k;
        updates = omega (arith, keep_more has_row d.items updates_endpoint, ap flag no, (marked updates_endpoint).0);
        makes = more;
      })
    where
      Long : {A : Type 0} → A → Type 0
      Long _ = 5 ≤ length e.content

      came : Bool
      came = eqb e.type ie.fqcsid

      same : Weighs has_row s after d.items
      same = omega arith

      row : (i : Item) → length (keep has_row (d.items ++ (i ∷ []))) ≤ length (keep has_row d.items) + 1
      row i = omega (arith, keep_more has_row d.items i, flag_few (has_row i))

      marked : (i : Item) → (flag (any clears d.items) ≤ flag (any clears (d.items ++ (i ∷ [])))) × (flag (clears i) ≤ flag (any clears (d.items ++ (i ∷ []))))
      marked i = rw any_more (either_more (any clears d.items) (clears i))

      more : (i : Item) → 5 ≤ length e.content → Weighs has_row s after (d.items ++ (i ∷ []))
      more i k = omega (arith, row i, (marked i).0)

  pub light_next : (kind q : ℕ) {alone : Bool} {s rest after : List ℕ} {t p : ℕ} {v : List ℕ} {d d' : Draft}
      → elements p rest ≡ el p t v ∷ elements q after → 4 + length v + length after ≤ length rest
      → Light has_row alone s rest d → element_read kind alone (el p t v) d ≡ done d' → Light has_row alone s after d'
  light_next kind q {alone} {s} {rest} {after} {t} {p} {v} {d} {d'} es l h r =
      record {
        few = subst (OnDone (λ x. Few alone n x.items)) r (element_few kind alone n e d here);
        weight = subst (OnDone (λ x. Weighs has_row (length s) (length after) x.items)) r (element_light kind alone (length s) (length rest) (length after) n e d l here h.weight);
      }
    where
      e : Element
      e = el p t v

      n : ℕ
      n = length (keep (has_type ie.fqcsid) (elements 0 after))

      here : Few alone (flag (eqb t ie.fqcsid) + n) d.items
      here =
          subst (λ (k : ℕ). Few alone k d.items)
          (counts_alike ie.fqcsid 0 p rest ∙ ap (λ (x : List Element). length (keep (has_type ie.fqcsid) x)) es ∙ counted e (elements q after)
          ∙ ap (λ (k : ℕ). flag (eqb t ie.fqcsid) + k) (counts_alike ie.fqcsid q 0 after))
          h.few

  -- where an element is left, there is one row more than there are among as many as the octets allow
  pub light_room : {alone : Bool} {s rest : List ℕ} {d : Draft} → 4 ≤ length rest → Light has_row alone s rest d → length (keep has_row d.items) + 1 ≤ (length s + 10) / 9
  light_room {alone} {s} {rest} {d} a h = omega (arith, flag_few (any clears d.items))

  -- and in the end there are no more than these
  pub light_end : {alone : Bool} {s rest : List ℕ} {d : Draft} → Light has_row alone s rest d → length (keep has_row d.items) ≤ (length s + 10) / 9
  light_end {alone} {s} {rest} {d} h = omega (arith, flag_few (any clears d.items))

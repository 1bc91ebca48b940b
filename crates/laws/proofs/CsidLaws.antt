-- Where a message's FQ-CSID removes all, none sets or removes a node type's.
-- Assumes nothing.
use mathlib.Core.Path.{◌≡◌, refl, ap, ◌∙◌, subst}
use Prim.Native.Nat.{ℕ, ◌+◌, ◌≤◌, zero-le}
use native.Mathlib.Omega.{arith}
use mathlib.Core.Bool.{Bool, true, false, ◌||◌, or-false}
use mathlib.Core.List.{List, [], ◌∷◌, ◌++◌}
use lib.ListN.{length, length-append}
use borrow.Author.Tests.{eqb-true}
use lib.Dec.{T, eqb}
use Rattle.octets.specs.Choice.{pick, flag}
use Rattle.octets.specs.Lists.{any, keep, collect}
use Rattle.octets.proofs.Tests.{pick_either}
use Rattle.octets.proofs.ListLaws.{collect_append}
use Rattle.rules.specs.Elements.{Fqcsid, read_fseid, read_fqcsid}
use Rattle.rules.specs.Types as ie
use Rattle.rules.specs.Message.{inside, Element, has_type, elements}
use Rattle.rules.specs.Reading.{done, Members, pdi_read, no_members, members_read, pdr_item, endpoint_item, change_from, item_from, group_read, element_read, elements_read, alone_in}
use Rattle.rules.specs.Request.{Item, clears_csids, sets_csid, updates_endpoint, Draft, empty_draft, csid_in, clears}
use Rattle.laws.proofs.ReadLaws.{OnDone, anything, any_value, then_done, need_any}
use Rattle.laws.proofs.RequestLaws.{element_step}

-- ---- what a group makes is not about FQ-CSIDs

-- 1 of an item that is about FQ-CSIDs
abbrev weight : Item → ℕ
weight i = length (collect csid_in (i ∷ [])) + flag (clears i)

abbrev Other : Item → Type 0
Other i = weight i ≤ 0

item_other : (g p : ℕ) (m : Members) → OnDone Other (item_from g p m)
unfolding item_from pdr_item endpoint_item change_from collect csid_in clears
item_other g p m =
    pick_either (OnDone Other) (eqb g ie.create_pdr) _ _
    (pick_either (OnDone Other) m.pdi _ _ (need_any Other _ _ p m.precedence _ (λ _. need_any Other _ _ p m.pdr_id _ (λ _. need_any Other _ _ p m.source _ (λ _. zero-le)))) tt)
    (pick_either (OnDone Other) (eqb g ie.create_endpoint) _ _ (need_any Other _ _ p m.local _ (λ _. need_any Other _ _ p m.endpoint_id _ (λ _. zero-le)))
    (pick_either (OnDone Other) (eqb g ie.update_pdr) _ _ (need_any Other _ _ p m.pdr_id _ (λ _. zero-le))
    (pick_either (OnDone Other) (eqb g ie.remove_pdr) _ _ (need_any Other _ _ p m.pdr_id _ (λ _. zero-le)) (need_any Other _ _ p m.endpoint_id _ (λ _. zero-le)))))

group_other : (g p : ℕ) (v : List ℕ) → OnDone Other (group_read g p v)
unfolding group_read
group_other g p v =
    then_done (λ _. Unit {0}) Other (members_read pdi_read g (elements (inside p) v) no_members) (item_from g p)
    (anything (members_read pdi_read g (elements (inside p) v) no_members)) (λ m _. item_other g p m)

-- ---- FQ-CSIDs read, and n more to come

-- where one stands alone there is one at most; else none removes all
abbrev pub Few : Bool → ℕ → List Item → Type 0
Few true n is = length (collect csid_in is) + flag (any clears is) + n ≤ 1
Few false n is = flag (any clears is) ≤ 0

one_more : (is : List Item) (i : Item) → length (collect csid_in (is ++ (i ∷ []))) ≡ length (collect csid_in is) + length (collect csid_in (i ∷ []))
one_more is i = ap length (collect_append csid_in is (i ∷ [])) ∙ length-append (collect csid_in is) (collect csid_in (i ∷ []))

pub any_more : (is : List Item) (i : Item) → any clears (is ++ (i ∷ [])) ≡ (any clears is || clears i)
unfolding any
any_more [] i = or-false (clears i)
any_more (x ∷ is) i = one (clears x) (any_more is i)
  where
    one : (b : Bool) → any clears (is ++ (i ∷ [])) ≡ (any clears is || clears i) → (b || any clears (is ++ (i ∷ []))) ≡ ((b || any clears is) || clears i)
    one true h = refl
    one false h = h

-- one of two tests holds
either_flag : (a b : Bool) → flag (a || b) ≤ flag a + flag b
either_flag true b = omega arith
either_flag false b = omega arith

-- with one more item, made of one of the next k
grown : (alone : Bool) (n k : ℕ) (is : List Item) (i : Item) → weight i ≤ k → flag (clears i) ≤ flag alone → Few alone (k + n) is → Few alone n (is ++ (i ∷ []))
grown true n k is i w c h = omega (arith, ap flag (any_more is i), either_flag (any clears is) (clears i), one_more is i)
grown false n k is i w c h = omega (arith, ap flag (any_more is i), either_flag (any clears is) (clears i))

pub flagged : (b : Bool) → T b → 1 ≤ flag b
flagged true h = omega arith
flagged false h = absurd h

-- an element of a message, and the others
pub counted : (e : Element) (es : List Element) → length (keep (has_type ie.fqcsid) (e ∷ es)) ≡ flag (eqb e.type ie.fqcsid) + length (keep (has_type ie.fqcsid) es)
unfolding keep has_type
counted e es = one (eqb e.type ie.fqcsid)
  where
    one : (b : Bool) → length (pick b (e ∷ keep (has_type ie.fqcsid) es) (keep (has_type ie.fqcsid) es)) ≡ flag b + length (keep (has_type ie.fqcsid) es)
    one true = omega arith
    one false = omega arith

pub element_few : (kind : ℕ) (alone : Bool) (n : ℕ) (e : Element) (d : Draft) → Few alone (flag (eqb e.type ie.fqcsid) + n) d.items → OnDone (λ d'. Few alone n d'.items) (element_read kind alone e d)
element_few kind alone n e d h =
    element_step (λ _. Unit {0}) (λ _. Unit {0}) Other kind alone e d (λ d'. Few alone n d'.items) (any_value (read_fseid e.content)) (any_value (read_fqcsid e.content)) (group_other e.type e.place e.content)
    (record {
      skips = same alone h;
      seid = λ _ _. same alone h;
      restores = λ _. same alone h;
      clears = λ t a. more clears_csids (unfold collect csid_in clears in (flagged came t)) (unfold clears in (flagged alone a));
      sets = λ t c _. more (sets_csid c) (unfold collect csid_in clears in (flagged came t)) (unfold clears in zero-le);
      updates = more updates_endpoint (unfold collect csid_in clears in zero-le) (unfold clears in zero-le);
      makes = λ i o. more i (omega arith) (omega arith);
    })
  where
    came : Bool
    came = eqb e.type ie.fqcsid

    same : (a : Bool) → Few a (flag came + n) d.items → Few a n d.items
    same true k = omega arith
    same false k = k

    more : (i : Item) → weight i ≤ flag came → flag (clears i) ≤ flag alone → Few alone n (d.items ++ (i ∷ []))
    more i w c = grown alone n (flag came) d.items i w c h

elements_few : (kind : ℕ) (alone : Bool) (es : List Element) (d : Draft) → Few alone (length (keep (has_type ie.fqcsid) es)) d.items
    → OnDone (λ d'. Few alone 0 d'.items) (elements_read kind alone es d)
unfolding elements_read keep
elements_few kind alone [] d h = h
elements_few kind alone (e ∷ es) d h =
    then_done (λ d'. Few alone (length (keep (has_type ie.fqcsid) es)) d'.items) (λ d'. Few alone 0 d'.items) (element_read kind alone e d) _
    (element_few kind alone (length (keep (has_type ie.fqcsid) es)) e d (subst (λ (k : ℕ). Few alone k d.items) (counted e es) h))
    (λ d' k. elements_few kind alone es d' k)

-- ---- the items of a message

few_clear : (alone : Bool) (is : List Item) → Few alone 0 is → any clears is ≡ true → collect csid_in is ≡ []
few_clear true is h e = nothing (collect csid_in is) (subst (λ (b : Bool). length (collect csid_in is) + flag b + 0 ≤ 1) e h)
  where
    nothing : (cs : List Fqcsid) → length cs + 1 + 0 ≤ 1 → cs ≡ []
    nothing [] k = refl
    nothing (c ∷ cs) k = absurd (omega arith)
few_clear false is h e = absurd (omega (arith, subst (λ (b : Bool). flag b ≤ 0) e h))

-- before the first element
pub few_none : (es : List Element) → Few (alone_in es) (length (keep (has_type ie.fqcsid) es)) []
unfolding alone_in
few_none es = let n = length (keep (has_type ie.fqcsid) es) in at_first (eqb n 1) n (λ c. omega (arith, eqb-true n 1 c))
  where
    at_first : (b : Bool) (n : ℕ) → (b ≡ true → n ≤ 1) → Few b n []
    at_first true n h = unfold any collect in (omega (arith, h refl))
    at_first false n h = unfold any in (omega arith)

pub only_clear : (kind : ℕ) (es : List Element) (d : Draft) → elements_read kind (alone_in es) es empty_draft ≡ done d → any clears d.items ≡ true → collect csid_in d.items ≡ []
only_clear kind es d e c =
    few_clear (alone_in es) d.items (subst (OnDone (λ d'. Few (alone_in es) 0 d'.items)) e (elements_few kind (alone_in es) es empty_draft (few_none es))) c

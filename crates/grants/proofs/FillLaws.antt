-- The TEIDs given, one after the other, with what is known of CHOOSE IDs kept in words. Assumes nothing.
use mathlib.Core.Path.{◌≡◌, refl, sym, ap, ◌∙◌}
use mathlib.Core.Bool.{Bool, true, false}
use mathlib.Core.Option.{Option, none, some}
use mathlib.Core.List.{List, [], ◌∷◌, map}
use Prim.Native.Nat.{ℕ, ◌+◌, ◌-◌, ◌≤◌, ◌<◌}
use native.Mathlib.Decide.{ℕ_discrete, dec_lt}
use native.Mathlib.Omega.{arith}
use borrow.Author.Tests.{eq-eqb, ne_eqb, lt-ltb, le-ltb}
use lib.Dec.{eqb, ltb}
use lib.ListN.{length, drop, get_or, set, replicate, length-set, length-replicate, get_or-eq_default}
use lib.Seq.{sets, set_out, get_or-set_same, get_or-set_other}
use Rattle.octets.specs.Choice.{pick, value_or, map_option}
use Rattle.octets.specs.Octets.{bit, part}
use Rattle.octets.specs.Lists.{find_by}
use Rattle.octets.proofs.Loops.{left_more, left_none, sets_more}
use Rattle.rules.specs.Grants.{Choice, Chosen, chosen, is_choice, chosen_teid, remember, grant_of, grant_teid, teid_for, free_after, chosen_after, grant_from}
use Rattle.plan.specs.Rows.{row_width}
use Rattle.pool.specs.Map.{teids_from}
use Rattle.pool.proofs.Marks.{zeros_at}
use Rattle.grants.specs.Choosing.{choose_id_in, choice_in, choice_at, chosen_grants, teids_at}
use Rattle.grants.specs.Steps.{kept_teid, Gives}
use Rattle.grants.specs.declared.Given.{Given}

-- ---- CHOOSE IDs

-- word i keeps the TEID of CHOOSE ID i
abbrev pub Knows : List ℕ → List Chosen → Type 0
Knows known cs = (i : ℕ) → chosen_teid cs (some i) ≡ kept_teid (get_or known i 0)

knows_none : (n : ℕ) → Knows (replicate n 0) []
unfolding chosen_teid find_by
knows_none n i = rw (zeros_at n i)

-- a CHOOSE ID has its word
abbrev Fits : List ℕ → Option ℕ → Type 0
Fits known none = Unit {0}
Fits known (some i) = i < length known

-- of a row
id_fits_lem : (known row : List ℕ) → length known ≡ 256 → Fits known (choose_id_in row)
unfolding choose_id_in
id_fits_lem known row l = one (bit 3 (get_or row 12 0)) (dec_lt (get_or row 17 0) 256)
  where
    one : (b : Bool) → Dec (get_or row 17 0 < 256) → Fits known (pick b (pick (ltb (get_or row 17 0) 256) (some (get_or row 17 0)) none) none)
    one false d = tt
    one true (yes h) = rw (lt-ltb (get_or row 17 0) 256 h) (omega arith)
    one true (no h) = rw (le-ltb (get_or row 17 0) 256 (omega (arith, h))) tt

-- what is known of a row's CHOOSE ID stands in the word of its number, or past the last word where it has none
known_teid : (known : List ℕ) (cs : List Chosen) (o : Option ℕ) → length known ≡ 256 → Knows known cs → chosen_teid cs o ≡ kept_teid (get_or known (value_or 256 o) 0)
known_teid known cs none l k = unfold chosen_teid in rw (get_or-eq_default known 0 {n = 256} (omega arith))
known_teid known cs (some i) l k = k i

-- one more TEID is known
knows_more : (known : List ℕ) (cs : List Chosen) (i t : ℕ) → Knows known cs → i < length known → Knows (set known i (t + 1)) (remember cs (some i) t)
unfolding chosen_teid remember find_by is_choice
knows_more known cs i t k l j = go (ℕ_discrete j i)
  where
    go : Dec (j ≡ i)
        → map_option chosen (pick (eqb i j) (some (record { choose_id = i; teid = t })) (find_by (is_choice j) cs)) ≡ kept_teid (get_or (set known i (t + 1)) j 0)
    go (yes e) =
        let back : t + 1 - 1 ≡ t = omega arith in
        rw (e, eq-eqb i i refl, get_or-set_same known i (t + 1) 0 l, ne_eqb (t + 1) 0 (λ f. omega arith), back)
    go (no n) = rw (ne_eqb i j (λ f. n (sym f)), get_or-set_other known i j (t + 1) 0 n) (k j)

-- after one more CHOOSE
knows_after : (known : List ℕ) (cs : List Chosen) (free : List ℕ) (o : Option ℕ) (t : ℕ) → length known ≡ 256 → Fits known o → Knows known cs
    → t ≡ teid_for (kept_teid (get_or known (value_or 256 o) 0)) free
    → Knows (pick (eqb (get_or known (value_or 256 o) 0) 0) (set known (value_or 256 o) (t + 1)) known) (chosen_after (kept_teid (get_or known (value_or 256 o) 0)) cs o free)
unfolding chosen_after teid_for
knows_after known cs free o t l f k e = one (eqb (get_or known (value_or 256 o) 0) 0) o f e
  where
    one : (b : Bool) (o' : Option ℕ) → Fits known o' → t ≡ teid_for (pick b none (some (get_or known (value_or 256 o) 0 - 1))) free
        → Knows (pick b (set known (value_or 256 o') (t + 1)) known) (chosen_after (pick b none (some (get_or known (value_or 256 o) 0 - 1))) cs o' free)
    one false o' f' e' = k
    one true none f' e' = unfold remember in rw (set_out known 256 (t + 1) (omega arith)) k
    one true (some i) f' e' = rw (← e') (knows_more known cs i t k f')

-- ---- the TEIDs

teids_more : (cs : List Chosen) (free : List ℕ) (c : Choice) (more : List Choice) (o : Option ℕ) → chosen_teid cs c.choose_id ≡ o
    → map grant_teid (grant_from cs free (c ∷ more)) ≡ teid_for o free ∷ map grant_teid (grant_from (chosen_after o cs c.choose_id free) (free_after o free) more)
unfolding grant_from grant_of
teids_more cs free c more o e =
    ap (λ (q : Option ℕ). teid_for q free ∷ map grant_teid (grant_from (chosen_after q cs c.choose_id free) (free_after q free) more)) e

length_after : (b : Bool) (known : List ℕ) (i v : ℕ) → length (pick b (set known i v) known) ≡ length known
length_after true known i v = length-set known i v
length_after false known i v = refl

choice_id_lem : (row : List ℕ) → (choice_in row).choose_id ≡ choose_id_in row
unfolding choice_in
choice_id_lem row = refl

-- Where the filling stands: the TEIDs of the places that are left, stored after those that are done, make all.
pub record Filling (plan ps words : List ℕ) (first size : ℕ) (ts₀ ts known : List ℕ) (from i : ℕ) : Type 0 where
  pub inside : i ≤ length ps
  pub long : length ts ≡ length ts₀
  pub ids : length known ≡ 256
  pub cs : List Chosen
  pub knows : Knows known cs
  pub same :
      sets ts i (map grant_teid (grant_from cs (teids_from first words from size) (map (choice_at plan) (drop i ps))))
      ≡ sets ts₀ 0 (teids_at first words size plan ps)

module _ (plan ps words : List ℕ) (first size : ℕ) (ts₀ : List ℕ) where
  pub filling_none : Filling plan ps words first size ts₀ ts₀ (replicate 256 0) 0 0
  unfolding teids_at chosen_grants
  filling_none = record { inside = omega arith; long = refl; ids = length-replicate {A = ℕ} 256 0; cs = []; knows = knows_none 256; same = refl }

  module _ {ts known : List ℕ} {from i : ℕ} (f : Filling plan ps words first size ts₀ ts known from i) where
    pub filling_more : {known' : List ℕ} {g : Given} {id : ℕ} → i < length ps → id ≡ value_or 256 (choose_id_in (part (get_or ps i 0) row_width plan))
        → Gives first words from size known id g known'
        → Filling plan ps words first size ts₀ (set ts i g.teid) known' g.next (i + 1)
    unfolding choice_at
    filling_more {known'} {g} {id} h e v =
        let row : List ℕ = part (get_or ps i 0) row_width plan in
        let c : Choice = choice_in row in
        let o : Option ℕ = c.choose_id in
        let free : List ℕ = teids_from first words from size in
        let more : List Choice = map (choice_at plan) (drop (i + 1) ps) in
        let place : id ≡ value_or 256 o = e ∙ ap (λ (q : Option ℕ). value_or 256 q) (sym (choice_id_lem row)) in
        let w = rw place at v in
        let has : Option ℕ = kept_teid (get_or known (value_or 256 o) 0) in
        let cs' : List Chosen = chosen_after has f.cs o free in
        let one = teids_more f.cs free c more has (known_teid known f.cs o f.ids f.knows) in
        let left : List ℕ = map grant_teid (grant_from cs' (teids_from first words g.next size) more) in
        let both : g.teid ∷ left ≡ map grant_teid (grant_from f.cs free (c ∷ more)) = rw (w.teid, w.free) (sym one) in
        record {
          inside = omega arith;
          long = length-set ts i g.teid ∙ f.long;
          ids = ap length w.knows ∙ length_after (eqb (get_or known (value_or 256 o) 0) 0) known (value_or 256 o) (g.teid + 1) ∙ f.ids;
          cs = cs';
          knows = rw w.knows (knows_after known f.cs free o g.teid f.ids (rw (choice_id_lem row) (id_fits_lem known row f.ids)) f.knows w.teid);
          same = sym (sets_more ts i g.teid left) ∙ ap (λ (xs : List ℕ). sets ts i xs) both ∙ rw (left_more ps i h) at f.same;
        }

    pub filling_all : length ps ≤ i → ts ≡ sets ts₀ 0 (teids_at first words size plan ps)
    unfolding grant_from
    filling_all h = rw (left_none ps i h) at f.same

-- The F-SEID and the flags 186 of a message: what the code does with them is the rules' step. Assumes nothing.
use mathlib.Core.Path.{◌≡◌, refl, sym, ap, ◌∙◌}
use Prim.Native.Nat.{ℕ, zero, suc, ◌+◌, ◌%◌, ◌≤◌, ◌<◌}
use native.Mathlib.Omega.{arith}
use mathlib.Core.Bool.{Bool, true, false, not, ◌||◌}
use mathlib.Core.Option.{Option, none, some}
use mathlib.Core.List.{List, [], ◌∷◌}
use lib.ListN.{length, get_or}
use lib.Dec.{ltb}
use borrow.Author.Tests.{ne_eqb, lt-ltb, le-ltb}
use Rattle.octets.specs.Choice.{pick, value_or}
use Rattle.octets.specs.Octets.{bit, number_at, octet_at}
use Rattle.rules.specs.Elements.{Refusal, too_short, incorrect, cause_of, refuse, value, read_fseid, seid_answer, fseid_length}
use Rattle.rules.specs.Request as rules
use Rattle.rules.specs.Reading.{Reading, done, and_then, named, once, seid_read, flags_read}
use Rattle.rules.specs.Request.{with_seid, with_restores}
use Rattle.rules.specs.Types as ie
use Rattle.rules.specs.Causes as why
use Rattle.element.proofs.FlagLaws.{bit_first}
use Rattle.reading.specs.Verdicts.{stopped, numbered, fault}
use Rattle.request.specs.Items.{flags_of, SeidThere, Means, Passes}
use Rattle.request.specs.declared.items.Draft.{Draft}
use Rattle.request.proofs.DraftLaws.{step_fault, went}
use Rattle.std.specs.Prelude.{Result, Ok}
use Rattle.reading.specs.declared.Fault.{Fault}

-- ---- the F-SEID

module _ (p : ℕ) (v : List ℕ) where
  seid_nonzero : (n : ℕ) → read_fseid v ≡ value n → n ≡ 0 → ⊥
  seid_nonzero n = go v
    where
      by_seid : (k : ℕ) → seid_answer k ≡ value n → n ≡ 0 → ⊥
      by_seid zero h z = unfold seid_answer in (let y : ◌≡◌ {A = ℕ} 0 1 = cc in omega arith)
      by_seid (suc k) h z =
          let r : seid_answer (suc k) ≡ value (suc k) = unfold seid_answer in (rw (ne_eqb (suc k) 0 (λ e. absurd (omega arith)))) in
          let q : value (suc k) ≡ value n = sym r ∙ h in
          let e : suc k ≡ n = cc in
          omega arith

      by_tests : (a b : Bool) (k : ℕ) → pick a (refuse incorrect) (pick b (refuse too_short) (seid_answer k)) ≡ value n → n ≡ 0 → ⊥
      by_tests true b k h z = let y : ◌≡◌ {A = ℕ} 0 1 = cc in omega arith
      by_tests false true k h z = let y : ◌≡◌ {A = ℕ} 0 1 = cc in omega arith
      by_tests false false k h z = by_seid k h z

      go : (xs : List ℕ) → read_fseid xs ≡ value n → n ≡ 0 → ⊥
      go [] h z = unfold read_fseid in (let y : ◌≡◌ {A = ℕ} 0 1 = cc in omega arith)
      go (f ∷ xs) h z = by_tests (not (bit 0 f || bit 1 f)) (ltb (length xs) (fseid_length f)) (number_at 0 8 xs) (unfold read_fseid in h) z

  -- 0 says that none was met
  seid_none : {d : rules.Draft} {c : Draft} {nodes words : List ℕ} → Means d c nodes words → c.seid ≡ 0 → d.seid ≡ none
  seid_none {d} m h = go d.seid (sym m.seid ∙ h) m.seid_there
    where
      go : (o : Option ℕ) → value_or 0 o ≡ 0 → SeidThere o → o ≡ none
      go none e t = refl
      go (some n) e t = absurd (t e)

  pub seid_repeat : (c : Draft) → (c.seid ≡ 0 → ⊥) → Passes (seid_read p v) c (fault why.incorrect ie.fseid p)
  unfolding seid_read cause_of
  seid_repeat c h = record { passes = λ nodes words. record { follows = λ d m. step_fault (go d d.seid m.seid) } }
    where
      go : (d : rules.Draft) (o : Option ℕ) → c.seid ≡ value_or 0 o → numbered (once o ie.fseid p (and_then (named ie.fseid p (read_fseid v)) (λ n. done (with_seid n d)))) ≡ stopped why.incorrect ie.fseid p
      go d none e = absurd (h e)
      go d (some n) e = unfold cause_of in refl

  pub seid_refused : (c : Draft) (q : Refusal) {r : Result Draft Fault} → c.seid ≡ 0 → refuse q ≡ read_fseid v → r ≡ fault (cause_of q) ie.fseid p → Passes (seid_read p v) c r
  unfolding seid_read
  seid_refused c q h e s = rw s (record { passes = λ nodes words. record { follows = λ d m. step_fault (rw (seid_none m h, ← e)) } })

  pub seid_value : (c : Draft) (n : ℕ) → c.seid ≡ 0 → value n ≡ read_fseid v
      → Passes (seid_read p v) c (Ok (record { rows = c.rows; seid = n; flags = c.flags; noted = c.noted; creates = c.creates }))
  unfolding seid_read
  seid_value c n h e =
      record {
        passes = λ nodes words. record {
          follows = λ d m. went (with_seid n d) (rw (seid_none m h, ← e))
              (record { seid = refl; seid_there = seid_nonzero n (sym e); flags = m.flags; noted = m.noted; creates = m.creates; seen = m.seen; rows = m.rows });
        };
      }

-- ---- the flags 186

module _ (p : ℕ) (v : List ℕ) (c : Draft) where
  flags_none : {d : rules.Draft} {nodes words : List ℕ} → Means d c nodes words → c.flags ≡ 0 → d.restores ≡ none
  flags_none {d} m h = go d.restores (sym m.flags ∙ h)
    where
      go : (o : Option Bool) → flags_of o ≡ 0 → o ≡ none
      go none e = refl
      go (some b) e = absurd (omega arith)

  pub flags_repeat : (c.flags ≡ 0 → ⊥) → Passes (flags_read p v) c (fault why.incorrect ie.session_flags p)
  unfolding flags_read
  flags_repeat h = record { passes = λ nodes words. record { follows = λ d m. step_fault (go _ d.restores m.flags) } }
    where
      go : (x : Reading rules.Draft) (o : Option Bool) → c.flags ≡ flags_of o → numbered (once o ie.session_flags p x) ≡ stopped why.incorrect ie.session_flags p
      go x none e = absurd (h e)
      go x (some b) e = unfold cause_of in refl

  pub flags_short : c.flags ≡ 0 → length v < 1 → Passes (flags_read p v) c (fault why.wrong_length ie.session_flags p)
  unfolding flags_read cause_of
  flags_short h l = record { passes = λ nodes words. record { follows = λ d m. step_fault (rw (flags_none m h, lt-ltb _ _ l)) } }

  pub flags_value : c.flags ≡ 0 → 1 ≤ length v
      → Passes (flags_read p v) c (Ok (record { rows = c.rows; seid = c.seid; flags = 1 + get_or v 0 0 % 2; noted = c.noted; creates = c.creates }))
  unfolding flags_read octet_at
  flags_value h l =
      record {
        passes = λ nodes words. record {
          follows = λ d m. went (with_restores (bit 0 (get_or v 0 0)) d) (rw (flags_none m h, le-ltb _ _ l))
              (record { seid = m.seid; seid_there = m.seid_there; flags = ap (λ (n : ℕ). 1 + n) (sym (bit_first (get_or v 0 0))); noted = m.noted; creates = m.creates; seen = m.seen; rows = m.rows });
        };
      }

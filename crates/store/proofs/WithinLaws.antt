-- A reply that is found among entries stands within their octets. Assumes nothing.
use Rattle.std.proofs.Common.{◌≡◌, ℕ, zero, suc, ◌+◌, ◌-◌, ◌≤◌, Bool, true, false, T, List, length, get_or, take, drop, sym, refl, ap, ◌∙◌, subst, arith, length-drop, drop-drop}
use mathlib.Core.Option.{Option, none, some}
use Rattle.std.specs.Prelude as Found
use Rattle.octets.specs.Choice.{pick}
use Rattle.octets.specs.Octets.{part, same_octets}
use Rattle.octets.proofs.Put.{part_from}
use Rattle.rules.specs.Store.{message_length, reply_length, entry_length, store_sound, store_entries, stored_reply}
use Rattle.store.specs.Answers.{Within, Recalls}
use Rattle.store.specs.Fronts.{whole_front, reply_among}
use Rattle.store.proofs.FrontLaws.{is_whole}
use Rattle.store.proofs.HeldLaws.{tail, store_long, among_is}

-- what stands behind some octets stands further on in all of them
pub further : (n : ℕ) (s r : List ℕ) → n ≤ length s → Within (drop n s) r → Within s r
further n s r h w =
    let k : n + w.to - (n + w.from) ≡ w.to - w.from = omega arith in
    record {
      from = n + w.from;
      to = n + w.to;
      low = omega (arith, w.low);
      high = omega (arith, w.high, length-drop n s);
      stands = w.stands ∙ ap (take (w.to - w.from)) (drop-drop w.from n s) ∙ ap (λ (i : ℕ). part (n + w.from) i s) (sym k);
    }

pub among_within : (n : ℕ) (s msg r : List ℕ) → reply_among n s msg ≡ some r → Within s r
unfolding reply_among entry_length
among_within zero s msg r e = absurd (let z : ◌≡◌ {A = ℕ} 0 1 = cc in omega arith)
among_within (suc n) s msg r e = at_front (among_within n (drop (entry_length s) s) msg r) (whole_front s) refl e
  where
    later : Option (List ℕ)
    later = reply_among n (drop (entry_length s) s) msg

    here : Bool → Option (List ℕ)
    here b = pick b (some (part (4 + message_length s) (reply_length s) s)) later

    entry : (later ≡ some r → Within (drop (entry_length s) s) r) → whole_front s ≡ true → (b : Bool) → here b ≡ some r → Within s r
    entry behind q true p =
        let w = is_whole s q in
        let i : part (4 + message_length s) (reply_length s) s ≡ r = cc in
        let k : 4 + message_length s + reply_length s - (4 + message_length s) ≡ reply_length s = omega arith in
        record {
          from = 4 + message_length s;
          to = 4 + message_length s + reply_length s;
          low = omega arith;
          high = w.high;
          stands = sym i ∙ ap (λ (m : ℕ). part (4 + message_length s) m s) (sym k);
        }
    entry behind q false p = further (entry_length s) s r (is_whole s q).high (behind p)

    at_front : (later ≡ some r → Within (drop (entry_length s) s) r) → (t : Bool) → whole_front s ≡ t → pick t (here (same_octets msg (part 2 (message_length s) s))) none ≡ some r → Within s r
    at_front behind true q p = entry behind q (same_octets msg (part 2 (message_length s) s)) p
    at_front behind false q p = absurd (let z : ◌≡◌ {A = ℕ} 0 1 = cc in omega arith)

-- the answer of the walk behind the count is the store's
pub recalls : {A : Type 0} (octets : A → List ℕ) (s msg : List ℕ) → T (store_sound s) → (o : Found.Option A)
    → Found.MatchOption o (reply_among (get_or s 0 0) (tail s) msg ≡ none) (λ x. reply_among (get_or s 0 0) (tail s) msg ≡ some (octets x))
    → Found.MatchOption o (stored_reply msg (store_entries s) ≡ none) (λ x. Recalls s msg (octets x))
recalls octets s msg h Found.None e = sym (among_is s h msg) ∙ e
recalls octets s msg h (Found.Some x) e = record {
  means = sym (among_is s h msg) ∙ e;
  within = further 1 s (octets x) (omega (arith, store_long s h)) (among_within (get_or s 0 0) (drop 1 s) msg (octets x) (subst (λ (y : List ℕ). reply_among (get_or s 0 0) y msg ≡ some (octets x)) (part_from 1 s) e));
}

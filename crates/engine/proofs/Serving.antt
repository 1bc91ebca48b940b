-- The whole call: the outcomes in 01's order, and the answer.
-- Assumes nothing.
use mathlib.Core.Path.{◌≡◌, refl, sym, ap, ap₂, ◌∙◌, subst}
use mathlib.Core.Bool.{Bool, true, false, not, ◌||◌}
use mathlib.Core.List.{List}
use Prim.Native.Nat.{ℕ, ◌-◌, ◌≤◌, ◌<◌}
use native.Mathlib.Omega.{arith}
use lib.Dec.{T, eqb}
use lib.ListN.{length}
use borrow.Author.Tests.{lt-ltb, eqb-true, not-true, not-false}
use Rattle.octets.specs.Choice.{pick}
use Rattle.octets.specs.Octets.{octets}
use Rattle.octets.proofs.Tests.{of_true, is_true}
use Rattle.rules.specs.Limits.{map_words, address_words, min_space}
use Rattle.rules.specs.Model.{free_address_count, is_peer}
use Rattle.rules.specs.Layout.{view_settings, view_sessions}
use Rattle.rules.specs.Sound.{sound}
use Rattle.rules.specs.Message.{kind_of, header_seid, served, establishment, modification, deletion, set_deletion}
use Rattle.rules.specs.Serve.{unserved, reply_to, answered, answer, serve_sound, serve_of, serve}
use Rattle.laws.proofs.KeptRules.{table_kept}
use Rattle.frame.specs.HeaderOf.{outcome, request, sets, opened, header_of}
use Rattle.frame.specs.declared.header.Header.{Header}
use Rattle.frame.specs.declared.header.Header.TheVariants.{Request, Sets}
use Rattle.frame.specs.declared.header.Unserved.{Unserved}
use Rattle.frame.specs.declared.header.Unserved.TheVariants.{TooLong, Malformed, NotServed}
use Rattle.std.specs.Prelude.{Result, Ok, Err}
use Rattle.laws.proofs.HeaderLaws.{seid_there_lem, seid_absent, long_there, long_absent}
use Rattle.frame.proofs.HeaderLaws.{Opens, request_opens, sets_opens, request_is, sets_is}
use Rattle.frame.proofs.ServeLaws.{header_outcome, header_answered}
use Rattle.std.specs.Prelude.{Result, Ok}
use Rattle.marking.specs.declared.Broken.{Broken}
use Rattle.marking.specs.declared.Tally.{Tally}
use Rattle.marking.specs.Refusal.{refusal}
use Rattle.table.specs.Answers.{Examined}
use Rattle.table.proofs.Examining.{sound_no, sound_yes, numbers}
use Rattle.unit.specs.declared.Settings.{Settings as Unit}
use Rattle.unit.specs.Meaning.{settings_of}
use Rattle.unit.proofs.FieldLaws.{addresses_is}
use Rattle.stages.specs.Rules.{ShareOf}
use Rattle.stages.specs.declared.Share.{Share}
use Rattle.changes.specs.Answers.{Asked, Replies, verdict_on}
use Rattle.changes.specs.Steps.{Counted}
use Rattle.engine.specs.Steps.{Tallied, AskedList, Serves}
use Rattle.engine.specs.Outcomes.{number_of, unserved_as}

small_kind : (k : ℕ) → served k ≡ true → k < 255
unfolding served
small_kind k = go (eqb k establishment) (eqb k modification) (eqb k deletion) (eqb k set_deletion) refl refl refl refl
  where
    go : (a b c d : Bool) → eqb k establishment ≡ a → eqb k modification ≡ b → eqb k deletion ≡ c → eqb k set_deletion ≡ d → (a || b || c || d) ≡ true → k < 255
    go true b c d x y z w h = let e = eqb-true k establishment x in omega arith
    go false true c d x y z w h = let e = eqb-true k modification y in omega arith
    go false false true d x y z w h = let e = eqb-true k deletion z in omega arith
    go false false false true x y z w h = let e = eqb-true k set_deletion w in omega arith
    go false false false false x y z w h = absurd (subst T (sym h) tt)

-- what the walk told, and what is counted with a peer's share
module _ {t : List ℕ} {r : Result Tally Broken} {w ips : List ℕ} (x : Examined t r w ips) {held : Tally} (e : r ≡ Ok held) {u : Unit} (z : settings_of u ≡ view_settings t) where
  pub tallies : Tallied u t held.one held.two held.first
  tallies =
      let n = numbers t r x.answer held e in
      record { table = of_true (sym (sound_yes t r x.answer held e)); settings = z; first_holds = ap (λ (y : Tally). y.one) n; second_holds = ap (λ (y : Tally). y.two) n; first_sessions = ap (λ (y : Tally). y.first) n }

  pub counts : {who kind seid : ℕ} {share : Share} → length w ≡ map_words → length ips ≡ address_words → (share.peer ≡ who) × ShareOf (view_settings t) (view_sessions t) who share.teids share.sessions
      → Counted (record { u = u; share = share; addresses = u.addresses - held.taken; kind = kind; seid = seid }) t w ips
  unfolding free_address_count
  counts {share = share} l k part =
      record {
        settings = z;
        marks = x.words held e;
        long = l;
        own = subst (λ (n : ℕ). ShareOf (view_settings t) (view_sessions t) n share.teids share.sessions) (sym part.0) part.1;
        address_marks = x.addresses held e;
        address_long = k;
        address_count = ap₂ (λ (a b : ℕ). a - b) (addresses_is u (view_settings t) z) (ap (λ (y : Tally). y.taken) (numbers t r x.answer held e));
      }

-- what a header is that is taken apart
pub request_when : {r : Result Header Unserved} {h : Header} {kind seid : ℕ} → r ≡ Ok h → h ≡ Request kind seid → r ≡ Ok (Request kind seid)
request_when e d = e ∙ ap Ok d

pub sets_when : {r : Result Header Unserved} {h : Header} → r ≡ Ok h → h ≡ Sets → r ≡ Ok Sets
sets_when e d = e ∙ ap Ok d

-- what a request's header says
module _ (msg : List ℕ) {h : Result Header Unserved} (is : opened h ≡ header_of msg) {kind seid : ℕ} (d : h ≡ Ok (Request kind seid)) where
  is_request_lem : request kind seid ≡ header_of msg
  is_request_lem = sym (ap opened d) ∙ is

  pub kind_is_lem : kind ≡ kind_of msg
  kind_is_lem = (request_is msg kind seid is_request_lem).0

  pub seid_is : seid ≡ header_seid msg
  seid_is = (request_is msg kind seid is_request_lem).1

module _ (t : List ℕ) (who : ℕ) (msg out : List ℕ) where
  -- an outcome without a reply
  without_reply : {o u p : ℕ} (n : ℕ) → eqb n 0 ≡ false → serve t who msg out ≡ unserved n out t → (o ≡ n) × (u ≡ 0) × (p ≡ 0) → Serves t who msg out o u p out t
  without_reply {o} {u} {p} n z e a =
      record {
        served = (λ i. record { outcome = a.0 i; place = a.2 i; space = out; table = t }) ∙ sym e;
        long = a.1 ∙ sym (ap (λ (b : Bool). pick b (length (reply_to (view_settings t) who (view_sessions t) msg (verdict_on t who msg))) 0) (ap (λ (k : ℕ). eqb k 0) a.0 ∙ z));
      }

  -- a number that is no peer's, and one that is
  module _ {b : Bool} (is : b ≡ is_peer who) where
    pub serves_none : {o u p : ℕ} → not b ≡ true → (o ≡ 7) × (u ≡ 0) × (p ≡ 0) → Serves t who msg out o u p out t
    unfolding serve
    serves_none e a = without_reply 7 refl (rw (← is, not-true b e)) a

    pub is_peers : not b ≡ false → T (is_peer who)
    is_peers e = of_true (sym is ∙ not-false b e)

  module _ (known : T (is_peer who)) where
    of_peer_lem : serve t who msg out ≡ serve_of t who msg out
    unfolding serve
    of_peer_lem = rw (is_true (is_peer who) known)

    module _ {r : Result Tally Broken} {w ips : List ℕ} (x : Examined t r w ips) where
      pub serves_broken : {o u p : ℕ} → r ≡ refusal → (o ≡ 1) × (u ≡ 0) × (p ≡ 0) → Serves t who msg out o u p out t
      unfolding serve_of
      serves_broken e a = without_reply 1 refl (of_peer_lem ∙ rw (sym (sound_no t r x.answer e))) a

      module _ {held : Tally} (e : r ≡ Ok held) where
        is_sound_lem : sound t ≡ true
        is_sound_lem = sym (sound_yes t r x.answer held e)

        after_sound : serve t who msg out ≡ serve_sound (view_settings t) who (view_sessions t) t msg out
        unfolding serve_of
        after_sound = of_peer_lem ∙ rw is_sound_lem

        pub serves_small : {o u p : ℕ} → length out < min_space → (o ≡ 2) × (u ≡ 0) × (p ≡ 0) → Serves t who msg out o u p out t
        unfolding serve_sound
        serves_small l a = without_reply 2 refl (after_sound ∙ rw (lt-ltb (length out) min_space l)) a

        -- the reply to a request that is answered
        answers_through : min_space ≤ length out → {used place : ℕ} {out' t' : List ℕ} → Opens msg → Replies t who msg out used place out' t' → Serves t who msg out 0 used place out' t'
        unfolding answer answered
        answers_through room o r =
            let a = r.answers in
            record {
              served = (λ i. record { outcome = 0; place = r.placed i; space = a.space i; table = a.table i }) ∙ sym (after_sound ∙ header_answered msg (view_settings t) who (view_sessions t) t out room o);
              long = a.long;
            }

        module _ (room : min_space ≤ length out) {h : Result Header Unserved} (is : opened h ≡ header_of msg) where
          -- outcomes 3, 4 and 5
          pub serves_outcome : {o u p : ℕ} (g : Result Header Unserved) (n : ℕ) → eqb n 0 ≡ false → opened g ≡ outcome n → h ≡ g → (o ≡ n) × (u ≡ 0) × (p ≡ 0) → Serves t who msg out o u p out t
          serves_outcome g n z q d a =
              without_reply n z (after_sound ∙ header_outcome msg (view_settings t) who (view_sessions t) t out room n (sym q ∙ sym (ap opened d) ∙ is)) a

          pub serves_long : {o u p : ℕ} → h ≡ Err TooLong → (o ≡ 3) × (u ≡ 0) × (p ≡ 0) → Serves t who msg out o u p out t
          serves_long = serves_outcome (Err TooLong) 3 refl refl

          pub serves_malformed : {o u p : ℕ} → h ≡ Err Malformed → (o ≡ 4) × (u ≡ 0) × (p ≡ 0) → Serves t who msg out o u p out t
          serves_malformed = serves_outcome (Err Malformed) 4 refl refl

          pub serves_other : {o u p : ℕ} → h ≡ Err NotServed → (o ≡ 5) × (u ≡ 0) × (p ≡ 0) → Serves t who msg out o u p out t
          serves_other = serves_outcome (Err NotServed) 5 refl refl

          pub serves_unserved : (v : Unserved) → h ≡ Err v → Serves t who msg out (number_of (unserved_as v)) 0 0 out t
          serves_unserved TooLong d = serves_long d (refl, refl, refl)
          serves_unserved Malformed d = serves_malformed d (refl, refl, refl)
          serves_unserved NotServed d = serves_other d (refl, refl, refl)

          module _ (d : h ≡ Ok Sets) where
            is_sets : sets ≡ header_of msg
            is_sets = sym (ap opened d) ∙ is

            pub asks_list : AskedList t who msg out
            asks_list =
                let o = sets_opens msg is_sets in
                let k = sets_is msg is_sets in
                record {
                  peer = known;
                  table = record { sound = of_true is_sound_lem; long = (table_kept t (of_true is_sound_lem)).whole };
                  space = room;
                  short = o.short;
                  list = record { long = long_absent msg o.header k; seid = seid_absent msg o.header k; kind = k };
                }

            pub serves_list : {used place : ℕ} {out' t' : List ℕ} → Replies t who msg out used place out' t' → Serves t who msg out 0 used place out' t'
            serves_list r = answers_through room (sets_opens msg is_sets) r

          -- a request is answered under the peer of its share
          module _ {kind seid : ℕ} (d : h ≡ Ok (Request kind seid)) {q : ℕ} (own : q ≡ who) where
            pub asks : T (octets msg) → Asked t q msg out
            asks o =
                let r = request_is msg kind seid (is_request_lem msg is d) in
                let b = request_opens msg kind seid (is_request_lem msg is d) in
                let ns : T (not (eqb (kind_of msg) set_deletion)) = subst (λ (c : Bool). T (not c)) (sym r.2) tt in
                record {
                  peer = subst (λ (n : ℕ). T (is_peer n)) (sym own) known;
                  table = of_true is_sound_lem;
                  space = room;
                  short = b.short;
                  header = b.header;
                  kind = of_true b.kind;
                  octets = o;
                  table_long = (table_kept t (of_true is_sound_lem)).whole;
                  seid = record { long = long_there msg b.header ns; seid = seid_there_lem msg b.header ns };
                  named = r.2;
                  below = small_kind (kind_of msg) b.kind;
                }

            pub serves_answer : {used place : ℕ} {out' t' : List ℕ} → Replies t q msg out used place out' t' → Serves t who msg out 0 used place out' t'
            serves_answer {used} {place} {out'} {t'} r =
                answers_through room (request_opens msg kind seid (is_request_lem msg is d)) (subst (λ (n : ℕ). Replies t n msg out used place out' t') own r)

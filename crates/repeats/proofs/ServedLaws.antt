-- What a call of the engine leaves, as a request that is kept needs it: the outcome without asking it, and its reply. Assumes nothing.
use mathlib.Core.Path.{◌≡◌, refl, sym, ap, ◌∙◌, subst}
use Prim.Native.Nat.{ℕ, ◌≤◌, ◌<◌}
use native.Mathlib.Omega.{arith}
use mathlib.Core.Bool.{Bool, true, false, not, ◌&&◌}
use mathlib.Core.List.{List}
use lib.ListN.{length, take}
use lib.Seq.{take_at}
use lib.Dec.{T, leb, ltb, le→leb}
use borrow.Author.Tests.{le-ltb, leb-true, eq-eqb, ne_eqb}
use Rattle.octets.specs.Choice.{pick}
use Rattle.octets.specs.Octets.{put}
use Rattle.octets.proofs.Tests.{and_left, and_right, both, is_true, of_true}
use Rattle.octets.proofs.Put.{length_put}
use Rattle.rules.specs.Limits.{max_message, min_space}
use Rattle.rules.specs.Model.{is_peer}
use Rattle.rules.specs.Layout.{view_settings, view_sessions}
use Rattle.rules.specs.Sound.{sound}
use Rattle.rules.specs.Message.{kind_of, header_allowed, served, seid_there}
use Rattle.rules.specs.Reply.{message, list_message, reply}
use Rattle.rules.specs.Serve.{Served, unserved, answered, answer, serve_sound, serve_of, serve, reply_to}
use Rattle.laws.proofs.HeaderLaws.{header_long}
use Rattle.invariants.proofs.ReplyLength.{reply_short}
use Rattle.laws.proofs.KeptRules.{table_kept}
use Rattle.invariants.proofs.ServeLaws.{Answers, answers, answered_zero, unserved_nothing}
use Rattle.engine.specs.Steps.{Serves}
use Rattle.rules.specs.Store.{request_allowed, max_reply}
use Rattle.rules.specs.Repeats.{engine_reply}
use Rattle.repeats.specs.Steps.{resting_outcome}

-- ---- without asking the engine

-- the three tests of a message
pub record Requests (msg : List ℕ) : Type 0 where
  pub short : length msg ≤ max_message
  pub header : T (header_allowed msg)
  pub kind : T (served (kind_of msg))

pub requests : (msg : List ℕ) → T (request_allowed msg) → Requests msg
unfolding request_allowed
requests msg h =
    let a = leb (length msg) max_message in
    let ab = and_left (a && header_allowed msg) (served (kind_of msg)) h in
    record {
      short = leb-true _ _ (is_true a (and_left a (header_allowed msg) ab));
      header = and_right a (header_allowed msg) ab;
      kind = and_right (a && header_allowed msg) (served (kind_of msg)) h;
    }

pub is_request_lem : (msg : List ℕ) → length msg ≤ max_message → T (header_allowed msg) → T (served (kind_of msg)) → T (request_allowed msg)
unfolding request_allowed
is_request_lem msg s h k = both (leb (length msg) max_message && header_allowed msg) (served (kind_of msg)) (both (leb (length msg) max_message) (header_allowed msg) (le→leb (length msg) max_message s) h) k

module _ (t : List ℕ) (who : ℕ) (msg space : List ℕ) where
  pub resting_is : T (is_peer who) → T (request_allowed msg) → (serve t who msg space).outcome ≡ resting_outcome t space
  unfolding serve serve_of serve_sound resting_outcome
  resting_is hw h = rw (is_true (is_peer who) hw) (by_sound (sound t))
    where
      r : Requests msg
      r = requests msg h

      by_space : (b : Bool)
          → (pick b (unserved 2 space t) (pick (ltb max_message (length msg)) (unserved 3 space t) (pick (not (header_allowed msg)) (unserved 4 space t) (pick (not (served (kind_of msg))) (unserved 5 space t) (answer (view_settings t) who (view_sessions t) msg space t))))).outcome ≡ pick b 2 0
      by_space true = refl
      by_space false = rw (le-ltb max_message (length msg) r.short, is_true (header_allowed msg) r.header, is_true (served (kind_of msg)) r.kind) (unfold answer answered in refl)

      by_sound : (b : Bool)
          → (pick b (pick (ltb (length space) min_space) (unserved 2 space t) (pick (ltb max_message (length msg)) (unserved 3 space t) (pick (not (header_allowed msg)) (unserved 4 space t) (pick (not (served (kind_of msg))) (unserved 5 space t) (answer (view_settings t) who (view_sessions t) msg space t))))) (unserved 1 space t)).outcome
          ≡ pick b (pick (ltb (length space) min_space) 2 0) 1
      by_sound true = by_space (ltb (length space) min_space)
      by_sound false = refl

  -- what is answered is a request
  pub answered_request : (serve t who msg space).outcome ≡ 0 → T (request_allowed msg)
  answered_request e = let a = answers t who msg space (of_true (eq-eqb (serve t who msg space).outcome 0 e)) in is_request_lem msg a.short a.header a.kind

  -- so another message has an outcome, and nothing is written
  pub other_outcome : request_allowed msg ≡ false → (serve t who msg space).outcome ≡ 0 → ⊥
  other_outcome f e = subst T f (answered_request e)

  pub nothing_written : ((serve t who msg space).outcome ≡ 0 → ⊥) → serve t who msg space ≡ unserved (serve t who msg space).outcome space t
  nothing_written n = unserved_nothing t who msg space (subst (λ (b : Bool). T (not b)) (sym (ne_eqb (serve t who msg space).outcome 0 n)) tt)

-- ---- its reply

some_octets : (b : Bool) (k n : ℕ) (q xs : List ℕ) → 0 < length (pick b (message k n q xs) (list_message k q xs))
unfolding message list_message
some_octets true k n q xs = omega arith
some_octets false k n q xs = omega arith

pub reply_some : (t : List ℕ) (who : ℕ) (msg : List ℕ) → 0 < length (engine_reply t who msg)
unfolding engine_reply reply_to reply
reply_some t who msg = some_octets (seid_there msg) _ _ _ _

pub reply_few : (t : List ℕ) (who : ℕ) (msg space : List ℕ) → Answers t who msg space → length (engine_reply t who msg) ≤ max_reply
unfolding engine_reply
reply_few t who msg space a = let h = reply_short (view_settings t) (table_kept t a.table).settings who (view_sessions t) msg (header_long msg a.header) in omega arith

-- a reply at the front of the space, as a slice has it
pub record Replied (t : List ℕ) (who : ℕ) (msg out : List ℕ) (used : ℕ) (out' : List ℕ) : Type 0 where
  pub request : T (request_allowed msg)
  pub long : used ≡ length (engine_reply t who msg)
  pub written : out' ≡ put 0 (engine_reply t who msg) out
  pub fits : used ≤ length out'
  pub is : take used out' ≡ engine_reply t who msg
  pub some : 0 < length (take used out')
  pub few : length (take used out') ≤ max_reply

pub front_of_lem : (a s : List ℕ) → take (length a) (put 0 a s) ≡ a
unfolding put
front_of_lem a s = take_at a _ (length a) refl

pub replied : (t : List ℕ) (who : ℕ) (msg out : List ℕ) (o u p : ℕ) (out' t' : List ℕ) → Serves t who msg out o u p out' t' → o ≡ 0 → Replied t who msg out u out'
replied t who msg out o u p out' t' s z =
    let so : (serve t who msg out).outcome ≡ 0 = ap (λ (v : Served). v.outcome) (sym s.served) ∙ z in
    let a = answers t who msg out (of_true (eq-eqb (serve t who msg out).outcome 0 so)) in
    let q = engine_reply t who msg in
    let w : out' ≡ put 0 q out = ap (λ (v : Served). v.space) (s.served ∙ answered_zero t who msg out a) ∙ (unfold answer answered engine_reply in refl) in
    let l : u ≡ length q = s.long ∙ (unfold engine_reply in (rw (eq-eqb o 0 z))) in
    let few = reply_few t who msg out a in
    let room = a.room in
    let same : length out' ≡ length out = ap length w ∙ length_put 0 q out (omega arith) in
    let i : take u out' ≡ q = ap (λ (n : ℕ). take n out') l ∙ ap (take (length q)) w ∙ front_of_lem q out in
    record {
      request = is_request_lem msg a.short a.header a.kind;
      long = l;
      written = w;
      fits = omega arith;
      is = i;
      some = rw i (reply_some t who msg);
      few = rw i few;
    }

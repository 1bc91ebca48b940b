-- A run, by computation: two rules of a session share a TEID, a third has one of its own. So there are runs, and accepted requests after them; and the
-- third rule's TEID is out of use when a request has removed it.
-- Assumes nothing.
use mathlib.Core.Path.{◌≡◌, refl}
use Prim.Native.Nat.{ℕ}
use mathlib.Core.List.{List, [], ◌∷◌, ◌++◌, map}
use Rattle.rules.specs.Model.{Session, held_teids}
use Rattle.rules.specs.Layout.{encode}
use Rattle.rules.proofs.Computing.{computing}
use Rattle.rules.proofs.CallExamples.{unit, space, create, remove, own, with_id, establish, modify, calls}
use Rattle.pfcp_session.specs.Calls.{make_call, RequestCall, request_call, request_answer, reply_of}
use Rattle.promises.specs.Runs.{requested, Run, claim_step, live_after, table_after}
use Rattle.promises.specs.Accident.{Accepted, Released, entries_after, unremoved, spared}
use Rattle.promises.proofs.AccidentLaws.{released_is_removed}

-- octets that the table is made in, and the two requests
unfoldable pub found : List ℕ
found = encode (unit 4 2) []

unfoldable pub establishing : List ℕ
establishing = establish 1 (create 1 (with_id 7) ++ create 2 (with_id 7) ++ create 3 own)

unfoldable pub removing : List ℕ
removing = modify 1 (remove 3)

unfoldable opened : ℕ
unfolding computing calls make_call request_call request_answer reply_of claim_step live_after table_after entries_after unremoved spared found establishing removing
opened = 0

unfoldable pub the_run : Run
unfolding opened
the_run =
    record {
      settings = unit 4 2;
      found = found;
      made = make_call (unit 4 2) found;
      steps = requested 1 establishing space (request_call (make_call (unit 4 2) found).table 1 establishing space) ∷ [];
      making = refl;
      success = refl;
      allowed = tt;
      ran = (refl, tt);
    }

-- one session lives after it, and its records hold both TEIDs of the pool
pub lives : map (λ (x : Session). x.seid) (live_after the_run) ≡ 1 ∷ []
unfolding opened the_run
lives = refl

pub holding : held_teids (live_after the_run) ≡ 4096 ∷ 4096 ∷ 4097 ∷ []
unfolding opened the_run
holding = refl

-- the next request removes the third rule, and is accepted
unfoldable pub next : RequestCall
next = request_call (table_after the_run) 1 removing space

pub next_accepted : Accepted the_run 1 removing space next
unfolding opened the_run next
next_accepted = record { message = tt; call = refl; reply = tt }

pub third_released : Released next.table 4097
third_released = (released_is_removed the_run).removed 1 removing space next next_accepted 4097 (unfold opened the_run in tt) (unfold opened the_run in tt)

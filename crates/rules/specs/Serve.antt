-- One request: the host outcome, the place of a fault, the reply space and the table at exit (01, "What comes back"; 02 iv).
-- Assumes nothing.
use Rattle.std.specs.Prelude.{ℕ, not, List, length, ltb, eqb}
use Rattle.octets.specs.Choice.{pick}
use Rattle.octets.specs.Octets.{put}
use Rattle.rules.specs.Model.{Settings, Sessions, is_peer}
use Rattle.rules.specs.Layout.{encode, view_settings, view_sessions}
use Rattle.rules.specs.Sound.{sound}
use Rattle.rules.specs.Message.{kind_of, header_seid, header_allowed, served}
use Rattle.rules.specs.Reading.{read_request}
use Rattle.rules.specs.Grants.{granted}
use Rattle.rules.specs.Stages.{Verdict, verdict}
use Rattle.rules.specs.Apply.{follow}
use Rattle.rules.specs.Reply.{reports, reply}
use Rattle.rules.specs.Limits.{max_message, min_space}
use Rattle.rules.specs.Causes as why

-- outcome, reply space and table at exit; the place of a fault of stages 2 and 3 in the message, else 0
pub record Served : Type 0 where
  pub outcome : ℕ
  pub place : ℕ
  pub space : List ℕ
  pub table : List ℕ

abbrev pub unserved : ℕ → List ℕ → List ℕ → Served
unserved n space t = record { outcome = n; place = 0; space = space; table = t }

-- the sessions after an accepted request of a peer
unfoldable pub sessions_after : Settings → ℕ → Sessions → List ℕ → Sessions
sessions_after s who m msg = follow (granted s m (read_request msg)) (kind_of msg) who (header_seid msg) (read_request msg) m

unfoldable pub reply_to : Settings → ℕ → Sessions → List ℕ → Verdict → List ℕ
reply_to s who m msg v = reply s who msg (read_request msg).seid v (reports (granted s m (read_request msg)) (read_request msg))

-- outcome 0: a reply, and on cause 1 a changed table
unfoldable pub answered : Settings → ℕ → Sessions → List ℕ → List ℕ → List ℕ → Verdict → Served
answered s who m msg space t v =
    record {
      outcome = 0;
      place = v.place;
      space = put 0 (reply_to s who m msg v) space;
      table = pick (eqb v.cause why.accepted) (encode s (sessions_after s who m msg)) t;
    }

unfoldable pub answer : Settings → ℕ → Sessions → List ℕ → List ℕ → List ℕ → Served
answer s who m msg space t = answered s who m msg space t (verdict s who m msg)

-- outcomes 2 to 5, of a table that is not broken
unfoldable pub serve_sound : Settings → ℕ → Sessions → List ℕ → List ℕ → List ℕ → Served
serve_sound s who m t msg space =
    pick (ltb (length space) min_space) (unserved 2 space t)
    (pick (ltb max_message (length msg)) (unserved 3 space t)
    (pick (not (header_allowed msg)) (unserved 4 space t)
    (pick (not (served (kind_of msg))) (unserved 5 space t)
    (answer s who m msg space t))))

-- outcomes 1 to 5, of a peer's request
unfoldable pub serve_of : List ℕ → ℕ → List ℕ → List ℕ → Served
serve_of t who msg space = pick (sound t) (serve_sound (view_settings t) who (view_sessions t) t msg space) (unserved 1 space t)

-- the outcomes: 7 first, for a number that is no peer's (02 (xiv)), then 1 to 5
unfoldable pub serve : List ℕ → ℕ → List ℕ → List ℕ → Served
serve t who msg space = pick (is_peer who) (serve_of t who msg space) (unserved 7 space t)

unfoldable pub computing : ℕ
unfolding sessions_after reply_to answered answer serve_sound serve_of serve
computing = 0

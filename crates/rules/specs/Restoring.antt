-- The writer of restoration requests (02 (i), "Write the restoration for us"): what it refuses, in the order of the sentence, and what it writes.
-- Assumes nothing.
use Rattle.std.specs.Prelude.{ℕ, ◌+◌, Bool, not, ◌&&◌, List, [], ◌∷◌, length, get_or, leb, ltb}
use Rattle.octets.specs.Choice.{pick, all_of, is_nil}
use Rattle.octets.specs.Octets.{put}
use Rattle.rules.specs.Model.{Session, Sessions}
use Rattle.rules.specs.Elements.{address_of}
use Rattle.rules.specs.Layout.{view_settings, view_sessions}
use Rattle.rules.specs.Sound.{sound}
use Rattle.rules.specs.Stages.{new_session}
use Rattle.rules.specs.Restoration.{Sender, restoration}

-- the session at a place, from 0
unfoldable pub session_at : Sessions → ℕ → Session
session_at m place = get_or m place (new_session 0 0)

-- the control plane's addresses: 4 octets or none, 16 octets or none, and one of them at least
unfoldable pub address_tests : List ℕ → List ℕ → List Bool
address_tests ipv4 ipv6 = address_of 4 ipv4 ∷ address_of 16 ipv6 ∷ not (is_nil ipv4 && is_nil ipv6) ∷ []

unfoldable pub sender_addressed : List ℕ → List ℕ → Bool
sender_addressed ipv4 ipv6 = all_of (address_tests ipv4 ipv6)

-- header SEID 0, and the place plus 1 as the sequence number
unfoldable pub sender_at : ℕ → List ℕ → List ℕ → Sender
sender_at place ipv4 ipv6 = record { header = 0; sequence = place + 1; ipv4 = ipv4; ipv6 = ipv6 }

-- the restoration request of the session at a place of the table t
unfoldable pub restoration_at : List ℕ → ℕ → List ℕ → List ℕ → List ℕ
restoration_at t place ipv4 ipv6 = restoration (view_settings t) (sender_at place ipv4 ipv6) (session_at (view_sessions t) place)

-- the outcome, how many octets of the space hold the request, the peer under which it is to be run (02 (xiv)), and the space at exit
pub record Writing : Type 0 where
  pub outcome : ℕ
  pub used : ℕ
  pub peer : ℕ
  pub space : List ℕ

-- a refusal writes nothing
abbrev pub unwritten : ℕ → List ℕ → Writing
unwritten n space = record { outcome = n; used = 0; peer = 0; space = space }

-- the request at the front of the space; what stands past it stays
unfoldable pub write_into : ℕ → List ℕ → List ℕ → Writing
write_into who request space =
    pick (ltb (length space) (length request)) (unwritten 4 space) (record { outcome = 0; used = length request; peer = who; space = put 0 request space })

-- a broken table 1, a place past the last session 2, no control-plane address 3, too little space 4; tested in this order
unfoldable pub write_restoration : List ℕ → ℕ → List ℕ → List ℕ → List ℕ → Writing
write_restoration t place ipv4 ipv6 space =
    pick (not (sound t)) (unwritten 1 space)
    (pick (leb (length (view_sessions t)) place) (unwritten 2 space)
    (pick (not (sender_addressed ipv4 ipv6)) (unwritten 3 space)
    (write_into (session_at (view_sessions t) place).peer (restoration_at t place ipv4 ipv6) space)))

unfoldable pub computing : ℕ
unfolding session_at address_tests sender_addressed sender_at restoration_at write_into write_restoration
computing = 0

-- The framing of a message from that of its elements. Assumes nothing.
use mathlib.Core.Path.{◌≡◌, sym, ◌∙◌}
use Prim.Native.Nat.{ℕ, ◌-◌, ◌≤◌, ◌<◌}
use native.Mathlib.Omega.{arith}
use mathlib.Core.Option.{Option, none}
use mathlib.Core.List.{List}
use lib.ListN.{length, take, drop, length-drop, get_or}
use Rattle.octets.specs.Octets.{number, part, bit}
use Rattle.rules.specs.Message.{kind_of, body, Spot, at_message, frame, frame_fault, header_length, seid_there}
use Rattle.frame.proofs.Walk.{frame_end}
use Rattle.frame.proofs.HeaderLaws.{read_kind, least, is_length}
use Rattle.octets.specs.Choice.{pick}
use Rattle.octets.proofs.Put.{part_from}

module _ (msg : List ℕ) where
  pub no_header : length msg < 8 → none ≡ frame_fault msg
  unfolding frame_fault body header_length
  no_header h = sym (frame_end 3 (kind_of msg) at_message (header_length msg) (drop (header_length msg) msg) (rw length-drop (let b = least (seid_there msg) in omega arith)))

  module _ (n : ℕ) (size : n ≡ pick (bit 0 (get_or msg 0 0)) 16 8) where
    pub no_elements : length msg < n → none ≡ frame_fault msg
    unfolding frame_fault body
    no_elements h = sym (frame_end 3 (kind_of msg) at_message (header_length msg) (drop (header_length msg) msg) (rw (length-drop, ← is_length msg n size) (omega arith)))

    pub by_elements : 8 ≤ length msg → (k : ℕ) → k ≡ number (part 1 1 msg)
        → (f : Option Spot) → f ≡ frame 3 k at_message n (take (length msg - n) (drop n msg)) → f ≡ frame_fault msg
    unfolding frame_fault body
    by_elements long k e f h = h ∙ (λ i. frame 3 (read_kind msg long k e i) at_message (is_length msg n size i) (part_from (is_length msg n size i) msg i))

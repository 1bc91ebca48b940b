-- The element at the front of some octets, as `elements` of the rules takes it: one that runs past the end has the octets that are there.
-- Assumes nothing.
use Rattle.std.specs.Prelude.{ℕ, ◌+◌, List, Option, Some, None, length, ltb}
use Rattle.octets.specs.Choice.{pick}
use Rattle.rules.specs.Message.{element_type, element_length}
use Rattle.frame.specs.declared.Element.{Element}

-- an element of type t that takes e octets
abbrev pub there : ℕ → ℕ → Option Element
there t e = Some (record { kind = t; end = e })

-- its type, and the octets that it takes
unfoldable pub first_of : List ℕ → Option Element
first_of s =
    pick (ltb (length s) 4) None
    (pick (ltb (length s) (4 + element_length s)) (there (element_type s) (length s)) (there (element_type s) (4 + element_length s)))

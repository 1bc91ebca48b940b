-- `Cells`: lists of a known length cell by cell, and comparing octets part by part. `Tunnels`, `Slots`: what the tests of
-- a slot's record come to, field by field. `Answers`: the code's answers, return by return.
-- `Areas`: areas of records of any type. `SlotLaws`: a session's slot. `Turns`: the loops and the answers.
pub mod Cells
pub mod Tunnels
pub mod Slots
pub mod Answers
pub mod Areas
pub mod SlotLaws
pub mod Chunks
pub mod Turns

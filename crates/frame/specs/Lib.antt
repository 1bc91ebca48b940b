-- `HeaderOf`: what the header says. `Framing`: the answer of stage 2.
-- `FirstOf`: the element at the front of some octets.
pub mod HeaderOf
pub mod Framed
pub mod FirstOf

-- `Holds`: who holds a TEID, by the octets of a slot; `Answers`: the code's answers as the rules have them; `Peers`: what a peer has; `All`: all counts.
pub mod Holds
pub mod Answers
pub mod Peers
pub mod All

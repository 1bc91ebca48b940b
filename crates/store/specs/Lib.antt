-- `Fronts`: the entry at the front of some octets, and the walks over entries; `Answers`: what the calls on a store ask and answer.
pub mod Fronts
pub mod Answers

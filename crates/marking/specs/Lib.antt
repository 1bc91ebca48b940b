-- `Marking`: what the walk over the records answers, and the map that it leaves.
-- `Refusal`: a refusal.
-- `Offsets`: which addresses of the pool stand in the octets of a slot, and what the walk that marks them answers.
pub mod Refusal
pub mod Marking
pub mod Walk
pub mod Offsets

-- `Rows`: where records stand. `LookupLaws`: the loop that looks for a key. `Places`: what its answer is good for.
-- `AreaLaws`: what the calls make of an area of records of any type, by place.
pub mod Steps
pub mod Held
pub mod Rows
pub mod LookupLaws
pub mod PairLaws
pub mod Places
pub mod AreaLaws

-- `Records`: records of one width, the search for a key, and what the calls write.
pub mod Counted
pub mod Records

-- `Choice`: choosing by tests, and values that may be absent. `Octets`: numbers in octets, parts of octets, writing over a part.
-- `Lists`: tests and searches on lists. `Fields`: numbers one after the other, each at a width of its own.
pub mod Choice
pub mod Octets
pub mod Lists
pub mod Fields
pub mod Rows

pub mod Bits
pub mod Marks
pub mod Free
pub mod Words
pub mod TakenLaws
pub mod AddressLaws
pub mod GrantWalk

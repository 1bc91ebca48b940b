-- `Placed`: what a writer leaves and answers. `Families`: an F-TEID with the unit's addresses. `Heads`: a message's header.
pub mod Placed
pub mod Families
pub mod Heads

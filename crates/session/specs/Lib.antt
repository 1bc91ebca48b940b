-- `Areas`: where records stand in a session slot and sessions in a table. `Records`: the octets that a row
-- gives a record. `Build`: what the rows of a plan make of a session slot.
pub mod Areas
pub mod Records
pub mod Build

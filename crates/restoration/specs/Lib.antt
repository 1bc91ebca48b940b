-- `Records`: the elements of records from the octets of their slots. `Answers`: what the writer answers.
pub mod Records
pub mod Answers
